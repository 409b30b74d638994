-- The pieces, one behind the other.
use Rattle.std.proofs.Common.{ap, ◌-◌}
use Rattle.std.specs.Fmt.{decimal}
use Rattle.sab_report_text.proofs.OfJsonLines.Pieces.{behind, behind_as}
use Rattle.sab_verdict.specs.declared.byte_range.ByteRange.{ByteRange}
use Rattle.sab_verdict.specs.Sides.{data_of}
use Rattle.sab_verdict.proofs.Texts.{race_json}
use Rattle.sab_verdict.proofs.as_json.push_race.Goals as goal

pub returns : goal.returns
returns c =
    let start = ap (λ (r : ByteRange). decimal r.start) c.shared-shared.ensures in
    let size = ap (λ (r : ByteRange). decimal (r.end - r.start)) c.shared-shared.ensures in
    rw (race_json (data_of c.args.sides.now) c.args.race c.args.first c.args.second)
    (behind c.args.chunk.now _ _ _ _ (behind c.args.chunk.now _ _ _ _ c.push.ensures
    (behind c.push.new.self _ _ _ _ c.push_small.ensures.bytes
    (behind c.push_small.new.chunk _ _ _ _ c.push-2.ensures
    (behind_as c.push-2.new.self _ _ _ _ _ start c.push_number.ensures.bytes
    (behind c.push_number.new.self _ _ _ _ c.push-3.ensures
    (behind c.push-3.new.self _ _ _ _ c.push_bool.ensures.bytes
    (behind c.push_bool.new.chunk _ _ _ _ c.push-4.ensures
    (behind c.push-4.new.self _ _ _ _ c.push_side.ensures.bytes
    (behind c.push_side.new.chunk _ _ _ _ c.push-5.ensures
    (behind c.push-5.new.self _ _ _ _ c.push_side-2.ensures.bytes
    (behind c.push_side-2.new.chunk _ _ _ _ c.push_seen.ensures.bytes
    (behind c.push_seen.new.chunk _ _ _ _ c.push-6.ensures
    (behind_as c.push-6.new.self _ _ _ _ _ size c.push_number-2.ensures.bytes c.push-7.ensures)))))))))))))
    c.push-8.ensures)
