-- The pieces, one behind the other.
use Rattle.std.proofs.Common.{ap}
use Rattle.std.specs.Fmt.{decimal}
use Rattle.sab_report_text.proofs.OfJsonLines.Pieces.{behind, behind_as}
use Rattle.sab_verdict.specs.Sides.{judged_of}
use Rattle.sab_verdict.proofs.Texts.{count_json}
use Rattle.sab_verdict.proofs.as_json.push_count.Goals as goal

pub returns : goal.returns
returns c =
    rw (count_json (judged_of c.args.sides.now) c.args.events.now c.args.reported c.args.rest c.args.data_races)
    (behind c.args.chunk.now _ _ _ _ (behind c.args.chunk.now _ _ _ _ c.push.ensures
    (behind_as c.push.new.self _ _ _ _ _ (ap decimal c.count_accesses.ensures) c.push_number.ensures.bytes
    (behind c.push_number.new.self _ _ _ _ c.push-2.ensures
    (behind_as c.push-2.new.self _ _ _ _ _ (ap decimal c.count_agents.ensures) c.push_number-2.ensures.bytes
    (behind c.push_number-2.new.self _ _ _ _ c.push-3.ensures
    (behind c.push-3.new.self _ _ _ _ c.push_number-3.ensures.bytes
    (behind c.push_number-3.new.self _ _ _ _ c.push-4.ensures
    (behind_as c.push-4.new.self _ _ _ _ _ c.judged_text.ensures.text c.push-5.ensures
    (behind c.push-5.new.self _ _ _ _ c.push-6.ensures
    (behind c.push-6.new.self _ _ _ _ c.push_number-4.ensures.bytes
    (behind c.push_number-4.new.self _ _ _ _ c.push-7.ensures
    (behind c.push-7.new.self _ _ _ _ c.push_number-5.ensures.bytes c.push-8.ensures))))))))))))
    c.push-9.ensures)
