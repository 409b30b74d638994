-- The pieces, one behind the other.
use Rattle.std.proofs.Common.{Bool, ap}
use Rattle.std.specs.Fmt.{decimal}
use Rattle.serde_json.specs.Data.{boolean}
use Rattle.serde_json.specs.Written.{compact_text}
use Rattle.sab_report_text.proofs.OfJsonLines.Pieces.{behind, behind_as}
use Rattle.sab_verdict.proofs.Texts.{access_side_json}
use Rattle.sab_verdict.proofs.as_json.push_access_side.Goals as goal

pub returns-clause-bytes : goal.returns-clause-bytes
returns-clause-bytes c =
    rw (access_side_json c.args.side)
    (behind c.args.chunk.now _ _ _ _ c.push.ensures
    (behind c.push.new.self _ _ _ _ c.push_small.ensures.bytes
    (behind c.push_small.new.chunk _ _ _ _ c.push-2.ensures
    (behind_as c.push-2.new.self _ _ _ _ _ (ap (λ (b : Bool). compact_text (boolean b)) c.is_seq_cst.ensures)
    c.push_bool.ensures.bytes
    (behind c.push_bool.new.chunk _ _ _ _ c.push-3.ensures
    (behind_as c.push-3.new.self _ _ _ _ _ (ap decimal c.from.ensures) c.push_number.ensures.bytes
    (behind c.push_number.new.self _ _ _ _ c.push-4.ensures
    (behind c.push-4.new.self _ _ _ _ c.push_number-2.ensures.bytes
    (behind c.push_number-2.new.self _ _ _ _ c.push-5.ensures
    (behind c.push-5.new.self _ _ _ _ c.push_bool-2.ensures.bytes
    (behind c.push_bool-2.new.chunk _ _ _ _ c.push-6.ensures
    (behind c.push-6.new.self _ _ _ _ c.push_small-2.ensures.bytes
    (behind c.push_small-2.new.chunk _ _ _ _ c.push-7.ensures
    (behind c.push-7.new.self _ _ _ _ c.push_bool-3.ensures.bytes c.push-8.ensures))))))))))))))
