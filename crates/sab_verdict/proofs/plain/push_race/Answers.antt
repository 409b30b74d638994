-- The pieces, one behind the other.
use Rattle.sab_report_text.proofs.OfJsonLines.Pieces.{behind}
use Rattle.sab_verdict.proofs.plain.push_race.Goals as goal

pub returns : goal.returns
returns c =
    let chunk = c.args.chunk.now in
    let head = rw c.shared-shared.ensures at c.push_head.ensures.bytes in
    behind chunk _ _ _ _ (behind chunk _ _ _ _ (behind chunk _ _ _ _ (behind chunk _ _ _ _ (behind chunk _ _ _ _
    (behind chunk _ _ _ _ head c.push_side.ensures.bytes) c.push.ensures) c.push_side-2.ensures.bytes)
    c.push-2.ensures) c.push_seen.ensures.bytes) c.push-3.ensures
