-- The pieces, one behind the other.
use Rattle.sab_report_text.proofs.OfJsonLines.Pieces.{behind}
use Rattle.sab_verdict.specs.Plain.{none_text}
use Rattle.sab_verdict.proofs.plain.push_none.Goals as goal

pub returns : goal.returns
unfolding none_text
returns c =
    let chunk = c.args.chunk.now in
    let accesses = rw c.count_accesses.ensures at c.push_counted.ensures.bytes in
    let agents = rw c.count_agents.ensures at c.push_counted-2.ensures.bytes in
    let whose = rw c.whose.ensures.text at c.push-3.ensures in
    behind chunk _ _ _ _ (behind chunk _ _ _ _ (behind chunk _ _ _ _ (behind chunk _ _ _ _ (behind chunk _ _ _ _
    c.push.ensures accesses) c.push-2.ensures) agents) whose) c.push-4.ensures
