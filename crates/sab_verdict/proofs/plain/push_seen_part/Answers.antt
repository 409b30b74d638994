-- The pieces, one behind the other.
use Rattle.sab_report_text.proofs.OfJsonLines.Pieces.{behind}
use Rattle.sab_verdict.proofs.plain.push_seen_part.Goals as goal

pub returns-in-Some-clause-bytes : goal.returns-in-Some-clause-bytes
returns-in-Some-clause-bytes c =
    let chunk = c.args.chunk.now in
    let agent = rw c.from-in-Some.ensures at c.push_number-in-Some.ensures.bytes in
    rw c.in-Some.is (behind chunk _ _ _ _ (behind chunk _ _ _ _ (behind chunk _ _ _ _ c.push-in-Some.ensures agent)
    c.push-in-Some-2.ensures) c.push_number-in-Some-2.ensures.bytes)
