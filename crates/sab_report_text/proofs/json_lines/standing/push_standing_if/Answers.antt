-- The pieces, one behind the other.
use Rattle.sab_report_text.proofs.OfJsonLines.Pieces.{behind}
use Rattle.sab_report_text.proofs.json_lines.standing.push_standing_if.Goals as goal

pub returns-in-Some-clause-bytes : goal.returns-in-Some-clause-bytes
returns-in-Some-clause-bytes c =
    rw c.in-Some.is (behind c.args.chunk.now _ _ _ _ c.push.ensures c.push_standing.ensures.bytes)
