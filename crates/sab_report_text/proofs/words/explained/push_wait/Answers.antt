-- The pieces, one behind the other.
use Rattle.sab_report_text.proofs.OfWords.Pieces.{three}
use Rattle.sab_report_text.proofs.words.explained.push_wait.Goals as goal

pub returns-in-Endless-clause-bytes : goal.returns-in-Endless-clause-bytes
returns-in-Endless-clause-bytes c =
    rw c.in-Endless.is (three _ _ _ _ _ _ _ c.push.ensures c.push_call.ensures.bytes c.push-in-Endless.ensures)
