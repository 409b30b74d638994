-- The pieces, one behind the other.
use Rattle.sab_report_text.proofs.OfWords.Pieces.{three}
use Rattle.sab_report_text.proofs.words.standing.push_passed.Goals as goal

pub returns-else-notified-clause-bytes : goal.returns-else-notified-clause-bytes
returns-else-notified-clause-bytes c =
    rw c.if-notified.false (three _ _ _ _ _ _ _ c.push-else-notified.ensures c.push_element-else-notified.ensures.bytes
    c.push-else-notified-2.ensures)
