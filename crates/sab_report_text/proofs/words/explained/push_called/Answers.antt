-- The pieces, one behind the other.
use Rattle.sab_report_text.proofs.OfWords.Pieces.{two}
use Rattle.sab_report_text.proofs.words.explained.push_called.Goals as goal

pub returns-in-Returned-clause-bytes : goal.returns-in-Returned-clause-bytes
returns-in-Returned-clause-bytes c =
    rw c.in-Returned.is (two _ _ _ _ _ c.push_return.ensures.bytes c.push_call-in-Returned.ensures.bytes)
