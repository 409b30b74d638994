-- The pieces, one behind the other.
use Rattle.sab_report_text.proofs.OfWords.Pieces.{two}
use Rattle.sab_report_text.proofs.words.outcome_text.push_outcome.Goals as goal

pub returns-in-Differs-clause-bytes : goal.returns-in-Differs-clause-bytes
returns-in-Differs-clause-bytes c =
    rw c.in-Differs.is (two _ _ _ _ _ c.push-in-Differs.ensures c.push_element_is.ensures.bytes)

pub returns-in-Waited-clause-bytes : goal.returns-in-Waited-clause-bytes
returns-in-Waited-clause-bytes c = rw c.in-Waited.is (two _ _ _ _ _ c.push-in-Waited.ensures c.push_stand.ensures.bytes)
