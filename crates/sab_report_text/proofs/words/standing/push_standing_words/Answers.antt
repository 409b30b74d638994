-- The pieces, one behind the other.
use Rattle.sab_report_text.proofs.OfWords.Pieces.{two}
use Rattle.sab_report_text.proofs.words.standing.push_standing_words.Goals as goal

pub returns-in-Ready-clause-bytes : goal.returns-in-Ready-clause-bytes
returns-in-Ready-clause-bytes c = rw c.in-Ready.is (two _ _ _ _ _ c.push.ensures c.push_call.ensures.bytes)

pub returns-in-Answered-clause-bytes : goal.returns-in-Answered-clause-bytes
returns-in-Answered-clause-bytes c =
    rw c.in-Answered.is (two _ _ _ _ _ c.push-in-Answered.ensures c.push_call-in-Answered.ensures.bytes)
