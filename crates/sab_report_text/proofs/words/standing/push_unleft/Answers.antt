-- The pieces, one behind the other.
use Rattle.sab_report_text.proofs.OfWords.Pieces.{four}
use Rattle.sab_report_text.proofs.words.standing.push_unleft.Goals as goal

pub returns-clause-bytes : goal.returns-clause-bytes
returns-clause-bytes c =
    four _ _ _ _ _ _ _ _ _ c.push.ensures (rw c.from.ensures at c.push_number.ensures.bytes) c.push-2.ensures
    c.push_call.ensures.bytes
