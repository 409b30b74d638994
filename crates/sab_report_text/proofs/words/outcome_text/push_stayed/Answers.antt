-- The pieces, one behind the other.
use Rattle.sab_report_text.proofs.OfWords.Pieces.{four}
use Rattle.sab_report_text.proofs.words.outcome_text.push_stayed.Goals as goal

pub returns-clause-bytes : goal.returns-clause-bytes
returns-clause-bytes c =
    four _ _ _ _ _ _ _ _ _ c.push.ensures c.push_element.ensures.bytes c.push-2.ensures c.push_operand.ensures.bytes
