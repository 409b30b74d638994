-- The text, and the spaces behind it.
use Rattle.std.proofs.Common.{append_assoc, ◌∙◌}
use Rattle.sab_report_text.proofs.OfWords.Measuring.{spaces_taken}
use Rattle.sab_report_text.proofs.words.explained.push_spaced.Goals as goal

pub returns-clause-bytes : goal.returns-clause-bytes
returns-clause-bytes c =
    c.push-2.ensures
    ∙ rw (c.push.ensures, spaces_taken _ _ c.behind.ensures.few c.behind.ensures.columns)
    (append_assoc c.args.chunk.now c.args.plain.now _)
