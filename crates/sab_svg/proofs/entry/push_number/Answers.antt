-- The start of a label, its number and its end, one behind the other.
use Rattle.std.proofs.Common.{ap, ◌∙◌}
use Rattle.std.specs.Prelude.{codes, decimal}
use Rattle.sab_svg.proofs.OfXml.Texts.{text_of_decimal}
use Rattle.sab_svg.specs.Shape.{row_text}
use Rattle.sab_svg.specs.Pieces.{label_start}
use Rattle.sab_svg.proofs.Behind.{behind_as}
use Rattle.sab_svg.proofs.Texts.{label_text}
use Rattle.sab_svg.proofs.entry.push_number.Goals as goal

pub returns-clause-bytes : goal.returns-clause-bytes
returns-clause-bytes c =
    let k = c.args.k in
    rw (label_text (codes "row") 48 (row_text k) (decimal k), text_of_decimal k)
    (behind_as c.args.chunk.now _ _ _ _ _
    (ap (label_start (codes "row") 48) (c.row_text.ensures ∙ ap row_text c.from-k.ensures)) c.open_label.ensures.bytes
    (behind_as c.open_label.new.chunk _ _ _ _ _ (ap decimal c.from-k.ensures) c.push_number.ensures.bytes
    c.push.ensures))
