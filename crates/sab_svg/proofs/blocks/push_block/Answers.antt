-- The label and the line feed, one behind the other.
use Rattle.std.proofs.Common.{ℕ, List, ◌+◌, ◌++◌, ap, refl, ◌∙◌}
use Rattle.sab_svg.specs.Xml.Xml.{char_text}
use Rattle.sab_svg.specs.Shape.{row_text}
use Rattle.sab_svg.specs.Ends.{block_text}
use Rattle.sab_svg.proofs.Behind.{behind_as}
use Rattle.sab_svg.proofs.EndTexts.{label_same}
use Rattle.sab_svg.proofs.blocks.push_block.Goals as goal

pub returns : goal.returns
unfolding char_text
returns c =
    behind_as c.args.chunk.now _ _ _ _ _
    (label_same _ _ _ _ _ _ _ _ refl refl
    (c.row_text-y.ensures ∙ ap (λ (n : ℕ). row_text (n + c.args.b + 2)) c.from.ensures)
    (c.bytes.ensures.bytes
    ∙ (c.push_text.ensures.bytes
    ∙ ap (λ (s : List ℕ). s ++ block_text c.args.b c.args.bytes.now) c.clear.ensures)))
    c.push_label.ensures.bytes c.push.ensures
