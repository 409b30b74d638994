-- The pieces, one behind the other.
use Rattle.std.proofs.Common.{◌≡◌, ℕ, List, ◌+◌, ap, ◌∙◌}
use Rattle.std.specs.Prelude.{codes}
use Rattle.sab_svg.specs.Xml.Xml.{node_text, char_text}
use Rattle.sab_svg.specs.Shape.{row_top, row_middle, row_text}
use Rattle.sab_svg.specs.Frame.{legend_row}
use Rattle.sab_svg.specs.Pieces.{across, label, rectangle}
use Rattle.sab_svg.proofs.Behind.{behind, behind_as}
use Rattle.sab_svg.proofs.frame.push_legend.Goals as goal

pub returns-clause-bytes : goal.returns-clause-bytes
unfolding char_text
returns-clause-bytes c =
    let row = c.legend_row-row.ensures.row in
    let y : c.row_text-y.result ≡ row_text (legend_row c.args.shape) = c.row_text-y.ensures ∙ ap row_text row in
    let said = λ (x : ℕ) (s : List ℕ). ap (λ (n : ℕ). node_text (label (codes "dim") x n s)) y in
    behind_as c.args.chunk.now _ _ _ _ _
    (ap (λ (n : ℕ). node_text (rectangle (codes "call") 48 (n + 4) 12 12)) (c.row_top.ensures.top ∙ ap row_top row))
    c.push_rectangle.ensures.bytes
    (behind c.push_rectangle.new.chunk _ _ _ _ c.push.ensures
    (behind_as c.push.new.self _ _ _ _ _ (said 68 (codes "in a call")) c.push_label.ensures.bytes
    (behind c.push_label.new.chunk _ _ _ _ c.push-2.ensures
    (behind_as c.push-2.new.self _ _ _ _ _
    (ap (λ (n : ℕ). node_text (rectangle (codes "wait") 168 (n + 4) 16 12)) (c.row_top-2.ensures.top ∙ ap row_top row))
    c.push_rectangle-2.ensures.bytes
    (behind c.push_rectangle-2.new.chunk _ _ _ _ c.push-3.ensures
    (behind_as c.push-3.new.self _ _ _ _ _ (said 192 (codes "waits")) c.push_label-2.ensures.bytes
    (behind c.push_label-2.new.chunk _ _ _ _ c.push-4.ensures
    (behind_as c.push-4.new.self _ _ _ _ _
    (ap (λ (n : ℕ). node_text (across (codes "wake") 256 n 290)) (c.row_middle.ensures ∙ ap row_middle row))
    c.push_across.ensures.bytes
    (behind c.push_across.new.chunk _ _ _ _ c.push-5.ensures
    (behind_as c.push-5.new.self _ _ _ _ _ (said 300 (codes "wakes")) c.push_label-3.ensures.bytes
    c.push-6.ensures))))))))))
