-- The pieces, one behind the other.
use Rattle.std.proofs.Common.{ℕ, ap, ap₂}
use Rattle.std.specs.Prelude.{codes}
use Rattle.sab_svg.specs.Xml.Xml.{node_text, char_text}
use Rattle.sab_svg.specs.Pieces.{rectangle, label}
use Rattle.sab_svg.proofs.Behind.{behind, behind_as}
use Rattle.sab_svg.proofs.frame.push_background.Goals as goal

pub returns-clause-bytes : goal.returns-clause-bytes
unfolding char_text
returns-clause-bytes c =
    behind c.args.chunk.now _ _ _ _ c.push_title.ensures.bytes
    (behind c.push_title.new.chunk _ _ _ _ c.push.ensures
    (behind c.push.new.self _ _ _ _ c.push_style.ensures.bytes
    (behind c.push_style.new.chunk _ _ _ _ c.push-2.ensures
    (behind c.push-2.new.self _ _ _ _ c.push_defs.ensures.bytes
    (behind c.push_defs.new.chunk _ _ _ _ c.push-3.ensures
    (behind_as c.push-3.new.self _ _ _ _ _
    (ap₂ (λ (w h : ℕ). node_text (rectangle (codes "paper") 0 0 w h)) c.width.ensures c.height.ensures)
    c.push_rectangle.ensures.bytes
    (behind c.push_rectangle.new.chunk _ _ _ _ c.push-4.ensures
    (behind c.push-4.new.self _ _ _ _ c.push_rows.ensures.bytes
    (behind c.push_rows.new.chunk _ _ _ _ c.push-5.ensures
    (behind_as c.push-5.new.self _ _ _ _ _
    (ap (λ (x : ℕ). node_text (label (codes "head") x 34 (codes "changes"))) c.change_x.ensures.x)
    c.push_label.ensures.bytes c.push-6.ensures))))))))))
