-- The start of a label, the change and the end of the label, one behind the other.
use Rattle.std.proofs.Common.{ap₂, ap, ◌∙◌, sym, append-nil}
use Rattle.std.specs.Prelude.{codes}
use Rattle.sab_svg.specs.Shape.{change_x, row_text}
use Rattle.sab_svg.specs.Pieces.{label_start}
use Rattle.sab_svg.specs.Moves.{changed_text}
use Rattle.sab_svg.proofs.Behind.{behind, behind_as}
use Rattle.sab_svg.proofs.Texts.{label_text}
use Rattle.sab_svg.proofs.change.push_changed.Goals as goal

pub returns-clause-bytes : goal.returns-clause-bytes
returns-clause-bytes c =
    let text = changed_text c.args.names.now c.args.call c.args.before c.args.after in
    rw (
      sym c.is_same.ensures ∙ c.if-is_same.false,
      append-nil,
      label_text (codes "ink") (change_x c.args.shape) (row_text c.args.k) text,
    ) (behind_as c.args.chunk.now _ _ _ _ _
    (ap₂ (label_start (codes "ink")) c.change_x.ensures.x (c.row_text.ensures ∙ ap row_text c.from.ensures))
    c.open_label.ensures.bytes
    (behind c.open_label.new.chunk _ _ _ _ c.push_changed_text.ensures.bytes c.push.ensures))
