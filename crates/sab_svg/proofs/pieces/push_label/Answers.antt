-- The pieces, one behind the other.
use Rattle.sab_svg.proofs.Behind.{behind}
use Rattle.sab_svg.proofs.Texts.{label_text}
use Rattle.sab_svg.specs.Pieces.{class_text}
use Rattle.sab_svg.proofs.pieces.push_label.Goals as goal

pub returns-clause-bytes : goal.returns-clause-bytes
returns-clause-bytes c =
    rw (label_text (class_text c.args.class) c.args.x c.args.y c.args.text.now)
    (behind c.args.chunk.now _ _ _ _ c.open_label.ensures.bytes
    (behind c.open_label.new.chunk _ _ _ _ c.push_escaped.ensures.bytes c.push.ensures))
