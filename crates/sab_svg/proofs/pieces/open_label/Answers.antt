-- The pieces, one behind the other.
use Rattle.sab_svg.proofs.Behind.{behind, behind_as}
use Rattle.sab_svg.proofs.Texts.{label_start_text}
use Rattle.sab_svg.proofs.pieces.open_label.Goals as goal

pub returns-clause-bytes : goal.returns-clause-bytes
returns-clause-bytes c =
    rw (label_start_text c.args.class c.args.x c.args.y)
    (behind c.args.chunk.now _ _ _ _ c.push.ensures
    (behind_as c.push.new.self _ _ _ _ _ c.name.ensures.text c.push-2.ensures
    (behind c.push-2.new.self _ _ _ _ c.push-3.ensures
    (behind c.push-3.new.self _ _ _ _ c.push_number.ensures.bytes
    (behind c.push_number.new.self _ _ _ _ c.push-4.ensures
    (behind c.push-4.new.self _ _ _ _ c.push_number-2.ensures.bytes c.push-5.ensures))))))
