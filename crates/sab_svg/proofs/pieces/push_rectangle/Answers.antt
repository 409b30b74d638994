-- The pieces, one behind the other.
use Rattle.sab_svg.proofs.Behind.{behind, behind_as}
use Rattle.sab_svg.proofs.Texts.{rectangle_text}
use Rattle.sab_svg.proofs.pieces.push_rectangle.Goals as goal

pub returns-clause-bytes : goal.returns-clause-bytes
returns-clause-bytes c =
    rw (rectangle_text c.args.class c.args.x c.args.y c.args.width c.args.height)
    (behind c.args.chunk.now _ _ _ _ c.push.ensures
    (behind_as c.push.new.self _ _ _ _ _ c.name.ensures.text c.push-2.ensures
    (behind c.push-2.new.self _ _ _ _ c.push-3.ensures
    (behind c.push-3.new.self _ _ _ _ c.push_number.ensures.bytes
    (behind c.push_number.new.self _ _ _ _ c.push-4.ensures
    (behind c.push-4.new.self _ _ _ _ c.push_number-2.ensures.bytes
    (behind c.push_number-2.new.self _ _ _ _ c.push-5.ensures
    (behind c.push-5.new.self _ _ _ _ c.push_number-3.ensures.bytes
    (behind c.push_number-3.new.self _ _ _ _ c.push-6.ensures
    (behind c.push-6.new.self _ _ _ _ c.push_number-4.ensures.bytes c.push-7.ensures))))))))))
