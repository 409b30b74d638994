-- The pieces, one behind the other.
use Rattle.sab_svg.proofs.Behind.{behind}
use Rattle.sab_svg.proofs.Texts.{down_text}
use Rattle.sab_svg.proofs.pieces.push_down.Goals as goal

pub returns-clause-bytes : goal.returns-clause-bytes
returns-clause-bytes c =
    rw (down_text c.args.class c.args.x c.args.y c.args.end)
    (behind c.args.chunk.now _ _ _ _ c.push_start.ensures.bytes
    (behind c.push_start.new.chunk _ _ _ _ c.push.ensures
    (behind c.push.new.self _ _ _ _ c.push_number.ensures.bytes c.push-2.ensures)))
