-- The pieces, one behind the other.
use Rattle.sab_svg.proofs.Behind.{behind}
use Rattle.sab_svg.proofs.FrameTexts.{style_element}
use Rattle.sab_svg.specs.Frame.{style_text}
use Rattle.sab_svg.proofs.frame.push_style.Goals as goal

pub returns-clause-bytes : goal.returns-clause-bytes
unfolding style_text
returns-clause-bytes c =
    rw style_element
    (behind c.args.chunk.now _ _ _ _ c.push.ensures
    (behind c.push.new.self _ _ _ _ c.push_escaped.ensures.bytes c.push-2.ensures))
