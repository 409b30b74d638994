-- The pieces, one behind the other.
use Rattle.std.proofs.Common.{ℕ, ap}
use Rattle.std.specs.Prelude.{codes}
use Rattle.std.specs.Fmt.{decimal}
use Rattle.sab_svg.specs.Xml.Xml.{node_text}
use Rattle.sab_svg.specs.Pieces.{rectangle}
use Rattle.sab_svg.proofs.Behind.{behind, behind_as}
use Rattle.sab_svg.proofs.FrameTexts.{defs_text}
use Rattle.sab_svg.proofs.frame.push_defs.Goals as goal

pub returns-clause-bytes : goal.returns-clause-bytes
returns-clause-bytes c =
    rw (defs_text c.args.shape)
    (behind c.args.chunk.now _ _ _ _ c.push.ensures
    (behind c.push.new.self _ _ _ _ c.push_number.ensures.bytes
    (behind c.push_number.new.self _ _ _ _ c.push-2.ensures
    (behind_as c.push-2.new.self _ _ _ _ _ (ap decimal c.width.ensures) c.push_number-2.ensures.bytes
    (behind c.push_number-2.new.self _ _ _ _ c.push-3.ensures
    (behind c.push-3.new.self _ _ _ _ c.push_number-3.ensures.bytes
    (behind c.push_number-3.new.self _ _ _ _ c.push-4.ensures
    (behind_as c.push-4.new.self _ _ _ _ _
    (ap (λ (w : ℕ). node_text (rectangle (codes "band") 0 0 w 20)) c.width-2.ensures)
    c.push_rectangle.ensures.bytes c.push-5.ensures))))))))
