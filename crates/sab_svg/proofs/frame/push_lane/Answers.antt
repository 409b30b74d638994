-- The pieces, one behind the other.
use Rattle.std.proofs.Common.{◌≡◌, ℕ, List, ◌-◌, ◌++◌, ap₂, refl}
use Rattle.std.specs.Prelude.{codes}
use Rattle.std.specs.Fmt.{decimal}
use Rattle.sab_svg.specs.Xml.Xml.{node_text, char_text}
use Rattle.sab_svg.specs.Pieces.{down, label}
use Rattle.sab_svg.proofs.Behind.{behind, behind_as}
use Rattle.sab_svg.proofs.frame.push_lane.Goals as goal

pub returns-clause-bytes : goal.returns-clause-bytes
unfolding char_text
returns-clause-bytes c =
    let head : c.bytes.result.now ≡ codes "agent " ++ decimal c.args.a =
    rw (c.bytes.ensures.bytes, c.push_number.ensures.bytes, c.push-2.ensures, c.clear.ensures, c.from.ensures) refl in
    behind_as c.args.chunk.now _ _ _ _ _
    (ap₂ (λ (x end : ℕ). node_text (down (codes "lane") x 44 end)) c.lane_x-x.ensures.x c.rows_end.ensures)
    c.push_down.ensures.bytes
    (behind c.push_down.new.chunk _ _ _ _ c.push.ensures
    (behind_as c.push.new.self _ _ _ _ _
    (ap₂ (λ (x : ℕ) (s : List ℕ). node_text (label (codes "head") (x - 8) 34 s)) c.lane_x-x.ensures.x head)
    c.push_label.ensures.bytes c.push-3.ensures))
