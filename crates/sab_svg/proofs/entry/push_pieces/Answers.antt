-- The pieces, one behind the other.
use Rattle.std.proofs.Common.{ℕ, ap, ap₂, ◌∙◌}
use Rattle.sab_svg.specs.Xml.Xml.{nodes, nodes_text}
use Rattle.sab_svg.specs.Shape.{row_text}
use Rattle.sab_svg.specs.Moves.{done_label}
use Rattle.sab_svg.proofs.Behind.{behind, behind_as}
use Rattle.sab_svg.proofs.Drawn.{pieces_text}
use Rattle.sab_svg.proofs.entry.push_pieces.Goals as goal

pub returns-clause-bytes : goal.returns-clause-bytes
returns-clause-bytes c =
    let names = c.args.names.now in
    let fact = c.args.fact.now in
    let entry = c.args.entry.now in
    rw (pieces_text names c.args.shape c.args.k entry fact)
    (behind c.args.chunk.now _ _ _ _ c.push_number.ensures.bytes
    (behind c.push_number.new.chunk _ _ _ _ c.push_bars.ensures.bytes
    (behind_as c.push_bars.new.chunk _ _ _ _ _
    (ap₂ (λ (x y : ℕ). nodes_text (nodes (done_label names x y fact.call entry.what))) c.label_x-x.ensures.x
    (c.row_text-y.ensures ∙ ap row_text c.from.ensures)) c.push_done.ensures.bytes
    (behind c.push_done.new.chunk _ _ _ _ c.push_change.ensures.bytes c.push_arrows.ensures.bytes))))
