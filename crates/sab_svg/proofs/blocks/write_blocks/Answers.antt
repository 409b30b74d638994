-- One block more.
use Rattle.std.proofs.Common.{◌≡◌, ◌∙◌, List, ℕ, ◌++◌, ap, subst, Global}
use Rattle.std.specs.Prelude.{Vec}
use Rattle.std.specs.Io.KnownBytes.{append_known}
use Rattle.sab_svg.specs.Xml.Xml.{nodes, nodes_text}
use Rattle.sab_plan.specs.Report.{items_of_each}
use Rattle.sab_svg.specs.Ends.{block_line, drawn_blocks}
use Rattle.sab_svg.proofs.Writing.{blocks_after}
use Rattle.sab_svg.proofs.blocks.write_blocks.Goals as goal

pub loop-b-preserved : goal.loop-b-preserved
loop-b-preserved g c =
    blocks_after (append_known (g.W.Write.contents c.args.w.now) c.args.chunk.now)
    (append_known (g.W.Write.contents c.loop-b.w) c.loop-b.chunk) (g.W.Write.contents c.make_room_for.new.w)
    c.make_room_for.new.self c.push_block.new.chunk c.args.shape c.args.blocks.now c.loop-b.b
    c.index-blocks-b.result
    (nodes_text (nodes (drawn_blocks c.args.shape 0 (items_of_each c.args.blocks.now)))) c.loop-b-test.true
    c.loop-b.invariant c.in_ok-make_room_for.ensures.kept
    (subst (λ (bytes : List ℕ). c.push_block.new.chunk
    ≡ c.make_room_for.new.self ++ nodes_text (nodes (block_line c.args.shape c.loop-b.b bytes)))
    (c.as_slice.ensures.value ∙ ap (λ (v : Vec ℕ Global). v.items) c.index-blocks-b.is) c.push_block.ensures)
