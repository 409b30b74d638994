use Rattle.std.proofs.Common.{drop}
use Rattle.std.specs.Io.KnownBytes.{Appends, append_known}
use Rattle.sab_plan.specs.Report.{items_of_each}
use Rattle.sab_svg.specs.Xml.Xml.{nodes, nodes_text}
use Rattle.sab_svg.specs.Ends.{drawn_blocks}
use Rattle.sab_svg.proofs.blocks.write_blocks.Given as goal

abbrev pub invariant-loop-b : goal.invariant-loop-b
invariant-loop-b g l =
    Appends (append_known (g.W.Write.contents l.fn.w) l.fn.chunk)
    (append_known (append_known (g.W.Write.contents l.w) l.chunk)
    (nodes_text (nodes (drawn_blocks l.shape l.b (items_of_each (drop l.b l.blocks))))))
    (nodes_text (nodes (drawn_blocks l.shape 0 (items_of_each l.blocks))))
