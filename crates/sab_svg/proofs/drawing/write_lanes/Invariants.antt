use Rattle.std.proofs.Common.{◌-◌}
use Rattle.std.specs.Io.KnownBytes.{Appends, append_known}
use Rattle.sab_svg.specs.Xml.Xml.{nodes, nodes_text}
use Rattle.sab_svg.specs.Frame.{lanes}
use Rattle.sab_svg.proofs.drawing.write_lanes.Given as goal

abbrev pub invariant-loop-a : goal.invariant-loop-a
invariant-loop-a g l =
    Appends (append_known (g.W.Write.contents l.fn.w) l.fn.chunk)
    (append_known (append_known (g.W.Write.contents l.w) l.chunk)
    (nodes_text (nodes (lanes l.shape l.a (l.shape.agents - l.a)))))
    (nodes_text (nodes (lanes l.shape 0 l.shape.agents)))
