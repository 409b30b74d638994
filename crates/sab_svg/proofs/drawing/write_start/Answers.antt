-- The root tag, what stands behind everything, and the lanes, one behind the other.
use Rattle.std.specs.Io.KnownBytes.{append_known}
use Rattle.sab_svg.specs.Xml.Xml.{nodes, nodes_text}
use Rattle.sab_svg.specs.Frame.{root_start, background, lanes}
use Rattle.sab_svg.proofs.Writing.{three_then}
use Rattle.sab_svg.proofs.drawing.write_start.Goals as goal

pub returns : goal.returns
returns g c =
    let shape = c.args.shape in
    three_then c.write_lanes.result (append_known (g.W.Write.contents c.args.w.now) c.args.chunk.now)
    (g.W.Write.contents c.make_room_for.new.w)
    (append_known (g.W.Write.contents c.write_lanes.new.w) c.write_lanes.new.chunk)
    c.make_room_for.new.self c.push_root.new.chunk c.push_background.new.chunk (root_start shape)
    (nodes_text (nodes (background shape))) (nodes_text (nodes (lanes shape 0 shape.agents)))
    c.in_ok-make_room_for.ensures.kept c.push_root.ensures.bytes c.push_background.ensures.bytes c.write_lanes.ensures
