use Rattle.std.proofs.Common.{◌≡◌, ◌+◌, ◌*◌, ◌≤◌, ◌++◌, length, drop}
use Rattle.std.specs.Prelude.{map}
use Rattle.sab_svg.specs.Xml.Xml.{nodes, nodes_text}
use Rattle.sab_svg.specs.declared.pieces.TheConstants.{LINE_LEN}
use Rattle.sab_svg.specs.Moves.{arrow}
use Rattle.sab_svg.proofs.arrows.push_arrows_to.Given as goal

abbrev pub invariant-loop-b : goal.invariant-loop-b
invariant-loop-b l = record {
  bytes : l.chunk ++ nodes_text (nodes (map (arrow l.shape l.k l.a l.chars) (drop l.b-index l.agents)))
      ≡ l.fn.chunk ++ nodes_text (nodes (map (arrow l.shape l.k l.a l.chars) l.agents));
  room : length l.chunk ≤ length l.fn.chunk + LINE_LEN * l.b-index;
}
