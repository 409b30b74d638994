use Rattle.std.proofs.Common.{◌≡◌, ◌≤◌, length, vec_len, vec_capacity}
use Rattle.sab_reader.proofs.OfScript.Each.{EachSoFar}
use Rattle.sab_reader.proofs.script.elements.read_each.Given as goal

abbrev pub invariant-loop-tree : goal.invariant-loop-tree
invariant-loop-tree g l = record {
  read : EachSoFar (g.R.Reader.Spells l.reader) l.trees l.tree-index l.elements.items;
  count : vec_len l.elements ≡ l.tree-index;
  room : length l.trees ≤ vec_capacity l.elements;
}
