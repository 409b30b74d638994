use Rattle.std.proofs.Common.{◌≡◌, ◌≤◌, length, map, take, vec_len, vec_capacity}
use Rattle.serde_json.specs.View.{view}
use Rattle.sab_reader.specs.Script.Schedule.{move_tree}
use Rattle.sab_replay.proofs.kept_script.moves.trees_of.Given as goal

abbrev pub invariant-loop-m : goal.invariant-loop-m
invariant-loop-m l = record {
  trees : map view l.trees.items ≡ map move_tree (take l.m-index l.moves);
  count : vec_len l.trees ≡ l.m-index;
  room : length l.moves ≤ vec_capacity l.trees;
}
