use Rattle.std.proofs.Common.{◌≡◌, ◌≤◌, ◌+◌, ◌++◌, length, map, vec_len, vec_capacity}
use Rattle.std.specs.Prelude.{string_bytes}
use Rattle.sab_reader.specs.Script.Views.{view_names}
use Rattle.sab_replay.proofs.report.names.names_of.Given as goal

abbrev pub invariant-loop-name : goal.invariant-loop-name
invariant-loop-name l = record {
  next : (goal.iterator-loop-name).can_next l.name-iterator;
  finite : (goal.iterator-loop-name).is_finite l.name-iterator;
  named : l.names.items ++ map string_bytes l.name-iterator ≡ view_names l.setup.views;
  room : vec_len l.names + length l.name-iterator ≤ vec_capacity l.names;
}
