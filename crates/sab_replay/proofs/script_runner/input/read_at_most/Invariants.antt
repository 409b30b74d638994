use Rattle.std.proofs.Common.{◌-◌, ◌≤◌, vec_len}
use Rattle.std.specs.Io.KnownBytes.{Consumes}
use Rattle.sab_replay.proofs.script_runner.input.read_at_most.Given as goal

abbrev pub invariant-loop-input : goal.invariant-loop-input
invariant-loop-input g l = record {
  read : Consumes (g.R.Read.remaining l.fn.r) (g.R.Read.remaining l.r) l.input.items;
  short : vec_len l.input ≤ l.fn.limit;
}

abbrev pub decreases-loop-input : goal.decreases-loop-input
decreases-loop-input g l = l.fn.limit - vec_len l.input
