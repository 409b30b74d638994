use Rattle.std.proofs.Common.{◌≡◌, ◌≤◌, ◌++◌, length, drop, vec_len, vec_capacity}
use Rattle.sab_sim.specs.Sim.{standing_from}
use Rattle.sab_sim.proofs.room.report_progress.Given as goal

-- what was reported and what is left is all
abbrev pub invariant-loop-i : goal.invariant-loop-i
invariant-loop-i l = record {
  reported : l.room.items ++ standing_from l.agents l.i (drop l.i l.scripts) ≡ standing_from l.agents 0 l.scripts;
  len : vec_len l.room ≡ l.i;
  capacity : length l.scripts ≤ vec_capacity l.room;
}
