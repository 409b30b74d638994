use Rattle.std.proofs.Common.{◌≡◌, ◌≤◌, length, take, vec_capacity}
use Rattle.sab_plan.proofs.plan.Plan.copy.Given as goal

abbrev pub invariant-loop-script : goal.invariant-loop-script
invariant-loop-script l = record {
  copied : l.scripts.items ≡ take l.script-index l.self.scripts;
  room : length l.self.scripts ≤ vec_capacity l.scripts;
}
