use Rattle.std.proofs.Common.{◌≡◌, take, drop, length}
use Rattle.sab_sim.specs.Fits.{first_refusal}
use Rattle.sab_sim.proofs.runner.replay.Given as goal

-- the moves so far were made, and none of them was to be refused
abbrev pub invariant-loop-m : goal.invariant-loop-m
invariant-loop-m l = record {
  plan : l.sim.plan ≡ l.fn.plan;
  moves : l.sim.moves ≡ take l.m-index l.schedule;
  len : length l.sim.journal ≡ l.m-index;
  rest : first_refusal (length l.fn.plan.scripts) l.m-index (drop l.m-index l.schedule) ≡ first_refusal
      (length l.fn.plan.scripts) 0 l.schedule;
}
