use Rattle.std.proofs.Common.{◌≡◌}
use Rattle.sab_race.proofs.owner.look.Given as goal

abbrev pub invariant-loop-step : goal.invariant-loop-step
invariant-loop-step g l = (l.race.plan ≡ l.fn.race.plan) × (l.race.spins ≡ l.fn.race.spins)
