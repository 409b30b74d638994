use Rattle.std.proofs.Common.{◌≡◌}
use Rattle.sab_race.proofs.owner.await_move.Given as goal

abbrev pub invariant-loop : goal.invariant-loop
invariant-loop g l = (l.race.plan ≡ l.fn.race.plan) × (l.race.spins ≡ l.fn.race.spins)
