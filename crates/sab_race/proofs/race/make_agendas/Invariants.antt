use Rattle.std.proofs.Common.{◌≡◌, ℕ, ◌<◌, length, slice_get}
use Rattle.sab_plan.specs.Plan.{calls_in}
use Rattle.sab_race.specs.Moves.{moves_of}
use Rattle.sab_race.specs.Agenda.{agenda_at, unmade}
use Rattle.sab_race.proofs.race.make_agendas.Given as goal

abbrev pub invariant-loop-agent : goal.invariant-loop-agent
invariant-loop-agent l = record {
  count : length l.agendas.items ≡ l.agent;
  each : (a : ℕ) → a < l.agent
      → agenda_at l.agendas.items a ≡ unmade (moves_of (calls_in (slice_get l.scripts a)) a l.spins);
}
