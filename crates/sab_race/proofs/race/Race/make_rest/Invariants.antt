use Rattle.std.proofs.Common.{◌≡◌, ◌<◌, ℕ, length}
use Rattle.sab_race.specs.Agenda.{agenda_at, left_in}
use Rattle.sab_race.proofs.race.Race.make_rest.Given as goal

abbrev pub invariant-loop-agent : goal.invariant-loop-agent
invariant-loop-agent l = record {
  plan : l.self.plan ≡ l.fn.self.plan;
  spins : l.self.spins ≡ l.fn.self.spins;
  count : length l.self.agendas ≡ l.agents;
  done : (a : ℕ) → a < l.agent → left_in (agenda_at l.self.agendas a) ≡ 0;
}
