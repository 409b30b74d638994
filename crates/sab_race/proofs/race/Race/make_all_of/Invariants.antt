use Rattle.std.proofs.Common.{◌≡◌, ◌≢◌, ◌+◌, ℕ, length}
use Rattle.sab_race.specs.Agenda.{agenda_at, left_in}
use Rattle.sab_race.proofs.race.Race.make_all_of.Given as goal

abbrev pub invariant-loop : goal.invariant-loop
invariant-loop l = record {
  plan : l.self.plan ≡ l.fn.self.plan;
  spins : l.self.spins ≡ l.fn.self.spins;
  count : length l.self.agendas ≡ length l.fn.self.agendas;
  left : left_in (agenda_at l.self.agendas l.agent) + l.counter ≡ l.left;
  others : (b : ℕ) → b ≢ l.agent → agenda_at l.self.agendas b ≡ agenda_at l.fn.self.agendas b;
}
