-- All moves of each agent were made.
use Rattle.std.proofs.Common.{◌≡◌, ◌<◌, ℕ, List, length, ap, ◌∙◌, subst, arith}
use Rattle.std.proofs.lemmas.List.{take_all}
use Rattle.sab_plan.specs.declared.schedule.Move.{Move}
use Rattle.sab_plan.specs.Plan.{PlanParts, calls_of}
use Rattle.sab_race.specs.Moves.{moves_of, part}
use Rattle.sab_race.specs.Agenda.{AgendaParts, agenda_at, left_in}
use Rattle.sab_race.specs.Race.{RaceParts, IsRace, IsAgenda, IsDone}
use Rattle.sab_race.proofs.race.Race.finish.Goals as goal

all_made : (plan : PlanParts) (spins : ℕ) (schedule : List Move) (a : ℕ) (agenda : AgendaParts)
    → IsAgenda plan spins schedule a agenda → left_in agenda ≡ 0 → part schedule a ≡ moves_of (calls_of plan a) a spins
all_made plan spins schedule a agenda is_agenda none =
    is_agenda.made ∙ (take_all agenda.made agenda.moves (omega (arith, none, is_agenda.within)) ∙ is_agenda.moves)

pub returns-clause-race : goal.returns-clause-race
returns-clause-race c =
    let race = c.self.inside in
    let agendas = race.agendas.items in
    subst (λ (r : RaceParts). IsDone r → IsRace r.plan r.spins c.finish.result) c.self.view_is (λ done. record {
      fits = c.finish.ensures.fits;
      moves = λ a named.
          let within : a < length agendas = omega (arith, named, c.self.invariant.count) in
          ap (λ (ms : List Move). part ms a) c.finish.ensures.schedule
          ∙ all_made race.sim.plan race.spins race.sim.moves a (agenda_at agendas a) (c.self.invariant.each a within)
          (done a named);
    }) c.requires
