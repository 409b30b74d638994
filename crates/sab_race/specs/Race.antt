-- Races of agents in threads.
use Rattle.std.specs.Prelude.{◌≡◌, ℕ, ◌+◌, ◌<◌, ◌≤◌, List, [], length, take, slice_get}
use Rattle.sab_plan.specs.declared.schedule.Move.{Move}
use Rattle.sab_plan.specs.Plan.{PlanParts, parts_of, calls_of, calls_in}
use Rattle.sab_plan.specs.Script.{ScriptParts}
use Rattle.sab_plan.specs.Report.{ReportParts}
use Rattle.sab_sim.specs.Fits.{Fits}
use Rattle.sab_race.specs.Moves.{moves_of, part}
use Rattle.sab_race.specs.Agenda.{AgendaParts, agenda_at, unmade, left_in, left_of}
use Rattle.sab_sim.specs.declared.sim.TheConstants.Sim.{MAX_ENTRIES}

-- each agent's part of the schedule is its moves, each once and in order
abbrev pub HasAllMoves : PlanParts → ℕ → List Move → Type 0
HasAllMoves plan spins schedule =
    (a : ℕ) → a < length plan.scripts → part schedule a ≡ moves_of (calls_of plan a) a spins

-- the report fits the plan, and its schedule has all moves of each agent
pub record IsRace (plan : PlanParts) (spins : ℕ) (report : ReportParts) : Type 0 where
  pub fits : Fits plan report
  pub moves : HasAllMoves plan spins report.schedule

-- a race as far as it came: its plan, how often a wait is stepped at, the moves so far, and what each agent has to do
pub record RaceParts : Type 0 where
  pub plan : PlanParts
  pub spins : ℕ
  pub schedule : List Move
  pub agendas : List AgendaParts

-- an agent's agenda has its moves, and its part of the schedule is the first so many of them
pub record IsAgenda (plan : PlanParts) (spins : ℕ) (schedule : List Move) (a : ℕ) (agenda : AgendaParts) : Type 0 where
  pub moves : agenda.moves ≡ moves_of (calls_of plan a) a spins
  pub made : part schedule a ≡ take agenda.made agenda.moves
  pub within : agenda.made ≤ length agenda.moves

-- each agent has its agenda, and there is room for all that is left
pub record IsUnderWay (plan : PlanParts) (spins : ℕ) (schedule : List Move) (entries reserved : ℕ)
    (agendas : List AgendaParts) : Type 0 where
  pub count : length agendas ≡ length plan.scripts
  pub each : (a : ℕ) → a < length agendas → IsAgenda plan spins schedule a (agenda_at agendas a)
  pub fits : entries + left_of agendas ≤ MAX_ENTRIES
  pub room : left_of agendas ≤ reserved

-- all moves of all agents were made
abbrev pub IsDone : RaceParts → Type 0
IsDone race = (a : ℕ) → a < length race.plan.scripts → left_in (agenda_at race.agendas a) ≡ 0

-- each agent has all its moves left
pub record AreFresh (scripts : List ScriptParts) (spins : ℕ) (agendas : List AgendaParts) : Type 0 where
  pub count : length agendas ≡ length scripts
  pub each : (a : ℕ) → a < length scripts
      → agenda_at agendas a ≡ unmade (moves_of (calls_in (slice_get scripts a)) a spins)

-- a plan without blocks, views and agents
abbrev pub no_plan : PlanParts
no_plan = parts_of [] [] []
