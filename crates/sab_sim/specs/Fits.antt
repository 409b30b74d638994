-- When a report fits a plan, and refusals of schedules.
use Rattle.std.specs.Prelude.{◌≡◌, ◌⊎◌, ℕ, suc, ◌<◌, ◌≤◌, List, [], ◌∷◌, length, All, Option, Some, None, nat_le, if◌then◌else◌}
use Rattle.sab_plan.specs.declared.schedule.Move.{Move}
use Rattle.sab_plan.specs.declared.entry.Entry.{Entry}
use Rattle.sab_sim.specs.declared.sim_fault.SimFault.{SimFault}
use Rattle.sab_sim.specs.declared.sim_fault.SimFault.TheVariants.{NoAgent, Full, OutOfMemory}
use Rattle.sab_plan.specs.Schedule.{agent_of}
use Rattle.sab_plan.specs.Plan.{PlanParts, calls_of}
use Rattle.sab_object.specs.Object.{State}
use Rattle.sab_plan.specs.Journal.{track, IsTrack, EachAnswers, EachAfter}
use Rattle.sab_sim.specs.Run.{IsJustified, Reaches}
use Rattle.sab_plan.specs.Report.{ReportParts, progress_from}
use Rattle.sab_sim.specs.declared.sim.TheConstants.Sim.{MAX_ENTRIES}

-- the journal and the bytes fit the plan and the moves
pub record FitsMoves (plan : PlanParts) (moves : List Move) (journal : List Entry)
    (blocks : List (List ℕ)) : Type 0 where
  -- there are at most 2^20 moves, each of an agent of the plan
  pub few : length moves ≤ MAX_ENTRIES
  pub named : All (λ m. agent_of m < length plan.scripts) moves
  -- each move has one entry
  pub one_each : length journal ≡ length moves
  -- each agent's calls begin, act and return in order, and return what they answered
  pub tracks : (a : ℕ) → a < length plan.scripts → IsTrack (length (calls_of plan a)) (track journal a)
  -- each entry is of its move
  pub answers : EachAnswers moves journal
  -- where an entry is stuck, the state before it allows it
  pub justified : EachAfter (IsJustified plan) journal
  -- the acts are a run of the sequential object from zero blocks, and the bytes are the object's at the end
  pub run : (S : State) × Reaches plan journal S × (S.mem ≡ blocks)

-- the report fits the plan
pub record Fits (plan : PlanParts) (report : ReportParts) : Type 0 where
  pub moves : FitsMoves plan report.schedule report.journal report.blocks
  pub agents : report.agents ≡ progress_from report.journal 0 plan.scripts

-- no other report of its schedule fits the plan
abbrev pub IsOnly : PlanParts → ReportParts → Type 0
IsOnly plan report = (other : ReportParts) → Fits plan other → other.schedule ≡ report.schedule → other ≡ report

-- the fault that the first refused move calls for, where k moves were made before these
abbrev pub first_refusal : ℕ → ℕ → List Move → Option SimFault
first_refusal agents k [] = None
first_refusal agents k (m ∷ moves) =
    if nat_le agents (agent_of m) then Some NoAgent
    else (if nat_le MAX_ENTRIES k then Some Full else first_refusal agents (suc k) moves)

-- the fault is the one that the schedule calls for, or want of memory
abbrev pub IsRefusal : PlanParts → List Move → SimFault → Type 0
IsRefusal plan schedule fault =
    (fault ≡ OutOfMemory) ⊎ (first_refusal (length plan.scripts) 0 schedule ≡ Some fault)
