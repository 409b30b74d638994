-- What a simulator keeps of its moves.
use Rattle.std.specs.Prelude.{◌≡◌, ℕ, ◌<◌, List, length, slice_get, Some}
use Rattle.sab_plan.specs.declared.entry.Entry.{Entry}
use Rattle.sab_plan.specs.declared.schedule.Move.{Move}
use Rattle.sab_sim.specs.declared.agent.Agent.{Agent}
use Rattle.sab_plan.specs.Schedule.{agent_of}
use Rattle.sab_plan.specs.Plan.{PlanParts}
use Rattle.sab_object.specs.Object.{State}
use Rattle.sab_plan.specs.Journal.{EachAnswers, EachAfter}
use Rattle.sab_sim.specs.Run.{IsJustified, Reaches}
use Rattle.sab_sim.specs.Agent.{IsWhere}
use Rattle.sab_sim.specs.Machine.{MachineParts, Represents}

-- the machine and the object are where the journal leaves them, and each entry was right
pub record Kept (plan : PlanParts) (moves : List Move) (journal : List Entry) (m : MachineParts) : Type 0 where
  pub one_each : length journal ≡ length moves
  pub named : (k : ℕ) (d : Move) → slice_get moves k ≡ Some d → agent_of d < length plan.scripts
  pub answers : EachAnswers moves journal
  pub justified : EachAfter (IsJustified plan) journal
  pub object : (S : State) × Reaches plan journal S × Represents m S
  pub size : length m.agents ≡ length plan.scripts
  pub agents_are : (a : ℕ) (g : Agent) → slice_get m.agents a ≡ Some g → IsWhere plan journal a g
