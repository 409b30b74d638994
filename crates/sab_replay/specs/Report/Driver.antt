-- What the driver of formats starts from.
use Rattle.std.specs.Prelude.{◌≡◌, ◌<◌, ◌≤◌, List, [], length, All}
use Rattle.sab_plan.specs.declared.schedule.Move.{Move}
use Rattle.sab_plan.specs.Schedule.{agent_of}
use Rattle.sab_plan.specs.Plan.{PlanParts}
use Rattle.sab_sim.specs.Sim.{SimParts}
use Rattle.sab_sim.specs.declared.sim.TheConstants.Sim.{MAX_ENTRIES}

-- there are at most 2^20 moves, each of an agent of the plan
pub record AreMovesOf (plan : PlanParts) (moves : List Move) : Type 0 where
  pub few : length moves ≤ MAX_ENTRIES
  pub named : All (λ m. agent_of m < length plan.scripts) moves

-- the simulator has made no move, and has the room for these
pub record IsFreshFor (sim : SimParts) (moves : List Move) : Type 0 where
  pub none : sim.moves ≡ []
  pub empty : sim.journal ≡ []
  pub are_its : AreMovesOf sim.plan moves
  pub reserved : length moves ≤ sim.reserved
