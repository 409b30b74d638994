-- What a simulator shows of the state that its journal leads to.
use Rattle.std.specs.Prelude.{List}
use Rattle.sab_plan.specs.declared.entry.Entry.{Entry}
use Rattle.sab_plan.specs.Plan.{PlanParts}
use Rattle.sab_object.specs.Object.{State}
use Rattle.sab_sim.specs.Run.{Reaches}

-- a fact of the state that the journal leaves
abbrev pub AtEnd : PlanParts → List Entry → (State → Type 0) → Type 0
AtEnd plan journal P = (S : State) → Reaches plan journal S → P S
