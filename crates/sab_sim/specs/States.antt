-- The states that a journal leads to, and the line in the last of them.
use Rattle.std.specs.Prelude.{◌≡◌, ℕ, true, false, List, take, Contains, Some}
use Rattle.sab_plan.specs.declared.place.Place.{Place}
use Rattle.sab_plan.specs.declared.call.Call.{Call}
use Rattle.sab_plan.specs.declared.entry.Entry.{Entry}
use Rattle.sab_plan.specs.Plan.{PlanParts, call_of}
use Rattle.sab_object.specs.Object.{State, stands}
use Rattle.sab_plan.specs.Journal.{returned_of}
use Rattle.sab_sim.specs.Run.{Reaches}
use Rattle.sab_sim.specs.Agent.{WaitsOn}
use Rattle.sab_sim.specs.Shown.{AtEnd}

-- the journal leads to one state
abbrev pub HasOneState : PlanParts → List Entry → Type 0
HasOneState plan journal = (S : State) × Reaches plan journal S × AtEnd plan journal (λ T. T ≡ S)

-- and so does each front of it
abbrev pub HasStates : PlanParts → List Entry → Type 0
HasStates plan journal = (k : ℕ) → HasOneState plan (take k journal)

-- the call that the agent is at is a wait at this place
abbrev pub IsWaitAt : PlanParts → List Entry → ℕ → Place → Type 0
IsWaitAt plan journal a p = (call : Call) × (call_of plan a (returned_of journal a) ≡ Some call) × WaitsOn plan p call

-- the line is of agents that are at a wait at their place and weren't notified
pub record IsOfWaits (plan : PlanParts) (journal : List Entry) (S : State) : Type 0 where
  pub at_waits : (p : Place) (a : ℕ) → Contains S.line (record { place = p; agent = a }) → IsWaitAt plan journal a p
  pub unnotified : (a : ℕ) → stands S a ≡ true → S.notified a ≡ false
