-- Runs of the object by a journal's acts, and entries that are stuck.
use Rattle.std.specs.Prelude.{◌≡◌, true, false, List, [], ◌∷◌, length, ⊤}
use Rattle.sab_plan.specs.declared.entry.Why.TheVariants as Y
use Rattle.sab_plan.specs.declared.entry.What.{What}
use Rattle.sab_plan.specs.declared.entry.What.TheVariants.{Stuck}
use Rattle.sab_plan.specs.declared.entry.Entry.{Entry}
use Rattle.sab_plan.specs.Plan.{PlanParts, calls_of}
use Rattle.sab_object.specs.Object.{State, opening, stands, Does}
use Rattle.sab_plan.specs.Journal.{acts_of, IsEndless}

-- each of these acts leads from one state to the next
abbrev pub Run : PlanParts → State → List Entry → State → Type 0
Run plan S [] T = T ≡ S
Run plan S (e ∷ es) T = (U : State) × Does plan S e U × Run plan U es T

-- the acts of these entries are a run from zero blocks, and this is its last state
abbrev pub Reaches : PlanParts → List Entry → State → Type 0
Reaches plan journal S = Run plan (opening plan.lens) (acts_of journal) S

-- the state allows that the agent is stuck so
abbrev pub Justifies : PlanParts → State → Entry → What → Type 0
Justifies plan S e (Stuck Y.Done) = e.call ≡ length (calls_of plan e.agent)
Justifies plan S e (Stuck Y.Waiting) = stands S e.agent ≡ true
Justifies plan S e (Stuck Y.Endless) = (stands S e.agent ≡ true) × IsEndless plan e
Justifies plan S e (Stuck Y.NotWaiting) = stands S e.agent ≡ false
Justifies plan S e _ = ⊤

-- the state before the entry allows it
abbrev pub IsJustified : PlanParts → List Entry → Entry → Type 0
IsJustified plan before e = (S : State) × Reaches plan before S × Justifies plan S e e.what
