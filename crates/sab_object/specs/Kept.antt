-- The object as lists keep it.
use Rattle.std.specs.Prelude.{◌≡◌, ℕ, ◌<◌, ◌==◌, Bool, false, List, [], ◌∷◌, slice_index_or, ⊤}
use Rattle.std.specs.List.{list_any}
use Rattle.sab_plan.specs.declared.waiter.Waiter.{Waiter}
use Rattle.sab_plan.specs.declared.entry.What.{What}
use Rattle.sab_plan.specs.declared.entry.What.TheVariants.{Acted, Enlisted}
use Rattle.sab_object.specs.Object.{State}

-- the state of which these are the bytes, the line, and for each agent whether it was woken
abbrev pub state_of : List (List ℕ) → List Waiter → List Bool → State
state_of mem line woken = record { mem = mem; line = line; notified = λ b. slice_index_or woken b false }

-- whether an agent stands in the line
abbrev pub is_in : List Waiter → ℕ → Bool
is_in line a = list_any (λ (w : Waiter). w.agent == a) line

-- each waiter is one of n agents, and no agent stands in the line twice
abbrev pub AreAgents : ℕ → List Waiter → Type 0
AreAgents n [] = ⊤
AreAgents n (w ∷ line) = (w.agent < n) × (is_in line w.agent ≡ false) × AreAgents n line

-- an act of a call that has begun
abbrev pub IsOutcome : What → Type 0
IsOutcome (Acted x) = ⊤
IsOutcome Enlisted = ⊤
IsOutcome _ = ⊥
