-- Histories of operations on an object (Herlihy and Wing 1990). A history lists its newest event first. An operation
-- has a number: how many events the history had when it was invoked.
use Rattle.std.specs.Prelude.{◌≡◌, ◌≢◌, ◌⊎◌, ℕ, List, [], ◌∷◌, length}

-- an agent invokes an operation, or its operation responds with a result
pub data Event : Type 0 where
  Invokes : ℕ → ℕ → Event
  Responds : ℕ → ℕ → Event

-- operation n has been invoked, and is this one
abbrev pub IsInvoked : List Event → ℕ → ℕ → Type 0
IsInvoked [] n o = ⊥
IsInvoked (Invokes a p ∷ h) n o = ((n ≡ length h) × (o ≡ p)) ⊎ IsInvoked h n o
IsInvoked (Responds a r ∷ h) n o = IsInvoked h n o

-- an agent's operation n, which is this one, is pending: it has been invoked, and hasn't responded
abbrev pub IsPending : List Event → ℕ → ℕ → ℕ → Type 0
IsPending [] a n o = ⊥
IsPending (Invokes b p ∷ h) a n o = ((a ≡ b) × (n ≡ length h) × (o ≡ p)) ⊎ ((a ≢ b) × IsPending h a n o)
IsPending (Responds b r ∷ h) a n o = (a ≢ b) × IsPending h a n o

-- operation n has responded, with this result
abbrev pub HasResponse : List Event → ℕ → ℕ → Type 0
HasResponse [] n r = ⊥
HasResponse (Invokes a o ∷ h) n r = HasResponse h n r
HasResponse (Responds a x ∷ h) n r = ((o : ℕ) × IsPending h a n o × (r ≡ x)) ⊎ HasResponse h n r

-- operation i precedes operation j: it had responded when j was invoked
abbrev pub Precedes : List Event → ℕ → ℕ → Type 0
Precedes [] i j = ⊥
Precedes (Invokes a o ∷ h) i j = ((r : ℕ) × HasResponse h i r × (j ≡ length h)) ⊎ Precedes h i j
Precedes (Responds a r ∷ h) i j = Precedes h i j

-- each agent invokes an operation only when none of its own is pending, and only a pending operation responds
abbrev pub IsWellFormed : List Event → Type 0
IsWellFormed [] = Unit {0}
IsWellFormed (Invokes a o ∷ h) = IsWellFormed h × ((n p : ℕ) → IsPending h a n p → ⊥)
IsWellFormed (Responds a r ∷ h) = IsWellFormed h × ((n : ℕ) × (o : ℕ) × IsPending h a n o)

-- the same history of agents with other numbers
abbrev pub renamed : (ℕ → ℕ) → List Event → List Event
renamed to [] = []
renamed to (Invokes a o ∷ h) = Invokes (to a) o ∷ renamed to h
renamed to (Responds a r ∷ h) = Responds (to a) r ∷ renamed to h
