-- The last event of a kind.
use Rattle.std.specs.Prelude.{◌≡◌, ℕ, ◌<◌, ◌==◌, IsTrue, Bool, true, false, List, Option, Some, None}
use Rattle.sab_judge.specs.declared.place.Place.{Place}
use Rattle.sab_judge.specs.declared.event.Event.{Event}
use Rattle.sab_judge.specs.Event.{event_at, writes_byte, are_alike, share_waiters}
use Rattle.sab_judge.specs.HappensBefore.{ReadsByteFrom}

-- a kind of events: those of an agent, those among the waiters of a place, those that write a byte
pub data Sought : Type 0 where
  OfAgent : (agent : ℕ) → Sought
  AtWaiters : (place : Place) → Sought
  Writes : (block byte : ℕ) → Sought

-- the event is one of those that are sought
abbrev pub is_hit : Sought → Event → Bool
is_hit (OfAgent a) e = e.agent == a
is_hit (AtWaiters p) e = share_waiters e.waiters (Some p)
is_hit (Writes block byte) e = writes_byte e block byte

abbrev pub NoHitIn : List Event → Sought → ℕ → ℕ → Type 0
NoHitIn trace sought low high = (k : ℕ) → low < k → k < high → is_hit sought (event_at trace k) ≡ false

-- the last of those below j
abbrev pub IsLastBelow : List Event → Sought → ℕ → Option ℕ → Type 0
IsLastBelow trace sought j None = (k : ℕ) → k < j → is_hit sought (event_at trace k) ≡ false
IsLastBelow trace sought j (Some m) =
    (m < j) × (is_hit sought (event_at trace m) ≡ true) × NoHitIn trace sought m j

-- the event with a SeqCst access of equal range from which the j-th event reads the byte
abbrev pub IsReadFrom : List Event → ℕ → ℕ → ℕ → Option ℕ → Type 0
IsReadFrom trace j block byte None =
    (m : ℕ) → IsTrue (are_alike (event_at trace m) (event_at trace j)) → ReadsByteFrom trace j m block byte → ⊥
IsReadFrom trace j block byte (Some m) =
    IsTrue (are_alike (event_at trace m) (event_at trace j)) × ReadsByteFrom trace j m block byte
