-- What is kept, with one event more.
use Rattle.std.proofs.Common.{◌≡◌, ℕ, ◌+◌, cond, List, Some, arith}
use Rattle.std.proofs.lemmas.Grind.{common_steps}
use Rattle.std.specs.HashMap.{get}
use Rattle.sab_judge.specs.declared.place.Place.{Place}
use Rattle.sab_judge.specs.declared.event.Event.{Event}
use Rattle.sab_judge.specs.Event.{event_at, share_waiters}
use Rattle.sab_judge.specs.Lookups.{ByPlace, same_pair}
use Rattle.sab_judge.specs.Past.{AreWaiters}
use Rattle.sab_judge.proofs.Lasts.{last_miss, last_hit}

-- one that enters is the last of its place's
pub waiters_noted : (trace : List Event) (n : ℕ) (old : ByPlace ℕ) (q : Place) (waiters : ByPlace ℕ)
    → AreWaiters trace n old → (event_at trace n).waiters ≡ Some q
    → ((p : ℕ × ℕ) → get same_pair waiters p ≡ cond (same_pair (q.block, q.byte) p) (Some n) (get same_pair old p))
    → AreWaiters trace (n + 1) waiters
waiters_noted trace n old q waiters lasts is updates p =
    grind (arith, common_steps, same_pair, share_waiters, event_at, get, cond, last_hit, last_miss)
