-- Events that are alike, and links from each to those before it.
use Rattle.std.specs.Prelude.{◌≡◌, ℕ, ◌<◌, ◌≤◌, List, length, Some, slice_index_or}
use Rattle.sab_judge.specs.declared.access.Access.{Access}
use Rattle.sab_judge.specs.declared.event.Event.{Event}
use Rattle.sab_judge.specs.declared.link.Link.{Link}
use Rattle.sab_judge.specs.Event.{event_at, agent_at}
use Rattle.sab_judge.specs.Race.{Counts}

-- the i-th event makes an access
pub record HasAccess (trace : List Event) (i : ℕ) : Type 0 where
  pub access : Access
  pub makes : (event_at trace i).access ≡ Some access

-- the i-th event is of the agent of the p-th, and makes the same access
pub record IsLike (trace : List Event) (p i : ℕ) : Type 0 where
  pub agent : agent_at trace i ≡ agent_at trace p
  pub access : (event_at trace i).access ≡ (event_at trace p).access

-- the p-th event is the last one before the i-th that is like it
pub record IsLast (trace : List Event) (i p : ℕ) : Type 0 where
  pub before : p < i
  pub like : IsLike trace i p
  pub between : (k : ℕ) → p < k → k < i → ¬ IsLike trace i k

-- the link leads from the i-th event back to those before it that are like it
pub record IsLinked (trace : List Event) (i : ℕ) (link : Link) : Type 0 where
  pub rank : Counts (λ k. IsLike trace i k) i link.rank
  pub previous : 0 < link.rank → IsLast trace i link.previous
  pub jump : 0 < link.rank → (link.jump < i) × IsLike trace i link.jump

-- it is the link of the i-th event; nothing is said of that of an event which makes no access
abbrev pub IsLink : List Event → ℕ → Link → Type 0
IsLink trace i link = HasAccess trace i → IsLinked trace i link

abbrev pub link_at : List Link → ℕ → Link
link_at links i = slice_index_or links i (record { rank = 0; previous = 0; jump = 0 })

-- these are the links of the first n events
pub record AreLinks (trace : List Event) (n : ℕ) (links : List Link) : Type 0 where
  pub count : length links ≡ n
  pub each : (i : ℕ) → i < n → IsLink trace i (link_at links i)

-- the event `at` is like the one at the position, not behind it nor below the bound, and those like it before are below
pub record IsEarliest (trace : List Event) (position bound at : ℕ) : Type 0 where
  pub within : at ≤ position
  pub like : IsLike trace position at
  pub from_bound : bound ≤ at
  pub below : (k : ℕ) → k < at → IsLike trace position k → k < bound
