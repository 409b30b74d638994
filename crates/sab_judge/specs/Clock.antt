-- Vector clocks, and what they know.
use Rattle.std.specs.Prelude.{◌≡◌, ◌⊎◌, ℕ, ◌<◌, ◌≤◌, All, max, List, [], length, slice_index, slice_index_or, Option, Some, None}
use Rattle.sab_judge.specs.declared.clock.Clock.{Clock}
use Rattle.sab_judge.specs.declared.event.Event.{Event}
use Rattle.sab_judge.specs.Event.{agent_at}
use Rattle.sab_judge.specs.HappensBefore.{HappensBefore, IsRead, IsHandedOn}
use Rattle.sab_judge.specs.declared.trace.TheConstants.Trace.{MAX_EVENTS, MAX_AGENTS}

-- ---- clocks as numbers

abbrev pub KnowsNothing : Clock → Type 0
KnowsNothing clock = (b : ℕ) → slice_index clock.bounds b ≡ 0

-- the second clock knows what the first does
abbrev pub KnowsMore : Clock → Clock → Type 0
KnowsMore c d = (b : ℕ) → slice_index c.bounds b ≤ slice_index d.bounds b

-- the third clock knows what one of the two knows
abbrev pub KnowsBoth : Clock → Clock → Clock → Type 0
KnowsBoth c d e = (b : ℕ) → slice_index e.bounds b ≡ max (slice_index c.bounds b) (slice_index d.bounds b)

abbrev pub no_clock : Clock
no_clock = record { bounds = [] }

abbrev pub clock_at : List Clock → ℕ → Clock
clock_at clocks m = slice_index_or clocks m no_clock

-- the last clock knows what the first does, and what the clock at the position does, where there is one
abbrev pub Learns : Clock → List Clock → Option ℕ → Clock → Type 0
Learns c clocks None e = e ≡ c
Learns c clocks (Some m) e = KnowsBoth c (clock_at clocks m) e

-- ---- what clocks know of a trace

-- the i-th event is the j-th or happens before it
abbrev pub IsAtOrBefore : List Event → ℕ → ℕ → Type 0
IsAtOrBefore trace i j = (i ≡ j) ⊎ HappensBefore trace i j

-- the clock knows the i-th event
abbrev pub Knows : List Event → Clock → ℕ → Type 0
Knows trace clock i = i < slice_index clock.bounds (agent_at trace i)

-- what the clock knows is the j-th event and what happens before it
pub record IsClock (trace : List Event) (j : ℕ) (clock : Clock) : Type 0 where
  pub sound : (i : ℕ) → i < length trace → Knows trace clock i → IsAtOrBefore trace i j
  pub complete : (i : ℕ) → IsAtOrBefore trace i j → Knows trace clock i

-- the j-th event of a trace within the limits, with its clock
pub record HasClock (trace : List Event) (j : ℕ) (clock : Clock) : Type 0 where
  pub within : j < length trace
  pub short : length trace ≤ MAX_EVENTS
  pub agents : All (λ (e : Event). e.agent < MAX_AGENTS) trace
  pub known : IsClock trace j clock

-- there is the clock of each event before the j-th
pub record AreClocks (trace : List Event) (j : ℕ) (clocks : List Clock) : Type 0 where
  pub count : length clocks ≡ j
  pub each : (m : ℕ) → m < j → IsClock trace m (clock_at clocks m)

-- the clock knows the m-th event and what happens before it
pub record KnowsUpTo (trace : List Event) (m : ℕ) (clock : Clock) : Type 0 where
  pub known : (i : ℕ) → IsAtOrBefore trace i m → Knows trace clock i

-- the clock knows only what happens before the j-th event
pub record KnowsOnlyBefore (trace : List Event) (j : ℕ) (clock : Clock) : Type 0 where
  pub before : (i : ℕ) → i < length trace → Knows trace clock i → HappensBefore trace i j

-- the clock knows the events from which the j-th reads by SeqCst accesses of equal ranges, and what happens before them
abbrev pub KnowsWhatIsRead : List Event → ℕ → Clock → Type 0
KnowsWhatIsRead trace j clock = (m : ℕ) → IsRead trace m j → KnowsUpTo trace m clock

-- the clock knows the events that left the critical section which the j-th enters, and what happens before them
abbrev pub KnowsWhoHandedOn : List Event → ℕ → Clock → Type 0
KnowsWhoHandedOn trace j clock = (m : ℕ) → IsHandedOn trace m j → KnowsUpTo trace m clock
