-- Races of a trace, and which of them are data races of it (Races; Data Races).
use Rattle.std.specs.Prelude.{◌≡◌, ◌≢◌, ◌⊎◌, ℕ, ◌<◌, ◌+◌, IsTrue, false, List, length}
use Rattle.sab_judge.specs.declared.event.Event.{Event}
use Rattle.sab_judge.specs.Event.{event_at, agent_at, do_conflict, are_alike, do_both_write}
use Rattle.sab_judge.specs.HappensBefore.{HappensBefore, ReadsFrom}

-- the i-th event and the later j-th race: two agents access a byte, one of them writes it, not both by SeqCst accesses
-- with equal ranges, and neither happens before the other
pub record IsRace (trace : List Event) (i j : ℕ) : Type 0 where
  pub earlier : i < j
  pub within : j < length trace
  pub agents : agent_at trace i ≢ agent_at trace j
  pub conflict : IsTrue (do_conflict (event_at trace i) (event_at trace j))
  pub unordered : ¬ HappensBefore trace i j

-- no two events race
abbrev pub HaveNoRace : List Event → Type 0
HaveNoRace trace = (i j : ℕ) → ¬ IsRace trace i j

-- both write in ranges that aren't disjoint, or the later one reads from the earlier one
abbrev pub Meet : List Event → ℕ → ℕ → Type 0
Meet trace i j = IsTrue (do_both_write (event_at trace i) (event_at trace j)) ⊎ ReadsFrom trace j i

-- the two are in a data race as ECMA-262 has it: neither happens before the other, both write or the one reads from the
-- other, and one isn't SeqCst or the ranges aren't equal
pub record IsDataRace (trace : List Event) (i j : ℕ) : Type 0 where
  pub earlier : i < j
  pub within : j < length trace
  pub unordered : ¬ HappensBefore trace i j
  pub meet : Meet trace i j
  pub unlike : are_alike (event_at trace i) (event_at trace j) ≡ false

-- ---- what is reported about all races

-- so many of the numbers below n are such
pub data Counts (P : ℕ → Type 0) : ℕ → ℕ → Type 0 where
  below_none : Counts P 0 0
  one_more : {n count : ℕ} → Counts P n count → P n → Counts P (n + 1) (count + 1)
  no_more : {n count : ℕ} → Counts P n count → ¬ P n → Counts P (n + 1) count

-- so many pairs of an earlier number and a later one, which is below n, are such
pub data CountsPairs (R : ℕ → ℕ → Type 0) : ℕ → ℕ → Type 0 where
  of_none : CountsPairs R 0 0
  and_of : {j total count : ℕ} → CountsPairs R j total → Counts (λ i. R i j) j count
      → CountsPairs R (j + 1) (total + count)

-- so many races have one of the first n events as the later one
abbrev pub CountsRaces : List Event → ℕ → ℕ → Type 0
CountsRaces trace = CountsPairs (IsRace trace)

-- so many data races have one of the first n events as the later one
abbrev pub CountsDataRaces : List Event → ℕ → ℕ → Type 0
CountsDataRaces trace = CountsPairs (IsDataRace trace)

-- the race of i and j comes before that of k and l: by the later events, and then by the earlier ones
abbrev pub ComesBefore : ℕ → ℕ → ℕ → ℕ → Type 0
ComesBefore i j k l = (j < l) ⊎ ((j ≡ l) × (i < k))
