-- What a judge reports about a trace.
use Rattle.std.specs.Prelude.{◌≡◌, ◌⊎◌, ◌↔◌, ℕ, ◌<◌, ◌≤◌, ◌+◌, IsTrue, false, List, All, length, Option, Some, None, slice_index_or}
use Rattle.sab_judge.specs.declared.event.Event.{Event}
use Rattle.sab_judge.specs.declared.race.Race.{Race}
use Rattle.sab_judge.specs.Event.{agent_at}
use Rattle.sab_judge.specs.HappensBefore.{HappensBefore}
use Rattle.sab_judge.specs.Race.{IsRace, IsDataRace, CountsRaces, CountsDataRaces, ComesBefore}

-- the race at a position of a list; past the end, that of event 0 with itself, which is none
abbrev pub race_at : List Race → ℕ → Race
race_at reported k = slice_index_or reported k (record { first = 0; second = 0; is_data_race = false; seen = None })

-- the last event of the agent that happens before the j-th
abbrev pub IsLastSeen : List Event → ℕ → ℕ → Option ℕ → Type 0
IsLastSeen trace agent j None = (k : ℕ) → agent_at trace k ≡ agent → ¬ HappensBefore trace k j
IsLastSeen trace agent j (Some m) =
    (agent_at trace m ≡ agent) × HappensBefore trace m j
    × ((k : ℕ) → agent_at trace k ≡ agent → HappensBefore trace k j → k ≤ m)

-- the race is one of the trace, and it is said truly whether it is a data race, and what the later agent has seen of the
-- earlier one
pub record IsReported (trace : List Event) (race : Race) : Type 0 where
  pub is_race : IsRace trace race.first race.second
  pub data_race : IsTrue race.is_data_race ↔ IsDataRace trace race.first race.second
  pub seen : IsLastSeen trace (agent_at trace race.first) race.second race.seen

-- the races are in order
abbrev pub InOrder : List Race → Type 0
InOrder reported = (k l : ℕ) → k < l → l < length reported
    → ComesBefore (race_at reported k).first (race_at reported k).second (race_at reported l).first (race_at reported l).second

-- the race of i and j is one of the list
pub record IsAmong (reported : List Race) (i j : ℕ) : Type 0 where
  pub place : ℕ
  pub inside : place < length reported
  pub first : (race_at reported place).first ≡ i
  pub second : (race_at reported place).second ≡ j

-- the race of i and j comes after all of the list
abbrev pub ComesAfterAll : List Race → ℕ → ℕ → Type 0
ComesAfterAll reported i j = (k : ℕ) → k < length reported → ComesBefore (race_at reported k).first (race_at reported k).second i j

-- the race of i and j is left: it comes after all that are listed, and some are left
pub record IsLeft (reported : List Race) (rest i j : ℕ) : Type 0 where
  pub after : ComesAfterAll reported i j
  pub some : 0 < rest

-- reported are the first races of the trace, in order, at most so many; so many are left, and so many of all are data races
pub record IsVerdict (trace : List Event) (most : ℕ) (reported : List Race) (rest data_races : ℕ) : Type 0 where
  pub races : All (IsReported trace) reported
  pub order : InOrder reported
  pub each : (i j : ℕ) → IsRace trace i j → IsAmong reported i j ⊎ IsLeft reported rest i j
  pub count : CountsRaces trace (length trace) (length reported + rest)
  pub few : length reported ≤ most
  pub full : 0 < rest → length reported ≡ most
  pub data_count : CountsDataRaces trace (length trace) data_races
