-- What is reported about the races so far.
use Rattle.std.specs.Prelude.{◌≡◌, ◌⊎◌, ℕ, ◌<◌, ◌≤◌, ◌+◌, ◌*◌, List, All, length}
use Rattle.sab_judge.specs.declared.event.Event.{Event}
use Rattle.sab_judge.specs.declared.race.Race.{Race}
use Rattle.sab_judge.specs.Race.{IsRace, Counts, CountsRaces, ComesBefore}
use Rattle.sab_judge.specs.Verdict.{IsReported, InOrder, IsAmong, IsLeft, ComesAfterAll}
use Rattle.sab_judge.specs.declared.trace.TheConstants.Trace.{MAX_EVENTS}

-- the races of the trace that come before i and j are listed, or left
pub record HasReported (trace : List Event) (j i most : ℕ) (reported : List Race) (rest : ℕ) : Type 0 where
  pub races : All (IsReported trace) reported
  pub order : InOrder reported
  pub passed : ComesAfterAll reported i j
  pub each : (k l : ℕ) → ComesBefore k l i j → IsRace trace k l → IsAmong reported k l ⊎ IsLeft reported rest k l
  pub before : ℕ
  pub count : CountsRaces trace j before
  pub here : ℕ
  pub count_here : Counts (λ k. IsRace trace k j) i here
  pub sum : length reported + rest ≡ before + here
  pub few : length reported ≤ most
  pub full : 0 < rest → length reported ≡ most
  pub small : rest ≤ j * MAX_EVENTS + i
