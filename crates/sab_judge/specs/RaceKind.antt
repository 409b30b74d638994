-- Kinds of races.
use Rattle.std.specs.Prelude.{ℕ, ◌&&◌, Bool, IsTrue, List}
use Rattle.sab_judge.specs.declared.event.Event.{Event}
use Rattle.sab_judge.specs.declared.race_kind.RaceKind.{RaceKind}
use Rattle.sab_judge.specs.declared.race_kind.RaceKind.TheVariants.{Any, BothWrite}
use Rattle.sab_judge.specs.Event.{event_at, do_conflict, do_both_write}
use Rattle.sab_judge.specs.Race.{IsRace}

-- the accesses of the two conflict, and are of the kind
abbrev pub is_of_kind : RaceKind → Event → Event → Bool
is_of_kind Any e f = do_conflict e f
is_of_kind BothWrite e f = do_conflict e f && do_both_write e f

-- the i-th event and the later j-th are in a race of the kind
pub record IsRaceOf (kind : RaceKind) (trace : List Event) (i j : ℕ) : Type 0 where
  pub race : IsRace trace i j
  pub kind_is : IsTrue (is_of_kind kind (event_at trace i) (event_at trace j))
