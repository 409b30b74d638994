-- The texts of a race's refusals.
use Rattle.std.specs.Prelude.{ℕ, List, codes}
use Rattle.sab_race.specs.declared.race_fault.RaceFault.{RaceFault}
use Rattle.sab_race.specs.declared.race_fault.RaceFault.TheVariants.{TooManyMoves, OutOfMemory, NoThread}

-- the table of texts
abbrev pub text_of : RaceFault → List ℕ
text_of TooManyMoves = codes "the agents have more moves than a journal can have entries"
text_of OutOfMemory = codes "there is no memory for the race"
text_of NoThread = codes "a thread couldn't be started"
