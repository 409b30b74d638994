-- The faults of a line: their table, and when each comes.
use Rattle.std.specs.Prelude.{ℕ, ◌<◌, ◌≤◌, List, codes, length, IsTrue, ⊤}
use Rattle.serde_json.specs.Data.{Data}
use Rattle.sab_judge.specs.declared.place.Place.{Place}
use Rattle.sab_trace.specs.declared.line_fault.LineFault.{LineFault}
use Rattle.sab_trace.specs.declared.line_fault.LineFault.TheVariants.{TooMany, OutOfMemory, BadShape, BadNumber, BadAgent, NotJson, TooLong, ReadFailed, BadBytes}
use Rattle.sab_trace.specs.declared.numbers.Numbers.{Numbers}
use Rattle.sab_trace.specs.Deeds.{acts}
use Rattle.sab_trace.specs.Members.{Values, IsShaped}
use Rattle.sab_trace.specs.Numbers.{AreWhole, IsAgent, AreBytes}
use Rattle.sab_trace.specs.Spelling.{ReadsAs}
use Rattle.sab_judge.specs.declared.trace.TheConstants.Trace.{MAX_EVENTS}

-- the table of names
abbrev pub name_of : LineFault → List ℕ
name_of TooMany = codes "TooMany"
name_of OutOfMemory = codes "OutOfMemory"
name_of BadShape = codes "BadShape"
name_of BadNumber = codes "BadNumber"
name_of BadAgent = codes "BadAgent"
name_of NotJson = codes "NotJson"
name_of TooLong = codes "TooLong"
name_of ReadFailed = codes "ReadFailed"
name_of BadBytes = codes "BadBytes"

-- all is well with the tree up to its numbers, which are these
pub record HasNumbers (position : ℕ) (tree : Data) : Type 0 where
  pub values : Values
  pub shaped : IsShaped tree values
  pub numbers : Numbers
  pub whole : AreWhole position values numbers

-- the first thing that is amiss with a tree
abbrev pub IsTreeFault : ℕ → Data → LineFault → Type 0
IsTreeFault position tree BadShape = (values : Values) → ¬ IsShaped tree values
IsTreeFault position tree BadNumber =
    (values : Values) × IsShaped tree values × ((numbers : Numbers) → ¬ AreWhole position values numbers)
IsTreeFault position tree BadAgent =
    (found : HasNumbers position tree) × ((agent : ℕ) → ¬ IsAgent found.numbers agent)
IsTreeFault position tree BadBytes =
    (found : HasNumbers position tree) × (agent : ℕ) × IsAgent found.numbers agent
    × IsTrue (acts found.values.flags) × ((place : Place) (len : ℕ) → ¬ AreBytes found.numbers place len)
IsTreeFault position tree _ = ⊥

-- the first thing that is amiss with a line of at most 1,024 bytes, of which there can be so many
abbrev pub IsReadingFault : ℕ → List ℕ → LineFault → Type 0
IsReadingFault position line NotJson = (tree : Data) → ¬ ReadsAs line tree
IsReadingFault position line OutOfMemory = ⊤
IsReadingFault position line fault = (tree : Data) × ReadsAs line tree × IsTreeFault position tree fault

-- the first thing that is amiss with a line
abbrev pub IsLineFault : ℕ → List ℕ → LineFault → Type 0
IsLineFault position line TooLong = 1024 < length line
IsLineFault position line TooMany = (length line ≤ 1024) × (MAX_EVENTS ≤ position)
IsLineFault position line fault =
    (length line ≤ 1024) × (position < MAX_EVENTS) × IsReadingFault position line fault
