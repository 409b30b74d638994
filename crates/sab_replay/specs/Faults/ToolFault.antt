-- The numbers and names of faults.
use Rattle.std.specs.Prelude.{◌≡◌, ◌≢◌, ℕ, List, Option, Some, None, codes}
use Rattle.sab_replay.specs.declared.faults.tool_fault.ToolFault.{ToolFault}
use Rattle.sab_replay.specs.declared.faults.tool_fault.ToolFault.TheVariants.{TooMany, OutOfMemory, TooManyMoves, NoThread, BadShape, BadName, BadNumber, BadCall, BadView, BadAgent, NotJson, WriteFailed, TooLong, ReadFailed, NoBlock, OrdinaryData, BadEdge, NoNode, BadRange}

-- what a fault is called
pub record Label : Type 0 where
  pub number : ℕ
  pub name : List ℕ

abbrev pub label : ℕ → List ℕ → Label
label number name = record { number = number; name = name }

-- the table: number, name
abbrev pub label_of : ToolFault → Label
label_of TooMany = label 3 (codes "TooMany")
label_of OutOfMemory = label 5 (codes "OutOfMemory")
label_of TooManyMoves = label 8 (codes "TooManyMoves")
label_of NoThread = label 9 (codes "NoThread")
label_of BadShape = label 10 (codes "BadShape")
label_of BadName = label 11 (codes "BadName")
label_of BadNumber = label 12 (codes "BadNumber")
label_of BadCall = label 13 (codes "BadCall")
label_of BadView = label 14 (codes "BadView")
label_of BadAgent = label 15 (codes "BadAgent")
label_of NotJson = label 16 (codes "NotJson")
label_of WriteFailed = label 17 (codes "WriteFailed")
label_of TooLong = label 18 (codes "TooLong")
label_of ReadFailed = label 19 (codes "ReadFailed")
label_of NoBlock = label 20 (codes "NoBlock")
label_of OrdinaryData = label 21 (codes "OrdinaryData")
label_of BadEdge = label 22 (codes "BadEdge")
label_of NoNode = label 23 (codes "NoNode")
label_of BadRange = label 24 (codes "BadRange")

abbrev pub number_of : ToolFault → ℕ
number_of fault = (label_of fault).number

abbrev pub name_of : ToolFault → List ℕ
name_of fault = (label_of fault).name

-- the fault that has the number, or none if no fault has it
abbrev pub IsOfNumber : ℕ → Option ToolFault → Type 0
IsOfNumber number (Some fault) = number_of fault ≡ number
IsOfNumber number None = (fault : ToolFault) → number_of fault ≢ number
