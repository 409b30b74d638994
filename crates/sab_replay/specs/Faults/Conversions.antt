-- Which fault a refused script has, or a race that can't be run.
use Rattle.sab_refusal.specs.declared.read_fault.ReadFault.{ReadFault}
use Rattle.sab_refusal.specs.declared.read_fault.ReadFault.TheVariants as R
use Rattle.sab_refusal.specs.declared.refusal.Refusal.{Refusal}
use Rattle.sab_refusal.specs.declared.refusal.Refusal.TheVariants as S
use Rattle.sab_refusal.specs.Reason.{fault_of}
use Rattle.sab_race.specs.declared.race_fault.RaceFault.{RaceFault}
use Rattle.sab_race.specs.declared.race_fault.RaceFault.TheVariants as Race
use Rattle.sab_replay.specs.declared.faults.tool_fault.ToolFault.{ToolFault}
use Rattle.sab_replay.specs.declared.faults.tool_fault.ToolFault.TheVariants.{TooMany, OutOfMemory, TooManyMoves, NoThread, BadShape, BadName, BadNumber, BadCall, BadView, BadAgent, NoBlock, NotJson}

-- the fault of a tree as a tool's
abbrev pub as_tool_fault : ReadFault → ToolFault
as_tool_fault R.TooMany = TooMany
as_tool_fault R.BadShape = BadShape
as_tool_fault R.BadName = BadName
as_tool_fault R.BadNumber = BadNumber
as_tool_fault R.BadCall = BadCall
as_tool_fault R.BadView = BadView
as_tool_fault R.BadAgent = BadAgent
as_tool_fault R.NoBlock = NoBlock
as_tool_fault R.OutOfMemory = OutOfMemory

-- the fault of a script as a tool's
abbrev pub script_as_tool_fault : Refusal → ToolFault
script_as_tool_fault (S.NotJson place) = NotJson
script_as_tool_fault (S.Tree e) = as_tool_fault (fault_of e.why)

-- the fault of a race as a tool's
abbrev pub race_as_tool_fault : RaceFault → ToolFault
race_as_tool_fault Race.TooManyMoves = TooManyMoves
race_as_tool_fault Race.OutOfMemory = OutOfMemory
race_as_tool_fault Race.NoThread = NoThread
