-- The exit statuses after faults.
use Rattle.std.specs.Prelude.{ℕ}
use Rattle.sab_replay.specs.declared.faults.tool_fault.ToolFault.{ToolFault}
use Rattle.sab_replay.specs.declared.faults.tool_fault.ToolFault.TheVariants.{TooMany, OutOfMemory, TooManyMoves, NoThread, BadShape, BadName, BadNumber, BadCall, BadView, BadAgent, NotJson, WriteFailed, TooLong, ReadFailed, NoBlock, OrdinaryData, BadEdge, NoNode, BadRange}

-- the table: 1 for an input that is refused, 3 for a device that failed, 4 for want of memory or of a thread
abbrev pub status_after : ToolFault → ℕ
status_after TooMany = 1
status_after OutOfMemory = 4
status_after TooManyMoves = 1
status_after NoThread = 4
status_after BadShape = 1
status_after BadName = 1
status_after BadNumber = 1
status_after BadCall = 1
status_after BadView = 1
status_after BadAgent = 1
status_after NotJson = 1
status_after WriteFailed = 3
status_after TooLong = 1
status_after ReadFailed = 3
status_after NoBlock = 1
status_after OrdinaryData = 1
status_after BadEdge = 1
status_after NoNode = 1
status_after BadRange = 1
