-- When an input is refused.
use Rattle.std.specs.Prelude.{ℕ, ◌<◌, List, length, Option, IfSome, ⊤}
use Rattle.sab_replay.specs.declared.script_runner.input.TheConstants.{MAX_INPUT}
use Rattle.sab_replay.specs.declared.faults.tool_fault.ToolFault.{ToolFault}
use Rattle.sab_replay.specs.declared.faults.tool_fault.ToolFault.TheVariants.{OutOfMemory, TooLong, ReadFailed}

-- the fault is one that a reader calls for which had these bytes left, if so many are taken at most, or want of memory
abbrev pub IsFaultOfInput : ℕ → Option (List ℕ) → ToolFault → Type 0
IsFaultOfInput limit known OutOfMemory = ⊤
IsFaultOfInput limit known ReadFailed = ⊤
IsFaultOfInput limit known TooLong = IfSome known (λ bytes. limit < length bytes)
IsFaultOfInput limit known _ = ⊥

-- of a script
abbrev pub IsInputFault : Option (List ℕ) → ToolFault → Type 0
IsInputFault known fault = IsFaultOfInput MAX_INPUT known fault
