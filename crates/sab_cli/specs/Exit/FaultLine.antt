-- The line that reports a fault.
use Rattle.std.specs.Prelude.{ℕ, List, ◌++◌, codes, decimal}
use Rattle.sab_replay.specs.declared.faults.tool_fault.ToolFault.{ToolFault}
use Rattle.sab_replay.specs.Faults.ToolFault.{number_of, name_of}

-- the program's name, the fault's number, the fault's name
abbrev pub text_of : ToolFault → List ℕ
text_of fault = codes "sabsim: " ++ (decimal (number_of fault) ++ (codes " " ++ name_of fault))
