-- Equality of faults: values that the derived `==` finds equal are the same.
use Rattle.std.proofs.Common.{◌≡◌, true, rules}
use denote.Enum.Bare.{same_true}
use Rattle.sab_replay.specs.declared.faults.tool_fault.ToolFault.{ToolFault}
use Rattle.sab_replay.specs.contracts.faults.tool_fault.ToolFault.{the_type as tool_fault_type}
use Rattle.sab_replay.specs.contracts.faults.tool_fault.ToolFaultPartialEq.TheImpl as tool_fault

pub same_tool_fault : (x y : ToolFault) → (tool_fault.ghosts).eq x y ≡ true → x ≡ y
same_tool_fault = same_true tool_fault_type (search rules)
