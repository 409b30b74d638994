-- Equality of faults: values that the derived `==` finds equal are the same.
use Rattle.std.proofs.Common.{◌≡◌, true, rules}
use denote.Enum.Bare.{same_true}
use Rattle.sab_refusal.specs.declared.read_fault.ReadFault.{ReadFault}
use Rattle.sab_refusal.specs.contracts.read_fault.ReadFault.{the_type as read_fault_type}
use Rattle.sab_refusal.specs.contracts.read_fault.ReadFaultPartialEq.TheImpl as read_fault

same_read_fault : (x y : ReadFault) → (read_fault.ghosts).eq x y ≡ true → x ≡ y
same_read_fault = same_true read_fault_type (search rules)
