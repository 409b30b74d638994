-- Equality of refusals: values that a derived `==` finds equal are the same.
use Rattle.std.proofs.Common.{◌≡◌, true, rules}
use denote.Enum.Bare.{same_true}
use Rattle.sab_sim.specs.declared.sim_fault.SimFault.{SimFault}
use Rattle.sab_sim.specs.contracts.sim_fault.SimFault.{the_type as sim_fault_type}
use Rattle.sab_sim.specs.contracts.sim_fault.SimFaultPartialEq.TheImpl as sim_fault

same_sim_fault : (x y : SimFault) → (sim_fault.ghosts).eq x y ≡ true → x ≡ y
same_sim_fault = same_true sim_fault_type (search rules)
