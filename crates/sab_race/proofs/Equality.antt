-- Refusals and ways of sharing that the derived `==` finds equal are the same.
use Rattle.std.proofs.Common.{◌≡◌, true, rules}
use denote.Enum.Bare.{same_true}
use Rattle.sab_race.specs.declared.race_fault.RaceFault.{RaceFault}
use Rattle.sab_race.specs.contracts.race_fault.RaceFault.{the_type as race_fault_type}
use Rattle.sab_race.specs.contracts.race_fault.RaceFaultPartialEq.TheImpl as race_fault
use Rattle.sab_race.specs.declared.share.Share.{Share}
use Rattle.sab_race.specs.contracts.share.Share.{the_type as share_type}
use Rattle.sab_race.specs.contracts.share.SharePartialEq.TheImpl as share

same_race_fault : (x y : RaceFault) → (race_fault.ghosts).eq x y ≡ true → x ≡ y
same_race_fault = same_true race_fault_type (search rules)

pub same_share : (x y : Share) → (share.ghosts).eq x y ≡ true → x ≡ y
same_share = same_true share_type (search rules)
