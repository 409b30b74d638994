-- Equality of ends: values that the derived `==` finds equal are the same.
use Rattle.std.proofs.Common.{◌≡◌, true, rules}
use denote.Enum.Bare.{same_true}
use Rattle.sab_replay.specs.declared.script_runner.ended.Ended.{Ended}
use Rattle.sab_replay.specs.contracts.script_runner.ended.Ended.{the_type as ended_type}
use Rattle.sab_replay.specs.contracts.script_runner.ended.EndedPartialEq.TheImpl as ended

pub same_ended : (x y : Ended) → (ended.ghosts).eq x y ≡ true → x ≡ y
same_ended = same_true ended_type (search rules)
