use Rattle.std.proofs.lemmas.Grind.{common_steps}
use Rattle.std.proofs.Common.{[], ◌∷◌, refl, arith}
use Rattle.sab_block.specs.declared.rmw_op.RmwOp.TheVariants.{Exchange, Add, Sub, And, Or, Xor}
use Rattle.sab_refusal.specs.declared.reason.Wanted.TheVariants as wanted
use Rattle.sab_reader.proofs.OfScript.CallParts.{no_name}
use Rattle.sab_reader.proofs.OfScript.CallReasons.{takes_load, takes_store, takes_rmw, takes_compare_exchange, takes_wait, takes_notify}
use Rattle.sab_reader.proofs.script.calls.elements_of.Goals as goal

pub returns-in-load : goal.returns-in-load
returns-in-load c = rw c.in-load.is (0, [], takes_load, refl, refl)

pub returns-in-store : goal.returns-in-store
returns-in-store c = rw c.in-store.is (1, wanted.Operand ∷ [], takes_store, refl, refl)

pub returns-in-exchange : goal.returns-in-exchange
returns-in-exchange c = rw c.in-exchange.is (1, wanted.Operand ∷ [], takes_rmw Exchange, refl, refl)

pub returns-in-add : goal.returns-in-add
returns-in-add c = rw c.in-add.is (1, wanted.Operand ∷ [], takes_rmw Add, refl, refl)

pub returns-in-sub : goal.returns-in-sub
returns-in-sub c = rw c.in-sub.is (1, wanted.Operand ∷ [], takes_rmw Sub, refl, refl)

pub returns-in-and : goal.returns-in-and
returns-in-and c = rw c.in-and.is (1, wanted.Operand ∷ [], takes_rmw And, refl, refl)

pub returns-in-or : goal.returns-in-or
returns-in-or c = rw c.in-or.is (1, wanted.Operand ∷ [], takes_rmw Or, refl, refl)

pub returns-in-xor : goal.returns-in-xor
returns-in-xor c = rw c.in-xor.is (1, wanted.Operand ∷ [], takes_rmw Xor, refl, refl)

pub returns-in-compareExchange : goal.returns-in-compareExchange
returns-in-compareExchange c = rw c.in-compareExchange.is (2, wanted.Operand ∷ wanted.Operand ∷ [], takes_compare_exchange, refl, refl)

pub returns-in-wait : goal.returns-in-wait
returns-in-wait c = rw c.in-wait.is (1, wanted.Operand ∷ wanted.Whole ∷ [], takes_wait, refl, refl)

pub returns-in-notify : goal.returns-in-notify
returns-in-notify c = rw c.in-notify.is (0, wanted.Whole ∷ [], takes_notify, refl, refl)

pub returns-in_default : goal.returns-in_default
returns-in_default c = grind (arith, common_steps, no_name)
