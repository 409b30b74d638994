use Rattle.std.proofs.Common.{◌≡◌, ℕ, ℤ, List, [], Option, ◌∷◌, codes, refl, sym}
use Rattle.std.specs.Int.{w64}
use Rattle.std.proofs.lemmas.Int.{to_z-of_z}
use Rattle.serde_json.specs.Data.{Data, Items}
use Rattle.serde_json.specs.View.{items_view}
use Rattle.sab_block.specs.declared.operand.Operand.{Operand}
use Rattle.sab_block.specs.declared.rmw_op.RmwOp.{RmwOp}
use Rattle.sab_block.specs.RmwOp.{function_of_op}
use Rattle.sab_plan.specs.declared.argument.Argument.TheVariants.{Value}
use Rattle.sab_plan.specs.declared.call.Call.{Call}
use Rattle.sab_refusal.specs.declared.located.Located.{Located}
use Rattle.sab_refusal.specs.declared.location.Location.{Location}
use Rattle.sab_plan.specs.Call.{optional}
use Rattle.sab_reader.specs.Script.Calls.{spelling_of, SpellsArguments, SpellsParts}
use Rattle.sab_reader.proofs.OfScript.CallParts.{named_call, op_named}
use Rattle.sab_reader.specs.Script.Known.{HasArguments}
use Rattle.sab_reader.specs.Script.Truth.{IsTrueOf}
use Rattle.sab_reader.proofs.OfScript.Refusing.{exit_refuses}
use Rattle.sab_reader.proofs.OfScript.Exits.{exit_reported}
use Rattle.sab_reader.proofs.OfScript.CallReasons.{takes_load, takes_store, takes_compare_exchange, takes_wait, takes_notify}
use Rattle.sab_reader.proofs.script.calls.call_of.Goals as goal

pub returns-in_err-no_operand-in-load-clause-found : goal.returns-in_err-no_operand-in-load-clause-found
returns-in_err-no_operand-in-load-clause-found c =
    let a = c.args in
    let rest = items_view a.operands.now in
    exit_refuses (λ (call : Call). call) (λ (u : Unit {0}). SpellsArguments rest [])
    (λ call. SpellsParts a.name.now a.view a.index rest (spelling_of call)) c.from_residual.result _
    c.from_residual.ensures.1 c.in_err-no_operand-in-load.ensures.found
    (λ call h. (tt, (named_call (codes "load") a.view a.index rest call (rw c.in-load.is at h)).0))

pub returns-in_err-expected-in-compareExchange-clause-found :
    goal.returns-in_err-expected-in-compareExchange-clause-found
returns-in_err-expected-in-compareExchange-clause-found c =
    let a = c.args in
    let rest = items_view a.operands.now in
    exit_refuses (λ (call : Call). call)
    (λ (p : Operand × Operand). SpellsArguments rest (Value p.0 ∷ Value p.1 ∷ []))
    (λ call. SpellsParts a.name.now a.view a.index rest (spelling_of call))
    c.from_residual-in_err-expected-in-compareExchange.result _
    c.from_residual-in_err-expected-in-compareExchange.ensures.1
    c.in_err-expected-in-compareExchange.ensures.found
    (λ call h.
    let named = named_call (codes "compareExchange") a.view a.index rest call (rw c.in-compareExchange.is at h) in
    (named.0, named.1))

pub returns-in_err-value-in-wait-clause-found : goal.returns-in_err-value-in-wait-clause-found
returns-in_err-value-in-wait-clause-found c =
    let a = c.args in
    let rest = items_view a.operands.now in
    exit_refuses (λ (call : Call). call)
    (λ (p : Operand × Option ℤ). SpellsArguments rest (Value p.0 ∷ optional p.1))
    (λ call. SpellsParts a.name.now a.view a.index rest (spelling_of call))
    c.from_residual-in_err-value-in-wait.result _
    c.from_residual-in_err-value-in-wait.ensures.1 c.in_err-value-in-wait.ensures.found
    (λ call h.
    let named = named_call (codes "wait") a.view a.index rest call (rw c.in-wait.is at h) in
    (named.0, named.1))

pub returns-in_err-value-in-store-clause-found : goal.returns-in_err-value-in-store-clause-found
returns-in_err-value-in-store-clause-found c =
    let a = c.args in
    let rest = items_view a.operands.now in
    exit_refuses (λ (call : Call). call) (λ (x : Operand). SpellsArguments rest (Value x ∷ []))
    (λ call. SpellsParts a.name.now a.view a.index rest (spelling_of call))
    c.from_residual-in_err-value-in-store.result _
    c.from_residual-in_err-value-in-store.ensures.1 c.in_err-value-in-store.ensures.found
    (λ call h.
    let named = named_call (codes "store") a.view a.index rest call (rw c.in-store.is at h) in
    (named.0, named.1))

pub returns-in_err-count-in-notify-clause-found : goal.returns-in_err-count-in-notify-clause-found
returns-in_err-count-in-notify-clause-found c =
    let a = c.args in
    let rest = items_view a.operands.now in
    exit_refuses (λ (call : Call). call) (λ (n : Option ℤ). SpellsArguments rest (optional n))
    (λ call. SpellsParts a.name.now a.view a.index rest (spelling_of call))
    c.from_residual-in_err-count-in-notify.result _
    c.from_residual-in_err-count-in-notify.ensures.1 c.in_err-count-in-notify.ensures.found
    (λ call h.
    let named = named_call (codes "notify") a.view a.index rest call (rw c.in-notify.is at h) in
    (named.0, named.1))

pub returns-in_err-rmw_op-in_default-clause-found : goal.returns-in_err-rmw_op-in_default-clause-found
returns-in_err-rmw_op-in_default-clause-found c =
    let a = c.args in
    let other = c.in_default in
    exit_refuses (λ (call : Call). call) (λ (op : RmwOp). a.name.now ≡ function_of_op op)
    (λ call. SpellsParts a.name.now a.view a.index (items_view a.operands.now) (spelling_of call))
    c.from_residual-in_err-rmw_op-in_default.result _
    c.from_residual-in_err-rmw_op-in_default.ensures.1 c.in_err-rmw_op-in_default.ensures.found
    (λ call h. op_named a.name.now other.not-load other.not-store other.not-compareExchange other.not-wait
    other.not-notify call h.name)

pub returns-in_ok-no_operand-in-load-clause-found : goal.returns-in_ok-no_operand-in-load-clause-found
returns-in_ok-no_operand-in-load-clause-found c =
    let index = sym (to_z-of_z w64 c.args.index c.ranges.index) in
    record { name = c.in-load.is; view = refl; index = index; arguments = c.in_ok-no_operand-in-load.ensures.found }

pub returns-in_ok-value-in-store-clause-found : goal.returns-in_ok-value-in-store-clause-found
returns-in_ok-value-in-store-clause-found c =
    let index = sym (to_z-of_z w64 c.args.index c.ranges.index) in
    record { name = c.in-store.is; view = refl; index = index; arguments = c.in_ok-value-in-store.ensures.found }

pub returns-in_ok-expected-in-compareExchange-clause-found : goal.returns-in_ok-expected-in-compareExchange-clause-found
returns-in_ok-expected-in-compareExchange-clause-found c =
    let index = sym (to_z-of_z w64 c.args.index c.ranges.index) in
    let arguments = c.in_ok-expected-in-compareExchange.ensures.found in
    record { name = c.in-compareExchange.is; view = refl; index = index; arguments = arguments }

pub returns-in_ok-value-in-wait-clause-found : goal.returns-in_ok-value-in-wait-clause-found
returns-in_ok-value-in-wait-clause-found c =
    let index = sym (to_z-of_z w64 c.args.index c.ranges.index) in
    record { name = c.in-wait.is; view = refl; index = index; arguments = c.in_ok-value-in-wait.ensures.found }

pub returns-in_ok-count-in-notify-clause-found : goal.returns-in_ok-count-in-notify-clause-found
returns-in_ok-count-in-notify-clause-found c =
    let index = sym (to_z-of_z w64 c.args.index c.ranges.index) in
    record { name = c.in-notify.is; view = refl; index = index; arguments = c.in_ok-count-in-notify.ensures.found }

-- what is reported about a refusal where the name and the arguments of a call are known
abbrev Reported : Location → List ℕ → Items → Located → Type 0
Reported place name ds e = (root : Data) → HasArguments root place name ds → IsTrueOf root e

pub returns-in_err-no_operand-in-load-clause-reported : goal.returns-in_err-no_operand-in-load-clause-reported
returns-in_err-no_operand-in-load-clause-reported c =
    let a = c.args in
    exit_reported (Reported a.at a.name.now (items_view a.operands.now))
    c.from_residual.result _ c.from_residual.ensures.1
    (λ root h. c.in_err-no_operand-in-load.ensures.reported root a.name.now h (rw c.in-load.is takes_load))

pub returns-in_err-value-in-store-clause-reported : goal.returns-in_err-value-in-store-clause-reported
returns-in_err-value-in-store-clause-reported c =
    let a = c.args in
    exit_reported (Reported a.at a.name.now (items_view a.operands.now))
    c.from_residual-in_err-value-in-store.result _ c.from_residual-in_err-value-in-store.ensures.1
    (λ root h. c.in_err-value-in-store.ensures.reported root a.name.now h (rw c.in-store.is takes_store))

pub returns-in_err-expected-in-compareExchange-clause-reported :
    goal.returns-in_err-expected-in-compareExchange-clause-reported
returns-in_err-expected-in-compareExchange-clause-reported c =
    let a = c.args in
    exit_reported (Reported a.at a.name.now (items_view a.operands.now))
    c.from_residual-in_err-expected-in-compareExchange.result _
    c.from_residual-in_err-expected-in-compareExchange.ensures.1
    (λ root h. c.in_err-expected-in-compareExchange.ensures.reported root a.name.now h
    (rw c.in-compareExchange.is takes_compare_exchange))

pub returns-in_err-value-in-wait-clause-reported : goal.returns-in_err-value-in-wait-clause-reported
returns-in_err-value-in-wait-clause-reported c =
    let a = c.args in
    exit_reported (Reported a.at a.name.now (items_view a.operands.now))
    c.from_residual-in_err-value-in-wait.result _ c.from_residual-in_err-value-in-wait.ensures.1
    (λ root h. c.in_err-value-in-wait.ensures.reported root a.name.now h (rw c.in-wait.is takes_wait))

pub returns-in_err-count-in-notify-clause-reported : goal.returns-in_err-count-in-notify-clause-reported
returns-in_err-count-in-notify-clause-reported c =
    let a = c.args in
    exit_reported (Reported a.at a.name.now (items_view a.operands.now))
    c.from_residual-in_err-count-in-notify.result _ c.from_residual-in_err-count-in-notify.ensures.1
    (λ root h. c.in_err-count-in-notify.ensures.reported root a.name.now _ h refl (rw c.in-notify.is takes_notify))

pub returns-in_err-rmw_op-in_default-clause-reported : goal.returns-in_err-rmw_op-in_default-clause-reported
returns-in_err-rmw_op-in_default-clause-reported c =
    let a = c.args in
    let other = c.in_default in
    exit_reported (Reported a.at a.name.now (items_view a.operands.now))
    c.from_residual-in_err-rmw_op-in_default.result _ c.from_residual-in_err-rmw_op-in_default.ensures.1
    (λ root h. c.in_err-rmw_op-in_default.ensures.reported root h.i h.j h.is_place h.named
    (op_named a.name.now other.not-load other.not-store other.not-compareExchange other.not-wait other.not-notify))
