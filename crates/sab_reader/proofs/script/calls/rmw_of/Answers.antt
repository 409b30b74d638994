use Rattle.std.proofs.Common.{◌∷◌, []}
use Rattle.serde_json.specs.Data.{Data}
use Rattle.serde_json.specs.View.{items_view}
use Rattle.sab_block.specs.declared.operand.Operand.{Operand}
use Rattle.sab_block.specs.RmwOp.{function_of_op}
use Rattle.sab_plan.specs.declared.argument.Argument.TheVariants.{Value}
use Rattle.sab_plan.specs.declared.call.Call.{Call}
use Rattle.sab_reader.specs.Script.Calls.{spelling_of, SpellsArguments, SpellsParts}
use Rattle.sab_reader.specs.Script.Known.{HasArguments}
use Rattle.sab_reader.specs.Script.Truth.{IsTrueOf}
use Rattle.sab_reader.proofs.OfScript.CallParts.{op_verb, named_call}
use Rattle.sab_reader.proofs.OfScript.Refusing.{exit_refuses}
use Rattle.sab_reader.proofs.OfScript.Exits.{exit_reported}
use Rattle.sab_reader.proofs.OfScript.CallReasons.{takes_rmw}
use Rattle.sab_reader.proofs.script.calls.rmw_of.Goals as goal

pub returns-in_err-value-clause-found : goal.returns-in_err-value-clause-found
returns-in_err-value-clause-found c =
    let a = c.args in
    let rest = items_view a.operands.now in
    exit_refuses (λ (call : Call). call) (λ (x : Operand). SpellsArguments rest (Value x ∷ []))
    (λ call. SpellsParts (function_of_op a.op) a.view a.index rest (spelling_of call)) c.from_residual.result _
    c.from_residual.ensures.1 c.in_err-value.ensures.found
    (λ call h.
    let named = rw (op_verb a.op) at (named_call (function_of_op a.op) a.view a.index rest call h) in
    (named.0, named.1))

pub returns-in_err-value-clause-reported : goal.returns-in_err-value-clause-reported
returns-in_err-value-clause-reported c =
    let a = c.args in
    let rest = items_view a.operands.now in
    exit_reported (λ e. (root : Data) → HasArguments root a.at (function_of_op a.op) rest → IsTrueOf root e)
    c.from_residual.result _ c.from_residual.ensures.1
    (λ root h. c.in_err-value.ensures.reported root (function_of_op a.op) h (takes_rmw a.op))
