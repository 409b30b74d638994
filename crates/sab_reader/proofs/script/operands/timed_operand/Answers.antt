use Rattle.std.proofs.Common.{◌<◌, ◌^◌, ℕ, ℤ, List, Option, [], ◌∷◌, drop, length, refl, arith, rules}
use Rattle.serde_json.specs.Data.{Data, Items}
use Rattle.serde_json.specs.View.{view, items_view}
use Rattle.sab_block.specs.declared.operand.Operand.{Operand}
use Rattle.serde_json.proofs.Views.{items_len-items_view}
use Rattle.sab_refusal.specs.declared.located.Located.{Located}
use Rattle.sab_refusal.specs.declared.location.Location.{Location}
use Rattle.sab_refusal.specs.declared.reason.Wanted.TheVariants as wanted
use Rattle.sab_reader.specs.Script.Numbers.{SpellsOperand}
use Rattle.sab_plan.specs.declared.argument.Argument.TheVariants.{Value}
use Rattle.sab_plan.specs.Call.{optional}
use Rattle.sab_reader.specs.Script.Calls.{SpellsArguments}
use Rattle.sab_reader.specs.Script.Arguments.{TakesTimed}
use Rattle.sab_reader.specs.Script.Known.{HasArguments}
use Rattle.sab_reader.specs.Script.Truth.{IsTrueOf}
use Rattle.sab_reader.proofs.OfScript.Lengths.{as_many, rest_whole, first_argument, argument_then}
use Rattle.sab_reader.proofs.OfScript.Refusing.{exit_refuses}
use Rattle.sab_reader.proofs.OfScript.Exits.{exit_reported}
use Rattle.sab_reader.proofs.OfScript.ArgumentReasons.{item_read, behind_first, argument_stands, argument_called}
use Rattle.sab_reader.proofs.script.operands.timed_operand.Goals as goal

pub returns-in_default-clause-found : goal.returns-in_default-clause-found
returns-in_default-clause-found c = rw c.wrong_count.ensures.fault (λ p h.
    let count = as_many c.args.trees.now (Value p.0 ∷ optional p.1) h in
    let few = c.in_default.len_below in absurd (omega (arith, count, few)))

pub returns-in_err-value-clause-found : goal.returns-in_err-value-clause-found
returns-in_err-value-clause-found c =
    let trees = c.args.trees.now in
    exit_refuses (λ (p : Operand × Option ℤ). p) (SpellsOperand (view c.value-item.result))
    (λ p. SpellsArguments (items_view trees) (Value p.0 ∷ optional p.1)) c.from_residual.result _
    c.from_residual.ensures.1 c.in_err-value.ensures.found
    (λ p h. (p.0, (first_argument trees c.value-item.result (Value p.0) (optional p.1) c.value-item.is h).0))

pub returns-in_err-timeout-clause-found : goal.returns-in_err-timeout-clause-found
returns-in_err-timeout-clause-found c =
    let trees = c.args.trees.now in
    let rest = items_view (drop 1 trees) in
    exit_refuses (λ (p : Operand × Option ℤ). p) (λ (o : Option ℤ). SpellsArguments rest (optional o))
    (λ p. SpellsArguments (items_view trees) (Value p.0 ∷ optional p.1)) c.from_residual-in_err-timeout.result _
    c.from_residual-in_err-timeout.ensures.1 (rw rest_whole at c.in_err-timeout.ensures.found)
    (λ p h. (p.1, (first_argument trees c.value-item.result (Value p.0) (optional p.1) c.value-item.is h).1))

pub returns-clause-found : goal.returns-clause-found
returns-clause-found c =
    argument_then c.args.trees.now c.value-item.result _ _ c.in-len1-up.len_at_least c.value-item.is
    c.in_ok-value.ensures.found (rw rest_whole at c.in_ok-timeout.ensures.found)

-- what is reported about a refusal where the arguments of a call are known
abbrev Reported : Location → Items → Located → Type 0
Reported place ds e = (root : Data) (name : List ℕ) → HasArguments root place name ds → TakesTimed name 1 → IsTrueOf root e

pub returns-in_default-clause-reported : goal.returns-in_default-clause-reported
returns-in_default-clause-reported c = λ root name h takes.
    let trees = c.args.trees.now in
    let types = wanted.Operand ∷ wanted.Whole ∷ [] in
    let fits : length trees < 2 ^ 63 = search rules in
    let few = c.in_default.len_below in
    c.wrong_count.ensures.reported root name _ types h takes (items_len-items_view trees) refl
    (λ some. omega (arith, few, some)) (omega (arith, fits))

pub returns-in_err-value-clause-reported : goal.returns-in_err-value-clause-reported
returns-in_err-value-clause-reported c =
    let a = c.args in
    let types = wanted.Operand ∷ wanted.Whole ∷ [] in
    exit_reported (Reported a.at (items_view a.trees.now)) c.from_residual.result _ c.from_residual.ensures.1
    (λ root name h takes.
    let there = item_read a.trees.now 0 c.value-item.result c.in-len1-up.len_at_least c.value-item.is in
    c.in_err-value.ensures.reported root (rw c.item.ensures (argument_stands root a.at name _ 0 _ h there))
    (rw c.item.ensures (argument_called root a.at name _ types 0 wanted.Operand h takes.longest refl)))

pub returns-in_err-timeout-clause-reported : goal.returns-in_err-timeout-clause-reported
returns-in_err-timeout-clause-reported c =
    let a = c.args in
    exit_reported (Reported a.at (items_view a.trees.now)) c.from_residual-in_err-timeout.result _
    c.from_residual-in_err-timeout.ensures.1
    (λ root name h takes. c.in_err-timeout.ensures.reported root name _ h
    (rw rest_whole (behind_first a.trees.now c.in-len1-up.len_at_least)) takes)
