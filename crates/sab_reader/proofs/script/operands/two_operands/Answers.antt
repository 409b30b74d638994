use Rattle.std.proofs.Common.{◌<◌, ◌≤◌, ◌^◌, ℕ, List, [], ◌∷◌, length, refl, arith, rules}
use Rattle.serde_json.specs.Data.{Data, Items}
use Rattle.serde_json.specs.View.{view, items_view}
use Rattle.sab_block.specs.declared.operand.Operand.{Operand}
use Rattle.serde_json.proofs.Views.{items_len-items_view}
use Rattle.sab_refusal.specs.declared.located.Located.{Located}
use Rattle.sab_refusal.specs.declared.location.Location.{Location}
use Rattle.sab_refusal.specs.declared.reason.Wanted.{Wanted}
use Rattle.sab_refusal.specs.declared.reason.Wanted.TheVariants as wanted
use Rattle.sab_reader.specs.Script.Numbers.{SpellsOperand}
use Rattle.sab_plan.specs.declared.argument.Argument.TheVariants.{Value}
use Rattle.sab_reader.specs.Script.Calls.{SpellsArguments}
use Rattle.sab_reader.specs.Script.Arguments.{TakesJust}
use Rattle.sab_reader.specs.Script.Known.{HasArguments}
use Rattle.sab_reader.specs.Script.Truth.{IsTrueOf}
use Rattle.sab_reader.proofs.OfScript.Lengths.{first_argument, second_argument, two_arguments}
use Rattle.sab_reader.proofs.OfScript.Refusing.{exit_refuses}
use Rattle.sab_reader.proofs.OfScript.Exits.{exit_reported}
use Rattle.sab_reader.proofs.OfScript.ArgumentReasons.{item_read, argument_stands, argument_called}
use Rattle.sab_reader.proofs.script.operands.two_operands.Goals as goal

pub returns-in_err-expected-clause-found : goal.returns-in_err-expected-clause-found
returns-in_err-expected-clause-found c =
    let trees = c.args.trees.now in
    exit_refuses (λ (p : Operand × Operand). p) (SpellsOperand (view c.expected-item.result))
    (λ p. SpellsArguments (items_view trees) (Value p.0 ∷ Value p.1 ∷ [])) c.from_residual.result _
    c.from_residual.ensures.1 c.in_err-expected.ensures.found
    (λ p h. (p.0, (first_argument trees c.expected-item.result (Value p.0) (Value p.1 ∷ []) c.expected-item.is h).0))

pub returns-in_err-replacement-clause-found : goal.returns-in_err-replacement-clause-found
returns-in_err-replacement-clause-found c =
    let trees = c.args.trees.now in
    exit_refuses (λ (p : Operand × Operand). p) (SpellsOperand (view c.replacement-item.result))
    (λ p. SpellsArguments (items_view trees) (Value p.0 ∷ Value p.1 ∷ [])) c.from_residual-in_err-replacement.result _
    c.from_residual-in_err-replacement.ensures.1 c.in_err-replacement.ensures.found
    (λ p h. (p.1, second_argument trees c.replacement-item.result (Value p.0) (Value p.1) [] c.replacement-item.is h))

pub returns-clause-found : goal.returns-clause-found
returns-clause-found c =
    two_arguments c.args.trees.now c.expected-item.result c.replacement-item.result _ _
    (omega (arith, c.in-len2.len_at_least, c.in-len2.len_below)) c.expected-item.is c.replacement-item.is
    c.in_ok-expected.ensures.found c.in_ok-replacement.ensures.found

abbrev types : List Wanted
types = wanted.Operand ∷ wanted.Operand ∷ []

-- what is reported about a refusal where the arguments of a call are known
abbrev Reported : Location → Items → Located → Type 0
Reported place ds e =
    (root : Data) (name : List ℕ) → HasArguments root place name ds → TakesJust name types → IsTrueOf root e

pub returns-in_default-clause-reported : goal.returns-in_default-clause-reported
returns-in_default-clause-reported c = λ root name h takes.
    let trees = c.args.trees.now in
    let fits : length trees < 2 ^ 63 = search rules in
    let wrong : 2 ≤ length trees → 2 < length trees = search rules in
    c.wrong_count.ensures.reported root name _ types h takes (items_len-items_view trees) refl wrong (omega (arith, fits))

pub returns-in_err-expected-clause-reported : goal.returns-in_err-expected-clause-reported
returns-in_err-expected-clause-reported c =
    let a = c.args in
    exit_reported (Reported a.at (items_view a.trees.now)) c.from_residual.result _ c.from_residual.ensures.1
    (λ root name h takes.
    let many = c.in-len2.len_at_least in
    let there = item_read a.trees.now 0 c.expected-item.result (omega (arith, many)) c.expected-item.is in
    c.in_err-expected.ensures.reported root (rw c.item.ensures (argument_stands root a.at name _ 0 _ h there))
    (rw c.item.ensures (argument_called root a.at name _ types 0 wanted.Operand h takes.longest refl)))

pub returns-in_err-replacement-clause-reported : goal.returns-in_err-replacement-clause-reported
returns-in_err-replacement-clause-reported c =
    let a = c.args in
    exit_reported (Reported a.at (items_view a.trees.now)) c.from_residual-in_err-replacement.result _
    c.from_residual-in_err-replacement.ensures.1
    (λ root name h takes.
    let many = c.in-len2.len_at_least in
    let there = item_read a.trees.now 1 c.replacement-item.result (omega (arith, many)) c.replacement-item.is in
    c.in_err-replacement.ensures.reported root (rw c.item-2.ensures (argument_stands root a.at name _ 1 _ h there))
    (rw c.item-2.ensures (argument_called root a.at name _ types 1 wanted.Operand h takes.longest refl)))
