use Rattle.std.proofs.Common.{◌<◌, ◌≤◌, ◌^◌, ℕ, List, [], ◌∷◌, length, refl, arith, rules}
use Rattle.serde_json.specs.Data.{Data}
use Rattle.serde_json.specs.View.{view, items_view}
use Rattle.sab_refusal.specs.declared.reason.Wanted.TheVariants as wanted
use Rattle.sab_reader.specs.Script.Places.{CallsFor}
use Rattle.sab_reader.specs.Script.Known.{HasArguments}
use Rattle.sab_reader.specs.Script.Truth.{IsTrueOf, IsTrueWhere}
use Rattle.sab_reader.specs.Script.Arguments.{TakesJust}
use Rattle.serde_json.proofs.Views.{items_len-items_view}
use Rattle.sab_reader.proofs.OfScript.ArgumentReasons.{err_reported, item_read, argument_stands, argument_called}
use Rattle.sab_reader.proofs.script.operands.one_operand.Goals as goal

pub returns-in_default-clause-reported : goal.returns-in_default-clause-reported
returns-in_default-clause-reported c = λ root name h takes.
    let trees = c.args.trees.now in
    let types = wanted.Operand ∷ [] in
    let fits : length trees < 2 ^ 63 = search rules in
    let wrong : 1 ≤ length trees → 1 < length trees = search rules in
    c.wrong_count.ensures.reported root name _ types h takes (items_len-items_view trees) refl wrong (omega (arith, fits))

pub returns-clause-reported : goal.returns-clause-reported
returns-clause-reported c =
    let a = c.args in
    let types = wanted.Operand ∷ [] in
    err_reported (IsTrueWhere c.item.result (view c.value-item.result) (λ root. CallsFor root c.item.result wanted.Operand))
    (λ e. (root : Data) (name : List ℕ) → HasArguments root a.at name (items_view a.trees.now) → TakesJust name types
    → IsTrueOf root e) c.operand.result c.operand.ensures.reported (λ e reported root name h takes.
    let there = item_read a.trees.now 0 c.value-item.result c.in-len1.len_at_least c.value-item.is in
    reported root (rw c.item.ensures (argument_stands root a.at name _ 0 _ h there))
    (rw c.item.ensures (argument_called root a.at name _ types 0 wanted.Operand h takes.longest refl)))
