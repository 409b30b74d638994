use Rattle.std.proofs.Common.{◌≡◌, ℕ, List, rules}
use Rattle.serde_json.specs.Data.{string}
use Rattle.serde_json.specs.declared.value.Value.{the_lemmas}
use Rattle.serde_json.specs.View.{view}
use Rattle.sab_refusal.specs.declared.reason.Wanted.TheVariants as wanted
use Rattle.sab_reader.specs.Script.Places.{CallsFor}
use Rattle.sab_reader.specs.Script.Truth.{IsTrueWhere}
use Rattle.sab_reader.proofs.OfScript.Exits.{exit_reported}
use Rattle.sab_reader.proofs.OfScript.ArgumentReasons.{number_as_operand}
use Rattle.sab_reader.proofs.script.operands.operand.Goals as goal

pub returns-in_err-big-clause-reported : goal.returns-in_err-big-clause-reported
returns-in_err-big-clause-reported c =
    let text : view c.args.tree.now ≡ string c.as_str.result.now =
    search (rules, the_lemmas) in
    exit_reported (IsTrueWhere c.args.at (view c.args.tree.now) (λ root. CallsFor root c.args.at wanted.Operand))
    c.from_residual.result _ c.from_residual.ensures.1 (rw text c.in_err-big.ensures.reported)

pub returns-in_err-number-clause-reported : goal.returns-in_err-number-clause-reported
returns-in_err-number-clause-reported c =
    let d = view c.args.tree.now in
    let other : (s : List ℕ) → view c.args.tree.now ≡ string s → ⊥ = search (rules, the_lemmas) in
    exit_reported (IsTrueWhere c.args.at d (λ root. CallsFor root c.args.at wanted.Operand))
    c.from_residual-in_err-number.result _ c.from_residual-in_err-number.ensures.1
    (λ root stands called. c.in_err-number.ensures.reported root stands
    (called, number_as_operand d other))
