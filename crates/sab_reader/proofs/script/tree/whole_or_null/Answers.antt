use Rattle.std.proofs.Common.{◌≡◌, rules}
use Rattle.serde_json.specs.Data.{null}
use Rattle.serde_json.specs.View.{view}
use Rattle.serde_json.specs.declared.value.Value.{the_lemmas}
use Rattle.sab_refusal.specs.declared.reason.Wanted.TheVariants.{WholeOrNull}
use Rattle.sab_reader.specs.Script.Places.{CallsFor}
use Rattle.sab_reader.specs.Script.Truth.{IsTrueWhere}
use Rattle.sab_reader.proofs.OfScript.Exits.{exit_reported, number_as_optional}
use Rattle.sab_reader.proofs.script.tree.whole_or_null.Goals as goal

pub returns-in_err-whole-clause-reported : goal.returns-in_err-whole-clause-reported
returns-in_err-whole-clause-reported c =
    let d = view c.args.tree.now in
    let some : view c.args.tree.now ≡ null → ⊥ = search (rules, the_lemmas) in
    exit_reported (IsTrueWhere c.args.at d (λ root. CallsFor root c.args.at WholeOrNull)) c.from_residual.result
    c.in_err-whole.field-0.0 c.from_residual.ensures.1
    (λ root stands calls. c.in_err-whole.ensures.reported root stands (calls, number_as_optional d some))
