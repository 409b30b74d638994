use Rattle.std.proofs.Common.{ℕ, List, Bor, option_map, sym, ap, ◌∙◌}
use Rattle.serde_json.specs.Find.{as_str}
use Rattle.serde_json.specs.View.{view}
use Rattle.sab_refusal.specs.declared.reason.Wanted.TheVariants.{Text}
use Rattle.sab_reader.specs.Script.Places.{CallsFor}
use Rattle.sab_reader.specs.Script.Truth.{IsTrueWhere}
use Rattle.sab_reader.proofs.OfScript.Exits.{none_reported}
use Rattle.sab_reader.proofs.script.tree.text.Goals as goal

pub returns-clause-reported : goal.returns-clause-reported
returns-clause-reported c =
    let d = view c.args.tree.now in
    let reported = none_reported (IsTrueWhere c.args.at d (λ root. CallsFor root c.args.at Text)) c.as_str.result _
    (λ none root stands calls. (
      d,
      stands,
      calls,
      λ is.
          let bad = sym (ap (option_map (λ (s : Bor (List ℕ)). s.now)) none) ∙ c.as_str.ensures ∙ ap as_str is.1 in cc,
    )) in
    rw c.ok_or.ensures.value reported
