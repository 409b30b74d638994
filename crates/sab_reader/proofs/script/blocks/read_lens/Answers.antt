use Rattle.std.proofs.Common.{◌≡◌, ℕ, Some, inr, refl, sym, ap, ◌∙◌}
use Rattle.std.proofs.lemmas.Result.{IfErr-weaker}
use Rattle.serde_json.specs.Data.{array}
use Rattle.serde_json.specs.View.{view, items_view}
use Rattle.sab_plan.specs.declared.plan.TheConstants.Plan.{MAX_BLOCKS}
use Rattle.sab_refusal.specs.declared.location.Location.TheVariants as at
use Rattle.sab_refusal.specs.declared.member.Member.TheVariants as M
use Rattle.sab_refusal.specs.declared.reason.Unit.TheVariants as unit
use Rattle.sab_refusal.specs.Location.{item_at}
use Rattle.sab_reader.specs.Script.Places.{lens_member}
use Rattle.sab_reader.specs.Script.Truth.{IsTrueWhere, IsLenPlace, IsListOf, limit_of}
use Rattle.sab_reader.proofs.OfScript.ManyLens.{at_least_one, reads_lens}
use Rattle.sab_reader.proofs.script.blocks.read_lens.Goals as goal

pub returns-else-is_empty-clause-found : goal.returns-else-is_empty-clause-found
returns-else-is_empty-clause-found c =
    reads_lens c.args.form (view c.args.tree.now) c.in_ok-trees-in-Blocks.trees.now c.read_each.result c.in-Blocks.is
    c.in_ok-trees-in-Blocks.ensures.reads (at_least_one _ (sym c.is_empty.ensures ∙ c.if-is_empty.false))
    c.read_each.ensures.found

pub returns-else-is_empty-clause-reported : goal.returns-else-is_empty-clause-reported
returns-else-is_empty-clause-reported c =
    let place = c.args.at in
    let ds = items_view c.in_ok-trees-in-Blocks.trees.now in
    IfErr-weaker c.read_each.result
    (IsTrueWhere place (array ds) (λ root. IsListOf unit.Blocks place × (MAX_BLOCKS ≡ limit_of unit.Blocks)
    × ((i : ℕ) → IsLenPlace (item_at place i))))
    (IsTrueWhere place (view c.args.tree.now) (λ root. place ≡ at.Member (lens_member c.args.form)))
    (λ e reported root stands known.
    let list : place ≡ at.Member M.Blocks = rw c.in-Blocks.is at known in
    reported root (stands ∙ ap Some c.in_ok-trees-in-Blocks.ensures.reads)
    (list, refl, λ i. inr (i, ap (λ p. item_at p i) list)))
    c.read_each.ensures.reported
