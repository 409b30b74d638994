use Rattle.std.proofs.Common.{◌≡◌, ℕ, refl, ap}
use Rattle.serde_json.specs.Data.{array}
use Rattle.serde_json.specs.View.{items_view}
use Rattle.sab_plan.specs.declared.plan.TheConstants.Plan.{MAX_CALLS}
use Rattle.sab_refusal.specs.Location.{item_at}
use Rattle.sab_refusal.specs.declared.location.Location.{Location}
use Rattle.sab_refusal.specs.declared.location.Location.TheVariants as at
use Rattle.sab_refusal.specs.declared.member.Member.TheVariants as M
use Rattle.sab_refusal.specs.declared.reason.Unit.TheVariants as unit
use Rattle.sab_reader.specs.Script.Known.{HasNames}
use Rattle.sab_reader.specs.Script.Truth.{IsTrueWhere, IsListOf, limit_of}
use Rattle.sab_reader.specs.Script.Views.{view_names}
use Rattle.sab_reader.proofs.OfScript.ArgumentReasons.{err_reported}
use Rattle.sab_reader.proofs.script.calls.read_calls.Goals as goal

pub returns-clause-reported : goal.returns-clause-reported
returns-clause-reported c =
    let a = c.args in
    let d = array (items_view a.trees.now) in
    let names = view_names a.views.now in
    err_reported (IsTrueWhere a.at d (λ root. IsListOf unit.Calls a.at × (MAX_CALLS ≡ limit_of unit.Calls)
    × ((k : ℕ) → ((i : ℕ) × (j : ℕ) × (item_at a.at k ≡ at.Call M.Agents i M.Calls j)) × HasNames root names)))
    (IsTrueWhere a.at d (λ root. ((i : ℕ) × (a.at ≡ at.Part M.Agents i M.Calls)) × HasNames root names))
    c.read_each.result c.read_each.ensures.reported (λ e reported root stands known. reported root stands
    (known.0, refl, λ k. ((known.0.0, k, ap (λ (p : Location). item_at p k) known.0.1), known.1)))
