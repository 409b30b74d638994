use Rattle.std.proofs.Common.{◌≡◌, ℕ, refl, ap}
use Rattle.std.proofs.lemmas.Result.{IfErr-weaker}
use Rattle.serde_json.specs.Data.{array}
use Rattle.serde_json.specs.View.{items_view}
use Rattle.sab_refusal.specs.declared.location.Location.TheVariants as at
use Rattle.sab_refusal.specs.declared.member.Member.TheVariants as M
use Rattle.sab_refusal.specs.declared.reason.Unit.TheVariants as unit
use Rattle.sab_refusal.specs.Location.{item_at}
use Rattle.sab_reader.specs.declared.script.schedule.TheConstants.{MAX_MOVES}
use Rattle.sab_reader.specs.Script.Truth.{IsTrueWhere, HasItems, IsListOf, limit_of}
use Rattle.sab_reader.proofs.script.schedule.read_schedule.Goals as goal

pub returns-clause-reported : goal.returns-clause-reported
returns-clause-reported c =
    let place = c.args.at in
    let agents = c.args.agents in
    let d = array (items_view c.args.trees.now) in
    IfErr-weaker c.read_each.result
    (IsTrueWhere place d (λ root. IsListOf unit.Moves place × (MAX_MOVES ≡ limit_of unit.Moves)
    × ((i : ℕ) → ((k : ℕ) × (item_at place i ≡ at.Item M.Schedule k)) × HasItems root (at.Member M.Agents) agents)))
    (IsTrueWhere place d (λ root. (place ≡ at.Member M.Schedule) × HasItems root (at.Member M.Agents) agents))
    (λ e reported root stands known. reported root stands
    (known.0, refl, λ i. ((i, ap (λ p. item_at p i) known.0), known.1)))
    c.read_each.ensures.reported
