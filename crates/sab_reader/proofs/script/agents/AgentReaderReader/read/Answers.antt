use Rattle.std.proofs.Common.{◌≡◌, ℕ, List, Some, refl, ap, ◌∙◌}
use Rattle.serde_json.specs.Data.{Data}
use Rattle.serde_json.specs.View.{view}
use Rattle.sab_refusal.specs.declared.location.Location.{Location}
use Rattle.sab_refusal.specs.declared.location.Location.TheVariants as at
use Rattle.sab_refusal.specs.declared.member.Member.TheVariants as M
use Rattle.sab_refusal.specs.Location.{member_at}
use Rattle.sab_reader.specs.Script.Known.{HasNames}
use Rattle.sab_reader.specs.Script.Truth.{IsTrueWhere}
use Rattle.sab_reader.specs.Script.Views.{view_names}
use Rattle.sab_reader.proofs.OfScript.Standing.{part_of_item}
use Rattle.sab_reader.proofs.OfScript.Exits.{exit_reported}
use Rattle.sab_reader.proofs.script.agents.AgentReaderReader.read.Goals as goal

abbrev Known : Location → List (List ℕ) → Data → Type 0
Known place names root = ((i : ℕ) × (place ≡ at.Item M.Agents i)) × HasNames root names

pub returns-in_err-block_tree-clause-reported : goal.returns-in_err-block_tree-clause-reported
returns-in_err-block_tree-clause-reported c =
    let names = view_names c.args.self.now.views.now in
    exit_reported (IsTrueWhere c.args.at (view c.args.tree.now) (Known c.args.at names)) c.from_residual.result
    c.in_err-block_tree.field-0.0 c.from_residual.ensures.1
    (λ root stands known. c.in_err-block_tree.ensures.reported root stands known.0)

pub returns-in_err-can_block-clause-reported : goal.returns-in_err-can_block-clause-reported
returns-in_err-can_block-clause-reported c =
    let names = view_names c.args.self.now.views.now in
    let d = view c.args.tree.now in
    let x = view c.in_ok-block_tree.block_tree.now in
    let below = c.member.ensures in
    exit_reported (IsTrueWhere c.args.at d (Known c.args.at names)) c.from_residual-in_err-can_block.result
    c.in_err-can_block.field-0.0 c.from_residual-in_err-can_block.ensures.1
    (λ root stands known.
    let place = below ∙ ap (λ p. member_at p M.Block) known.0.1 in
    c.in_err-can_block.ensures.reported root
    (rw below (part_of_item M.Agents M.Block known.0.0 root c.args.at d x _ known.0.1 stands
    c.in_ok-block_tree.ensures.ok refl))
    (rw place refl))

pub returns-in_err-trees-clause-reported : goal.returns-in_err-trees-clause-reported
returns-in_err-trees-clause-reported c =
    let names = view_names c.args.self.now.views.now in
    let d = view c.args.tree.now in
    let x = view c.in_ok-block_tree.calls_tree.now in
    let below = c.member-at_calls.ensures in
    exit_reported (IsTrueWhere c.args.at d (Known c.args.at names)) c.from_residual-in_err-trees.result
    c.in_err-trees.field-0.0 c.from_residual-in_err-trees.ensures.1
    (λ root stands known.
    let place = below ∙ ap (λ p. member_at p M.Calls) known.0.1 in
    c.in_err-trees.ensures.reported root
    (rw below (part_of_item M.Agents M.Calls known.0.0 root c.args.at d x _ known.0.1 stands
    c.in_ok-block_tree.ensures.ok refl))
    (rw place refl))

pub returns-in_err-calls-clause-reported : goal.returns-in_err-calls-clause-reported
returns-in_err-calls-clause-reported c =
    let names = view_names c.args.self.now.views.now in
    let d = view c.args.tree.now in
    let x = view c.in_ok-block_tree.calls_tree.now in
    let below = c.member-at_calls.ensures in
    exit_reported (IsTrueWhere c.args.at d (Known c.args.at names)) c.from_residual-in_err-calls.result
    c.in_err-calls.field-0.0 c.from_residual-in_err-calls.ensures.1
    (λ root stands known.
    let place = below ∙ ap (λ p. member_at p M.Calls) known.0.1 in
    c.in_err-calls.ensures.reported root
    (rw below (part_of_item M.Agents M.Calls known.0.0 root c.args.at d x _ known.0.1 stands
    c.in_ok-block_tree.ensures.ok refl ∙ ap Some c.in_ok-trees.ensures.reads))
    ((known.0.0, place), known.1))
