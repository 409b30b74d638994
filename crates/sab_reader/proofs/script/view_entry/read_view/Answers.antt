use Rattle.std.proofs.Common.{◌≡◌, ◌<◌, ℕ, List, Bor, length, ap, ◌∙◌}
use Rattle.serde_json.specs.Data.{object, Members}
use Rattle.serde_json.specs.View.{view, members_view}
use Rattle.sab_plan.specs.declared.plan_view.PlanView.{PlanView}
use Rattle.sab_reader.specs.declared.script.view_spec.ViewSpec.{ViewSpec}
use Rattle.sab_reader.specs.Script.Blocks.{with_block}
use Rattle.sab_reader.specs.Script.Views.{SpellsView}
use Rattle.sab_reader.proofs.OfScript.OneView.{block_part}
use Rattle.sab_reader.proofs.OfScript.Refusing.{exit_refuses}
use Rattle.sab_reader.specs.Script.Known.{HasLens}
use Rattle.sab_reader.specs.Script.ViewPlaces.{HasBlocks}
use Rattle.sab_reader.proofs.OfScript.Exits.{exit_reported}
use Rattle.sab_reader.proofs.OfScript.ViewParts.{IsDescriptionReported, IsViewReported, reported_of_view, blocks_from, if_err_more}
use Rattle.sab_reader.proofs.script.view_entry.read_view.Goals as goal

pub returns-in_err-block-clause-read : goal.returns-in_err-block-clause-read
returns-in_err-block-clause-read c =
    exit_refuses (λ (p : Bor (List ℕ) × ViewSpec × PlanView). (p.0.now, p.1)) (λ (p : ℕ × Members).
    (members_view c.in_ok-rest.rest ≡ with_block c.args.form p.0 p.1) × (p.0 < length c.args.lens.now)) (SpellsView
    c.args.form c.args.lens.now (view c.args.tree.now)) c.from_residual-in_err-block.result c.in_err-block.field-0.0
    c.from_residual-in_err-block.ensures.1 c.in_err-block.ensures.err
    (block_part c.args.form c.args.lens.now (view c.args.tree.now) (members_view c.in_ok-rest.rest)
    c.in_ok-rest.ensures.ok)

pub returns-in_err-block-clause-reported : goal.returns-in_err-block-clause-reported
returns-in_err-block-clause-reported c =
    let e = c.in_err-block.field-0.0 in
    exit_reported (IsViewReported c.args.at (view c.args.tree.now) (λ root. HasLens root c.args.form c.args.lens.now))
    c.from_residual-in_err-block.result e c.from_residual-in_err-block.ensures.1
    (reported_of_view c.args.at (view c.args.tree.now) (members_view c.in_ok-rest.rest) e
    (λ root. HasBlocks root c.args.form (length c.args.lens.now)) (λ root. HasLens root c.args.form c.args.lens.now)
    c.in_ok-rest.ensures.ok c.in_ok-rest.ensures.order
    (λ root h. blocks_from root c.args.form c.args.lens.now h) c.in_err-block.ensures.reported)

pub returns-clause-reported : goal.returns-clause-reported
returns-clause-reported c =
    let form = c.args.form in
    let lens = c.args.lens.now in
    let block = c.in_ok-block.block in
    let rest = members_view c.read_block.new.rest in
    let parts = c.in_ok-block.ensures.parts in
    if_err_more (IsDescriptionReported c.args.at lens block rest)
    (IsViewReported c.args.at (view c.args.tree.now) (λ root. HasLens root form lens)) c.read_description.result
    (λ e reported. reported_of_view c.args.at (view c.args.tree.now) (with_block form block rest) e
    (λ root. HasLens root form lens) (λ root. HasLens root form lens) (c.in_ok-rest.ensures.ok ∙ ap object parts)
    (rw parts at c.in_ok-rest.ensures.order) (λ root h. h) (reported form c.in_ok-block.ensures.form))
    c.read_description.ensures.reported
