use Rattle.std.proofs.lemmas.Grind.{common_steps}
use Rattle.std.proofs.Common.{◌≡◌, length, refl, ap, ◌∙◌, arith, rules}
use Rattle.sab_refusal.specs.declared.location.Location.TheVariants as at
use Rattle.serde_json.specs.View.{view, items_view}
use Rattle.sab_reader.specs.Script.Setup.{Spells, SetupParts}
use Rattle.sab_reader.specs.Script.Blocks.{SpellsLens}
use Rattle.sab_reader.specs.Script.Agents.{SpellsScripts}
use Rattle.sab_reader.specs.Script.Schedule.{SpellsSchedule}
use Rattle.sab_reader.specs.Script.Views.{SpellsViews, view_names}
use Rattle.sab_reader.proofs.OfScript.WholeScript.{lens_part, views_part, agents_part, schedule_part}
use Rattle.sab_reader.proofs.OfScript.WholePlan.{makes_plan}
use Rattle.sab_reader.proofs.OfScript.OnlySetup.{only_setup}
use Rattle.sab_reader.proofs.OfScript.Refusing.{exit_refuses}
use Rattle.sab_reader.specs.Script.Agents.{SpellsScript}
use Rattle.sab_reader.specs.Script.Truth.{IsTrueOf}
use Rattle.sab_reader.proofs.OfScript.KnownViews.{has_lens, has_names, count_of}
use Rattle.sab_reader.proofs.OfScript.Exits.{exit_reported}
use Rattle.sab_reader.proofs.OfScript.ScriptReasons.{agents_stand, lens_stand, schedule_stands, views_stand}
use Rattle.sab_reader.proofs.script.setup.locate_setup.Goals as goal

pub returns-in_err-form-clause-spelled : goal.returns-in_err-form-clause-spelled
returns-in_err-form-clause-spelled c =
    grind (arith, common_steps, view, exit_refuses, c.from_residual.ensures.1, c.in_err-form.ensures.err)

pub returns-in_err-lens-clause-spelled : goal.returns-in_err-lens-clause-spelled
returns-in_err-lens-clause-spelled c =
    let d = view c.args.tree.now in
    let tree = c.in_ok-form.ensures.ok in
    exit_refuses (λ (s : SetupParts). s) (SpellsLens c.in_ok-form.form (view c.in_ok-form.lens_tree.now)) (Spells d)
    c.from_residual-in_err-lens.result c.in_err-lens.field-0.0 c.from_residual-in_err-lens.ensures.1
    c.in_err-lens.ensures.found
    (lens_part d c.in_ok-form.form _ _ _ _ tree)

pub returns-in_err-views-clause-spelled : goal.returns-in_err-views-clause-spelled
returns-in_err-views-clause-spelled c =
    let d = view c.args.tree.now in
    let tree = c.in_ok-form.ensures.ok in
    exit_refuses (λ (s : SetupParts). s)
    (SpellsViews c.in_ok-form.form c.in_ok-lens.lens.items (items_view c.in_ok-form.view_trees.now))
    (Spells d) c.from_residual-in_err-views.result c.in_err-views.field-0.0 c.from_residual-in_err-views.ensures.1
    (rw c.deref.ensures.value at c.in_err-views.ensures.read)
    (views_part d c.in_ok-form.form _ _ _ _ c.in_ok-lens.lens.items tree c.in_ok-lens.ensures.found)

pub returns-in_err-scripts-clause-spelled : goal.returns-in_err-scripts-clause-spelled
returns-in_err-scripts-clause-spelled c =
    let d = view c.args.tree.now in
    let tree = c.in_ok-form.ensures.ok in
    exit_refuses (λ (s : SetupParts). s)
    (SpellsScripts (view_names c.in_ok-views.views) (items_view c.in_ok-form.agent_trees.now)) (Spells d)
    c.from_residual-in_err-scripts.result c.in_err-scripts.field-0.0 c.from_residual-in_err-scripts.ensures.1
    c.in_err-scripts.ensures.found
    (agents_part d c.in_ok-form.form _ _ _ c.in_ok-form.view_trees.now c.in_ok-lens.lens.items c.in_ok-views.views
    tree c.in_ok-lens.ensures.found (rw c.deref.ensures.value at c.in_ok-views.ensures.read))

pub returns-in_err-schedule-clause-spelled : goal.returns-in_err-schedule-clause-spelled
returns-in_err-schedule-clause-spelled c =
    let d = view c.args.tree.now in
    let tree = c.in_ok-form.ensures.ok in
    let ss = c.in_ok-scripts.scripts.items in
    let count : length ss ≡ c.len.result = omega arith in
    exit_refuses (λ (s : SetupParts). s) (SpellsSchedule c.len.result (items_view c.in_ok-form.move_trees.now))
    (Spells d) c.from_residual-in_err-schedule.result c.in_err-schedule.field-0.0
    c.from_residual-in_err-schedule.ensures.1 c.in_err-schedule.ensures.found
    (λ p h. rw count at (schedule_part d c.in_ok-form.form c.in_ok-form.agent_trees.now _ _ _
    (view_names c.in_ok-views.views) ss tree c.in_ok-scripts.ensures.found p h))

pub setup_by_parts-requires-clause-plan : goal.setup_by_parts-requires-clause-plan
setup_by_parts-requires-clause-plan c =
    makes_plan c.in_ok-form.form (view c.in_ok-form.lens_tree.now) c.in_ok-lens.lens.items _ _ c.in_ok-views.views
    c.in_ok-views.plan_views.items c.in_ok-scripts.scripts.items
    c.in_ok-lens.ensures.found (rw c.deref.ensures.value at c.in_ok-views.ensures.read)
    (rw c.deref.ensures.value at c.in_ok-views.ensures.made) c.in_ok-scripts.ensures.found

pub returns-clause-only : goal.returns-clause-only
returns-clause-only c = only_setup (view c.args.tree.now) _ (search rules)

pub returns-in_err-form-clause-reported : goal.returns-in_err-form-clause-reported
returns-in_err-form-clause-reported c =
    exit_reported (IsTrueOf (view c.args.tree.now)) c.from_residual.result c.in_err-form.field-0.0 c.from_residual.ensures.1
    c.in_err-form.ensures.reported

pub returns-in_err-lens-clause-reported : goal.returns-in_err-lens-clause-reported
returns-in_err-lens-clause-reported c =
    let root = view c.args.tree.now in
    let place = ap at.Member c.lens_member.ensures.member in
    exit_reported (IsTrueOf root) c.from_residual-in_err-lens.result c.in_err-lens.field-0.0
    c.from_residual-in_err-lens.ensures.1
    (c.in_err-lens.ensures.reported root
    (rw c.lens_member.ensures.member (lens_stand c.in_ok-form.form root _ _ _ _ c.in_ok-form.ensures.ok)) place)

pub returns-in_err-views-clause-reported : goal.returns-in_err-views-clause-reported
returns-in_err-views-clause-reported c =
    let root = view c.args.tree.now in
    let form = c.in_ok-form.form in
    let tree = c.in_ok-form.ensures.ok in
    let known = has_lens root form _ c.in_ok-lens.lens.items (lens_stand form root _ _ _ _ tree)
    c.in_ok-form.ensures.form c.in_ok-lens.ensures.found in
    exit_reported (IsTrueOf root) c.from_residual-in_err-views.result c.in_err-views.field-0.0
    c.from_residual-in_err-views.ensures.1
    (c.in_err-views.ensures.reported root (views_stand form root _ _ _ _ tree) (refl, rw c.deref.ensures.value known))

pub returns-in_err-scripts-clause-reported : goal.returns-in_err-scripts-clause-reported
returns-in_err-scripts-clause-reported c =
    let root = view c.args.tree.now in
    let form = c.in_ok-form.form in
    let tree = c.in_ok-form.ensures.ok in
    let known = has_names root form c.in_ok-lens.lens.items (items_view c.in_ok-form.view_trees.now) c.in_ok-views.views
    (views_stand form root _ _ _ _ tree) (rw c.deref.ensures.value at c.in_ok-views.ensures.read) in
    exit_reported (IsTrueOf root) c.from_residual-in_err-scripts.result c.in_err-scripts.field-0.0
    c.from_residual-in_err-scripts.ensures.1
    (c.in_err-scripts.ensures.reported root (agents_stand form root _ _ _ _ tree) (refl, known))

pub returns-in_err-schedule-clause-reported : goal.returns-in_err-schedule-clause-reported
returns-in_err-schedule-clause-reported c =
    let root = view c.args.tree.now in
    let form = c.in_ok-form.form in
    let tree = c.in_ok-form.ensures.ok in
    let agents = items_view c.in_ok-form.agent_trees.now in
    let ss = c.in_ok-scripts.scripts.items in
    let each = c.in_ok-scripts.ensures.found.0 in
    let count : length ss ≡ c.len.result = omega arith in
    let many = count_of (SpellsScript (view_names c.in_ok-views.views)) agents ss each ∙ count in
    exit_reported (IsTrueOf root) c.from_residual-in_err-schedule.result c.in_err-schedule.field-0.0
    c.from_residual-in_err-schedule.ensures.1
    (c.in_err-schedule.ensures.reported root (schedule_stands form root _ _ _ _ tree)
    (refl, (agents, agents_stand form root _ _ _ _ tree, many)))
