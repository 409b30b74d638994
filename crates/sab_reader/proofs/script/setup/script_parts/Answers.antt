-- A script without its members spells nothing.
use Rattle.std.proofs.Common.{refl}
use Rattle.serde_json.specs.View.{view}
use Rattle.sab_reader.specs.Script.Truth.{IsTrueOf}
use Rattle.sab_reader.proofs.OfScript.Exits.{exit_reported}
use Rattle.sab_reader.proofs.OfScript.ScriptReasons.{agents_stand, schedule_stands, views_stand}
use Rattle.sab_reader.specs.Script.Setup.{Spells}
use Rattle.sab_reader.proofs.OfScript.Refusing.{exit_spells_none}
use Rattle.sab_reader.proofs.script.setup.script_parts.Goals as goal

pub returns-in_err-form-clause-err : goal.returns-in_err-form-clause-err
returns-in_err-form-clause-err c =
    exit_spells_none (Spells (view c.args.tree.now)) c.from_residual.result c.in_err-form.field-0.0
    c.from_residual.ensures.1
    (λ p h. c.in_err-form.ensures.err _ _ _ _ _ h.tree)

pub returns-in_err-form-clause-reported : goal.returns-in_err-form-clause-reported
returns-in_err-form-clause-reported c =
    exit_reported (IsTrueOf (view c.args.tree.now)) c.from_residual.result c.in_err-form.field-0.0 c.from_residual.ensures.1
    c.in_err-form.ensures.reported

pub returns-in_err-agents-clause-reported : goal.returns-in_err-agents-clause-reported
returns-in_err-agents-clause-reported c =
    let root = view c.args.tree.now in
    exit_reported (IsTrueOf root) c.from_residual-in_err-agents.result c.in_err-agents.field-0.0
    c.from_residual-in_err-agents.ensures.1
    (c.in_err-agents.ensures.reported root (agents_stand c.in_ok-form.form root _ _ _ _ c.in_ok-form.ensures.ok) refl)

pub returns-in_err-schedule-clause-reported : goal.returns-in_err-schedule-clause-reported
returns-in_err-schedule-clause-reported c =
    let root = view c.args.tree.now in
    exit_reported (IsTrueOf root) c.from_residual-in_err-schedule.result c.in_err-schedule.field-0.0
    c.from_residual-in_err-schedule.ensures.1
    (c.in_err-schedule.ensures.reported root (schedule_stands c.in_ok-form.form root _ _ _ _ c.in_ok-form.ensures.ok) refl)

pub returns-in_err-views-clause-reported : goal.returns-in_err-views-clause-reported
returns-in_err-views-clause-reported c =
    let root = view c.args.tree.now in
    exit_reported (IsTrueOf root) c.from_residual-in_err-views.result c.in_err-views.field-0.0
    c.from_residual-in_err-views.ensures.1
    (c.in_err-views.ensures.reported root (views_stand c.in_ok-form.form root _ _ _ _ c.in_ok-form.ensures.ok) refl)
