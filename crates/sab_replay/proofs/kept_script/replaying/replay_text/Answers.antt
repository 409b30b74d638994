-- What is known of the run of a script's own moves.
use Rattle.std.proofs.Common.{◌≡◌, inr, ap, ◌∙◌}
use Rattle.serde_json.specs.View.{view}
use Rattle.sab_plan.specs.Report.{ReportParts}
use Rattle.sab_replay.specs.ScriptRunner.Replay.{IsReportOf}
use Rattle.sab_replay.proofs.OfScriptRunner.ReplaySteps.{spelled_moves}
use Rattle.sab_replay.specs.KeptScript.Keeping.{IsReplayUnkept}
use Rattle.sab_replay.proofs.OfKeptScript.KeptRuns.{kept, unkept, exit_fault}
use Rattle.sab_replay.proofs.OfKeptScript.NoFloat.{no_float}
use Rattle.sab_replay.proofs.kept_script.replaying.replay_text.Goals as goal

pub replay_moves-requires-clause-named : goal.replay_moves-requires-clause-named
replay_moves-requires-clause-named c =
    let spelled = c.in_ok-tree.ensures.parsed.spelled in
    rw (c.deref.ensures.value, c.into_parts-plan.ensures.schedule, c.into_parts-plan.ensures.plan)
    (spelled_moves _ spelled.move_trees _ spelled.schedule.0)

pub rescheduled_text-requires-clause-whole : goal.rescheduled_text-requires-clause-whole
rescheduled_text-requires-clause-whole c =
    no_float (view c.in_ok-tree.tree) c.in_ok-tree.setup c.in_ok-tree.ensures.parsed.spelled

pub returns-in_err-text-clause-err : goal.returns-in_err-text-clause-err
returns-in_err-text-clause-err c =
    let fault = c.in_err-text.field-0.0 in
    let report = c.in_ok-report.report in
    let its : IsReportOf c.in_ok-tree.setup report =
    rw (c.deref.ensures.value, c.into_parts-plan.ensures.schedule, c.into_parts-plan.ensures.plan) at
    c.in_ok-report.ensures in
    let moves : c.deref-2.result.now ≡ report.schedule =
    c.deref-2.ensures.value ∙ ap (λ (r : ReportParts). r.schedule) c.report.view_is in
    exit_fault (IsReplayUnkept c.args.script.now) c.from_residual-in_err-text.result fault
    c.from_residual-in_err-text.ensures.1
    (inr (unkept IsReportOf c.args.script.now (view c.in_ok-tree.tree) c.in_ok-tree.setup report fault
    c.in_ok-tree.ensures.parsed its (rw moves at c.in_err-text.ensures.err)))

pub returns-clause-kept : goal.returns-clause-kept
returns-clause-kept c =
    let report = c.in_ok-report.report in
    let its : IsReportOf c.in_ok-tree.setup report =
    rw (c.deref.ensures.value, c.into_parts-plan.ensures.schedule, c.into_parts-plan.ensures.plan) at
    c.in_ok-report.ensures in
    let moves : c.deref-2.result.now ≡ report.schedule =
    c.deref-2.ensures.value ∙ ap (λ (r : ReportParts). r.schedule) c.report.view_is in
    kept IsReportOf c.args.script.now (view c.in_ok-tree.tree) c.in_ok-tree.setup report c.in_ok-text.text.items
    c.in_ok-tree.ensures.parsed its its.fits its.one (rw moves at c.in_ok-text.ensures.text)
