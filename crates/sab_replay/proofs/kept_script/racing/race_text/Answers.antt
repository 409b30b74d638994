-- What is known of a race of a script's agents.
use Rattle.std.proofs.Common.{◌≡◌, inl, inr, ap, subst, ◌∙◌}
use Rattle.serde_json.specs.View.{view}
use Rattle.sab_plan.specs.Plan.{PlanParts}
use Rattle.sab_plan.specs.Report.{ReportParts}
use Rattle.sab_replay.specs.ScriptRunner.Racing.{IsRaceOf, IsUnraced}
use Rattle.sab_replay.specs.KeptScript.Keeping.{IsRaceIn, IsRaceUnkept}
use Rattle.sab_replay.proofs.OfKeptScript.KeptRuns.{script_of, kept, unkept, exit_fault}
use Rattle.sab_replay.proofs.OfKeptScript.NoFloat.{no_float}
use Rattle.sab_replay.proofs.kept_script.racing.race_text.Goals as goal

pub rescheduled_text-requires-clause-whole : goal.rescheduled_text-requires-clause-whole
rescheduled_text-requires-clause-whole g c =
    no_float (view c.in_ok-tree.tree) c.in_ok-tree.setup c.in_ok-tree.ensures.parsed.spelled

pub returns-in_err-report-clause-err : goal.returns-in_err-report-clause-err
returns-in_err-report-clause-err g c =
    let fault = c.in_err-report.field-0.0 in
    let setup = c.in_ok-tree.setup in
    let unraced : IsUnraced setup.plan c.args.spins fault =
    subst (λ (p : PlanParts). IsUnraced p c.args.spins fault) c.into_parts-plan.ensures.plan
    c.in_err-report.ensures.err in
    let spelled = script_of c.args.script.now (view c.in_ok-tree.tree) setup c.in_ok-tree.ensures.parsed in
    exit_fault (IsRaceUnkept c.args.spins c.args.script.now) c.from_residual-in_err-report.result fault
    c.from_residual-in_err-report.ensures.1
    (inr (inl (record { setup = setup; spelled = spelled; unraced = unraced })))

pub returns-in_err-text-clause-err : goal.returns-in_err-text-clause-err
returns-in_err-text-clause-err g c =
    let fault = c.in_err-text.field-0.0 in
    let report = c.in_ok-report.report in
    let race : IsRaceOf c.in_ok-tree.setup.plan c.args.spins report =
    subst (λ (p : PlanParts). IsRaceOf p c.args.spins report) c.into_parts-plan.ensures.plan
    c.in_ok-report.ensures.race in
    let moves : c.deref.result.now ≡ report.schedule =
    c.deref.ensures.value ∙ ap (λ (r : ReportParts). r.schedule) c.report.view_is in
    exit_fault (IsRaceUnkept c.args.spins c.args.script.now) c.from_residual-in_err-text.result fault
    c.from_residual-in_err-text.ensures.1
    (inr (inr (unkept (IsRaceIn c.args.spins) c.args.script.now (view c.in_ok-tree.tree) c.in_ok-tree.setup report
    fault c.in_ok-tree.ensures.parsed race (rw moves at c.in_err-text.ensures.err))))

pub returns-clause-kept : goal.returns-clause-kept
returns-clause-kept g c =
    let report = c.in_ok-report.report in
    let race : IsRaceOf c.in_ok-tree.setup.plan c.args.spins report =
    subst (λ (p : PlanParts). IsRaceOf p c.args.spins report) c.into_parts-plan.ensures.plan
    c.in_ok-report.ensures.race in
    let moves : c.deref.result.now ≡ report.schedule =
    c.deref.ensures.value ∙ ap (λ (r : ReportParts). r.schedule) c.report.view_is in
    kept (IsRaceIn c.args.spins) c.args.script.now (view c.in_ok-tree.tree) c.in_ok-tree.setup report
    c.in_ok-text.text.items c.in_ok-tree.ensures.parsed race race.race.fits race.only
    (rw moves at c.in_ok-text.ensures.text)
