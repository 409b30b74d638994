-- The verdict is that on the events of the report's journal.
use Rattle.std.proofs.Common.{◌≡◌, ap, ◌∙◌, sym, subst, All, ◌<◌, List}
use Rattle.sab_plan.specs.declared.entry.Entry.{Entry}
use Rattle.sab_plan.specs.declared.plan.TheConstants.Plan.{MAX_AGENTS}
use Rattle.sab_plan.specs.Report.{ReportParts}
use Rattle.sab_replay.proofs.OfEvents.Fitting.{agents_in_report}
use Rattle.sab_replay.proofs.OfReport.Verdicts.{verdict_reported}
use Rattle.sab_replay.proofs.report.judging.judge_report.Goals as goal

pub trace_of-requires-clause-agents : goal.trace_of-requires-clause-agents
trace_of-requires-clause-agents g c =
    let journal : c.as_slice-journal.result.now ≡ c.args.report.now.journal =
    c.as_slice-journal.ensures.value ∙ ap (λ (r : ReportParts). r.journal) c.report.view_is in
    subst (λ (j : List Entry). All (λ (e : Entry). e.agent < MAX_AGENTS) j) (sym journal)
    (agents_in_report c.args.plan.now c.args.report.now c.requires.plan c.requires.fits)

pub returns-in-Ok-clause-ok : goal.returns-in-Ok-clause-ok
returns-in-Ok-clause-ok g c =
    let journal : c.as_slice-journal.result.now ≡ c.args.report.now.journal =
    c.as_slice-journal.ensures.value ∙ ap (λ (r : ReportParts). r.journal) c.report.view_is in
    verdict_reported c.args.format c.args.names.now c.args.plan.now c.args.report.now c.as_slice-journal.result.now
    c.in_ok-trace.trace c.in_ok-verdict.verdict.races.items c.in_ok-verdict.verdict.rest
    c.in_ok-verdict.verdict.data_races c.has_no_race.result
    (g.W.Write.contents c.args.w.now) (g.W.Write.contents c.write_run_verdict.new.w)
    journal c.in_ok-trace.ensures c.in_ok-verdict.ensures
    (c.has_no_race.ensures c.in_ok-trace.trace _ c.in_ok-verdict.ensures) c.in-Ok.ensures.written
    (c.in-Ok.ensures.read_back c.requires.numbers)
