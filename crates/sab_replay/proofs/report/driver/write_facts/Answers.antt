-- The start, what was reported about all entries, and the end.
use Rattle.std.proofs.Common.{◌∙◌, subst, sym}
use Rattle.std.specs.Io.KnownBytes.{Appends, append_known}
use Rattle.sab_plan.specs.Plan.{IsPlan}
use Rattle.sab_report_text.specs.Words.FactFormat.{Texts}
use Rattle.sab_replay.specs.Report.Facts.{ReportsEntries}
use Rattle.sab_replay.proofs.OfReport.Driving.{reports_facts}
use Rattle.sab_replay.proofs.OfReport.Memory.{few_blocks}
use Rattle.sab_replay.proofs.report.driver.write_facts.Goals as goal

pub write_end-requires : goal.write_end-requires
write_end-requires g c = record {
  few =
      few_blocks c.write_entries.new.explainer.plan c.finish-report.result
      (subst IsPlan (sym c.in_ok-write_entries.ensures.plan) c.requires.plan) c.finish-report.ensures.fits;
}

pub returns : goal.returns
returns g c =
    let texts = g.F.FactFormat.texts in
    let started = append_known (g.W.Write.contents c.write_start.new.w) c.write_start.new.chunk in
    let reported = append_known (g.W.Write.contents c.write_entries.new.w) c.write_entries.new.chunk in
    let entries : ReportsEntries (texts c.args.format.now) c.args.explainer.plan c.write_entries.new.explainer.journal started reported =
    subst (λ (t : Texts). ReportsEntries t c.args.explainer.plan c.write_entries.new.explainer.journal started reported)
    c.write_start.ensures.same c.in_ok-write_entries.ensures.reported in
    let last : Appends reported (g.W.Write.contents c.write_end.new.w)
    ((texts c.args.format.now).finish c.finish-report.result c.standings_of-standings.result) =
    subst (λ (t : Texts). Appends reported (g.W.Write.contents c.write_end.new.w)
    (t.finish c.finish-report.result c.standings_of-standings.result))
    (c.in_ok-write_entries.ensures.same ∙ c.write_start.ensures.same) c.in_ok-write_end.ensures in
    reports_facts (texts c.args.format.now) c.args.explainer.plan c.args.schedule.now c.write_entries.new.explainer
    c.finish-report.result c.standings_of-standings.result (g.W.Write.contents c.args.w.now) started reported
    (g.W.Write.contents c.write_end.new.w) c.new-chunk.result c.new-chunk.ensures
    c.in_ok-write_entries.ensures.plan c.in_ok-write_entries.ensures.moves c.in_ok-write_start.ensures.written entries
    c.standings_of-standings.ensures c.finish-report.ensures.fits c.finish-report.ensures.one
    c.finish-report.ensures.schedule c.finish-report.ensures.journal last
