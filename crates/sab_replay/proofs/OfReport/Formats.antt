-- The formats of a report, each as its writer's contract says.
use Rattle.std.proofs.Common.{◌≡◌, ◌∙◌, ℕ, List, Option, refl, subst, sym}
use Rattle.std.specs.Io.KnownBytes.{Appends}
use Rattle.sab_plan.specs.declared.schedule.Move.{Move}
use Rattle.sab_plan.specs.Plan.{PlanParts, IsPlan}
use Rattle.sab_plan.specs.Report.{ReportParts}
use Rattle.sab_report_text.specs.declared.text.lines.Lines.{Lines}
use Rattle.sab_report_text.specs.Text.Text.{text_by}
use Rattle.sab_report_text.specs.Words.Column.{column_of}
use Rattle.sab_plan.specs.declared.fact.Fact.{Fact}
use Rattle.sab_plan.specs.declared.standing.Standing.{Standing}
use Rattle.sab_replay.specs.Report.Facts.{ReportsBy}
use Rattle.sab_report_text.specs.Words.Explained.{explained_text}
use Rattle.sab_replay.specs.Report.Formats.{Explains}
use Rattle.sab_report_text.proofs.OfWords.Measuring.{has_room}
use Rattle.sab_report_text.specs.JsonLines.SafeNumbers.{HasSafeNumbers}
use Rattle.sab_replay.specs.Report.Formats.{ExplainsAsJson}
use Rattle.sab_report_text.specs.JsonLines.Lines.{json_text}
use Rattle.sab_svg.specs.Picture.{svg_text}
use Rattle.sab_replay.specs.Report.Formats.{Draws}
use Rattle.sab_replay.specs.ScriptRunner.Replay.{IsReplayOf}
use Rattle.sab_replay.specs.ScriptRunner.Racing.{IsRaceOf}
use Rattle.sab_report_text.specs.declared.text.format.Format.TheVariants.{Plain, Explained, Json, Svg}
use Rattle.sab_report_text.specs.declared.text.format.ReportForm.{ReportForm}
use Rattle.sab_replay.specs.Report.RunReport.{IsByFacts, WritesReport, ReportsMoves, IsColumnOf}
use Rattle.sab_replay.specs.Report.Racing.{ReportsRace}

-- a plain text that was written reports the run
plain : (report_form : ReportForm) (names : List (List ℕ)) (plan : PlanParts) (report : ReportParts)
    (old new : Option (List ℕ)) → report_form.format ≡ Plain → Appends old new (text_by report_form.lines report) → WritesReport report_form names plan report old new
plain report_form names plan report old new is w = record {
  text = text_by report_form.lines report;
  text_is = rw is refl;
  written = w;
}

pub reported_plainly : (report_form : ReportForm) (names : List (List ℕ)) (plan : PlanParts) (moves : List Move)
    (report : ReportParts) (old new : Option (List ℕ)) → report_form.format ≡ Plain → IsReplayOf plan moves report
    → Appends old new (text_by report_form.lines report) → ReportsMoves report_form names plan moves old new report
reported_plainly report_form names plan moves report old new is r w =
    record { is_its = r; reported = plain report_form names plan report old new is w }

pub raced_plainly : (report_form : ReportForm) (names : List (List ℕ)) (plan : PlanParts) (spins : ℕ) (report : ReportParts)
    (old new : Option (List ℕ)) → report_form.format ≡ Plain → IsRaceOf plan spins report
    → Appends old new (text_by report_form.lines report) → ReportsRace report_form names plan spins old new report
raced_plainly report_form names plan spins report old new is r w =
    record { is_its = r; reported = plain report_form names plan report old new is w }

-- one report alone has these moves, so what was measured is its column
pub is_its_column : (plan : PlanParts) (moves : List Move) (report : ReportParts) (column : ℕ)
    → IsReplayOf plan moves report → column ≡ column_of report → IsColumnOf plan moves column
is_its_column plan moves report column r is other o =
    let same : other ≡ report = r.one other o.fits (o.schedule ∙ sym r.schedule) in
    rw same is

pub in_its_column : (column : ℕ) (names : List (List ℕ)) (plan : PlanParts) (lines : Lines) (moves : List Move)
    (old new : Option (List ℕ)) (report : ReportParts) → IsColumnOf plan moves column
    → Explains column names plan lines moves old new report
    → Explains (column_of report) names plan lines moves old new report
in_its_column column names plan lines moves old new report is x =
    let its : column ≡ column_of report = is report x.is_its in
    subst (λ (c : ℕ). Explains c names plan lines moves old new report) its x

-- a text by facts that was written
by_facts : {text_of : ReportParts → List Fact → List (Option Standing) → List ℕ} {plan : PlanParts} {moves : List Move}
    {old new : Option (List ℕ)} {report : ReportParts} → (reported : ReportsBy text_of plan moves old new report)
    → IsByFacts (text_of report) plan report (text_of report reported.facts reported.standings)
by_facts reported = record {
  facts = reported.facts;
  facts_are = reported.facts_are;
  standings = reported.standings;
  standings_are = reported.standings_are;
  is_its = refl;
}

pub reported_explained : (report_form : ReportForm) (names : List (List ℕ)) (plan : PlanParts) (moves : List Move)
    (report : ReportParts) (old new : Option (List ℕ)) → report_form.format ≡ Explained
    → Explains (column_of report) names plan report_form.lines moves old new report
    → ReportsMoves report_form names plan moves old new report
reported_explained report_form names plan moves report old new is x = record {
  is_its = x.is_its;
  reported = record {
    text = explained_text (column_of report) names plan report_form.lines report x.facts x.standings;
    text_is = rw is (by_facts x, has_room report (column_of report) refl);
    written = x.written;
  };
}

pub reported_as_json : (report_form : ReportForm) (names : List (List ℕ)) (plan : PlanParts) (moves : List Move)
    (report : ReportParts) (old new : Option (List ℕ)) → report_form.format ≡ Json → IsPlan plan → HasSafeNumbers plan
    → ExplainsAsJson names report_form.lines plan moves old new report → ReportsMoves report_form names plan moves old new report
reported_as_json report_form names plan moves report old new is is_plan safe x = record {
  is_its = x.reported.is_its;
  reported = record {
    text = json_text names plan report_form.lines report x.reported.facts x.reported.standings;
    text_is = rw is (by_facts x.reported, x.read_back is_plan safe);
    written = x.reported.written;
  };
}

pub reported_as_picture : (report_form : ReportForm) (names : List (List ℕ)) (plan : PlanParts) (moves : List Move)
    (report : ReportParts) (old new : Option (List ℕ)) → report_form.format ≡ Svg → Draws names plan moves old new report
    → ReportsMoves report_form names plan moves old new report
reported_as_picture report_form names plan moves report old new is x = record {
  is_its = x.reported.is_its;
  reported = record {
    text = svg_text names plan report x.reported.facts x.reported.standings;
    text_is = rw is (by_facts x.reported, x.well_formed, x.room);
    written = x.reported.written;
  };
}

-- the moves of a race that are made again have its report
pub reported_again : (report_form : ReportForm) (names : List (List ℕ)) (plan : PlanParts) (spins : ℕ) (race again : ReportParts)
    (old new : Option (List ℕ)) → IsRaceOf plan spins race
    → ReportsMoves report_form names plan race.schedule old new again → ReportsRace report_form names plan spins old new again
reported_again report_form names plan spins race again old new r t =
    let same : again ≡ race = r.only again t.is_its.fits t.is_its.schedule in
    record { is_its = rw same r; reported = t.reported }
