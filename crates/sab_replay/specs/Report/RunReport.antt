-- What is written about a run.
use Rattle.std.specs.Prelude.{◌≡◌, ◌⊎◌, ℕ, List, length, Option}
use Rattle.std.specs.Io.KnownBytes.{Appends, Keeps}
use Rattle.sab_plan.specs.declared.schedule.Move.{Move}
use Rattle.sab_plan.specs.Plan.{PlanParts}
use Rattle.sab_plan.specs.Report.{ReportParts}
use Rattle.sab_plan.specs.declared.fact.Fact.{Fact}
use Rattle.sab_plan.specs.declared.standing.Standing.{Standing}
use Rattle.sab_report_text.specs.declared.text.lines.Lines.{Lines}
use Rattle.sab_report_text.specs.Text.Text.{text_by}
use Rattle.sab_report_text.specs.Words.Column.{column_of, HasRoom}
use Rattle.sab_replay.specs.Report.Facts.{AreFacts, AreStandings}
use Rattle.sab_report_text.specs.Words.Explained.{explained_text}
use Rattle.sab_report_text.specs.JsonLines.Lines.{json_text}
use Rattle.sab_replay.specs.Report.ReadsBack.{LinesReadBack}
use Rattle.sab_svg.specs.Xml.WellFormed.{IsDocument}
use Rattle.sab_svg.specs.Shape.{shape_of, HaveRoom}
use Rattle.sab_svg.specs.Picture.{svg_text}
use Rattle.sab_replay.specs.declared.faults.tool_fault.ToolFault.{ToolFault}
use Rattle.sab_replay.specs.declared.faults.tool_fault.ToolFault.TheVariants.{OutOfMemory, WriteFailed}
use Rattle.sab_replay.specs.ScriptRunner.Replay.{IsReplayOf}
use Rattle.sab_report_text.specs.declared.text.format.Format.{Format}
use Rattle.sab_report_text.specs.declared.text.format.Format.TheVariants.{Plain, Explained, Json, Svg}
use Rattle.sab_report_text.specs.declared.text.format.ReportForm.{ReportForm}

-- the facts of the report's entries and where its agents stand in the end make this text
pub record IsByFacts (text_of : List Fact → List (Option Standing) → List ℕ) (plan : PlanParts) (report : ReportParts)
    (text : List ℕ) : Type 0 where
  pub facts : List Fact
  pub facts_are : AreFacts plan report.journal facts
  pub standings : List (Option Standing)
  pub standings_are : AreStandings plan report.journal standings
  pub is_its : text ≡ text_of facts standings

-- the text of a report in a format, by the names of the plan's views; words begin in one column, each line of JSON reads
-- back as its tree, and a picture is a document of XML in which no call runs into another lane
abbrev pub IsTextIn : Format → Lines → List (List ℕ) → PlanParts → ReportParts → List ℕ → Type 0
IsTextIn Plain lines names plan report text = text ≡ text_by lines report
IsTextIn Explained lines names plan report text =
    IsByFacts (explained_text (column_of report) names plan lines report) plan report text
    × HasRoom report (column_of report)
IsTextIn Json lines names plan report text =
    IsByFacts (json_text names plan lines report) plan report text × LinesReadBack names plan report
IsTextIn Svg lines names plan report text =
    IsByFacts (svg_text names plan report) plan report text
    × IsDocument text
    × HaveRoom names plan (shape_of names plan (length report.schedule))

-- just the text of the report came behind what the writer held
pub record WritesReport (report_form : ReportForm) (names : List (List ℕ)) (plan : PlanParts) (report : ReportParts)
    (old new : Option (List ℕ)) : Type 0 where
  pub text : List ℕ
  pub text_is : IsTextIn report_form.format report_form.lines names plan report text
  pub written : Appends old new text

-- the one report of the moves was written
pub record ReportsMoves (report_form : ReportForm) (names : List (List ℕ)) (plan : PlanParts) (moves : List Move)
    (old new : Option (List ℕ)) (report : ReportParts) : Type 0 where
  pub is_its : IsReplayOf plan moves report
  pub reported : WritesReport report_form names plan report old new

-- the words of the one report of the moves begin at this column
abbrev pub IsColumnOf : PlanParts → List Move → ℕ → Type 0
IsColumnOf plan moves column = (report : ReportParts) → IsReplayOf plan moves report → column ≡ column_of report

-- there was no memory and nothing was written, or a write failed
abbrev pub IsReportingFault : Option (List ℕ) → Option (List ℕ) → ToolFault → Type 0
IsReportingFault old new fault = (Keeps old new × (fault ≡ OutOfMemory)) ⊎ (fault ≡ WriteFailed)
