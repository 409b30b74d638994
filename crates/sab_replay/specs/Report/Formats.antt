-- What reporting facts in each format returns.
use Rattle.std.specs.Prelude.{ℕ, List, Option, length}
use Rattle.sab_plan.specs.declared.schedule.Move.{Move}
use Rattle.sab_plan.specs.Plan.{PlanParts, IsPlan}
use Rattle.sab_plan.specs.Report.{ReportParts}
use Rattle.sab_report_text.specs.declared.text.lines.Lines.{Lines}
use Rattle.sab_report_text.specs.Words.Explained.{words_texts}
use Rattle.sab_report_text.specs.JsonLines.Lines.{json_texts}
use Rattle.sab_report_text.specs.JsonLines.SafeNumbers.{HasSafeNumbers}
use Rattle.sab_svg.specs.Xml.WellFormed.{IsDocument}
use Rattle.sab_svg.specs.Shape.{shape_of, HaveRoom}
use Rattle.sab_svg.specs.Picture.{svg_text}
use Rattle.sab_replay.specs.Report.Facts.{ReportsBy, ReportsFacts}
use Rattle.sab_replay.specs.Report.ReadsBack.{LinesReadBack}

-- the one report of the moves, and its explained text came behind what the writer held
abbrev pub Explains : ℕ → List (List ℕ) → PlanParts → Lines → List Move → Option (List ℕ) → Option (List ℕ)
    → ReportParts → Type 0
Explains column names plan lines = ReportsFacts (words_texts column names lines) plan

-- the one report of the moves, its text as JSON came behind what the writer held, and its lines are read as their
-- trees, if the plan's Numbers are safe integers
pub record ExplainsAsJson (names : List (List ℕ)) (lines : Lines) (plan : PlanParts) (moves : List Move)
    (old new : Option (List ℕ)) (report : ReportParts) : Type 0 where
  pub reported : ReportsFacts (json_texts names lines) plan moves old new report
  pub read_back : IsPlan plan → HasSafeNumbers plan → LinesReadBack names plan report

-- the one report of the moves, its picture came behind what the writer held, the text is a document of XML, and no call
-- runs into another lane
pub record Draws (names : List (List ℕ)) (plan : PlanParts) (moves : List Move) (old new : Option (List ℕ))
    (report : ReportParts) : Type 0 where
  pub reported : ReportsBy (svg_text names plan) plan moves old new report
  pub well_formed : IsDocument (svg_text names plan report reported.facts reported.standings)
  pub room : HaveRoom names plan (shape_of names plan (length report.schedule))
