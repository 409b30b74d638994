-- What a reader of JSON makes of a report's lines.
use Rattle.std.specs.Prelude.{◌≡◌, ℕ, List, take, Option, Some, slice_get}
use Rattle.sab_plan.specs.declared.entry.Entry.{Entry}
use Rattle.sab_plan.specs.declared.fact.Fact.{Fact}
use Rattle.sab_plan.specs.declared.standing.Standing.{Standing}
use Rattle.sab_plan.specs.declared.progress.Progress.{Progress}
use Rattle.sab_plan.specs.Plan.{PlanParts}
use Rattle.sab_plan.specs.Report.{ReportParts}
use Rattle.sab_replay.specs.Explain.Fact.{IsFact}
use Rattle.sab_report_text.specs.JsonLines.FactData.{entry_data}
use Rattle.sab_report_text.specs.JsonLines.StandingData.{agent_data}
use Rattle.sab_report_text.specs.JsonLines.Lines.{block_data}
use Rattle.sab_report_text.specs.JsonLines.ReadsBack.{ReadsBack}
use Rattle.sab_replay.specs.Report.Facts.{IsStandingOf}

-- each line of a report, without its line feed, is read as its tree: the line of each entry with its fact, of each
-- block, and of each agent with where it stands
pub record LinesReadBack (names : List (List ℕ)) (plan : PlanParts) (report : ReportParts) : Type 0 where
  pub entries : (k : ℕ) (e : Entry) (fact : Fact) → slice_get report.journal k ≡ Some e
      → IsFact plan (take k report.journal) e fact → ReadsBack (entry_data names k e fact)
  pub blocks : (b : ℕ) (bytes : List ℕ) → slice_get report.blocks b ≡ Some bytes → ReadsBack (block_data b bytes)
  pub agents : (a : ℕ) (p : Progress) (s : Option Standing) → slice_get report.agents a ≡ Some p
      → IsStandingOf plan report.journal a s → ReadsBack (agent_data names a p s)
