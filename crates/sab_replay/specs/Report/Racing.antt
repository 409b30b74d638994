-- What is written about a race.
use Rattle.std.specs.Prelude.{◌≡◌, ◌⊎◌, ℕ, List, Option}
use Rattle.std.specs.Io.KnownBytes.{Keeps}
use Rattle.sab_plan.specs.Plan.{PlanParts}
use Rattle.sab_plan.specs.Report.{ReportParts}
use Rattle.sab_replay.specs.declared.faults.tool_fault.ToolFault.{ToolFault}
use Rattle.sab_replay.specs.declared.faults.tool_fault.ToolFault.TheVariants.{WriteFailed}
use Rattle.sab_replay.specs.ScriptRunner.Racing.{IsRaceOf, IsUnraced}
use Rattle.sab_report_text.specs.declared.text.format.ReportForm.{ReportForm}
use Rattle.sab_replay.specs.Report.RunReport.{WritesReport}

-- the report of a race of the plan was written
pub record ReportsRace (report_form : ReportForm) (names : List (List ℕ)) (plan : PlanParts) (spins : ℕ)
    (old new : Option (List ℕ)) (report : ReportParts) : Type 0 where
  pub is_its : IsRaceOf plan spins report
  pub reported : WritesReport report_form names plan report old new

-- the race is refused and nothing was written, or a write failed
abbrev pub IsRaceReportingFault : PlanParts → ℕ → Option (List ℕ) → Option (List ℕ) → ToolFault → Type 0
IsRaceReportingFault plan spins old new fault =
    (Keeps old new × IsUnraced plan spins fault) ⊎ (fault ≡ WriteFailed)
