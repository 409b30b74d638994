-- What judging a script's run returns.
use Rattle.std.specs.Prelude.{◌≡◌, ◌⊎◌, ◌↔◌, ℕ, true, false, Bool, List, Option}
use Rattle.std.specs.Io.KnownBytes.{Appends, Keeps}
use Rattle.sab_plan.specs.Plan.{PlanParts}
use Rattle.sab_plan.specs.Report.{ReportParts}
use Rattle.sab_reader.specs.Script.Views.{view_names}
use Rattle.sab_reader.specs.Script.Setup.{SetupParts}
use Rattle.sab_reader.specs.Script.Script.{IsScriptOf}
use Rattle.sab_judge.specs.declared.race.Race.{Race}
use Rattle.sab_judge.specs.Race.{HaveNoRace}
use Rattle.sab_judge.specs.Verdict.{IsVerdict}
use Rattle.sab_replay.specs.Events.Events.{events_of}
use Rattle.sab_report_text.specs.declared.text.format.VerdictFormat.{VerdictFormat}
use Rattle.sab_verdict.specs.Json.{call_side, judged_calls}
use Rattle.sab_verdict.specs.ReadsBack.{LinesReadBack}
use Rattle.sab_verdict.specs.Verdict.{run_verdict_text}
use Rattle.sab_replay.specs.declared.faults.tool_fault.ToolFault.{ToolFault}
use Rattle.sab_replay.specs.declared.faults.tool_fault.ToolFault.TheVariants.{OrdinaryData, WriteFailed}
use Rattle.sab_replay.specs.ScriptRunner.Replay.{IsRefused, IsReportOf}
use Rattle.sab_replay.specs.ScriptRunner.Ended.{ended_of}
use Rattle.sab_replay.specs.declared.report.judging.TheConstants.{MAX_REPORTED}
use Rattle.sab_replay.specs.declared.report.judging.Judged.{Judged}
use Rattle.sab_replay.specs.Report.Ordinary.{has_ordinary_data}

-- just the verdict on the events of the run came behind what the writer held, its lines as JSON are read as their trees,
-- and it is said truly whether two of them race
pub record ReportsVerdict (format : VerdictFormat) (names : List (List ℕ)) (plan : PlanParts) (report : ReportParts)
    (old new : Option (List ℕ)) (is_racy : Bool) : Type 0 where
  pub races : List Race
  pub rest : ℕ
  pub data_races : ℕ
  pub verdict : IsVerdict (events_of plan report.journal) MAX_REPORTED races rest data_races
  pub racy : (is_racy ≡ false) ↔ HaveNoRace (events_of plan report.journal)
  pub written : Appends old new
      (run_verdict_text names plan report.journal (events_of plan report.journal) format races rest data_races)
  pub read_back :
      LinesReadBack (call_side names plan report.journal) judged_calls (events_of plan report.journal) races rest
      data_races

-- the script spells a setup without ordinary data, the run of its one report was judged, and so it ended
pub record JudgesAs (format : VerdictFormat) (old new : Option (List ℕ)) (script : List ℕ) (judged : Judged) :
    Type 0 where
  pub setup : SetupParts
  pub spelled : IsScriptOf script setup
  pub by_atomics : has_ordinary_data setup ≡ false
  pub report : ReportParts
  pub is_its : IsReportOf setup report
  pub reported : ReportsVerdict format (view_names setup.views) setup.plan report old new judged.is_racy
  pub ended_is : judged.ended ≡ ended_of report

-- the script spells a setup, which has ordinary data or hasn't
abbrev pub IsScriptWith : Bool → List ℕ → Type 0
IsScriptWith is_ordinary script =
    (setup : SetupParts) × IsScriptOf script setup × (has_ordinary_data setup ≡ is_ordinary)

-- the script is refused, or has ordinary data, and nothing was written; or it has none and a write failed
abbrev pub IsJudgeFault : Option (List ℕ) → Option (List ℕ) → List ℕ → ToolFault → Type 0
IsJudgeFault old new script fault =
    (Keeps old new × (IsRefused script fault ⊎ (fault ≡ OrdinaryData) × IsScriptWith true script))
    ⊎ ((fault ≡ WriteFailed) × IsScriptWith false script)
