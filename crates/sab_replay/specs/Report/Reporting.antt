-- What replaying and racing a script answer.
use Rattle.std.specs.Prelude.{◌≡◌, ℕ, List, Option}
use Rattle.sab_plan.specs.Report.{ReportParts}
use Rattle.sab_reader.specs.Script.Views.{view_names}
use Rattle.sab_reader.specs.Script.Setup.{SetupParts}
use Rattle.sab_reader.specs.Script.Script.{IsScriptOf}
use Rattle.sab_replay.specs.ScriptRunner.Replay.{IsReportOf}
use Rattle.sab_replay.specs.ScriptRunner.Racing.{IsRaceOf}
use Rattle.sab_replay.specs.declared.script_runner.ended.Ended.{Ended}
use Rattle.sab_report_text.specs.declared.text.format.ReportForm.{ReportForm}
use Rattle.sab_replay.specs.ScriptRunner.Ended.{ended_of}
use Rattle.sab_replay.specs.Report.RunReport.{WritesReport}

-- the script spells a setup, its one report was written, and so it ended
pub record ReplaysAs (report_form : ReportForm) (old new : Option (List ℕ)) (script : List ℕ) (ended : Ended) : Type 0 where
  pub setup : SetupParts
  pub spelled : IsScriptOf script setup
  pub report : ReportParts
  pub is_its : IsReportOf setup report
  pub reported : WritesReport report_form (view_names setup.views) setup.plan report old new
  pub ended_is : ended ≡ ended_of report

-- the script spells a setup, the report of a race was written, and so it ended
pub record RacesAs (report_form : ReportForm) (old new : Option (List ℕ)) (script : List ℕ) (spins : ℕ) (ended : Ended) :
    Type 0 where
  pub setup : SetupParts
  pub spelled : IsScriptOf script setup
  pub report : ReportParts
  pub is_its : IsRaceOf setup.plan spins report
  pub reported : WritesReport report_form (view_names setup.views) setup.plan report old new
  pub ended_is : ended ≡ ended_of report
