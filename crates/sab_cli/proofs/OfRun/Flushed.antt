-- A flush after what was written.
use Rattle.std.proofs.Common.{ℕ, List, Option, Some, None, inr, refl, ◌∙◌}
use Rattle.std.specs.Io.KnownBytes.{Appends, Keeps}
use Rattle.sab_plan.specs.Plan.{PlanParts}
use Rattle.sab_plan.specs.Report.{ReportParts}
use Rattle.sab_reader.specs.Script.Setup.{SetupParts}
use Rattle.sab_replay.specs.KeptScript.Keeping.{KeepsRun, IsRaceIn}
use Rattle.sab_replay.specs.ScriptRunner.Replay.{IsReportOf}
use Rattle.sab_cli.specs.declared.command.job.RunForm.{RunForm}
use Rattle.sab_cli.specs.declared.command.job.RunForm.TheVariants.{Report, Script}
use Rattle.sab_replay.specs.declared.faults.tool_fault.ToolFault.TheVariants.{WriteFailed}
use Rattle.sab_cli.specs.Run.Racing.{RacesIn, IsFaultOfRace}
use Rattle.sab_cli.specs.Run.Running.{ReplaysIn, IsFaultOfReplay}
use Rattle.sab_replay.specs.declared.script_runner.ended.Ended.{Ended}
use Rattle.sab_report_text.specs.declared.text.format.ReportForm.{ReportForm}
use Rattle.sab_report_text.specs.declared.text.format.VerdictFormat.{VerdictFormat}
use Rattle.sab_replay.specs.Report.RunReport.{WritesReport}
use Rattle.sab_replay.specs.declared.report.judging.Judged.{Judged}
use Rattle.sab_replay.specs.Report.Judging.{JudgesAs, IsJudgeFault}
use Rattle.sab_replay.specs.Report.Reporting.{ReplaysAs, RacesAs}

pub appends_kept : (old mid new : Option (List ℕ)) (bs : List ℕ) → Appends old mid bs → Keeps mid new
    → Appends old new bs
appends_kept None mid new bs a k = tt
appends_kept (Some x) None new bs a k = absurd a
appends_kept (Some x) (Some y) None bs a k = absurd k
appends_kept (Some x) (Some y) (Some z) bs a k = k ∙ a

report_kept : (report_form : ReportForm) (names : List (List ℕ)) (plan : PlanParts) (report : ReportParts)
    (old mid new : Option (List ℕ)) → WritesReport report_form names plan report old mid → Keeps mid new
    → WritesReport report_form names plan report old new
report_kept report_form names plan report old mid new t k =
    record { text = t.text; text_is = t.text_is; written = appends_kept old mid new t.text t.written k }

flushed : (report_form : ReportForm) (old mid new : Option (List ℕ)) (script : List ℕ) (ended : Ended)
    → ReplaysAs report_form old mid script ended → Keeps mid new → ReplaysAs report_form old new script ended
flushed report_form old mid new script ended r k = record {
  setup = r.setup;
  spelled = r.spelled;
  report = r.report;
  is_its = r.is_its;
  reported = report_kept report_form _ r.setup.plan r.report old mid new r.reported k;
  ended_is = r.ended_is;
}

pub flushed_verdict : (format : VerdictFormat) (old mid new : Option (List ℕ)) (script : List ℕ) (judged : Judged)
    → JudgesAs format old mid script judged → Keeps mid new → JudgesAs format old new script judged
flushed_verdict format old mid new script judged j k = record {
  setup = j.setup;
  spelled = j.spelled;
  by_atomics = j.by_atomics;
  report = j.report;
  is_its = j.is_its;
  reported = record {
    races = j.reported.races;
    rest = j.reported.rest;
    data_races = j.reported.data_races;
    verdict = j.reported.verdict;
    racy = j.reported.racy;
    written = appends_kept old mid new _ j.reported.written k;
    read_back = j.reported.read_back;
  };
  ended_is = j.ended_is;
}

flushed_report : (report_form : ReportForm) (old mid new : Option (List ℕ)) (script : List ℕ) (spins : ℕ) (ended : Ended)
    → RacesAs report_form old mid script spins ended → Keeps mid new → RacesAs report_form old new script spins ended
flushed_report report_form old mid new script spins ended r k = record {
  setup = r.setup;
  spelled = r.spelled;
  report = r.report;
  is_its = r.is_its;
  reported = report_kept report_form _ r.setup.plan r.report old mid new r.reported k;
  ended_is = r.ended_is;
}

flushed_kept : (IsRun : SetupParts → ReportParts → Type 0) (old mid new : Option (List ℕ)) (script : List ℕ)
    (report : ReportParts) → KeepsRun IsRun old mid script report → Keeps mid new → KeepsRun IsRun old new script report
flushed_kept IsRun old mid new script report r k = (r.0, r.1, appends_kept old mid new (r.0) (r.2) k)

pub flushed_replay : (form : RunForm) (old mid new : Option (List ℕ)) (script : List ℕ) (ended : Ended)
    → ReplaysIn form old mid script ended → Keeps mid new → ReplaysIn form old new script ended
flushed_replay (Report report_form) old mid new script ended r k = flushed report_form old mid new script ended r k
flushed_replay Script old mid new script ended r k =
    (r.0, flushed_kept IsReportOf old mid new script r.0 r.1 k, r.2)

pub flushed_race : (form : RunForm) (old mid new : Option (List ℕ)) (script : List ℕ) (spins : ℕ) (ended : Ended)
    → RacesIn form spins old mid script ended → Keeps mid new → RacesIn form spins old new script ended
flushed_race (Report report_form) old mid new script spins ended r k =
    flushed_report report_form old mid new script spins ended r k
flushed_race Script old mid new script spins ended r k =
    (r.0, flushed_kept (IsRaceIn spins) old mid new script r.0 r.1 k, r.2)

-- if the flush fails, the script still spells a setup
pub unflushed_replay : (form : RunForm) (old mid new : Option (List ℕ)) (script : List ℕ) (ended : Ended)
    → ReplaysIn form old mid script ended → IsFaultOfReplay form old new script WriteFailed
unflushed_replay (Report report_form) old mid new script ended r = inr (refl, (r.setup, r.spelled))
unflushed_replay Script old mid new script ended r = inr (refl, (r.1.1.setup, r.1.1.spelled))

pub unflushed_race : (form : RunForm) (old mid new : Option (List ℕ)) (script : List ℕ) (spins : ℕ) (ended : Ended)
    → RacesIn form spins old mid script ended → IsFaultOfRace form spins old new script WriteFailed
unflushed_race (Report report_form) old mid new script spins ended r = inr (refl, (r.setup, r.spelled))
unflushed_race Script old mid new script spins ended r = inr (refl, (r.1.1.setup, r.1.1.spelled))

pub unflushed_verdict : (format : VerdictFormat) (old mid new : Option (List ℕ)) (script : List ℕ) (judged : Judged)
    → JudgesAs format old mid script judged → IsJudgeFault old new script WriteFailed
unflushed_verdict format old mid new script judged j = inr (refl, (j.setup, j.spelled, j.by_atomics))
