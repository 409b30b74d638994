-- What a job without threads does with the script that a reader gives.
use Rattle.std.specs.Prelude.{◌≡◌, ◌⊎◌, ℕ, ◌≤◌, List, length, Option, IfSome}
use Rattle.std.specs.Io.KnownBytes.{Appends, Keeps}
use Rattle.sab_replay.specs.declared.script_runner.input.TheConstants.{MAX_INPUT}
use Rattle.sab_replay.specs.declared.faults.tool_fault.ToolFault.{ToolFault}
use Rattle.sab_replay.specs.declared.faults.tool_fault.ToolFault.TheVariants.{OutOfMemory, WriteFailed}
use Rattle.sab_replay.specs.ScriptRunner.Input.{IsInputFault}
use Rattle.sab_plan.specs.Report.{ReportParts}
use Rattle.sab_reader.specs.Script.Setup.{SetupParts}
use Rattle.sab_replay.specs.ScriptRunner.Replay.{IsReportOf, IsReplayFault}
use Rattle.sab_replay.specs.declared.script_runner.ended.Ended.{Ended}
use Rattle.sab_replay.specs.ScriptRunner.Ended.{ended_of}
use Rattle.sab_replay.specs.Report.Reporting.{ReplaysAs}
use Rattle.sab_replay.specs.declared.report.judging.Judged.{Judged}
use Rattle.sab_replay.specs.Report.Judging.{JudgesAs, IsJudgeFault}
use Rattle.sab_replay.specs.KeptScript.Keeping.{KeepsRun, IsReplayUnkept, IsKeepFault}
use Rattle.sab_reader.specs.Check.Checked.{IsAccepted, IsRefused}
use Rattle.sab_cli.specs.declared.command.job.RunForm.{RunForm}
use Rattle.sab_cli.specs.declared.command.job.RunForm.TheVariants.{Report, Script}
use Rattle.sab_cli.specs.declared.command.job.Job.{Job}
use Rattle.sab_cli.specs.declared.command.job.Job.TheVariants.{Replay, Check, Judge}
use Rattle.sab_cli.specs.declared.exit.outcome.Outcome.{Outcome}
use Rattle.sab_cli.specs.declared.exit.outcome.Outcome.TheVariants.{Done, Refused, Unfinished, Racy, Flawed, Open}
use Rattle.sab_cli.specs.Exit.Outcome.{outcome_of, judged_outcome}

-- just what a check says came after what the writer held: about a script that isn't refused, or about one that is
abbrev pub Checks : Outcome → Option (List ℕ) → Option (List ℕ) → List ℕ → Type 0
Checks Done old new script = (text : List ℕ) × IsAccepted script text × Appends old new text
Checks Refused old new script = (text : List ℕ) × IsRefused script text × Appends old new text
Checks Unfinished old new script = ⊥
Checks Racy old new script = ⊥
Checks Flawed old new script = ⊥
Checks Open old new script = ⊥

-- such a run of the script was kept as a script, and ended so
abbrev pub KeepsAs : (SetupParts → ReportParts → Type 0) → Option (List ℕ) → Option (List ℕ) → List ℕ → Ended → Type 0
KeepsAs IsRun old new script ended =
    (report : ReportParts) × KeepsRun IsRun old new script report × (ended ≡ ended_of report)

-- just the report of the script's replay, or the script that keeps the replay, came after what the writer held
abbrev pub ReplaysIn : RunForm → Option (List ℕ) → Option (List ℕ) → List ℕ → Ended → Type 0
ReplaysIn (Report report_form) old new script ended = ReplaysAs report_form old new script ended
ReplaysIn Script old new script ended = KeepsAs IsReportOf old new script ended

-- the run came after what the writer held in its form, and the outcome is by how it ended; or what a check or a judge
-- says did
abbrev pub Runs : Job → Outcome → Option (List ℕ) → Option (List ℕ) → List ℕ → Type 0
Runs Check outcome old new script = Checks outcome old new script
Runs (Judge format finish) outcome old new script =
    (judged : Judged) × JudgesAs format old new script judged
    × (outcome ≡ judged_outcome judged.is_racy judged.ended finish)
Runs (Replay form finish) outcome old new script =
    (ended : Ended) × ReplaysIn form old new script ended × (outcome ≡ outcome_of ended finish)

-- want of memory, before anything was written, or a write that failed
abbrev pub IsCheckFault : Option (List ℕ) → Option (List ℕ) → ToolFault → Type 0
IsCheckFault old new fault = (Keeps old new × (fault ≡ OutOfMemory)) ⊎ (fault ≡ WriteFailed)

-- what a replay is refused for that is written in this form
abbrev pub IsFaultOfReplay : RunForm → Option (List ℕ) → Option (List ℕ) → List ℕ → ToolFault → Type 0
IsFaultOfReplay (Report report_form) old new script fault = IsReplayFault old new script fault
IsFaultOfReplay Script old new script fault = IsKeepFault IsReplayUnkept old new script fault

-- what a job of a script is refused for
abbrev pub IsFaultOf : Job → Option (List ℕ) → Option (List ℕ) → List ℕ → ToolFault → Type 0
IsFaultOf (Replay form finish) old new script fault = IsFaultOfReplay form old new script fault
IsFaultOf Check old new script fault = IsCheckFault old new fault
IsFaultOf (Judge format finish) old new script fault = IsJudgeFault old new script fault

-- the script isn't too long, and the job ended so
abbrev pub RunsGiven : Job → Outcome → Option (List ℕ) → Option (List ℕ) → List ℕ → Type 0
RunsGiven job outcome old new script = (length script ≤ MAX_INPUT) × Runs job outcome old new script

-- the reader's bytes can't be had and nothing was written, or they are a script of which the job is refused
abbrev pub IsRunFault : Option (List ℕ) → Job → Option (List ℕ) → Option (List ℕ) → ToolFault → Type 0
IsRunFault known job old new fault =
    (Keeps old new × IsInputFault known fault)
    ⊎ IfSome known (λ script. (length script ≤ MAX_INPUT) × IsFaultOf job old new script fault)

-- only after a write that failed can something have been written
abbrev pub IsUnwritten : Option (List ℕ) → Option (List ℕ) → ToolFault → Type 0
IsUnwritten old new fault = (fault ≡ WriteFailed) ⊎ Keeps old new
