-- What a race does with the script that a reader gives.
use Rattle.std.specs.Prelude.{◌≡◌, ◌⊎◌, ℕ, ◌≤◌, List, length, Option, IfSome}
use Rattle.std.specs.Io.KnownBytes.{Keeps}
use Rattle.sab_replay.specs.declared.script_runner.input.TheConstants.{MAX_INPUT}
use Rattle.sab_replay.specs.declared.faults.tool_fault.ToolFault.{ToolFault}
use Rattle.sab_replay.specs.ScriptRunner.Input.{IsInputFault}
use Rattle.sab_replay.specs.ScriptRunner.Racing.{IsRaceFault}
use Rattle.sab_replay.specs.declared.script_runner.ended.Ended.{Ended}
use Rattle.sab_replay.specs.Report.Reporting.{RacesAs}
use Rattle.sab_replay.specs.KeptScript.Keeping.{IsRaceIn, IsRaceUnkept, IsKeepFault}
use Rattle.sab_cli.specs.declared.command.job.RunForm.{RunForm}
use Rattle.sab_cli.specs.declared.command.job.RunForm.TheVariants.{Report, Script}
use Rattle.sab_cli.specs.declared.command.job.RaceJob.{RaceJob}
use Rattle.sab_cli.specs.declared.exit.outcome.Outcome.{Outcome}
use Rattle.sab_cli.specs.Exit.Outcome.{outcome_of}
use Rattle.sab_cli.specs.Run.Running.{KeepsAs}

-- just the report of a race of the script with so many steps at a wait, or the script that keeps the race, came after
-- what the writer held
abbrev pub RacesIn : RunForm → ℕ → Option (List ℕ) → Option (List ℕ) → List ℕ → Ended → Type 0
RacesIn (Report report_form) spins old new script ended = RacesAs report_form old new script spins ended
RacesIn Script spins old new script ended = KeepsAs (IsRaceIn spins) old new script ended

-- the race came after what the writer held in its form, and the outcome is by how it ended
abbrev pub RunsRace : RaceJob → Outcome → Option (List ℕ) → Option (List ℕ) → List ℕ → Type 0
RunsRace race outcome old new script =
    (ended : Ended) × RacesIn race.form race.spins old new script ended × (outcome ≡ outcome_of ended race.finish)

-- what a race is refused for
abbrev pub IsFaultOfRace : RunForm → ℕ → Option (List ℕ) → Option (List ℕ) → List ℕ → ToolFault → Type 0
IsFaultOfRace (Report report_form) spins old new script fault = IsRaceFault old new script spins fault
IsFaultOfRace Script spins old new script fault = IsKeepFault (IsRaceUnkept spins) old new script fault

-- the script isn't too long, and the race ended so
abbrev pub RunsRaceGiven : RaceJob → Outcome → Option (List ℕ) → Option (List ℕ) → List ℕ → Type 0
RunsRaceGiven race outcome old new script = (length script ≤ MAX_INPUT) × RunsRace race outcome old new script

-- the reader's bytes can't be had and nothing was written, or they are a script of which the race is refused
abbrev pub IsRaceRunFault : Option (List ℕ) → RaceJob → Option (List ℕ) → Option (List ℕ) → ToolFault → Type 0
IsRaceRunFault known race old new fault =
    (Keeps old new × IsInputFault known fault)
    ⊎ IfSome known (λ script. (length script ≤ MAX_INPUT) × IsFaultOfRace race.form race.spins old new script fault)
