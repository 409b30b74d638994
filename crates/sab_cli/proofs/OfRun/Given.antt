-- A job or a race of the script that a reader gave.
use Rattle.std.proofs.Common.{◌≡◌, ℕ, ◌≤◌, Bool, List, length, Option, Some, None, IfSome, subst, arith}
use Rattle.sab_replay.specs.declared.script_runner.input.TheConstants.{MAX_INPUT}
use Rattle.sab_replay.specs.declared.faults.tool_fault.ToolFault.{ToolFault}
use Rattle.sab_replay.specs.declared.faults.tool_fault.ToolFault.TheVariants.{OutOfMemory, TooLong, ReadFailed}
use Rattle.sab_replay.specs.ScriptRunner.Input.{IsInputFault}
use Rattle.sab_cli.specs.declared.command.job.Job.{Job}
use Rattle.sab_cli.specs.declared.command.job.RaceJob.{RaceJob}
use Rattle.sab_cli.specs.declared.exit.outcome.Outcome.{Outcome}
use Rattle.sab_cli.specs.declared.run.failure.Explanation.{Explanation}
use Rattle.sab_cli.specs.declared.run.failure.Explanation.TheVariants.{Absent}
use Rattle.sab_cli.specs.Run.Explaining.{IsExplanation}
use Rattle.sab_cli.specs.Run.Racing.{RunsRace, RunsRaceGiven, IsFaultOfRace}
use Rattle.sab_cli.specs.Run.Running.{Runs, RunsGiven, IsFaultOf}

-- how the job ended
pub ran : (known old new : Option (List ℕ)) (job : Job) (outcome : Outcome) (input script : List ℕ)
    → IfSome known (λ bytes. input ≡ bytes) → script ≡ input → length input ≤ MAX_INPUT
    → Runs job outcome old new script → IfSome known (RunsGiven job outcome old new)
ran None old new job outcome input script all same few done = tt
ran (Some bytes) old new job outcome input script all same few done =
    subst (λ (s : List ℕ). RunsGiven job outcome old new s) all
    (few, subst (λ (s : List ℕ). Runs job outcome old new s) same done)

-- what it is refused for
pub failed : (known old new : Option (List ℕ)) (job : Job) (fault : ToolFault) (input script : List ℕ)
    → IfSome known (λ bytes. input ≡ bytes) → script ≡ input → length input ≤ MAX_INPUT
    → IsFaultOf job old new script fault
    → IfSome known (λ s. (length s ≤ MAX_INPUT) × IsFaultOf job old new s fault)
failed None old new job fault input script all same few refused = tt
failed (Some bytes) old new job fault input script all same few refused =
    subst (λ (s : List ℕ). (length s ≤ MAX_INPUT) × IsFaultOf job old new s fault) all
    (few, subst (λ (s : List ℕ). IsFaultOf job old new s fault) same refused)

-- how the race ended
pub raced : (known old new : Option (List ℕ)) (race : RaceJob) (outcome : Outcome) (input script : List ℕ)
    → IfSome known (λ bytes. input ≡ bytes) → script ≡ input → length input ≤ MAX_INPUT
    → RunsRace race outcome old new script → IfSome known (RunsRaceGiven race outcome old new)
raced None old new race outcome input script all same few done = tt
raced (Some bytes) old new race outcome input script all same few done =
    subst (λ (s : List ℕ). RunsRaceGiven race outcome old new s) all
    (few, subst (λ (s : List ℕ). RunsRace race outcome old new s) same done)

-- what it is refused for
pub race_failed : (known old new : Option (List ℕ)) (race : RaceJob) (fault : ToolFault) (input script : List ℕ)
    → IfSome known (λ bytes. input ≡ bytes) → script ≡ input → length input ≤ MAX_INPUT
    → IsFaultOfRace race.form race.spins old new script fault
    → IfSome known (λ s. (length s ≤ MAX_INPUT) × IsFaultOfRace race.form race.spins old new s fault)
race_failed None old new race fault input script all same few refused = tt
race_failed (Some bytes) old new race fault input script all same few refused =
    subst (λ (s : List ℕ). (length s ≤ MAX_INPUT) × IsFaultOfRace race.form race.spins old new s fault) all
    (few, subst (λ (s : List ℕ). IsFaultOfRace race.form race.spins old new s fault) same refused)

-- what is reported besides
pub explained : (known : Option (List ℕ)) (is_asked : Bool) (fault : ToolFault) (input script : List ℕ)
    (reported : Explanation) → IfSome known (λ bytes. input ≡ bytes) → script ≡ input
    → IsExplanation is_asked fault script reported → IfSome known (λ s. IsExplanation is_asked fault s reported)
explained None is_asked fault input script reported all same e = tt
explained (Some bytes) is_asked fault input script reported all same e =
    subst (λ (s : List ℕ). IsExplanation is_asked fault s reported) all
    (subst (λ (s : List ℕ). IsExplanation is_asked fault s reported) same e)

-- about an input that can't be had nothing else is reported
pub unread : (known : Option (List ℕ)) (is_asked : Bool) (fault : ToolFault) → IsInputFault known fault
    → IfSome known (λ s. IsExplanation is_asked fault s Absent)
unread None is_asked fault h = tt
unread (Some bytes) is_asked OutOfMemory h = λ asked status few.
    let bad : ◌≡◌ {A = ℕ} 4 1 = status in absurd (omega (arith, bad))
unread (Some bytes) is_asked ReadFailed h = λ asked status few.
    let bad : ◌≡◌ {A = ℕ} 3 1 = status in absurd (omega (arith, bad))
unread (Some bytes) is_asked TooLong h = λ asked status few. absurd (omega (arith, h, few))
unread (Some bytes) is_asked _ h = absurd h
