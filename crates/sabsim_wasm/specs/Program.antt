-- How the program ends with an input: its exit status, and what it writes to the standard streams.
use Rattle.std.specs.Prelude.{◌≡◌, ◌⊎◌, ◌≢◌, ℕ, Bool, true, false, List, [], ◌++◌, Option, Some, Ok, codes}
use Rattle.std.specs.Prelude.{string_bytes}
use Rattle.std.specs.Borrow.{Bor}
use Rattle.sab_report_text.specs.declared.text.format.VerdictFormat.{VerdictFormat}
use Rattle.sab_replay.specs.declared.faults.tool_fault.ToolFault.{ToolFault}
use Rattle.sab_replay.specs.declared.faults.tool_fault.ToolFault.TheVariants.{NoThread, OutOfMemory, ReadFailed, WriteFailed}
use Rattle.sab_cli.specs.declared.command.job.Job.{Job}
use Rattle.sab_cli.specs.declared.command.job.SearchJob.{SearchJob}
use Rattle.sab_cli.specs.declared.command.request.Source.{Source}
use Rattle.sab_cli.specs.declared.command.request.Task.{Task}
use Rattle.sab_cli.specs.declared.command.request.Task.TheVariants.{OfScript, OfRace, OfTrace, OfSearch}
use Rattle.sab_cli.specs.declared.exit.outcome.Outcome.{Outcome}
use Rattle.sab_cli.specs.Exit.Status.{status_after}
use Rattle.sab_cli.specs.Exit.Ending.{status_at, after_job}
use Rattle.sab_cli.specs.Exit.FaultLine.{text_of}
use Rattle.sab_cli.specs.Exit.Complaint.{advice_text, file_text, line_text}
use Rattle.sab_cli.specs.declared.run.failure.Failure.{Failure}
use Rattle.sab_cli.specs.Run.Failure.{NamesFile, explanation_text, line_of}
use Rattle.sab_cli.specs.Run.Explaining.{IsExplanation}
use Rattle.sab_cli.specs.Run.Running.{RunsGiven, IsRunFault}
use Rattle.sab_cli.specs.Run.Tracing.{JudgesTrace, IsTraceFailure}
use Rattle.sab_cli.specs.Run.Searching.{RunsSearchGiven, IsSearchFailure}
use Rattle.sabsim_wasm.specs.declared.written.Written.{Written}

-- an exit status, and the bytes that go to standard output and to standard error
pub record WrittenParts : Type 0 where
  pub status : ℕ
  pub output : List ℕ
  pub complaint : List ℕ

abbrev pub written_of : ℕ → List ℕ → List ℕ → WrittenParts
written_of status output complaint = record { status = status; output = output; complaint = complaint }

abbrev pub written_by : Written → WrittenParts
written_by written = written_of written.status written.output.items (string_bytes written.complaint)

-- the outcome's status, these bytes, and nothing on standard error
abbrev pub done : Outcome → List ℕ → WrittenParts
done outcome output = written_of (status_at (after_job (Ok outcome))) output []

-- what the program prints about want of memory, with the status for it
abbrev pub no_memory : WrittenParts
no_memory = written_of (status_after OutOfMemory) [] (codes "sabsim: 5 OutOfMemory\n")

-- what the program prints about words that are no text
abbrev pub no_text : WrittenParts
no_text = written_of 2 [] (codes "sabsim: the command line is no text\n")

-- the failure's status, no output, and the failure's text: the line of the fault, with the file that failed and the
-- line of a trace, then what can be done instead, then what a check says
abbrev pub Fails : Failure → Source → WrittenParts → Type 0
Fails failure source written =
    (file : Option (Bor (List ℕ))) × NamesFile source failure.fault file
    × (written ≡ written_of (status_after failure.fault) [] (text_of failure.fault ++ (file_text file
    ++ (line_text (line_of failure.explanation) ++ (codes "\n" ++ (advice_text failure.fault
    ++ explanation_text failure.explanation))))))

-- a fault of a job from bytes in memory to bytes in memory: no read and no write has failed
abbrev pub IsOfBytes : ToolFault → Type 0
IsOfBytes fault = (fault ≢ ReadFailed) × (fault ≢ WriteFailed)

-- what `run` writes to an empty writer and returns of a job, or what it is refused for; no read and no write fails
abbrev pub EndsOfScript : Job → Source → Bool → List ℕ → WrittenParts → Type 0
EndsOfScript job source explain script written =
    ((outcome : Outcome) × RunsGiven job outcome (Some []) (Some written.output) script
    × (written ≡ done outcome written.output))
    ⊎ ((failure : Failure) × IsRunFault (Some script) job (Some []) (Some []) failure.fault
    × IsOfBytes failure.fault × IsExplanation explain failure.fault script failure.explanation
    × Fails failure source written)

-- what `judge_trace` writes and returns of a trace, or what it is refused for; no read and no write fails
abbrev pub EndsOfTrace : VerdictFormat → Source → List ℕ → WrittenParts → Type 0
EndsOfTrace format source trace written =
    ((outcome : Outcome) × JudgesTrace format outcome (Some []) (Some written.output) trace
    × (written ≡ done outcome written.output))
    ⊎ ((failure : Failure) × IsTraceFailure (Some trace) (Some []) (Some []) failure
    × IsOfBytes failure.fault × Fails failure source written)

-- what `run_search` writes and returns of a file of automata, or what it fails for; no read and no write fails
abbrev pub EndsOfSearch : SearchJob → Source → Bool → List ℕ → WrittenParts → Type 0
EndsOfSearch job source explain file written =
    ((outcome : Outcome) × RunsSearchGiven job outcome (Some []) (Some written.output) file
    × (written ≡ done outcome written.output))
    ⊎ ((failure : Failure) × IsSearchFailure (Some file) job explain (Some []) (Some []) failure
    × IsOfBytes failure.fault × Fails failure source written)

-- what a race can be made with, as a line
abbrev pub race_advice : List ℕ
race_advice = codes "races in threads need the native program sabsim: this one is made for WebAssembly\n"

-- there is no thread for a race
abbrev pub EndsOfRace : WrittenParts → Type 0
EndsOfRace written =
    written ≡ written_of (status_after NoThread) [] (text_of NoThread ++ (codes "\n" ++ race_advice))

-- the program ends so with what is asked for and the input's bytes
abbrev pub Ends : Task → Source → Bool → List ℕ → WrittenParts → Type 0
Ends (OfScript job) source explain input written = EndsOfScript job source explain input written
Ends (OfTrace format) source explain input written = EndsOfTrace format source input written
Ends (OfRace race) source explain input written = EndsOfRace written
Ends (OfSearch job) source explain input written = EndsOfSearch job source explain input written

-- the text of the command line's parser says why the words are refused, or it is help or the version
abbrev pub parsed : Bool → List ℕ → WrittenParts
parsed true text = written_of 2 [] text
parsed false text = written_of 0 text []
