-- How the program ends.
use Rattle.std.specs.Prelude.{ℕ, Bool, true, false, Result, Ok, Err}
use Rattle.clap.specs.declared.error.kind.ErrorKind.{ErrorKind}
use Rattle.clap.specs.declared.error.kind.ErrorKind.TheVariants as kind
use Rattle.sab_replay.specs.declared.faults.tool_fault.ToolFault.{ToolFault}
use Rattle.sab_replay.specs.declared.faults.tool_fault.ToolFault.TheVariants.{OutOfMemory, WriteFailed}
use Rattle.sab_cli.specs.declared.exit.ending.Ending.{Ending}
use Rattle.sab_cli.specs.declared.exit.ending.Ending.TheVariants.{Done, Refused, ScriptRefused, Unfinished, Racy, Flawed, Open, Failed}
use Rattle.sab_cli.specs.declared.exit.outcome.Outcome.{Outcome}
use Rattle.sab_cli.specs.declared.exit.outcome.Outcome.TheVariants as O
use Rattle.sab_cli.specs.Exit.Status.{status_after}

-- the table of statuses
abbrev pub status_at : Ending → ℕ
status_at Done = 0
status_at ScriptRefused = 1
status_at Refused = 2
status_at Unfinished = 5
status_at Racy = 5
status_at Flawed = 5
status_at Open = 6
status_at (Failed fault) = status_after fault

-- after a job with this answer
abbrev pub after_job : Result Outcome ToolFault → Ending
after_job (Ok O.Done) = Done
after_job (Ok O.Refused) = ScriptRefused
after_job (Ok O.Unfinished) = Unfinished
after_job (Ok O.Racy) = Racy
after_job (Ok O.Flawed) = Flawed
after_job (Ok O.Open) = Open
after_job (Err fault) = Failed fault

-- after help that was printed, or couldn't be
abbrev pub after_help : Bool → Ending
after_help true = Done
after_help false = Failed WriteFailed

-- after the parser of the command line gave no job, and its text was printed or couldn't be
abbrev pub after_no_job : ErrorKind → Bool → Ending
after_no_job kind.OutOfMemory is_printed = Failed OutOfMemory
after_no_job kind.DisplayHelp is_printed = after_help is_printed
after_no_job kind.DisplayVersion is_printed = after_help is_printed
after_no_job _ is_printed = Refused
