-- What the host gets of each export.
use Rattle.std.specs.Prelude.{◌≡◌, ◌⊎◌, ◌≢◌, ◌↔◌, ◌||◌, ℕ, Bool, IsTrue, List, [], Option, Some, None, IsUtf8}
use Rattle.clap.specs.Words.{kind_of}
use Rattle.clap.specs.declared.error.Error.{Error}
use Rattle.clap.specs.declared.error.kind.ErrorKind.{ErrorKind}
use Rattle.clap.specs.declared.error.kind.ErrorKind.TheVariants.{OutOfMemory, DisplayHelp, DisplayVersion}
use Rattle.sab_replay.specs.declared.faults.tool_fault.ToolFault.TheVariants.{ReadFailed}
use Rattle.sab_cli.specs.declared.command.request.Request.{Request}
use Rattle.sab_cli.specs.declared.command.request.Source.{Source}
use Rattle.sab_cli.specs.declared.command.request.Source.TheVariants.{Standard}
use Rattle.sab_cli.specs.declared.command.job.SearchJob.{SearchJob}
use Rattle.sab_cli.specs.declared.command.request.Task.{Task}
use Rattle.sab_cli.specs.declared.command.request.Task.TheVariants.{OfSearch}
use Rattle.sab_cli.specs.Command.Asked.{IsAsked, IsRefused}
use Rattle.sab_cli.specs.Command.Job.{IsTaskWithinLimits}
use Rattle.sab_cli.specs.Run.Failure.{unexplained}
use Rattle.sabsim_wasm.specs.declared.reply.Reply.{Reply}
use Rattle.sabsim_wasm.specs.Asked.{task_at}
use Rattle.sabsim_wasm.specs.Program.{WrittenParts, written_of, no_memory, no_text, parsed, Ends, Fails}
use Rattle.sabsim_wasm.specs.Room.{Puts, PutsSearch, AsksFor}
use Rattle.sabsim_wasm.specs.Words.{words_of}

-- the room has what the program writes, about which this is said; or there was no memory for that
abbrev pub PutsSuch : (WrittenParts → Type 0) → List ℕ → List ℕ → Reply → Type 0
PutsSuch IsSuch old new reply =
    ((written : WrittenParts) × IsSuch written × Puts 0 written old new reply) ⊎ Puts 0 no_memory old new reply

-- of a search the lines that fit lie in the room, and of every other task all that the program writes
abbrev pub PutsOf : Task → WrittenParts → List ℕ → List ℕ → Reply → Type 0
PutsOf (OfSearch job) written old new reply = PutsSearch written old new reply
PutsOf task written old new reply = Puts 0 written old new reply

-- the room has what the program writes of the task; or there was no memory for that
abbrev pub PutsTask : Task → Source → Bool → List ℕ → List ℕ → List ℕ → Reply → Type 0
PutsTask task source explain input old new reply =
    ((written : WrittenParts) × Ends task source explain input written × PutsOf task written old new reply)
    ⊎ Puts 0 no_memory old new reply

-- the room has what the program writes of the task, if there is one, and else nothing at status 2
abbrev pub RepliesToTask : Option Task → Bool → List ℕ → List ℕ → List ℕ → Reply → Type 0
RepliesToTask None explain input old new reply = Puts 0 (written_of 2 [] []) old new reply
RepliesToTask (Some task) explain input old new reply = PutsTask task Standard explain input old new reply

abbrev pub RepliesToNumbers : ℕ → ℕ → Bool → Bool → Bool → List ℕ → List ℕ → List ℕ → Reply → Type 0
RepliesToNumbers job format acts finish explain input old new reply =
    RepliesToTask (task_at job format acts finish) explain input old new reply

-- the same of a search
abbrev pub RepliesToSearch : Option SearchJob → Bool → List ℕ → List ℕ → List ℕ → Reply → Type 0
RepliesToSearch None explain input old new reply = Puts 0 (written_of 2 [] []) old new reply
RepliesToSearch (Some job) explain input old new reply = PutsTask (OfSearch job) Standard explain input old new reply

-- the input isn't read yet, or these are its bytes, or it can't be read
abbrev pub RepliesToInput : ℕ → Task → Source → Bool → List ℕ → List ℕ → List ℕ → Reply → Type 0
RepliesToInput given task source explain input old new reply =
    ((given ≡ 0) × AsksFor task source old new reply)
    ⊎ (((given ≡ 1) × PutsTask task source explain input old new reply)
    ⊎ ((given ≢ 0) × (given ≢ 1) × PutsSuch (Fails (unexplained ReadFailed) source) old new reply))

-- the parser's text is for standard error, except help and the version
abbrev pub IsForErrors : ErrorKind → Bool → Type 0
IsForErrors kind is_for_errors =
    IsTrue is_for_errors ↔ ((kind ≢ DisplayHelp) × (kind ≢ DisplayVersion))

-- nothing is done with an input, as the parser's text says; or there is no memory
abbrev pub RepliesToRefusal : ErrorKind → List ℕ → List ℕ → Reply → Type 0
RepliesToRefusal kind old new reply =
    ((kind ≢ OutOfMemory) × ((text : List ℕ) × (is_for_errors : Bool) × IsForErrors kind is_for_errors
    × Puts 0 (parsed is_for_errors text) old new reply))
    ⊎ Puts 0 no_memory old new reply

-- what the words ask for is done; or the command line doesn't take them; or the bytes are no text, or there is no memory
-- for the words
abbrev pub RepliesToWords : List ℕ → ℕ → Bool → List ℕ → List ℕ → List ℕ → Reply → Type 0
RepliesToWords bytes given is_terminal input old new reply =
    ((request : Request) × IsAsked (words_of bytes) request × IsTaskWithinLimits request.task
    × RepliesToInput given request.task request.source (request.explain || is_terminal) input old new reply)
    ⊎ (((error : Error) × IsRefused (words_of bytes) error × RepliesToRefusal (kind_of error) old new reply)
    ⊎ (((¬ IsUtf8 bytes) × Puts 0 no_text old new reply) ⊎ Puts 0 no_memory old new reply))
