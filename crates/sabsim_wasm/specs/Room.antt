-- What a call puts into the host's room.
use Rattle.std.specs.Prelude.{◌≡◌, ◌≢◌, ◌⊎◌, ◌+◌, ◌-◌, ◌≤◌, ◌<◌, ℕ, List, [], ◌++◌, length, take, drop, slice_index}
use Rattle.std.specs.Prelude.{true, false}
use Rattle.sab_cli.specs.declared.command.job.SearchForm.{SearchForm}
use Rattle.sab_cli.specs.declared.command.job.SearchForm.TheVariants.{Findings, Script}
use Rattle.sab_cli.specs.declared.command.request.Task.{Task}
use Rattle.sab_cli.specs.declared.command.request.Task.TheVariants.{OfScript, OfRace, OfTrace, OfSearch}
use Rattle.sab_cli.specs.declared.command.request.Source.{Source}
use Rattle.sab_cli.specs.declared.command.request.Source.TheVariants.{Standard, File}
use Rattle.sabsim_wasm.specs.declared.reply.Reply.{Reply}
use Rattle.sabsim_wasm.specs.Program.{WrittenParts, written_of}

-- both lie in the room, the second right after the first, and what is after them stays; a room that is too small for
-- both stays as it was
abbrev pub PutsBoth : List ℕ → List ℕ → List ℕ → List ℕ → Type 0
PutsBoth first second old new =
    (length first + length second ≤ length old
    → new ≡ first ++ (second ++ drop (length first + length second) old))
    × (length old < length first + length second → new ≡ old)

-- the streams lie in the room, and the reply has the status, the lengths, and what the host has to read
abbrev pub Puts : ℕ → WrittenParts → List ℕ → List ℕ → Reply → Type 0
Puts wants written old new reply =
    PutsBoth written.output written.complaint old new
    × (reply ≡ record {
      status = written.status;
      output_len = length written.output;
      complaint_len = length written.complaint;
      wants = wants;
      left_out = 0;
    })

-- the text's first bytes up to here are whole lines, and no more bytes of it that fit are
pub record IsCut (text : List ℕ) (size cut : ℕ) : Type 0 where
  pub within : cut ≤ length text
  pub fits : cut ≤ size
  pub ends : 0 < cut → slice_index text (cut - 1) ≡ 10
  pub most : (n : ℕ) → cut < n → n ≤ length text → n ≤ size → slice_index text (n - 1) ≢ 10

-- the first lines lie in the room, as many as fit, and the reply says how many bytes are left out
pub record PutsLines (status : ℕ) (text old new : List ℕ) (reply : Reply) : Type 0 where
  pub is_cut : IsCut text (length old) reply.output_len
  pub put : new ≡ take reply.output_len text ++ drop reply.output_len old
  pub others : reply ≡ record {
    status = status;
    output_len = reply.output_len;
    complaint_len = 0;
    wants = 0;
    left_out = length text - reply.output_len;
  }

-- of what a search writes to standard output the first lines that fit; and if it fails, what is for standard error
abbrev pub PutsSearch : WrittenParts → List ℕ → List ℕ → Reply → Type 0
PutsSearch written old new reply =
    ((written.complaint ≡ []) × PutsLines written.status written.output old new reply)
    ⊎ ((written.output ≡ []) × Puts 0 written old new reply)

-- a file of automata, and whether lines of states are to be written
abbrev pub searched_input : SearchForm → ℕ
searched_input (Findings format true) = 3
searched_input (Findings format false) = 2
searched_input (Script failure) = 2

-- what the input of a task is: 0 a script, 1 a trace, 2 a file of automata, 3 the same if lines of states are to be
-- written
abbrev pub input_of : Task → ℕ
input_of (OfScript job) = 0
input_of (OfRace race) = 0
input_of (OfTrace format) = 1
input_of (OfSearch job) = searched_input job.form

-- the host is asked for what the source has, and learns what that is
abbrev pub AsksFor : Task → Source → List ℕ → List ℕ → Reply → Type 0
AsksFor task Standard old new reply = Puts 1 (written_of (input_of task) [] []) old new reply
AsksFor task (File name) old new reply = Puts 2 (written_of (input_of task) name.now []) old new reply
