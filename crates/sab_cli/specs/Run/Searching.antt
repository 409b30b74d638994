-- What a search of a file of automata returns.
use Rattle.std.specs.Prelude.{◌≡◌, ◌⊎◌, ℕ, ◌≤◌, Bool, true, false, List, length, Option, IfSome, string_bytes, ◌++◌, codes}
use Rattle.std.specs.Io.KnownBytes.{Keeps}
use Rattle.sab_replay.specs.ScriptRunner.Input.{IsFaultOfInput}
use Rattle.sab_replay.specs.Faults.ToolFault.{number_of}
use Rattle.sab_replay.specs.declared.faults.tool_fault.ToolFault.TheVariants.{TooMany, OutOfMemory, WriteFailed}
use Rattle.sab_automata_reader.specs.declared.automata_text.limits.TheConstants.{MAX_FILE}
use Rattle.sab_automata_reader.specs.declared.automata_text.faults.Refusal.{Refusal}
use Rattle.sab_automata_reader.specs.AutomataText.Faults.{refusal_number}
use Rattle.sab_automata_reader.specs.AutomataText.FaultTexts.{refusal_text}
use Rattle.sab_report_text.specs.declared.text.format.VerdictFormat.{VerdictFormat}
use Rattle.sab_search.specs.declared.asked.SearchAsked.{SearchAsked}
use Rattle.sab_search.specs.declared.ending.SearchEnd.{SearchEnd}
use Rattle.sab_search.specs.declared.ending.SearchEnd.TheVariants as E
use Rattle.sab_search.specs.declared.asked.SearchFault.{SearchFault}
use Rattle.sab_search.specs.declared.asked.SearchFault.TheVariants as F
use Rattle.sab_search.specs.declared.asked.ScriptAsked.{ScriptAsked}
use Rattle.sab_search.specs.Scripting.{ScriptsAs, IsScriptFault}
use Rattle.sab_search.specs.Search.{SearchesAs, IsSearchFault}
use Rattle.sab_cli.specs.declared.command.job.SearchForm.{SearchForm}
use Rattle.sab_cli.specs.declared.command.job.SearchForm.TheVariants as form
use Rattle.sab_cli.specs.declared.command.job.SearchJob.{SearchJob}
use Rattle.sab_cli.specs.declared.exit.outcome.Outcome.{Outcome}
use Rattle.sab_cli.specs.declared.exit.outcome.Outcome.TheVariants.{Done, Flawed, Open}
use Rattle.sab_cli.specs.declared.run.failure.Explanation.{Explanation}
use Rattle.sab_cli.specs.declared.run.failure.Explanation.TheVariants.{Absent, NoMemory, CheckText, AtLine}
use Rattle.sab_cli.specs.declared.run.failure.Failure.{Failure}
use Rattle.sab_cli.specs.Run.Failure.{unexplained}

-- what is asked of the search
abbrev pub asked_of : SearchJob → VerdictFormat → Bool → SearchAsked
asked_of job format states =
    record { timeouts = job.timeouts; limit = job.limit; format = format; states = states }

abbrev pub script_asked_of : SearchJob → Option ℕ → ScriptAsked
script_asked_of job failure = record { timeouts = job.timeouts; limit = job.limit; failure = failure }

-- what it finds was written, or a script was
abbrev pub SearchesBy : SearchForm → SearchJob → Option (List ℕ) → Option (List ℕ) → List ℕ → SearchEnd → Type 0
SearchesBy (form.Findings format states) job old new file end = SearchesAs (asked_of job format states) old new file end
SearchesBy (form.Script failure) job old new file end = ScriptsAs (script_asked_of job failure) old new file end

-- or it failed
abbrev pub IsFaultBy : SearchForm → SearchJob → Option (List ℕ) → Option (List ℕ) → List ℕ → SearchFault → Type 0
IsFaultBy (form.Findings format states) job old new file fault =
    IsSearchFault (asked_of job format states) old new file fault
IsFaultBy (form.Script failure) job old new file fault = IsScriptFault (script_asked_of job failure) old new file fault

-- what it came to
abbrev pub outcome_of : SearchEnd → Outcome
outcome_of E.Clean = Done
outcome_of E.Found = Flawed
outcome_of E.Open = Open

-- just what the search finds came after what the writer held, and the outcome is by how it ended
abbrev pub RunsSearch : SearchJob → Outcome → Option (List ℕ) → Option (List ℕ) → List ℕ → Type 0
RunsSearch job outcome old new file =
    (end : SearchEnd) × SearchesBy job.form job old new file end × (outcome ≡ outcome_of end)

-- the file isn't too long, and the search ended so
abbrev pub RunsSearchGiven : SearchJob → Outcome → Option (List ℕ) → Option (List ℕ) → List ℕ → Type 0
RunsSearchGiven job outcome old new file = (length file ≤ MAX_FILE) × RunsSearch job outcome old new file

-- the place and the reason are reported exactly if that is asked for, and there is memory
abbrev pub IsFileExplanation : Bool → Refusal → Explanation → Type 0
IsFileExplanation is_asked refusal Absent = is_asked ≡ false
IsFileExplanation is_asked refusal NoMemory = is_asked ≡ true
IsFileExplanation is_asked refusal (CheckText text) =
    (is_asked ≡ true) × (string_bytes text ≡ refusal_text refusal ++ codes "\n")
IsFileExplanation is_asked refusal (AtLine line) = ⊥

-- what the program reports about a file that is refused: the fault of the refusal's number, and what explains it
pub record ReportsRefusal (explain : Bool) (refusal : Refusal) (failure : Failure) : Type 0 where
  pub number : number_of failure.fault ≡ refusal_number refusal
  pub why : IsFileExplanation explain refusal failure.explanation

-- and what it reports about a search that failed so
abbrev pub IsFailureOf : Bool → SearchFault → Failure → Type 0
IsFailureOf explain (F.Refused refusal) failure = ReportsRefusal explain refusal failure
IsFailureOf explain F.NoScript failure = failure ≡ unexplained TooMany
IsFailureOf explain F.OutOfMemory failure = failure ≡ unexplained OutOfMemory
IsFailureOf explain F.WriteFailed failure = failure ≡ unexplained WriteFailed

-- the search of the file failed, or the flush after it did
abbrev pub IsFailureAfter : SearchJob → Bool → Option (List ℕ) → Option (List ℕ) → List ℕ → Failure → Type 0
IsFailureAfter job explain old new file failure =
    ((fault : SearchFault) × IsFaultBy job.form job old new file fault × IsFailureOf explain fault failure)
    ⊎ (failure ≡ unexplained WriteFailed)

-- the reader's bytes can't be had and nothing was written, or they are a file of which the search failed
abbrev pub IsSearchFailure : Option (List ℕ) → SearchJob → Bool → Option (List ℕ) → Option (List ℕ) → Failure → Type 0
IsSearchFailure known job explain old new failure =
    (Keeps old new × IsFaultOfInput MAX_FILE known failure.fault × (failure.explanation ≡ Absent))
    ⊎ IfSome known (λ file. (length file ≤ MAX_FILE) × IsFailureAfter job explain old new file failure)
