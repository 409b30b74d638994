-- Replies, of what was shown of their parts.
use Rattle.std.proofs.Common.{◌≡◌, ◌≢◌, ◌||◌, ℕ, Bool, true, false, List, [], Option, Some, Result, Ok, Err}
use Rattle.std.proofs.Common.{IfOk, OnOk, inl, inr, refl, sym, subst, ap, ◌∙◌}
use Rattle.std.specs.Prelude.{MatchResult}
use Rattle.clap.specs.Words.{kind_of}
use Rattle.clap.specs.declared.error.Error.{Error}
use Rattle.clap.specs.declared.error.kind.ErrorKind.{ErrorKind}
use Rattle.clap.specs.declared.error.kind.ErrorKind.TheVariants.{OutOfMemory}
use Rattle.sab_cli.specs.declared.command.request.Request.{Request}
use Rattle.sab_cli.specs.declared.command.request.Source.{Source}
use Rattle.sab_cli.specs.declared.command.request.Task.{Task}
use Rattle.sab_cli.specs.declared.command.request.Task.TheVariants.{OfSearch}
use Rattle.sab_cli.specs.declared.command.job.SearchJob.{SearchJob}
use Rattle.sab_cli.specs.Command.Asked.{IsAsked, IsRefused}
use Rattle.sab_cli.specs.Command.Job.{IsTaskWithinLimits}
use Rattle.sab_cli.specs.declared.exit.outcome.Outcome.{Outcome}
use Rattle.sab_cli.specs.Exit.Ending.{status_at, after_job}
use Rattle.sab_cli.specs.declared.run.failure.Failure.{Failure}
use Rattle.sab_cli.specs.Run.Searching.{RunsSearchGiven, IsSearchFailure}
use Rattle.sabsim_wasm.specs.declared.written.Written.{Written}
use Rattle.sabsim_wasm.specs.declared.reply.Reply.{Reply}
use Rattle.sabsim_wasm.specs.Exports.{PutsSuch, PutsTask, RepliesToTask, RepliesToSearch, RepliesToInput, RepliesToRefusal, RepliesToWords}
use Rattle.sabsim_wasm.specs.Exports.{IsForErrors}
use Rattle.sabsim_wasm.specs.Program.{WrittenParts, written_of, written_by, no_memory, done, parsed, Fails, IsOfBytes}
use Rattle.sabsim_wasm.specs.Room.{Puts, PutsLines}
use Rattle.sabsim_wasm.specs.Words.{words_of}
use Rattle.sabsim_wasm.proofs.Ends.{search_done, search_failed}

pub puts_such : (IsSuch : WrittenParts → Type 0) (written : WrittenParts) (old new : List ℕ) (reply : Reply)
    → IsSuch written → Puts 0 written old new reply → PutsSuch IsSuch old new reply
puts_such IsSuch written old new reply such puts = inl (written, such, puts)

-- what was made lies in the room, if there was memory for it
pub puts_made : {E : Type 0} (IsSuch : WrittenParts → Type 0) (made : Result Written E) (old new : List ℕ)
    (reply : Reply) → IfOk made (λ it. IsSuch (written_by it))
    → MatchResult made (λ it. Puts 0 (written_by it) old new reply) (λ _. Puts 0 no_memory old new reply)
    → PutsSuch IsSuch old new reply
puts_made IsSuch (Ok it) old new reply such puts = inl (written_by it, such, puts)
puts_made IsSuch (Err error) old new reply such puts = inr puts

-- the lines of a search that fit lie in the room
pub puts_found : (job : SearchJob) (source : Source) (explain : Bool) (file : List ℕ) (outcome : Outcome)
    (before after text : List ℕ) (status : ℕ) (old new : List ℕ) (reply : Reply) → before ≡ []
    → RunsSearchGiven job outcome (Some before) (Some after) file → text ≡ after
    → status ≡ status_at (after_job (Ok outcome)) → PutsLines status text old new reply
    → PutsTask (OfSearch job) source explain file old new reply
puts_found job source explain file outcome before after text status old new reply empty runs same is lines =
    inl (
      done outcome after,
      search_done job source explain file outcome before after empty runs,
      inl (
        refl,
        subst (λ (n : ℕ). PutsLines n after old new reply) is
            (subst (λ (it : List ℕ). PutsLines status it old new reply) same lines),
      ),
    )

-- what a search fails for lies in the room, if there was memory for it
pub puts_failed : {E : Type 0} (job : SearchJob) (source : Source) (explain : Bool) (file : List ℕ) (failure : Failure)
    (before after : List ℕ) (made : Result Written E) (old new : List ℕ) (reply : Reply)
    → IsSearchFailure (Some file) job explain (Some before) (Some after) failure
    → IfOk made (λ it. Fails failure source (written_by it)) → OnOk made (IsOfBytes failure.fault)
    → MatchResult made (λ it. Puts 0 (written_by it) old new reply) (λ _. Puts 0 no_memory old new reply)
    → PutsTask (OfSearch job) source explain file old new reply
puts_failed job source explain file failure before after (Ok it) old new reply fails is other puts =
    inl (
      written_by it,
      search_failed job source explain file failure before after (written_by it) fails is other,
      inr (ap (λ (w : WrittenParts). w.output) is.2, puts),
    )
puts_failed job source explain file failure before after (Err error) old new reply fails is other puts = inr puts

-- the numbers name this task
pub numbers : (task named : Option Task) (explain : Bool) (input old new : List ℕ) (reply : Reply)
    → task ≡ named → RepliesToTask task explain input old new reply → RepliesToTask named explain input old new reply
numbers task named explain input old new reply same replies =
    subst (λ (it : Option Task). RepliesToTask it explain input old new reply) same replies

-- the numbers ask for this search
pub searched : (job named : Option SearchJob) (explain : Bool) (input old new : List ℕ) (reply : Reply)
    → job ≡ named → RepliesToSearch job explain input old new reply → RepliesToSearch named explain input old new reply
searched job named explain input old new reply same replies =
    subst (λ (it : Option SearchJob). RepliesToSearch it explain input old new reply) same replies

-- the words that a text spells, which is that of these bytes
these : (bytes text : List ℕ) (words : List (List ℕ)) → text ≡ bytes → words ≡ words_of text → words ≡ words_of bytes
these bytes text words same spelled = spelled ∙ ap words_of same

-- the words ask for this
pub requested : (bytes text : List ℕ) (words : List (List ℕ)) (given : ℕ) (is_terminal : Bool) (request : Request)
    (input old new : List ℕ) (reply : Reply) → text ≡ bytes → words ≡ words_of text → IsAsked words request
    → IsTaskWithinLimits request.task
    → RepliesToInput given request.task request.source (request.explain || is_terminal) input old new reply
    → RepliesToWords bytes given is_terminal input old new reply
requested bytes text words given is_terminal request input old new reply same spelled asked limits replies =
    inl (
      request,
      subst (λ (it : List (List ℕ)). IsAsked it request) (these bytes text words same spelled) asked,
      limits,
      replies,
    )

-- the command line doesn't take the words
pub refused_bytes : (bytes text : List ℕ) (words : List (List ℕ)) (given : ℕ) (is_terminal : Bool) (error : Error)
    (input old new : List ℕ) (reply : Reply) → text ≡ bytes → words ≡ words_of text → IsRefused words error
    → RepliesToRefusal (kind_of error) old new reply → RepliesToWords bytes given is_terminal input old new reply
refused_bytes bytes text words given is_terminal error input old new reply same spelled is refused =
    inr (inl (
      error,
      subst (λ (it : List (List ℕ)). IsRefused it error) (these bytes text words same spelled) is,
      refused,
    ))

-- the parser's text is for standard error
pub refused_words : (kind : ErrorKind) (text : List ℕ) (is_for_errors : Bool) (old new : List ℕ) (reply : Reply)
    → kind ≢ OutOfMemory → IsForErrors kind is_for_errors → is_for_errors ≡ true
    → Puts 0 (written_of 2 [] text) old new reply → RepliesToRefusal kind old new reply
refused_words kind text is_for_errors old new reply other is same puts =
    inl (
      other,
      (
        text,
        is_for_errors,
        is,
        subst (λ (it : Bool). Puts 0 (parsed it text) old new reply) (sym same) puts,
      ),
    )

-- it is help or the version
pub helped : (kind : ErrorKind) (text : List ℕ) (is_for_errors : Bool) (old new : List ℕ) (reply : Reply)
    → kind ≢ OutOfMemory → IsForErrors kind is_for_errors → is_for_errors ≡ false
    → Puts 0 (written_of 0 text []) old new reply → RepliesToRefusal kind old new reply
helped kind text is_for_errors old new reply other is same puts =
    inl (
      other,
      (
        text,
        is_for_errors,
        is,
        subst (λ (it : Bool). Puts 0 (parsed it text) old new reply) (sym same) puts,
      ),
    )
