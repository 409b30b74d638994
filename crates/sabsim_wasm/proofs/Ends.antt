-- How the program ends, of what was shown of its parts.
use Rattle.std.proofs.Common.{◌≡◌, ◌≢◌, ℕ, Bool, List, [], ◌++◌, Option, Some, Result, Ok, Err, IfOk, OnOk}
use Rattle.std.proofs.Common.{codes, inl, inr, refl, sym, subst, ap}
use Rattle.sab_report_text.specs.declared.text.format.VerdictFormat.{VerdictFormat}
use Rattle.sab_replay.specs.declared.faults.tool_fault.ToolFault.{ToolFault}
use Rattle.sab_replay.specs.declared.faults.tool_fault.ToolFault.TheVariants.{WriteFailed}
use Rattle.sab_cli.specs.declared.command.job.Job.{Job}
use Rattle.sab_cli.specs.declared.command.job.SearchForm.{SearchForm}
use Rattle.sab_cli.specs.declared.command.job.SearchForm.TheVariants as S
use Rattle.sab_cli.specs.declared.command.job.SearchJob.{SearchJob}
use Rattle.sab_cli.specs.declared.command.request.Source.{Source}
use Rattle.sab_cli.specs.declared.exit.complaint.Complaint.{Complaint}
use Rattle.sab_cli.specs.declared.exit.outcome.Outcome.{Outcome}
use Rattle.sab_cli.specs.Exit.Status.{status_after}
use Rattle.sab_cli.specs.Exit.FaultLine.{text_of}
use Rattle.sab_cli.specs.Exit.Complaint.{advice_text, complaint_text, file_text, line_text}
use Rattle.sab_cli.specs.declared.run.failure.Failure.{Failure}
use Rattle.sab_cli.specs.Run.Failure.{NamesFile, explanation_text, line_of}
use Rattle.sab_cli.specs.Run.Explaining.{IsExplanation}
use Rattle.sab_cli.specs.Run.Running.{RunsGiven, IsRunFault, IsUnwritten}
use Rattle.sab_cli.specs.Run.Tracing.{JudgesTrace, IsTraceFailure}
use Rattle.sab_search.specs.declared.asked.SearchFault.{SearchFault}
use Rattle.sab_search.specs.declared.asked.SearchFault.TheVariants as F
use Rattle.sab_cli.specs.Run.Searching.{RunsSearchGiven, IsFaultBy, IsSearchFailure, IsFailureAfter, IsFailureOf}
use Rattle.sabsim_wasm.specs.declared.written.Written.{Written}
use Rattle.sabsim_wasm.specs.Program.{WrittenParts, written_of, written_by, done, Fails, EndsOfScript, EndsOfTrace}
use Rattle.sabsim_wasm.specs.Program.{EndsOfSearch, IsOfBytes}

-- what was done of a script, from an empty output
pub script_done : (job : Job) (source : Source) (explain : Bool) (script : List ℕ) (outcome : Outcome)
    (old new : List ℕ) (written : WrittenParts) → old ≡ [] → RunsGiven job outcome (Some old) (Some new) script
    → written ≡ done outcome new → EndsOfScript job source explain script written
script_done job source explain script outcome old new written empty runs is =
    let same : new ≡ written.output = sym (ap (λ (it : WrittenParts). it.output) is) in
    inl (
      outcome,
      subst (λ (it : List ℕ). RunsGiven job outcome (Some []) (Some it) script) same
          (subst (λ (it : List ℕ). RunsGiven job outcome (Some it) (Some new) script) empty runs),
      subst (λ (it : List ℕ). written ≡ done outcome it) same is,
    )

-- what was judged of a trace, from an empty output
pub trace_done : (format : VerdictFormat) (source : Source) (trace : List ℕ) (outcome : Outcome)
    (old new : List ℕ) (written : WrittenParts) → old ≡ [] → JudgesTrace format outcome (Some old) (Some new) trace
    → written ≡ done outcome new → EndsOfTrace format source trace written
trace_done format source trace outcome old new written empty judges is =
    let same : new ≡ written.output = sym (ap (λ (it : WrittenParts). it.output) is) in
    inl (
      outcome,
      subst (λ (it : List ℕ). JudgesTrace format outcome (Some []) (Some it) trace) same
          (subst (λ (it : List ℕ). JudgesTrace format outcome (Some it) (Some new) trace) empty judges),
      subst (λ (it : List ℕ). written ≡ done outcome it) same is,
    )

-- if no write failed, nothing was written
kept_of : (old new : List ℕ) (fault : ToolFault) → IsUnwritten (Some old) (Some new) fault → fault ≢ WriteFailed
    → new ≡ old
kept_of old new fault (inl failed) other = absurd (other failed)
kept_of old new fault (inr kept) other = kept

kept_of_trace : (known : Option (List ℕ)) (old new : List ℕ) (failure : Failure)
    → IsTraceFailure known (Some old) (Some new) failure → failure.fault ≢ WriteFailed → new ≡ old
kept_of_trace known old new failure (inl refused) other = refused.2
kept_of_trace known old new failure (inr (inl without)) other = without.1
kept_of_trace known old new failure (inr (inr failed)) other =
    absurd (other (ap (λ (it : Failure). it.fault) failed))

-- what a script is refused for, with an empty output
pub script_refused : (job : Job) (source : Source) (explain : Bool) (script : List ℕ) (failure : Failure)
    (old new : List ℕ) {E : Type 0} (result : Result Written E)
    → IsRunFault (Some script) job (Some old) (Some new) failure.fault
    → IsUnwritten (Some old) (Some new) failure.fault
    → IsExplanation explain failure.fault script failure.explanation → old ≡ []
    → IfOk result (λ it. Fails failure source (written_by it)) → OnOk result (IsOfBytes failure.fault)
    → IfOk result (λ it. EndsOfScript job source explain script (written_by it))
script_refused job source explain script failure old new (Err error) fault unwritten why empty fails other = tt
script_refused job source explain script failure old new (Ok it) fault unwritten why empty fails other =
    let kept : new ≡ old = kept_of old new failure.fault unwritten other.1 in
    inr (
      failure,
      subst (λ (it : List ℕ). IsRunFault (Some script) job (Some it) (Some it) failure.fault) empty
          (subst (λ (it : List ℕ). IsRunFault (Some script) job (Some old) (Some it) failure.fault) kept fault),
      other,
      why,
      fails,
    )

-- what a trace is refused for, with an empty output
pub trace_refused : (format : VerdictFormat) (source : Source) (trace : List ℕ) (failure : Failure)
    (old new : List ℕ) {E : Type 0} (result : Result Written E)
    → IsTraceFailure (Some trace) (Some old) (Some new) failure → old ≡ []
    → IfOk result (λ it. Fails failure source (written_by it)) → OnOk result (IsOfBytes failure.fault)
    → IfOk result (λ it. EndsOfTrace format source trace (written_by it))
trace_refused format source trace failure old new (Err error) refused empty fails other = tt
trace_refused format source trace failure old new (Ok it) refused empty fails other =
    let kept : new ≡ old = kept_of_trace (Some trace) old new failure refused other.1 in
    inr (
      failure,
      subst (λ (it : List ℕ). IsTraceFailure (Some trace) (Some it) (Some it) failure) empty
          (subst (λ (it : List ℕ). IsTraceFailure (Some trace) (Some old) (Some it) failure) kept refused),
      other,
      fails,
    )

-- a failure's complaint is its text
pub fails_by : (failure : Failure) (source : Source) (c : Complaint) (written : WrittenParts)
    → c.fault ≡ failure.fault → NamesFile source failure.fault c.file → c.line ≡ line_of failure.explanation
    → c.why.now ≡ explanation_text failure.explanation
    → written ≡ written_of (status_after failure.fault) [] (complaint_text c) → Fails failure source written
fails_by failure source c written fault named line why is =
    let status = status_after failure.fault in
    let of_fault = subst (λ (it : ToolFault). written ≡ written_of status [] (text_of it ++ (file_text c.file
    ++ (line_text c.line ++ (codes "\n" ++ (advice_text it ++ c.why.now)))))) fault is in
    let of_line = subst (λ (it : Option ℕ). written ≡ written_of status [] (text_of failure.fault ++ (file_text c.file
    ++ (line_text it ++ (codes "\n" ++ (advice_text failure.fault ++ c.why.now)))))) line of_fault in (
      c.file,
      named,
      subst (λ (it : List ℕ). written ≡ written_of status [] (text_of failure.fault
          ++ (file_text c.file ++ (line_text (line_of failure.explanation) ++ (codes "\n"
          ++ (advice_text failure.fault ++ it)))))) why of_line,
    )

-- what was found, from an empty output
pub search_done : (job : SearchJob) (source : Source) (explain : Bool) (file : List ℕ) (outcome : Outcome)
    (old new : List ℕ) → old ≡ [] → RunsSearchGiven job outcome (Some old) (Some new) file
    → EndsOfSearch job source explain file (done outcome new)
search_done job source explain file outcome old new empty runs =
    inl (outcome, subst (λ (it : List ℕ). RunsSearchGiven job outcome (Some it) (Some new) file) empty runs, refl)

-- nothing is written to an empty output before a search fails, unless a write failed
unwritten_after : (job : SearchJob) (explain : Bool) (file old new : List ℕ) (failure : Failure)
    → IsFailureAfter job explain (Some old) (Some new) file failure → failure.fault ≢ WriteFailed
    → IsFailureAfter job explain (Some []) (Some []) file failure
unwritten_after job explain file old new failure (inl after) other =
    inl (after.0, go job.form after.0 after.1, after.2)
  where
    go : (form : SearchForm) (fault : SearchFault) → IsFaultBy form job (Some old) (Some new) file fault
        → IsFaultBy form job (Some []) (Some []) file fault
    go (S.Findings format states) (F.Refused refusal) is = (refl, is.1)
    go (S.Findings format states) F.NoScript is = is
    go (S.Findings format states) F.OutOfMemory is = λ unasked. refl
    go (S.Findings format states) F.WriteFailed is = tt
    go (S.Script number) (F.Refused refusal) is = (refl, is.1)
    go (S.Script number) F.NoScript is = (refl, is.1)
    go (S.Script number) F.OutOfMemory is = refl
    go (S.Script number) F.WriteFailed is = tt
unwritten_after job explain file old new failure (inr is) other =
    absurd (other (ap (λ (it : Failure). it.fault) is))

unwritten : (job : SearchJob) (explain : Bool) (file old new : List ℕ) (failure : Failure)
    → IsSearchFailure (Some file) job explain (Some old) (Some new) failure → failure.fault ≢ WriteFailed
    → IsSearchFailure (Some file) job explain (Some []) (Some []) failure
unwritten job explain file old new failure (inl unread) other = inl (refl, unread.1, unread.2)
unwritten job explain file old new failure (inr given) other =
    inr (given.0, unwritten_after job explain file old new failure given.1 other)

-- what a search fails for, with an empty output
pub search_failed : (job : SearchJob) (source : Source) (explain : Bool) (file : List ℕ) (failure : Failure)
    (old new : List ℕ) (written : WrittenParts)
    → IsSearchFailure (Some file) job explain (Some old) (Some new) failure → Fails failure source written
    → IsOfBytes failure.fault → EndsOfSearch job source explain file written
search_failed job source explain file failure old new written fails is other =
    inr (failure, unwritten job explain file old new failure fails other.1, other, is)
