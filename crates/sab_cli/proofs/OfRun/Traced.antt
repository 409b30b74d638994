-- A trace that was judged.
use Rattle.std.proofs.Common.{◌≡◌, ◌↔◌, ℕ, true, false, Bool, IsTrue, List, Option, Some, None, IfSome, inl, inr, refl, sym, ◌∙◌}
use Rattle.std.specs.Io.KnownBytes.{Appends}
use Rattle.std.proofs.lemmas.Bool.{false≢true}
use Rattle.sab_judge.specs.declared.event.Event.{Event}
use Rattle.sab_judge.specs.declared.race.Race.{Race}
use Rattle.sab_judge.specs.Race.{HaveNoRace}
use Rattle.sab_judge.specs.Verdict.{IsVerdict}
use Rattle.sab_trace.specs.Reading.{SpellsTrace}
use Rattle.sab_report_text.specs.declared.text.format.VerdictFormat.{VerdictFormat}
use Rattle.sab_verdict.specs.Json.{access_side, judged_trace}
use Rattle.sab_verdict.specs.ReadsBack.{LinesReadBack}
use Rattle.sab_verdict.specs.Verdict.{trace_verdict_text}
use Rattle.sab_replay.specs.declared.report.judging.TheConstants.{MAX_REPORTED}
use Rattle.sab_cli.specs.declared.exit.outcome.Outcome.{Outcome}
use Rattle.sab_cli.specs.declared.exit.outcome.Outcome.TheVariants.{Done, Racy}
use Rattle.sab_cli.specs.Run.Tracing.{JudgesTrace, IsOutcomeOf}

pub clean_outcome : (events : List Event) (clean : Bool) → (IsTrue clean ↔ HaveNoRace events) → clean ≡ true
    → IsOutcomeOf events Done
clean_outcome events clean same is = inl (refl, same.0 is)

pub racy_outcome : (events : List Event) (clean : Bool) → (IsTrue clean ↔ HaveNoRace events) → clean ≡ false
    → IsOutcomeOf events Racy
racy_outcome events clean same is = inr (refl, λ none. false≢true (sym is ∙ same.1 none))

-- if the reader's bytes are known, they spell what was judged
pub judged : (known old new : Option (List ℕ)) (format : VerdictFormat) (outcome : Outcome) (events : List Event)
    (races : List Race) (rest data_races : ℕ) → IfSome known (λ bytes. SpellsTrace bytes events)
    → IsVerdict events MAX_REPORTED races rest data_races
    → Appends old new (trace_verdict_text events format races rest data_races)
    → LinesReadBack access_side judged_trace events races rest data_races → IsOutcomeOf events outcome
    → IfSome known (JudgesTrace format outcome old new)
judged None old new format outcome events races rest data_races spelled verdict written read is = tt
judged (Some bytes) old new format outcome events races rest data_races spelled verdict written read is = record {
  events = events;
  spelled = spelled;
  races = races;
  rest = rest;
  data_races = data_races;
  verdict = verdict;
  written = written;
  read_back = read;
  outcome_is = is;
}
