-- A verdict that was reported.
use Rattle.std.proofs.Common.{◌≡◌, ◌↔◌, ℕ, true, false, not, Bool, IsTrue, List, Option, refl, sym, ap, subst, ◌∙◌}
use Rattle.std.specs.Io.KnownBytes.{Appends}
use Rattle.std.proofs.lemmas.Bool.{false≢true}
use Rattle.sab_plan.specs.Plan.{PlanParts}
use Rattle.sab_plan.specs.declared.entry.Entry.{Entry}
use Rattle.sab_plan.specs.Report.{ReportParts}
use Rattle.sab_judge.specs.declared.event.Event.{Event}
use Rattle.sab_judge.specs.declared.race.Race.{Race}
use Rattle.sab_judge.specs.Race.{HaveNoRace}
use Rattle.sab_judge.specs.Verdict.{IsVerdict}
use Rattle.sab_replay.specs.Events.Events.{events_of}
use Rattle.sab_report_text.specs.declared.text.format.VerdictFormat.{VerdictFormat}
use Rattle.sab_verdict.specs.Json.{call_side, judged_calls}
use Rattle.sab_verdict.specs.ReadsBack.{LinesReadBack}
use Rattle.sab_verdict.specs.Verdict.{run_verdict_text}
use Rattle.sab_replay.specs.declared.report.judging.TheConstants.{MAX_REPORTED}
use Rattle.sab_replay.specs.Report.Judging.{ReportsVerdict}

-- there is none exactly where it isn't answered that there is one
turned : {P : Type 0} (b : Bool) → (IsTrue b ↔ P) → (not b ≡ false) ↔ P
turned true same = (λ e. same.0 refl, λ p. refl)
turned false same = (λ e. absurd (false≢true (sym e)), λ p. absurd (false≢true (same.1 p)))

-- the verdict on the events of a report's journal was reported
pub verdict_reported : (format : VerdictFormat) (names : List (List ℕ)) (plan : PlanParts) (report : ReportParts)
    (journal : List Entry) (trace : List Event) (races : List Race) (rest data_races : ℕ) (clean : Bool)
    (old new : Option (List ℕ))
    → journal ≡ report.journal → trace ≡ events_of plan journal → IsVerdict trace MAX_REPORTED races rest data_races
    → (IsTrue clean ↔ HaveNoRace trace)
    → Appends old new (run_verdict_text names plan journal trace format races rest data_races)
    → LinesReadBack (call_side names plan journal) judged_calls trace races rest data_races
    → ReportsVerdict format names plan report old new (not clean)
verdict_reported format names plan report journal trace races rest data_races clean old new same made verdict none written
    read =
    let is : trace ≡ events_of plan report.journal = made ∙ ap (λ (j : List Entry). events_of plan j) same in
    record {
      races = races;
      rest = rest;
      data_races = data_races;
      verdict = subst (λ (t : List Event). IsVerdict t MAX_REPORTED races rest data_races) is verdict;
      racy = turned clean (subst (λ (t : List Event). IsTrue clean ↔ HaveNoRace t) is none);
      written = subst (λ (t : List Event). Appends old new
          (run_verdict_text names plan report.journal t format races rest data_races)) is
          (subst (λ (j : List Entry). Appends old new
          (run_verdict_text names plan j trace format races rest data_races)) same written);
      read_back = subst (λ (t : List Event). LinesReadBack (call_side names plan report.journal) judged_calls t
          races rest data_races) is
          (subst (λ (j : List Entry). LinesReadBack (call_side names plan j) judged_calls trace races rest data_races)
          same read);
    }
