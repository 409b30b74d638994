-- What the driver writes, move by move.
use Rattle.std.proofs.Common.{◌≡◌, inl, inr, ℕ, ◌+◌, List, [], ◌∷◌, ◌++◌, length, Option, Some, None, IfSome, IfNone, refl, ap, sym, subst, ◌∙◌, arith, append_assoc, append-nil, length-append}
use Rattle.std.proofs.lemmas.List.{take-append-le}
use Rattle.std.proofs.Math.Seq.{take-append_seam}
use Rattle.std.specs.Io.KnownBytes.{Appends, append_known}
use Rattle.sab_plan.specs.declared.entry.Entry.{Entry}
use Rattle.sab_plan.specs.declared.schedule.Move.{Move}
use Rattle.sab_plan.specs.Plan.{PlanParts, call_of}
use Rattle.sab_plan.specs.Journal.{returned_of}
use Rattle.sab_sim.specs.Sim.{SimParts}
use Rattle.sab_plan.specs.Report.{ReportParts}
use Rattle.sab_sim.specs.Fits.{Fits, IsOnly}
use Rattle.sab_sim.proofs.ChangedLists.{slice_get-push}
use Rattle.sab_replay.specs.Explain.Standing.{IsStanding, IsOnlyStanding}
use Rattle.sab_plan.specs.declared.fact.Fact.{Fact}
use Rattle.sab_plan.specs.declared.standing.Standing.{Standing}
use Rattle.sab_report_text.proofs.OfText.Appending.{appends_both}
use Rattle.sab_report_text.proofs.OfWords.ChunkTexts.{appends_none, from_empty}
use Rattle.sab_report_text.specs.Words.FactFormat.{Texts, noted, sinces_after, no_sinces, entries_text, facts_text}
use Rattle.sab_replay.specs.Report.Facts.{IsTheFact, AreFacts, ReportsEntries, IsStandingOf, AreStandings, ReportsFacts}

pub AreFacts-none : (plan : PlanParts) → AreFacts plan [] []
AreFacts-none plan = record { count = refl; each = λ k e fact e_is f_is. absurd (cc) }

pub AreFacts-push : (plan : PlanParts) (journal : List Entry) (facts : List Fact) (e : Entry) (fact : Fact)
    → AreFacts plan journal facts → IsTheFact plan journal e fact
    → AreFacts plan (journal ++ e ∷ []) (facts ++ fact ∷ [])
AreFacts-push plan journal facts e fact all here = record {
  count = length-append facts (fact ∷ []) ∙ (ap (λ (n : ℕ). n + 1) all.count ∙ sym (length-append journal (e ∷ [])));
  each = λ k f g f_at g_at. elim (slice_get-push journal e k f f_at) [
    | inl h ↦ elim (slice_get-push facts fact k g g_at) [
      | inl i ↦ rw (take-append-le k journal (e ∷ []) (omega (arith, h.1))) (all.each k f g h.0 i.0)
      | inr i ↦ absurd (let c = all.count in omega (arith, h.1, i.0, c))
    ]
    | inr h ↦ elim (slice_get-push facts fact k g g_at) [
      | inl i ↦ absurd (let c = all.count in omega (arith, h.0, i.1, c))
      | inr i ↦ rw (h.0, take-append_seam journal (e ∷ []), ← h.1, ← i.1) here
    ]
  ];
}

-- one entry more
entries-push : (texts : Texts) (plan : PlanParts) (sinces : List (Option ℕ)) (k : ℕ) (journal : List Entry)
    (facts : List Fact) (e : Entry) (fact : Fact) → length facts ≡ length journal
    → entries_text texts plan sinces k (journal ++ e ∷ []) (facts ++ fact ∷ [])
    ≡ entries_text texts plan sinces k journal facts
    ++ texts.entry plan (sinces_after sinces k journal) (k + length journal) e fact
entries-push texts plan sinces k [] [] e fact h = let z : k + 0 ≡ k = omega arith in rw (z, append-nil) refl
entries-push texts plan sinces k [] (g ∷ facts) e fact h = absurd (omega (arith, h))
entries-push texts plan sinces k (f ∷ journal) [] e fact h = absurd (omega (arith, h))
entries-push texts plan sinces k (f ∷ journal) (g ∷ facts) e fact h =
    let n : length facts ≡ length journal = omega (arith, h) in
    let z : k + 1 + length journal ≡ k + length (f ∷ journal) = omega arith in
    let here = texts.entry plan sinces k f g in
    let after = noted sinces k f in
    let there = entries_text texts plan after (k + 1) journal facts in
    ap (λ (t : List ℕ). here ++ t)
    (entries-push texts plan after (k + 1) journal facts e fact n
    ∙ ap (λ (m : ℕ). there ++ texts.entry plan (sinces_after after (k + 1) journal) m e fact) z)
    ∙ sym (append_assoc here there (texts.entry plan (sinces_after after (k + 1) journal) (k + length (f ∷ journal)) e
    fact))

-- nothing is written about no entry
pub reported_none : (texts : Texts) (plan : PlanParts) (journal : List Entry) (a : Option (List ℕ)) → journal ≡ []
    → ReportsEntries texts plan journal a a
reported_none texts plan journal a e =
    rw e (record { facts = []; are = AreFacts-none plan; written = appends_none a })

-- what is written about one entry more comes behind what was written
pub reported_more : (texts : Texts) (plan : PlanParts) (journal : List Entry) (a b y : Option (List ℕ))
    (sinces : List (Option ℕ)) (k : ℕ) (e : Entry) (fact : Fact)
    → length journal ≡ k → sinces ≡ sinces_after no_sinces 0 journal → ReportsEntries texts plan journal a b
    → IsTheFact plan journal e fact → Appends b y (texts.entry plan sinces k e fact)
    → ReportsEntries texts plan (journal ++ e ∷ []) a y
reported_more texts plan journal a b y sinces k e fact n s t f q =
    let z : 0 + length journal ≡ k = omega (arith, n) in
    record {
      facts = t.facts ++ fact ∷ [];
      are = AreFacts-push plan journal t.facts e fact t.are f;
      written = rw (entries-push texts plan no_sinces 0 journal t.facts e fact t.are.count, z, ← s)
          (appends_both a b y (entries_text texts plan no_sinces 0 journal t.facts)
          (texts.entry plan sinces k e fact) t.written q);
    }

pub standing_is : (plan : PlanParts) (journal : List Entry) (a : ℕ) (s : Option Standing)
    → IfNone s (call_of plan a (returned_of journal a) ≡ None) → IfSome s (IsStanding plan journal a)
    → IfSome s (IsOnlyStanding plan journal a) → IsStandingOf plan journal a s
standing_is plan journal a None n s o = n
standing_is plan journal a (Some x) n s o = (s, o)

-- the start, what was reported about all entries, and the end
pub reports_facts : (texts : Texts) (plan : PlanParts) (moves : List Move) (sim : SimParts) (report : ReportParts)
    (standings : List (Option Standing)) (a b c y : Option (List ℕ)) (chunk : List ℕ)
    → chunk ≡ [] → sim.plan ≡ plan → sim.moves ≡ moves → Appends (append_known a chunk) b texts.start
    → ReportsEntries texts plan sim.journal b c
    → AreStandings sim.plan sim.journal standings → Fits sim.plan report → IsOnly sim.plan report
    → report.schedule ≡ sim.moves → report.journal ≡ sim.journal → Appends c y (texts.finish report standings)
    → ReportsFacts texts plan moves a y report
reports_facts texts plan moves sim report standings a b c y chunk empty p m f t s fits one schedule journal last =
    let entries = entries_text texts plan no_sinces 0 sim.journal t.facts in
    let end = texts.finish report standings in
    record {
      is_its = record { fits = rw (← p) fits; schedule = schedule ∙ m; one = rw (← p) one };
      facts = t.facts;
      facts_are = rw journal t.are;
      standings = standings;
      standings_are = rw (← p, journal) s;
      written = from_empty a y chunk (facts_text texts plan report t.facts standings) empty
          (subst (λ (es : List Entry). Appends (append_known a chunk) y
          (texts.start ++ (entries_text texts plan no_sinces 0 es t.facts ++ end))) (sym journal)
          (appends_both (append_known a chunk) b y texts.start (entries ++ end) f
          (appends_both b c y entries end t.written last)));
    }
