-- The lines of a report have short numbers, where the plan's Numbers are safe integers, so they read back.
use Rattle.std.proofs.Common.{◌≡◌, ℕ, zero, suc, ◌^◌, ◌<◌, ◌≤◌, ◌==◌, ◌&&◌, List, [], ◌∷◌, length, take, get_or, Option, Some, None, IfSome, refl, ap, sym, ◌∙◌, arith, length-take}
use Rattle.std.specs.Prelude.{slice_get, option_map, codes}
use Rattle.std.proofs.lemmas.Option.{slice_get_within, slice_get-get_or, none-some, same_Some}
use Rattle.std.proofs.lemmas.List.Sums.{length-filter, count_by-le-length}
use Rattle.serde_json.specs.Data.{no_members}
use Rattle.sab_plan.specs.declared.schedule.Move.{Move}
use Rattle.sab_plan.specs.declared.schedule.Move.TheVariants.{Step}
use Rattle.sab_plan.specs.Schedule.{agent_of}
use Rattle.sab_plan.specs.Script.{ScriptParts}
use Rattle.sab_plan.specs.Plan.{PlanParts, IsPlan, calls_of}
use Rattle.sab_plan.specs.declared.entry.What.{What}
use Rattle.sab_plan.specs.declared.entry.What.TheVariants.{Began, Acted, Enlisted, Left, Returned, Stuck}
use Rattle.sab_plan.specs.declared.entry.Entry.{Entry}
use Rattle.sab_plan.specs.declared.progress.Progress.{Progress}
use Rattle.sab_plan.specs.Entry.{is_return}
use Rattle.sab_plan.specs.Journal.{returned_of, Answers}
use Rattle.sab_plan.specs.Report.{ReportParts, progress_from}
use Rattle.sab_sim.specs.Fits.{Fits}
use Rattle.sab_plan.specs.declared.fact.Fact.{Fact}
use Rattle.sab_plan.specs.declared.standing.Standing.{Standing}
use Rattle.sab_replay.specs.Explain.Fact.{IsFact}
use Rattle.sab_report_text.specs.declared.text.lines.Lines.{Lines}
use Rattle.sab_report_text.specs.JsonLines.CallData.{natural, call_data}
use Rattle.sab_report_text.specs.JsonLines.FactData.{answer_in, why_in, place_data, found_data, entry_data}
use Rattle.sab_report_text.specs.JsonLines.StandingData.{standing_data, agent_data}
use Rattle.sab_report_text.specs.JsonLines.Lines.{block_data, json_texts}
use Rattle.sab_report_text.specs.JsonLines.SafeNumbers.{HasSafeNumbers}
use Rattle.sab_report_text.proofs.OfJsonLines.ReadingBack.{reads_back}
use Rattle.sab_report_text.proofs.OfJsonLines.TreesRead.{entry_in_order, block_in_order, agent_in_order}
use Rattle.sab_report_text.proofs.OfJsonLines.ShortNumbers.{HasShortNumbers, short_if}
use Rattle.sab_report_text.proofs.OfJsonLines.ShortCalls.{All-at, does_short}
use Rattle.sab_replay.specs.Report.Facts.{IsStandingOf, ReportsFacts}
use Rattle.sab_replay.specs.Report.Formats.{ExplainsAsJson}
use Rattle.sab_replay.specs.Report.ReadsBack.{LinesReadBack}
use Rattle.sab_replay.proofs.OfReport.RunStates.{Reaches-sound}
use Rattle.sab_replay.proofs.OfReport.ShortAnswers.{answer_short}
use Rattle.sab_replay.proofs.OfReport.ShortFacts.{place_short, since_short, finds_short, standing_short}

-- ---- what is known of a report's entries

few_returned : (journal : List Entry) (a : ℕ) → returned_of journal a ≤ length journal
few_returned journal a =
    let returns = λ (e : Entry). (e.agent == a) && is_return e.what in
    omega (arith, length-filter returns journal, count_by-le-length returns journal)

few_entries : (plan : PlanParts) (report : ReportParts) → Fits plan report → length report.journal ≤ 2 ^ 20
few_entries plan report fits = omega (arith, fits.moves.few, fits.moves.one_each)

record IsKnown (plan : PlanParts) (report : ReportParts) (k : ℕ) (e : Entry) : Type 0 where
  within : k < length report.journal
  agent : e.agent < length plan.scripts
  call : e.call ≤ length report.journal

known : (plan : PlanParts) (report : ReportParts) (k : ℕ) (e : Entry) → Fits plan report
    → slice_get report.journal k ≡ Some e → IsKnown plan report k e
known plan report k e fits at =
    let within = slice_get_within report.journal k e at in
    let there : k < length report.schedule = omega (arith, within, fits.moves.one_each) in
    let m = get_or report.schedule k (Step 0) in
    let m_at = slice_get-get_or report.schedule k (Step 0) there in
    let answers : Answers (take k report.journal) m e = fits.moves.answers k m e m_at at in
    let named = All-at (λ (n : Move). agent_of n < length plan.scripts) report.schedule k m fits.moves.named m_at in
    let before = few_returned (take k report.journal) e.agent in
    record {
      within = within;
      agent = omega (arith, answers.agent, named);
      call = omega (arith, answers.call, before, length-take k report.journal);
    }

-- ---- entries

why_short : (what : What) → IfSome (why_in what) HasShortNumbers
why_short Began = tt
why_short (Acted x) = tt
why_short Enlisted = tt
why_short (Left x) = tt
why_short (Returned x) = tt
why_short (Stuck why) = tt

entry_short : (names : List (List ℕ)) (plan : PlanParts) (report : ReportParts) (k : ℕ) (e : Entry) (fact : Fact)
    → IsPlan plan → HasSafeNumbers plan → Fits plan report → slice_get report.journal k ≡ Some e
    → IsFact plan (take k report.journal) e fact → HasShortNumbers (entry_data names k e fact)
unfolding entry_data
entry_short names plan report k e fact is_plan safe fits at is =
    let it = known plan report k e fits at in
    let few = few_entries plan report fits in
    let before : length (take k report.journal) ≤ 2 ^ 20 = omega (arith, few, length-take k report.journal) in
    let agent : e.agent < 2 ^ 64 = omega (arith, it.agent, is_plan.limits.agents) in
    let call : e.call < 2 ^ 64 = omega (arith, it.call, few) in
    let position : k < 2 ^ 64 = omega (arith, it.within, few) in
    let answer = answer_short plan report.journal fits.moves.run.0 k e few safe fits.moves.run.1
    (λ a h. (length (calls_of plan a), fits.moves.tracks a h)) it.agent at in
    let does = does_short names plan e.agent e.call fact.call safe is.call in
    let found = finds_short plan (take k report.journal) is.old e is.new fact e.what is_plan before is.old_is is.new_is
    is.finds in
    let place = place_short plan fact.call fact.place is_plan is.place in
    let since = since_short (take k report.journal) e.agent fact.since before is.since in
    let why = short_if (codes "why") (why_in e.what) no_members (why_short e.what) tt in (
      agent,
      short_if (codes "answer") (answer_in e.what) _ answer (
        call,
        short_if (codes "does") (option_map (call_data names) fact.call) _ does (
          position,
          short_if (codes "found") (found_data fact.found) _ found
              (short_if (codes "place") (option_map place_data fact.place) _ place
              (short_if (codes "since") (option_map natural fact.since) _ since (tt, why))),
        ),
      ),
    )

-- ---- blocks

block_short : (plan : PlanParts) (report : ReportParts) (b : ℕ) (bytes : List ℕ) → IsPlan plan → Fits plan report
    → slice_get report.blocks b ≡ Some bytes → HasShortNumbers (block_data b bytes)
unfolding block_data
block_short plan report b bytes is_plan fits at =
    let sound = Reaches-sound plan report.journal fits.moves.run.0 fits.moves.run.1 in
    let within = slice_get_within report.blocks b bytes at in
    let as_many = ap length fits.moves.run.2 in
    let position : b < 2 ^ 64 = omega (arith, within, as_many, sound.blocks, is_plan.limits.blocks) in
    (position, (tt, tt))

-- ---- agents

record IsProgressOf (plan : PlanParts) (journal : List Entry) (a : ℕ) (p : Progress) : Type 0 where
  agent : a < length plan.scripts
  returned : p.returned ≤ length journal
  total : p.total ≤ 1000

progress_at : (journal : List Entry) (first a : ℕ) (scripts : List ScriptParts) (p : Progress)
    → slice_get (progress_from journal first scripts) a ≡ Some p
    → (s : ScriptParts) × (slice_get scripts a ≡ Some s) × (p.returned ≤ length journal) × (p.total ≡ length s.calls)
progress_at journal first a [] p at = absurd (none-some p at)
progress_at journal first zero (s ∷ scripts) p at =
    let same = same_Some (record { returned = returned_of journal first; total = length s.calls }) p at in (
      s,
      refl,
      omega (arith, ap (λ (q : Progress). q.returned) same, few_returned journal first),
      sym (ap (λ (q : Progress). q.total) same),
    )
progress_at journal first (suc a) (s ∷ scripts) p at = progress_at journal (suc first) a scripts p at

progress_of : (plan : PlanParts) (report : ReportParts) (a : ℕ) (p : Progress) → IsPlan plan → Fits plan report
    → slice_get report.agents a ≡ Some p → IsProgressOf plan report.journal a p
progress_of plan report a p is_plan fits at =
    let is = progress_at report.journal 0 a plan.scripts p
    (ap (λ (agents : List Progress). slice_get agents a) (sym fits.agents) ∙ at) in
    let calls = All-at (λ (s : ScriptParts). length s.calls ≤ 1000) plan.scripts a is.0 is_plan.limits.calls is.1 in
    record {
      agent = slice_get_within plan.scripts a is.0 is.1;
      returned = is.2;
      total = omega (arith, is.3, calls);
    }

standing_if : (names : List (List ℕ)) (plan : PlanParts) (journal : List Entry) (a : ℕ) (o : Option Standing)
    → IsPlan plan → HasSafeNumbers plan → length journal ≤ 2 ^ 20 → IsStandingOf plan journal a o
    → IfSome (option_map (standing_data names) o) HasShortNumbers
standing_if names plan journal a None is_plan safe few is = tt
standing_if names plan journal a (Some s) is_plan safe few is =
    standing_short names plan journal a s is_plan safe few is.0

agent_short : (names : List (List ℕ)) (plan : PlanParts) (report : ReportParts) (a : ℕ) (p : Progress)
    (s : Option Standing) → IsPlan plan → HasSafeNumbers plan → Fits plan report → slice_get report.agents a ≡ Some p
    → IsStandingOf plan report.journal a s → HasShortNumbers (agent_data names a p s)
unfolding agent_data
agent_short names plan report a p s is_plan safe fits at is =
    let its = progress_of plan report a p is_plan fits at in
    let few = few_entries plan report fits in
    let agent : a < 2 ^ 64 = omega (arith, its.agent, is_plan.limits.agents) in
    let total : p.total < 2 ^ 64 = omega (arith, its.total) in
    let returned : p.returned < 2 ^ 64 = omega (arith, its.returned, few) in (
      agent,
      (
        total,
        (
          returned,
          short_if (codes "standing") (option_map (standing_data names) s) no_members
              (standing_if names plan report.journal a s is_plan safe few is) tt,
        ),
      ),
    )

-- ---- the lines

pub lines_read_back : (names : List (List ℕ)) (plan : PlanParts) (report : ReportParts) → Fits plan report
    → IsPlan plan → HasSafeNumbers plan → LinesReadBack names plan report
lines_read_back names plan report fits is_plan safe = record {
  entries = λ k e fact at is.
      reads_back (entry_data names k e fact) (entry_in_order 124 names k e fact)
      (entry_short names plan report k e fact is_plan safe fits at is);
  blocks = λ b bytes at.
      reads_back (block_data b bytes) (block_in_order 126 b bytes)
      (block_short plan report b bytes is_plan fits at);
  agents = λ a p s at is.
      reads_back (agent_data names a p s) (agent_in_order 124 names a p s)
      (agent_short names plan report a p s is_plan safe fits at is);
}

-- what was reported reads back
pub explains : (names : List (List ℕ)) (lines : Lines) (plan : PlanParts) (moves : List Move) (old new : Option (List ℕ))
    (report : ReportParts) → ReportsFacts (json_texts names lines) plan moves old new report
    → ExplainsAsJson names lines plan moves old new report
explains names lines plan moves old new report reported =
    record { reported = reported; read_back = lines_read_back names plan report reported.is_its.fits }
