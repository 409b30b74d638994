-- What is written about a run with its facts, in any format.
use Rattle.std.specs.Prelude.{◌≡◌, ℕ, ◌<◌, List, length, Option, Some, None, slice_get, slice_index_or, take}
use Rattle.std.specs.Io.KnownBytes.{Appends}
use Rattle.sab_plan.specs.declared.entry.Entry.{Entry}
use Rattle.sab_plan.specs.declared.fact.Fact.{Fact}
use Rattle.sab_plan.specs.declared.standing.Standing.{Standing}
use Rattle.sab_plan.specs.declared.schedule.Move.{Move}
use Rattle.sab_plan.specs.declared.plan.TheConstants.Plan.{MAX_AGENTS}
use Rattle.sab_plan.specs.Plan.{PlanParts, call_of}
use Rattle.sab_plan.specs.Journal.{returned_of}
use Rattle.sab_plan.specs.Report.{ReportParts}
use Rattle.sab_replay.specs.ScriptRunner.Replay.{IsReplayOf}
use Rattle.sab_replay.specs.Explain.Fact.{IsFact, IsOnlyFact, IsLast}
use Rattle.sab_replay.specs.Explain.Standing.{IsStanding, IsOnlyStanding}
use Rattle.sab_report_text.specs.Words.FactFormat.{Texts, no_sinces, sinces_after, entries_text, facts_text}

-- after any journal, what a format is given for each agent is the position of the agent's own last entry with an effect
abbrev pub NotesLast : Type 0
NotesLast = (journal : List Entry) (a : ℕ) → a < MAX_AGENTS
    → IsLast journal a (slice_index_or (sinces_after no_sinces 0 journal) a None)

-- the fact is that of an entry after a journal, and no other is
pub record IsTheFact (plan : PlanParts) (journal : List Entry) (e : Entry) (fact : Fact) : Type 0 where
  pub fact_is : IsFact plan journal e fact
  pub only : IsOnlyFact plan journal e fact

-- these are the facts of the entries of a journal
pub record AreFacts (plan : PlanParts) (journal : List Entry) (facts : List Fact) : Type 0 where
  pub count : length facts ≡ length journal
  pub each : (k : ℕ) (e : Entry) (fact : Fact) → slice_get journal k ≡ Some e → slice_get facts k ≡ Some fact
      → IsTheFact plan (take k journal) e fact

-- the texts of a journal's entries came behind what was reported
pub record ReportsEntries (texts : Texts) (plan : PlanParts) (journal : List Entry) (old new : Option (List ℕ)) : Type 0
  where
    pub facts : List Fact
    pub are : AreFacts plan journal facts
    pub written : Appends old new (entries_text texts plan no_sinces 0 journal facts)

-- where an agent stands after a journal, and in no other way; none where all its calls have returned
abbrev pub IsStandingOf : PlanParts → List Entry → ℕ → Option Standing → Type 0
IsStandingOf plan journal a None = call_of plan a (returned_of journal a) ≡ None
IsStandingOf plan journal a (Some s) = IsStanding plan journal a s × IsOnlyStanding plan journal a s

-- where each agent stands
abbrev pub AreStandings : PlanParts → List Entry → List (Option Standing) → Type 0
AreStandings plan journal standings =
    (a : ℕ) → a < MAX_AGENTS → IsStandingOf plan journal a (slice_index_or standings a None)

-- the one report of the moves, and its text by facts and standings came behind what the writer held
pub record ReportsBy (text_of : ReportParts → List Fact → List (Option Standing) → List ℕ) (plan : PlanParts)
    (moves : List Move) (old new : Option (List ℕ)) (report : ReportParts) : Type 0 where
  pub is_its : IsReplayOf plan moves report
  pub facts : List Fact
  pub facts_are : AreFacts plan report.journal facts
  pub standings : List (Option Standing)
  pub standings_are : AreStandings plan report.journal standings
  pub written : Appends old new (text_of report facts standings)

-- the same, where a format has a text for each part
abbrev pub ReportsFacts : Texts → PlanParts → List Move → Option (List ℕ) → Option (List ℕ) → ReportParts → Type 0
ReportsFacts texts plan = ReportsBy (facts_text texts plan) plan
