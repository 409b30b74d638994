-- The explained text of a report: its plain lines, and words behind those of entries and agents.
use Rattle.std.specs.Prelude.{ℕ, ◌+◌, Bool, true, false, List, [], ◌∷◌, ◌++◌, Option, Some, None, codes, decimal, slice_index_or}
use Rattle.sab_plan.specs.declared.entry.Entry.{Entry}
use Rattle.sab_plan.specs.declared.progress.Progress.{Progress}
use Rattle.sab_plan.specs.Plan.{PlanParts}
use Rattle.sab_plan.specs.Report.{ReportParts}
use Rattle.sab_plan.specs.declared.fact.Fact.{Fact}
use Rattle.sab_plan.specs.declared.standing.At.{At}
use Rattle.sab_plan.specs.declared.standing.At.TheVariants as A
use Rattle.sab_plan.specs.declared.standing.Standing.{Standing}
use Rattle.sab_report_text.specs.declared.text.lines.Lines.{Lines}
use Rattle.sab_report_text.specs.Text.Lines.{line_if}
use Rattle.sab_report_text.specs.Text.Text.{entry_text, agent_text, agent_line, block_lines}
use Rattle.sab_report_text.specs.Words.CallText.{call_text, element_text}
use Rattle.sab_report_text.specs.Words.Column.{spaced}
use Rattle.sab_report_text.specs.Words.FactFormat.{Texts, facts_text}
use Rattle.sab_report_text.specs.Words.FactText.{stand_text, fact_words}

-- the line of entry k: its plain text, and from a column on its fact in words
abbrev pub explained_line : ℕ → List (List ℕ) → PlanParts → List (Option ℕ) → ℕ → Entry → Fact → List ℕ
explained_line column names plan sinces k e fact =
    spaced column (entry_text k e) ++ fact_words names plan sinces e fact ++ codes "\n"

-- whether a place was notified while an agent waits there
abbrev pub passed_text : List ℕ → Bool → List ℕ
passed_text element false = codes "; nobody has notified " ++ element ++ codes " since"
passed_text element true = codes "; " ++ element ++ codes " was notified since, waking others or nobody"

-- at which entry a call began, where that is known
abbrev pub at_text : Option ℕ → List ℕ
at_text None = []
at_text (Some k) = codes " at " ++ decimal k

-- a call that has begun
abbrev pub begun_text : List ℕ → Option ℕ → List ℕ
begun_text call since = codes "began " ++ call ++ at_text since ++ codes " and hasn't acted"

-- an agent that waits in a call at an element
abbrev pub waits_text : List ℕ → List ℕ → Option ℕ → Bool → List ℕ
waits_text call element since notified =
    codes "waits" ++ stand_text element since ++ codes ", in " ++ call ++ passed_text element notified

-- an agent that was woken and hasn't left its wait
abbrev pub unleft_text : List ℕ → ℕ → List ℕ
unleft_text call k = codes "was woken by " ++ decimal k ++ codes " and hasn't left " ++ call

-- how far the call of an agent came
abbrev pub standing_at : List ℕ → List ℕ → Option ℕ → At → List ℕ
standing_at call element since A.Ready = codes "hasn't begun " ++ call
standing_at call element since A.Begun = begun_text call since
standing_at call element since (A.Waits notified) = waits_text call element since notified
standing_at call element since (A.Woken k) = unleft_text call k
standing_at call element since A.Answered = codes "hasn't returned from " ++ call

abbrev pub standing_words : List (List ℕ) → Standing → List ℕ
standing_words names s = standing_at (call_text names s.call) (element_text names s.call) s.since s.at

-- the line of agent a, of which some calls may be left
abbrev pub standing_line : ℕ → List (List ℕ) → ℕ → Progress → Option Standing → List ℕ
standing_line column names a p None = agent_line a p
standing_line column names a p (Some s) = spaced column (agent_text a p) ++ standing_words names s ++ codes "\n"

-- a line for each agent, of which the first is agent a
abbrev pub standing_lines : ℕ → List (List ℕ) → List (Option Standing) → ℕ → List Progress → List ℕ
standing_lines column names standings a [] = []
standing_lines column names standings a (p ∷ agents) =
    standing_line column names a p (slice_index_or standings a None)
    ++ standing_lines column names standings (a + 1) agents

-- what is written about a run in words: a line for each entry that has one, then one for each block and each agent; the
-- words from this column on
abbrev pub words_texts : ℕ → List (List ℕ) → Lines → Texts
words_texts column names lines = record {
  start = [];
  entry = λ plan sinces k e fact. line_if lines e.what (explained_line column names plan sinces k e fact);
  finish = λ report standings. block_lines 0 report.blocks ++ standing_lines column names standings 0 report.agents;
}

-- the explained text of a report, its journal by these lines, the words from this column on
abbrev pub explained_text : ℕ → List (List ℕ) → PlanParts → Lines → ReportParts → List Fact → List (Option Standing)
    → List ℕ
explained_text column names plan lines = facts_text (words_texts column names lines) plan
