-- The column at which the words of a report begin.
use Rattle.std.specs.Prelude.{◌≡◌, ℕ, ◌+◌, ◌-◌, ◌≤◌, max, List, [], ◌∷◌, ◌++◌, length, replicate, Some, slice_get}
use Rattle.sab_plan.specs.declared.entry.Entry.{Entry}
use Rattle.sab_plan.specs.declared.progress.Progress.{Progress}
use Rattle.sab_plan.specs.Report.{ReportParts}
use Rattle.sab_report_text.specs.Text.Text.{entry_text, agent_text}

-- the length of the longest text of these entries, of which the first is entry k
abbrev pub longest_entry : ℕ → List Entry → ℕ
longest_entry k [] = 0
longest_entry k (e ∷ journal) = max (length (entry_text k e)) (longest_entry (k + 1) journal)

-- the length of the longest text of these agents, of which the first is agent a
abbrev pub longest_agent : ℕ → List Progress → ℕ
longest_agent a [] = 0
longest_agent a (p ∷ agents) = max (length (agent_text a p)) (longest_agent (a + 1) agents)

-- two columns behind the longest text of an entry or an agent
abbrev pub column_of : ReportParts → ℕ
column_of report = max (longest_entry 0 report.journal) (longest_agent 0 report.agents) + 2

-- a text, and spaces up to the column
abbrev pub spaced : ℕ → List ℕ → List ℕ
spaced column text = text ++ replicate (column - length text) 32

-- the text of each entry and of each agent ends two columns before this one, or sooner
pub record HasRoom (report : ReportParts) (column : ℕ) : Type 0 where
  pub entries : (k : ℕ) (e : Entry) → slice_get report.journal k ≡ Some e → length (entry_text k e) + 2 ≤ column
  pub agents : (a : ℕ) (p : Progress) → slice_get report.agents a ≡ Some p → length (agent_text a p) + 2 ≤ column
