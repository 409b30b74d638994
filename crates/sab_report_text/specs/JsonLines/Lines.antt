-- The lines of a report as JSON.
use Rattle.std.specs.Prelude.{ℕ, ◌+◌, List, [], ◌∷◌, ◌++◌, flat_map, Option, None, codes, slice_index_or}
use Rattle.serde_json.specs.Data.{Data, string, object, no_members, member}
use Rattle.serde_json.specs.Written.{compact_text}
use Rattle.sab_plan.specs.declared.progress.Progress.{Progress}
use Rattle.sab_plan.specs.Plan.{PlanParts}
use Rattle.sab_plan.specs.Report.{ReportParts}
use Rattle.sab_plan.specs.declared.fact.Fact.{Fact}
use Rattle.sab_plan.specs.declared.standing.Standing.{Standing}
use Rattle.sab_report_text.specs.declared.text.lines.Lines.{Lines}
use Rattle.sab_report_text.specs.Text.Lines.{line_if}
use Rattle.sab_report_text.specs.Text.Text.{hex_byte}
use Rattle.sab_report_text.specs.Words.FactFormat.{Texts, facts_text}
use Rattle.sab_report_text.specs.JsonLines.CallData.{natural}
use Rattle.sab_report_text.specs.JsonLines.FactData.{entry_data}
use Rattle.sab_report_text.specs.JsonLines.StandingData.{agent_data}

-- a tree on a line of its own
abbrev pub line : Data → List ℕ
line d = compact_text d ++ codes "\n"

-- block b, each byte of it in two hexadecimal digits
unfoldable pub block_data : ℕ → List ℕ → Data
block_data b bytes =
    object (member (codes "block") (natural b) (member (codes "bytes") (string (flat_map hex_byte bytes)) no_members))

-- a line for each block, of which the first is block b
abbrev pub block_lines : ℕ → List (List ℕ) → List ℕ
block_lines b [] = []
block_lines b (bytes ∷ blocks) = line (block_data b bytes) ++ block_lines (b + 1) blocks

-- a line for each agent, of which the first is agent a
abbrev pub agent_lines : List (List ℕ) → List (Option Standing) → ℕ → List Progress → List ℕ
agent_lines names standings a [] = []
agent_lines names standings a (p ∷ agents) =
    line (agent_data names a p (slice_index_or standings a None)) ++ agent_lines names standings (a + 1) agents

-- what is written about a run as JSON: a line for each entry that has one, and then one for each block and each agent
abbrev pub json_texts : List (List ℕ) → Lines → Texts
json_texts names lines = record {
  start = [];
  entry = λ plan sinces k e fact. line_if lines e.what (line (entry_data names k e fact));
  finish = λ report standings. block_lines 0 report.blocks ++ agent_lines names standings 0 report.agents;
}

-- the text of a report as JSON
abbrev pub json_text : List (List ℕ) → PlanParts → Lines → ReportParts → List Fact → List (Option Standing) → List ℕ
json_text names plan lines = facts_text (json_texts names lines) plan
