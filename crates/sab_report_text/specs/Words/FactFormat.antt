-- Formats that report the facts of a run.
use Rattle.std.specs.Prelude.{ℕ, ◌+◌, if◌then◌else◌, List, [], ◌∷◌, ◌++◌, replicate, Option, Some, None, slice_set}
use Rattle.sab_plan.specs.declared.entry.Entry.{Entry}
use Rattle.sab_plan.specs.Entry.{is_stuck}
use Rattle.sab_plan.specs.Plan.{PlanParts}
use Rattle.sab_plan.specs.Report.{ReportParts}
use Rattle.sab_plan.specs.declared.fact.Fact.{Fact}
use Rattle.sab_plan.specs.declared.plan.TheConstants.Plan.{MAX_AGENTS}
use Rattle.sab_plan.specs.declared.standing.Standing.{Standing}

-- what a format writes: a start, a text for each entry, by its plan, the position of each agent's last entry with an
-- effect before it, and its own position, and an end by the report and where its agents stand
pub record Texts : Type 0 where
  pub start : List ℕ
  pub entry : PlanParts → List (Option ℕ) → ℕ → Entry → Fact → List ℕ
  pub finish : ReportParts → List (Option Standing) → List ℕ

-- the position of each agent's last entry with an effect, after entry k
abbrev pub noted : List (Option ℕ) → ℕ → Entry → List (Option ℕ)
noted sinces k e = if is_stuck e.what then sinces else slice_set sinces e.agent (Some k)

-- the same, after these entries, of which the first is entry k
abbrev pub sinces_after : List (Option ℕ) → ℕ → List Entry → List (Option ℕ)
sinces_after sinces k [] = sinces
sinces_after sinces k (e ∷ journal) = sinces_after (noted sinces k e) (k + 1) journal

-- no agent has had an entry
abbrev pub no_sinces : List (Option ℕ)
no_sinces = replicate MAX_AGENTS None

-- the text of each entry of a journal with its fact, of which the first is entry k
abbrev pub entries_text : Texts → PlanParts → List (Option ℕ) → ℕ → List Entry → List Fact → List ℕ
entries_text texts plan sinces k [] facts = []
entries_text texts plan sinces k (e ∷ journal) [] = []
entries_text texts plan sinces k (e ∷ journal) (fact ∷ facts) =
    texts.entry plan sinces k e fact ++ entries_text texts plan (noted sinces k e) (k + 1) journal facts

-- the text of a report with its facts
abbrev pub facts_text : Texts → PlanParts → ReportParts → List Fact → List (Option Standing) → List ℕ
facts_text texts plan report facts standings =
    texts.start ++ (entries_text texts plan no_sinces 0 report.journal facts ++ texts.finish report standings)
