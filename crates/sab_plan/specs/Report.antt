-- Reports.
use Rattle.std.specs.Prelude.{ℕ, suc, List, [], ◌∷◌, length, map, Vec}
use Rattle.std.proofs.Common.{Global}
use Rattle.sab_plan.specs.declared.schedule.Move.{Move}
use Rattle.sab_plan.specs.declared.entry.Entry.{Entry}
use Rattle.sab_plan.specs.declared.progress.Progress.{Progress}
use Rattle.sab_plan.specs.Script.{ScriptParts}
use Rattle.sab_plan.specs.Journal.{returned_of}

-- what is reported about a run
pub record ReportParts : Type 0 where
  pub schedule : List Move
  pub journal : List Entry
  pub blocks : List (List ℕ)
  pub agents : List Progress

abbrev pub items_of_each : List (Vec ℕ Global) → List (List ℕ)
items_of_each blocks = map (λ (b : Vec ℕ Global). b.items) blocks

-- for each agent from a on, how many of its calls returned, and how many it has
abbrev pub progress_from : List Entry → ℕ → List ScriptParts → List Progress
progress_from journal a [] = []
progress_from journal a (s ∷ scripts) =
    record { returned = returned_of journal a; total = length s.calls } ∷ progress_from journal (suc a) scripts
