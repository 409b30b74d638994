-- Scripts that are judged, or that stand for a run with ordinary accesses.
use Rattle.std.proofs.Common.{◌≡◌, ℕ, Bool, true, false, List, Option, inl, inr, refl, sym, ap, ◌∙◌}
use Rattle.std.specs.List.{list_any}
use Rattle.sab_replay.proofs.OfScriptRunner.ReplaySteps.{keeps_same}
use Rattle.sab_replay.specs.declared.faults.tool_fault.ToolFault.TheVariants.{OrdinaryData, WriteFailed}
use Rattle.sab_reader.specs.Script.Script.{IsScriptOf}
use Rattle.sab_reader.specs.Script.Setup.{SetupParts}
use Rattle.sab_reader.specs.Script.Views.{view_names}
use Rattle.sab_replay.specs.Report.Judging.{IsJudgeFault}
use Rattle.sab_replay.specs.Report.Ordinary.{has_ordinary_data, is_ordinary_name}

-- what was found in the names is what the setup has
pub ordinary_found : (names : List (List ℕ)) (setup : SetupParts) (found b : Bool) → names ≡ view_names setup.views
    → found ≡ list_any is_ordinary_name names → found ≡ b → has_ordinary_data setup ≡ b
ordinary_found names setup found b same is was = ap (list_any is_ordinary_name) (sym same) ∙ sym is ∙ was

-- such a script is refused, and nothing was written
pub ordinary_refused : (old : Option (List ℕ)) (script : List ℕ) (setup : SetupParts) → IsScriptOf script setup
    → has_ordinary_data setup ≡ true → IsJudgeFault old old script OrdinaryData
ordinary_refused old script setup spelled is = inl (keeps_same old, inr (refl, (setup, spelled, is)))

-- a script that can be judged, where a write failed
pub unwritten_verdict : (old new : Option (List ℕ)) (script : List ℕ) (setup : SetupParts) → IsScriptOf script setup
    → has_ordinary_data setup ≡ false → IsJudgeFault old new script WriteFailed
unwritten_verdict old new script setup spelled is = inr (refl, (setup, spelled, is))
