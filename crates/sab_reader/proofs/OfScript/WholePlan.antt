-- What was read makes a plan.
use Rattle.std.proofs.Common.{◌≡◌, ℕ, suc, ◌<◌, ◌≤◌, List, [], ◌∷◌, length, Some, refl, sym, ap, ◌∙◌, arith}
use Rattle.std.proofs.lemmas.Grind.{common_steps}
use Rattle.std.specs.Prelude.{All, slice_get}
use Rattle.std.proofs.lemmas.List.{length-map}
use Rattle.std.proofs.lemmas.List.Elements.{All-nil, All-cons}
use Rattle.serde_json.specs.Data.{Data, Items, no_items, item}
use Rattle.sab_block.specs.View.{block_len_of}
use Rattle.sab_plan.specs.declared.call.Call.{Call}
use Rattle.sab_plan.specs.declared.plan_view.PlanView.{PlanView}
use Rattle.sab_plan.specs.Call.{view_of}
use Rattle.sab_plan.specs.Script.{ScriptParts}
use Rattle.sab_plan.specs.Plan.{IsPlan, parts_of}
use Rattle.sab_reader.specs.declared.script.form.Form.{Form}
use Rattle.sab_reader.specs.declared.script.view_spec.ViewSpec.{ViewSpec}
use Rattle.sab_reader.specs.Script.Blocks.{SpellsLens}
use Rattle.sab_reader.specs.Script.Reading.{SpellsEach}
use Rattle.sab_reader.specs.Script.Views.{SpellsViews, AreDescribed, view_names}
use Rattle.sab_reader.specs.Script.Calls.{SpellsCall}
use Rattle.sab_reader.specs.Script.Agents.{SpellsScript, SpellsScripts}
use Rattle.sab_reader.proofs.OfScript.CallParts.{spelled_view}
use Rattle.sab_reader.proofs.OfScript.OneView.{there}
use Rattle.sab_reader.proofs.OfScript.WholeScript.{lens_limits}

pub as_many : (lens : List ℕ) (vs : List (List ℕ × ViewSpec)) (ps : List PlanView) → AreDescribed lens vs ps
    → length ps ≡ length vs
as_many lens [] [] h = refl
as_many lens [] (p ∷ ps) h = absurd h
as_many lens (v ∷ vs) [] h = absurd h
as_many lens (v ∷ vs) (p ∷ ps) h = ap (λ n. suc n) (as_many lens vs ps h.1)

on_block : (lens : List ℕ) (vs : List (List ℕ × ViewSpec)) (ps : List PlanView) → AreDescribed lens vs ps
    → All (λ (p : PlanView). p.block < length lens) ps
on_block lens [] [] h = All-nil (λ (p : PlanView). p.block < length lens)
on_block lens [] (p ∷ ps) h = absurd h
on_block lens (v ∷ vs) [] h = absurd h
on_block lens (v ∷ vs) (p ∷ ps) h =
    All-cons (λ (p : PlanView). p.block < length lens) p ps (rw h.0.block (there lens v.1.block h.0.len h.0.there))
    (on_block lens vs ps h.1)

fit_block : (lens : List ℕ) (vs : List (List ℕ × ViewSpec)) (ps : List PlanView) → AreDescribed lens vs ps
    → All (λ (p : PlanView). slice_get lens p.block ≡ Some (block_len_of p.view)) ps
fit_block lens [] [] h = All-nil (λ (p : PlanView). slice_get lens p.block ≡ Some (block_len_of p.view))
fit_block lens [] (p ∷ ps) h = absurd h
fit_block lens (v ∷ vs) [] h = absurd h
fit_block lens (v ∷ vs) (p ∷ ps) h = grind (arith, common_steps, there, fit_block lens vs ps h.1)

calls_named : (names : List (List ℕ)) (ds : Items) (cs : List Call) → SpellsEach (SpellsCall names) ds cs
    → All (λ call. view_of call < length names) cs
calls_named names no_items [] h = All-nil (λ call. view_of call < length names)
calls_named names no_items (c ∷ cs) h = absurd h
calls_named names (item d ds) [] h = absurd h
calls_named names (item d ds) (c ∷ cs) h = grind (arith, common_steps, spelled_view, there, calls_named names ds cs h.1)

scripts_named : (names : List (List ℕ)) (ds : Items) (ss : List ScriptParts) → SpellsEach (SpellsScript names) ds ss
    → All (λ (s : ScriptParts). All (λ call. view_of call < length names) s.calls) ss
scripts_named names no_items [] h = All-nil (λ (s : ScriptParts). All (λ call. view_of call < length names) s.calls)
scripts_named names no_items (s ∷ ss) h = absurd h
scripts_named names (item d ds) [] h = absurd h
scripts_named names (item d ds) (s ∷ ss) h =
    All-cons (λ (s : ScriptParts). All (λ call. view_of call < length names) s.calls) s ss
    (calls_named names h.0.call_trees s.calls h.0.calls.0) (scripts_named names ds ss h.1)

few_calls : (names : List (List ℕ)) (ds : Items) (ss : List ScriptParts) → SpellsEach (SpellsScript names) ds ss
    → All (λ (s : ScriptParts). length s.calls ≤ 1000) ss
few_calls names no_items [] h = All-nil (λ (s : ScriptParts). length s.calls ≤ 1000)
few_calls names no_items (s ∷ ss) h = absurd h
few_calls names (item d ds) [] h = absurd h
few_calls names (item d ds) (s ∷ ss) h =
    All-cons (λ (s : ScriptParts). length s.calls ≤ 1000) s ss h.0.calls.1 (few_calls names ds ss h.1)

pub makes_plan : (form : Form) (l : Data) (lens : List ℕ) (vd ad : Items) (vs : List (List ℕ × ViewSpec))
    (ps : List PlanView) (ss : List ScriptParts)
    → SpellsLens form l lens → SpellsViews form lens vd vs → AreDescribed lens vs ps
    → SpellsScripts (view_names vs) ad ss → IsPlan (parts_of lens ps ss)
makes_plan form l lens vd ad vs ps ss spelled views described scripts =
    let limits = lens_limits form l lens spelled in
    let count = as_many lens vs ps described in
    let names : length (view_names vs) ≡ length ps = length-map vs (λ (v : List ℕ × ViewSpec). v.0) ∙ sym count in
    record {
      limits = record {
        blocks = limits.1;
        bytes = limits.2;
        views = rw count views.views.few;
        agents = scripts.1;
        calls = few_calls (view_names vs) ad ss scripts.0;
      };
      blocks = record { some = limits.0; named = on_block lens vs ps described };
      views =
          record {
            lens =
                fit_block lens vs ps described;
            named = rw (← names) (scripts_named (view_names vs) ad ss scripts.0);
          };
    }
