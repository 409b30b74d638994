-- A tree spells one setup at most.
use Rattle.std.proofs.Common.{◌≡◌, ℕ, pos, List, length, sym, subst, ◌∙◌, arith}
use Rattle.std.proofs.lemmas.Grind.{common_steps}
use Rattle.std.specs.Str.{bytes_eq}
use Rattle.std.specs.List.{IsDistinct}
use Rattle.serde_json.specs.Data.{Data, boolean, array, Items}
use Rattle.sab_plan.specs.declared.schedule.Move.{Move}
use Rattle.sab_plan.specs.declared.schedule.Move.TheVariants.{Step, TimeUp}
use Rattle.sab_plan.specs.Script.{ScriptParts}
use Rattle.sab_reader.specs.Script.Reading.{SpellsEach}
use Rattle.sab_reader.specs.Script.Numbers.{whole}
use Rattle.sab_reader.specs.Script.Views.{SpellsView, AreDescribed, view_names}
use Rattle.sab_reader.specs.Script.Calls.{SpellsCall}
use Rattle.sab_reader.specs.Script.Agents.{agent_object, SpellsScript}
use Rattle.sab_reader.specs.Script.Schedule.{move_tree, SpellsMove}
use Rattle.sab_reader.specs.Script.Setup.{SetupParts, Spells, IsOnlySetup}
use Rattle.sab_reader.proofs.OfScript.Each.{each_same}
use Rattle.sab_reader.proofs.OfScript.OneCall.{same_call}
use Rattle.sab_reader.proofs.OfScript.OneView.{same_view, all_made}
use Rattle.sab_reader.proofs.OfScript.WholeCall.{same_whole}
use Rattle.sab_reader.proofs.OfScript.WholeScript.{Restated, restated, same_lens}

-- moves

same_move : (m n : ℕ) (d : Data) (x y : Move) → SpellsMove m d x → SpellsMove n d y → x ≡ y
same_move m n d (Step a) (Step b) p q = grind (arith, common_steps, whole, pos, same_whole)
same_move m n d (TimeUp a) (TimeUp b) p q = grind (arith, common_steps, move_tree, whole, pos, same_whole)
same_move m n d (Step a) (TimeUp b) p q =
    let trees : move_tree (Step a) ≡ move_tree (TimeUp b) = sym p.0 ∙ q.0 in cc
same_move m n d (TimeUp a) (Step b) p q =
    let trees : move_tree (TimeUp a) ≡ move_tree (Step b) = sym p.0 ∙ q.0 in cc

-- agents

same_script : (names : List (List ℕ)) → IsDistinct bytes_eq names → (d : Data) (s t : ScriptParts)
    → SpellsScript names d s → SpellsScript names d t → s ≡ t
same_script names distinct d s t p q =
    let trees : agent_object (boolean s.can_block) (array p.call_trees) ≡ agent_object (boolean t.can_block)
    (array q.call_trees) = sym p.tree ∙ q.tree in
    let can_block : s.can_block ≡ t.can_block = cc in
    let items : p.call_trees ≡ q.call_trees = cc in
    let calls = each_same (SpellsCall names) (SpellsCall names) (same_call names distinct) p.call_trees s.calls t.calls
    p.calls.0 (subst (λ (ds : Items). SpellsEach (SpellsCall names) ds t.calls) (sym items) q.calls.0) in
    λ i. record { can_block = can_block i; calls = calls i }

-- setups

pub only_setup : (d : Data) (s : SetupParts) → Spells d s → IsOnlySetup d s
only_setup d s p t q =
    let r : Restated p.form p.agent_trees p.lens_tree p.move_trees p.view_trees t =
    restated d p.form p.agent_trees p.lens_tree p.move_trees p.view_trees p.tree t q in
    let lens : t.plan.lens ≡ s.plan.lens = same_lens p.form p.lens_tree t.plan.lens s.plan.lens r.lens p.lens in
    let other_views : SpellsEach (SpellsView p.form s.plan.lens) p.view_trees t.views = rw (← lens) r.views.each in
    let views : t.views ≡ s.views = each_same (SpellsView p.form s.plan.lens) (SpellsView p.form s.plan.lens)
    (same_view p.form s.plan.lens) p.view_trees t.views s.views other_views p.views.each in
    let made : AreDescribed s.plan.lens s.views t.plan.views = rw (← lens, ← views) r.described in
    let plan_views : t.plan.views ≡ s.plan.views =
    all_made s.plan.lens s.views t.plan.views s.plan.views made p.described in
    let names = view_names s.views in
    let other_scripts : SpellsEach (SpellsScript names) p.agent_trees t.plan.scripts = rw (← views) r.agents.0 in
    let scripts : t.plan.scripts ≡ s.plan.scripts = each_same (SpellsScript names) (SpellsScript names)
    (same_script names p.views.views.distinct) p.agent_trees t.plan.scripts s.plan.scripts other_scripts p.agents.0
    in
    let moves : t.schedule ≡ s.schedule = each_same (SpellsMove (length t.plan.scripts))
    (SpellsMove (length s.plan.scripts)) (same_move (length t.plan.scripts) (length s.plan.scripts)) p.move_trees
    t.schedule s.schedule r.schedule.0 p.schedule.0 in
    λ i. record {
      plan =
          record { lens = lens i; views = plan_views i; scripts = scripts i };
      views = views i;
      schedule = moves i;
    }
