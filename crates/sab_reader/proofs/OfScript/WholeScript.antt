-- The parts of a script.
use Rattle.std.proofs.Common.{◌≡◌, ℕ, ◌≤◌, List, [], ◌∷◌, length, sym, ap, ◌∙◌, subst, pos, arith, All}
use Rattle.std.proofs.lemmas.Grind.{common_steps}
use Rattle.std.proofs.lemmas.List.Elements.{All-nil, All-cons}
use Rattle.serde_json.specs.Data.{Data, array, Items, no_items, item}
use Rattle.serde_json.specs.View.{items_view}
use Rattle.serde_json.specs.declared.value.Value.{Value}
use Rattle.sab_plan.specs.Script.{ScriptParts}
use Rattle.sab_plan.specs.declared.schedule.Move.{Move}
use Rattle.sab_reader.specs.declared.script.form.Form.{Form}
use Rattle.sab_reader.specs.declared.script.form.Form.TheVariants.{Bytes, Blocks}
use Rattle.sab_reader.specs.declared.script.view_spec.ViewSpec.{ViewSpec}
use Rattle.sab_reader.specs.Script.Reading.{SpellsEach}
use Rattle.sab_reader.specs.Script.Setup.{Spells, SetupParts, script_object}
use Rattle.sab_reader.specs.Script.Blocks.{SpellsLen, SpellsLens}
use Rattle.sab_reader.specs.Script.Numbers.{whole}
use Rattle.sab_reader.specs.Script.Views.{SpellsViews, AreDescribed, view_names}
use Rattle.sab_reader.specs.Script.Agents.{SpellsScripts}
use Rattle.sab_reader.specs.Script.Schedule.{SpellsSchedule}
use Rattle.sab_reader.proofs.OfScript.Each.{length-each, each_same}
use Rattle.sab_reader.proofs.OfScript.ViewNames.{names_same}
use Rattle.sab_reader.proofs.OfScript.WholeCall.{same_whole}
use Rattle.sab_reader.proofs.OfScript.Parts.{script_parts}

-- what a setup's parts are spelled by, where the form and the values of the members are known
pub record Restated (form : Form) (agent_trees : Items) (lens_tree : Data) (move_trees view_trees : Items)
    (p : SetupParts) : Type 0 where
  pub lens : SpellsLens form lens_tree p.plan.lens
  pub views : SpellsViews form p.plan.lens view_trees p.views
  pub described : AreDescribed p.plan.lens p.views p.plan.views
  pub agents : SpellsScripts (view_names p.views) agent_trees p.plan.scripts
  pub schedule : SpellsSchedule (length p.plan.scripts) move_trees p.schedule

same_items : (x y : Items) → array x ≡ array y → x ≡ y
same_items x y e = cc

pub restated : (d : Data) (form : Form) (agents : Items) (lens_tree : Data) (moves views : Items)
    → d ≡ script_object form (array agents) lens_tree (array moves) (array views) → (p : SetupParts) → Spells d p
    → Restated form agents lens_tree moves views p
restated d form agents lens_tree moves views e p h = grind (arith, common_steps, script_parts, array, same_items)

-- a length has one tree
same_len : (d : Data) (m n : ℕ) → SpellsLen d m → SpellsLen d n → m ≡ n
same_len d m n p q =
    let tree : whole (pos m) ≡ whole (pos n) = sym p.0 ∙ q.0 in
    let same : pos m ≡ pos n = same_whole (pos m) (pos n) tree in cc

pub same_lens : (form : Form) (d : Data) (m n : List ℕ) → SpellsLens form d m → SpellsLens form d n → m ≡ n
same_lens Bytes d m n p q = p.2 ∙ ap (λ (len : ℕ). len ∷ []) (same_len d p.0 q.0 p.1 q.1) ∙ sym q.2
same_lens Blocks d m n p q =
    let items : q.0 ≡ p.0 = same_items q.0 p.0 (sym q.1 ∙ p.1) in
    each_same SpellsLen SpellsLen same_len p.0 m n p.2.0 (subst (λ (ds : Items). SpellsEach SpellsLen ds n) items q.2.0)

all_short : (ds : Items) (lens : List ℕ) → SpellsEach SpellsLen ds lens → All (λ len. len ≤ 65536) lens
all_short no_items [] h = All-nil (λ len. len ≤ 65536)
all_short no_items (len ∷ lens) h = absurd h
all_short (item d ds) [] h = absurd h
all_short (item d ds) (len ∷ lens) h = All-cons (λ len. len ≤ 65536) len lens h.0.1 (all_short ds lens h.1)

-- one block at least, not too many, and none too long
pub lens_limits : (form : Form) (d : Data) (lens : List ℕ) → SpellsLens form d lens
    → (1 ≤ length lens) × (length lens ≤ 4) × All (λ len. len ≤ 65536) lens
lens_limits Bytes d lens h =
    rw h.2 (omega arith, omega arith, All-cons (λ len. len ≤ 65536) h.0 [] h.1.1 (All-nil (λ len. len ≤ 65536)))
lens_limits Blocks d lens h = (h.3, h.2.1, all_short h.0 lens h.2.0)

-- the parts that are still to be read are spelled, where a setup is

pub lens_part : (d : Data) (form : Form) (agents : Items) (l : Data) (moves views : Items)
    → d ≡ script_object form (array agents) l (array moves) (array views) → (p : SetupParts) → Spells d p
    → (lens : List ℕ) × SpellsLens form l lens
lens_part d form agents l moves views e p h = (p.plan.lens, (restated d form agents l moves views e p h).lens)

pub views_part : (d : Data) (form : Form) (agents : Items) (l : Data) (moves views : Items) (lens : List ℕ)
    → d ≡ script_object form (array agents) l (array moves) (array views) → SpellsLens form l lens → (p : SetupParts)
    → Spells d p → (vs : List (List ℕ × ViewSpec)) × SpellsViews form lens views vs
views_part d form agents l moves views lens e own p h = grind (arith, common_steps, restated, same_lens)

pub agents_part : (d : Data) (form : Form) (agents : Items) (l : Data) (moves : Items) (vt : List Value) (lens : List ℕ)
    (vs : List (List ℕ × ViewSpec))
    → d ≡ script_object form (array agents) l (array moves) (array (items_view vt)) → SpellsLens form l lens
    → SpellsViews form lens (items_view vt) vs → (p : SetupParts) → Spells d p
    → (ss : List ScriptParts) × SpellsScripts (view_names vs) agents ss
agents_part d form agents l moves vt lens vs e own views p h = grind (
  arith,
  common_steps,
  restated,
  items_view,
  same_lens,
  view_names,
  names_same,
)

pub schedule_part : (d : Data) (form : Form) (ts : List Value) (l : Data) (moves views : Items) (names : List (List ℕ))
    (ss : List ScriptParts)
    → d ≡ script_object form (array (items_view ts)) l (array moves) (array views)
    → SpellsScripts names (items_view ts) ss → (p : SetupParts) → Spells d p
    → (ms : List Move) × SpellsSchedule (length ss) moves ms
schedule_part d form ts l moves views names ss e agents p h = grind (arith, common_steps, restated, length-each, length)
