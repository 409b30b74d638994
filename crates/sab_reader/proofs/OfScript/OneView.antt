-- A tree spells one view at most, and a description is of one view.
use Rattle.std.proofs.Common.{◌≡◌, ℕ, ◌+◌, ◌*◌, ◌≤◌, zero, suc, ◌<◌, pos, List, [], ◌∷◌, length, Option, Some, None, refl, sym, ap, ◌∙◌, arith, is_some}
use Rattle.std.proofs.lemmas.Grind.{common_steps}
use Rattle.std.specs.Prelude.{IsTrue, slice_get}
use Rattle.std.proofs.Props.{props}
use mathlib.Core.HLevel.{is_prop→PathP}
use Rattle.serde_json.specs.Data.{Data, string, object, Members}
use Rattle.sab_block.specs.Kind.{element_size, kind_name}
use Rattle.sab_block.specs.View.{count}
use Rattle.sab_plan.specs.declared.plan_view.PlanView.{PlanView}
use Rattle.sab_reader.specs.declared.script.form.Form.{Form}
use Rattle.sab_reader.specs.declared.script.form.Form.TheVariants.{Bytes, Blocks}
use Rattle.sab_reader.specs.declared.script.view_spec.ViewSpec.{ViewSpec}
use Rattle.sab_reader.specs.Script.Blocks.{with_block, IsBlockIn}
use Rattle.sab_reader.specs.Script.Numbers.{whole, whole_or_null}
use Rattle.sab_reader.specs.Script.Views.{description, description_of, count_on, SpellsDescription, SpellsView, IsDescribed, AreDescribed}
use Rattle.sab_reader.proofs.OfScript.SameSpec.{same_kind, same_optional}
use Rattle.sab_reader.proofs.OfScript.WholeCall.{same_whole}

-- the members that follow the block
rest_same : (form : Form) (b c : ℕ) (m n : Members) → object (with_block form b m) ≡ object (with_block form c n)
    → m ≡ n
rest_same Bytes b c m n e = cc
rest_same Blocks b c m n e = cc

block_same : (form : Form) (b c : ℕ) (m n : Members) → IsBlockIn form b → IsBlockIn form c
    → object (with_block form b m) ≡ object (with_block form c n) → b ≡ c
block_same Bytes b c m n p q e = p ∙ sym q
block_same Blocks b c m n p q e =
    let tree : whole (pos b) ≡ whole (pos c) = cc in
    let same : pos b ≡ pos c = same_whole (pos b) (pos c) tree in cc

-- views with one description, on one block
same_described : (v w : List ℕ × ViewSpec) → description_of v.0 v.1 ≡ description_of w.0 w.1 → v.1.block ≡ w.1.block
    → v ≡ w
same_described v w e block = grind (arith, common_steps, same_kind, length, same_optional, same_whole)

pub same_view : (form : Form) (lens : List ℕ) (d : Data) (v w : List ℕ × ViewSpec) → SpellsView form lens d v
    → SpellsView form lens d w → v ≡ w
same_view form lens d v w p q = grind (arith, common_steps, rest_same, block_same, same_described, description)

-- the values of a description's members
pub description_parts : (lens : List ℕ) (rest : Members) (k l n o : Data) → rest ≡ description k l n o
    → (v : List ℕ × ViewSpec) → SpellsDescription lens rest v
    → (k ≡ string (kind_name v.1.kind)) × (l ≡ whole_or_null v.1.length) × (n ≡ string v.0) × (o ≡ whole v.1.offset)
description_parts lens rest k l n o e v h = grind (arith, common_steps, length)

pub same_text : (a b : List ℕ) → string a ≡ string b → a ≡ b
same_text a b e = cc

-- a view that can't be made isn't spelled
pub not_made : (lens : List ℕ) (rest : Members) (name : List ℕ) (spec : ViewSpec) → rest ≡ description_of name spec
    → count_on lens spec ≡ None → (v : List ℕ × ViewSpec) → SpellsDescription lens rest v × (v.1.block ≡ spec.block) → ⊥
not_made lens rest name spec e none v h =
    let same : v ≡ (name, spec) = same_described v (name, spec) (sym h.0.members ∙ e) h.1 in
    let counted : count_on lens v.1 ≡ None = ap (λ (w : List ℕ × ViewSpec). count_on lens w.1) same ∙ none in
    let made = rw counted at h.0.made in cc

-- what is at a position is there
pub there : {X : Type 0} (xs : List X) (i : ℕ) (x : X) → slice_get xs i ≡ Some x → i < length xs
there [] i x h = cc
there (y ∷ ys) zero x h = omega arith
there (y ∷ ys) (suc i) x h = let k = there ys i x h in omega (arith, k)

-- a view that can be made is on one of the blocks
on_there : (lens : List ℕ) (v : ViewSpec) (o : Option ℕ) → slice_get lens v.block ≡ o
    → IsTrue (is_some (count_on lens v)) → v.block < length lens
on_there lens v None e made = let bad = rw e at made in cc
on_there lens v (Some len) e made = there lens v.block len e

-- the block and the rest of a view that is spelled
pub block_part : (form : Form) (lens : List ℕ) (d : Data) (m : Members) → d ≡ object m → (v : List ℕ × ViewSpec)
    → SpellsView form lens d v → (p : ℕ × Members) × ((m ≡ with_block form p.0 p.1) × (p.0 < length lens))
block_part form lens d m e v h =
    let same : object m ≡ object (with_block form v.1.block h.rest) = sym e ∙ h.tree in
    let members : m ≡ with_block form v.1.block h.rest = cc in
    ((v.1.block, h.rest), (members, on_there lens v.1 (slice_get lens v.1.block) refl h.description.made))

same_made : (lens : List ℕ) (v : ViewSpec) (p q : PlanView) → IsDescribed lens v p → IsDescribed lens v q → p ≡ q
same_made lens v p q g h =
    let lengths : Some g.len ≡ Some h.len = sym g.there ∙ h.there in
    let len_is : g.len ≡ h.len = cc in
    let counts : Some g.elements ≡ Some h.elements =
    sym g.counted ∙ (λ i. count v.kind (len_is i) v.offset v.length) ∙ h.counted in
    let elements : g.elements ≡ h.elements = cc in
    let kind : p.view.kind ≡ q.view.kind = g.view.kind_is ∙ sym h.view.kind_is in
    let block_len : p.view.block_len ≡ q.view.block_len = g.view.block_len_is ∙ len_is ∙ sym h.view.block_len_is in
    let offsets : pos p.view.offset ≡ pos q.view.offset = g.view.offset_is ∙ sym h.view.offset_is in
    let offset : p.view.offset ≡ q.view.offset = cc in
    let len : p.view.len ≡ q.view.len = g.view.len_is ∙ elements ∙ sym h.view.len_is in
    let block : p.block ≡ q.block = g.block ∙ sym h.block in
    λ i. record {
      block = block i;
      view = record {
        kind = kind i;
        block_len = block_len i;
        offset = offset i;
        len = len i;
        inside =
            is_prop→PathP (λ j. offset j + len j * element_size (kind j) ≤ block_len j) (λ j. hlevel props)
            p.view.inside q.view.inside i;
      };
    }

pub all_made : (lens : List ℕ) (vs : List (List ℕ × ViewSpec)) (ps qs : List PlanView) → AreDescribed lens vs ps
    → AreDescribed lens vs qs → ps ≡ qs
all_made lens [] [] [] g h = refl
all_made lens [] (p ∷ ps) qs g h = absurd g
all_made lens [] [] (q ∷ qs) g h = absurd h
all_made lens (v ∷ vs) [] qs g h = absurd g
all_made lens (v ∷ vs) (p ∷ ps) [] g h = absurd h
all_made lens (v ∷ vs) (p ∷ ps) (q ∷ qs) g h =
    let one = same_made lens v.1 p q g.0 h.0 in
    let rest = all_made lens vs ps qs g.1 h.1 in
    λ i. one i ∷ rest i
