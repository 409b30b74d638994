-- What is known of a script once its blocks and its views are read.
use Rattle.std.proofs.Common.{◌≡◌, ◌⊎◌, ℕ, zero, suc, ◌<◌, pos, List, [], ◌∷◌, ◌++◌, length, get_or, Option, Some, None, refl, sym, ap, ◌∙◌, subst, codes, arith, inl, inr}
use Rattle.std.proofs.lemmas.Grind.{common_steps}
use Rattle.std.specs.Prelude.{slice_get}
use Rattle.serde_json.specs.Data.{Data, string, array, Items, no_items, item}
use Rattle.serde_json.specs.Find.{get, get_item}
use Rattle.serde_json.specs.Events.{items_len}
use Rattle.serde_json.specs.View.{view, items_view}
use Rattle.serde_json.specs.declared.value.Value.{Value}
use Rattle.serde_json.proofs.Views.{get_item_within}
use Rattle.sab_plan.specs.declared.plan.TheConstants.Plan.{MAX_VIEWS}
use Rattle.sab_refusal.specs.declared.excerpt.Excerpt.{Excerpt}
use Rattle.sab_refusal.specs.declared.located.Located.{Located}
use Rattle.sab_refusal.specs.declared.location.Location.{Location}
use Rattle.sab_refusal.specs.declared.reason.Unit.TheVariants as unit
use Rattle.sab_refusal.specs.declared.reason.Reason.TheVariants as why
use Rattle.sab_refusal.specs.Location.{member_at, item_at}
use Rattle.sab_refusal.specs.declared.location.Location.TheVariants as at
use Rattle.sab_refusal.specs.declared.member.Member.{Member}
use Rattle.sab_refusal.specs.declared.member.Member.TheVariants as M
use Rattle.sab_reader.specs.declared.script.form.Form.{Form}
use Rattle.sab_reader.specs.declared.script.form.Form.TheVariants.{Bytes, Blocks}
use Rattle.sab_reader.specs.declared.script.view_spec.ViewSpec.{ViewSpec}
use Rattle.sab_reader.specs.Script.Blocks.{SpellsLens}
use Rattle.sab_reader.specs.Script.Reading.{SpellsEach}
use Rattle.sab_reader.specs.Script.Views.{SpellsView, SpellsViews, view_names}
use Rattle.sab_reader.specs.Script.Places.{Stands, part_of, item_of, lens_member, form_of}
use Rattle.sab_reader.specs.Script.Truth.{IsStart, IsTrueWhere}
use Rattle.sab_reader.specs.Script.Known.{HasLens, HasNames}

-- items and elements, one by one
pub count_of : {X : Type 0} (S : Data → X → Type 0) (ds : Items) (xs : List X) → SpellsEach S ds xs
    → items_len ds ≡ length xs
count_of S no_items [] h = refl
count_of S no_items (x ∷ xs) h = absurd h
count_of S (item d ds) [] h = absurd h
count_of S (item d ds) (x ∷ xs) h = ap (λ n. suc n) (count_of S ds xs h.1)

-- the item that spells an element
pub item_there : {X : Type 0} (S : Data → X → Type 0) (ds : Items) (xs : List X) (i : ℕ) (x : X) → SpellsEach S ds xs
    → slice_get xs i ≡ Some x → (d : Data) × (get_item i ds ≡ Some d) × S d x
item_there S no_items [] i x h g = cc
item_there S no_items (y ∷ xs) i x h g = absurd h
item_there S (item d ds) [] i x h g = absurd h
item_there S (item d ds) (y ∷ xs) zero x h g = let same : y ≡ x = cc in (d, refl, rw (← same) h.0)
item_there S (item d ds) (y ∷ xs) (suc i) x h g = item_there S ds xs i x h.1 g

-- the element that an item spells
pub element_there : {X : Type 0} (S : Data → X → Type 0) (ds : Items) (xs : List X) (i : ℕ) (d : Data)
    → SpellsEach S ds xs → get_item i ds ≡ Some d → (x : X) × (slice_get xs i ≡ Some x) × S d x
element_there S no_items [] i d h g = cc
element_there S no_items (x ∷ xs) i d h g = absurd h
element_there S (item e ds) [] i d h g = absurd h
element_there S (item e ds) (x ∷ xs) zero d h g = let same : e ≡ d = cc in (x, refl, rw (← same) h.0)
element_there S (item e ds) (x ∷ xs) (suc i) d h g = element_there S ds xs i d h.1 g

-- the item of an array that stands in a member of the script
pub item_stands : (root : Data) (list : Member) (i : ℕ) (ds : Items) (d : Data) → Stands root (at.Member list) (array ds)
    → get_item i ds ≡ Some d → Stands root (at.Item list i) d
item_stands root list i ds d there g = ap (item_of i) there ∙ g

pub has_lens : (root : Data) (form : Form) (d : Data) (lens : List ℕ) → Stands root (at.Member (lens_member form)) d
    → form_of root ≡ form → SpellsLens form d lens → HasLens root form lens
has_lens root Bytes d lens there is h = (is, (h.0, there ∙ ap Some h.1.0, h.2))
has_lens root Blocks d lens there is h = grind (arith, common_steps, count_of, item_there, item_stands, pos)

-- the name of a view that is spelled
pub name_of : (form : Form) (lens : List ℕ) (d : Data) (v : List ℕ × ViewSpec) → SpellsView form lens d v
    → get (codes "name") d ≡ Some (string v.0)
name_of Bytes lens d v h = rw (h.tree, h.description.members) refl
name_of Blocks lens d v h = rw (h.tree, h.description.members) refl

pub named_there : (vs : List (List ℕ × ViewSpec)) (v : ℕ) (x : List ℕ × ViewSpec) → slice_get vs v ≡ Some x
    → slice_get (view_names vs) v ≡ Some x.0
named_there [] v x g = cc
named_there (y ∷ vs) zero x g = cc
named_there (y ∷ vs) (suc v) x g = named_there vs v x g

-- the name of the view at a place is that of the view that is spelled there
name_there : (form : Form) (lens : List ℕ) (ds : Items) (vs : List (List ℕ × ViewSpec)) (v : ℕ) (name : List ℕ)
    (o : Option Data)
    → SpellsEach (SpellsView form lens) ds vs → get_item v ds ≡ o → part_of M.Name o ≡ Some (string name)
    → slice_get (view_names vs) v ≡ Some name
name_there form lens ds vs v name None h g there = cc
name_there form lens ds vs v name (Some d) h g there = grind (arith, common_steps, element_there, name_of, named_there)

pub has_names : (root : Data) (form : Form) (lens : List ℕ) (ds : Items) (vs : List (List ℕ × ViewSpec))
    → Stands root (at.Member M.Views) (array ds) → SpellsViews form lens ds vs → HasNames root (view_names vs)
has_names root form lens ds vs there h = λ v name stands.
    name_there form lens ds vs v name (get_item v ds) h.each refl
    (sym (ap (λ o. part_of M.Name (item_of v o)) there) ∙ stands)

-- ---- views that are read one after another

-- each of these elements is spelled by the item at its place
abbrev pub StandSoFar : {X : Type 0} → (Data → X → Type 0) → Items → List X → Type 0
StandSoFar {X = X} S ds xs =
    (k : ℕ) (x : X) → slice_get xs k ≡ Some x → (d : Data) × (get_item k ds ≡ Some d) × S d x

pub stand_none : {X : Type 0} (S : Data → X → Type 0) (ds : Items) → StandSoFar S ds []
stand_none S ds = λ k x g. absurd cc

push_cases : {X : Type 0} (xs : List X) (x : X) (k : ℕ) (y : X) → slice_get (xs ++ x ∷ []) k ≡ Some y
    → (slice_get xs k ≡ Some y) ⊎ ((k ≡ length xs) × (x ≡ y))
push_cases [] x zero y g = let same : x ≡ y = cc in inr (refl, same)
push_cases [] x (suc k) y g = absurd cc
push_cases (z ∷ xs) x zero y g = inl g
push_cases (z ∷ xs) x (suc k) y g = grind (arith, common_steps, push_cases xs x k y g)

-- the item at a place
pub tree_there : (ts : List Value) (i : ℕ) (t : Value) → i < length ts → t ≡ get_or ts i t
    → get_item i (items_view ts) ≡ Some (view t)
tree_there ts i t lt e = sym (get_item_within ts i t lt) ∙ ap (λ v. Some (view v)) (sym e)

pub stand_more : {X : Type 0} (S : Data → X → Type 0) (ts : List Value) (i : ℕ) (xs : List X) (t : Value) (x : X)
    → i < length ts → t ≡ get_or ts i t → length xs ≡ i → StandSoFar S (items_view ts) xs → S (view t) x
    → StandSoFar S (items_view ts) (xs ++ x ∷ [])
stand_more S ts i xs t x lt e count before s = grind (arith, common_steps, push_cases, tree_there)

pub items_count : (ts : List Value) → items_len (items_view ts) ≡ length ts
items_count [] = refl
items_count (t ∷ ts) = ap (λ n. suc n) (items_count ts)

-- where an item stands
item_place : (place part : Location) (i n : ℕ) → part ≡ item_at place n → n ≡ i → place ≡ at.Member M.Views
    → part ≡ at.Item M.Views i
item_place place part i n e count is = e ∙ (λ j. item_at (is j) (count j))

tree_stands : (root : Data) (place : Location) (ts : List Value) (i : ℕ) (t : Value) → place ≡ at.Member M.Views
    → Stands root place (array (items_view ts)) → i < length ts → t ≡ get_or ts i t
    → Stands root (at.Item M.Views i) (view t)
tree_stands root place ts i t is stands lt e =
    item_stands root M.Views i (items_view ts) (view t) (subst (λ l. Stands root l (array (items_view ts))) is stands)
    (tree_there ts i t lt e)

-- what is known where the views are read
abbrev pub IsViewsReported : Form → List ℕ → Location → Items → Located → Type 0
IsViewsReported form lens place ds e =
    IsTrueWhere place (array ds) (λ root. (place ≡ at.Member M.Views) × HasLens root form lens) e

-- what is reported about one view is true of each script that has the views
pub one_reported : (form : Form) (lens : List ℕ) (place part : Location) (ts : List Value) (i n : ℕ) (t : Value) (e : Located)
    → part ≡ item_at place n → n ≡ i → i < length ts → t ≡ get_or ts i t
    → IsTrueWhere part (view t) (λ root. ((k : ℕ) × (part ≡ at.Item M.Views k)) × HasLens root form lens) e
    → IsViewsReported form lens place (items_view ts) e
one_reported form lens place part ts i n t e part_is count lt is reported = grind (
  arith,
  common_steps,
  item_place,
  tree_stands,
  view,
)

-- there are too many
pub many_reported : (form : Form) (lens : List ℕ) (place : Location) (ts : List Value) → MAX_VIEWS < length ts
    → IsViewsReported form lens place (items_view ts)
    (record { at = place; why = why.TooMany unit.Views (length ts) MAX_VIEWS })
many_reported form lens place ts many = λ root stands known.
    ((known.0, (items_view ts, stands, items_count ts)), refl, many)

-- the element of a place among names
named_by : (vs : List (List ℕ × ViewSpec)) (v : ℕ) (name : List ℕ) → slice_get (view_names vs) v ≡ Some name
    → (x : List ℕ × ViewSpec) × (slice_get vs v ≡ Some x) × (x.0 ≡ name) × (v < length vs)
named_by [] v name g = absurd cc
named_by (x ∷ vs) zero name g = let same : x.0 ≡ name = cc in (x, refl, same, omega arith)
named_by (x ∷ vs) (suc v) name g =
    let found = named_by vs v name g in (found.0, found.1, found.2, omega (arith, found.3))

-- the name of a view before
pub twice_reported : (form : Form) (lens : List ℕ) (place part name_place : Location) (ts : List Value) (i n : ℕ) (t : Value)
    (name : List ℕ) (spec : ViewSpec) (vs : List (List ℕ × ViewSpec)) (v : ℕ) (reported : Excerpt)
    → part ≡ item_at place n → n ≡ i → name_place ≡ member_at part M.Name → i < length ts → t ≡ get_or ts i t
    → length vs ≡ i → StandSoFar (SpellsView form lens) (items_view ts) vs → SpellsView form lens (view t) (name, spec)
    → slice_get (view_names vs) v ≡ Some name → IsStart reported name
    → IsViewsReported form lens place (items_view ts) (record { at = name_place; why = why.Twice reported v })
twice_reported form lens place part name_place ts i n t name spec vs v reported part_is count name_is lt is length_is before
    spelled g start = λ root stands known.
    let there = item_place place part i n part_is count known.0 in
    let name_there = name_is ∙ ap (λ l. member_at l M.Name) there in
    let here = tree_stands root place ts i t known.0 stands lt is in
    let own : Stands root (at.Part M.Views i M.Name) (string name) =
    ap (part_of M.Name) here ∙ name_of form lens (view t) (name, spec) spelled in
    let found = named_by vs v name g in
    let other = before v found.0 found.1 in
    let views = subst (λ l. Stands root l (array (items_view ts))) known.0 stands in
    let item = item_stands root M.Views v (items_view ts) other.0 views other.1 in
    let same : Stands root (at.Part M.Views v M.Name) (string name) =
    ap (part_of M.Name) item ∙ name_of form lens other.0 found.0 other.2 ∙ ap (λ x. Some (string x)) found.2 in (
      i,
      name_there,
      omega (arith, found.3, length_is),
      (name, (subst (λ l. Stands root l (string name)) (sym name_there) own, start), same),
    )
