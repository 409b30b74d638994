-- Names of views.
use Rattle.std.proofs.Common.{◌≡◌, ℕ, zero, suc, ◌<◌, List, [], ◌∷◌, ◌++◌, length, get_or, drop, map, Bool, true, false, Option, Some, None, refl, ap, sym, ◌∙◌, arith, drop-cons, subst, true≢false, length-append}
use Rattle.std.proofs.lemmas.Grind.{common_steps}
use Rattle.std.specs.Prelude.{String, string_bytes, slice_get, IfSome}
use Rattle.std.specs.declared.alloc.Global.{Global}
use Rattle.std.specs.List.{IsDistinct, AllByRecursion}
use Rattle.std.specs.Map.{keys_of, lookup}
use Rattle.std.specs.Str.{bytes_eq}
use Rattle.std.specs.String.{string_eq}
use Rattle.std.proofs.lemmas.List.{map-append}
use Rattle.std.proofs.lemmas.Slice.Eq.{bytes_eq-Decides}
use Rattle.serde_json.specs.Data.{Data}
use Rattle.serde_json.specs.View.{view, items_view}
use Rattle.serde_json.specs.declared.value.Value.{Value}
use Rattle.sab_reader.specs.declared.script.view_spec.ViewSpec.{ViewSpec}
use Rattle.sab_reader.specs.Script.Reading.{SpellsEach}
use Rattle.sab_reader.specs.declared.script.form.Form.{Form}
use Rattle.sab_reader.specs.Script.Views.{SpellsView, SpellsViews, AreViews}
use Rattle.sab_reader.proofs.OfScript.Each.{EachSoFar, each_same}
use Rattle.sab_reader.proofs.OfScript.OneView.{same_view}
use Rattle.std.specs.HashMap.{get_by}
use Rattle.std.proofs.Common.{is_some}
use Rattle.indexmap.specs.IndexMap.{IndexMap, insert_entry}
use Rattle.indexmap.proofs.CallerLemmas.{insert_entry-new}

-- the entries of a map, by name
abbrev pub named : List (String Global × ViewSpec) → List (List ℕ × ViewSpec)
named es = map (λ e. (string_bytes e.0, e.1)) es

abbrev pub names_of : List (List ℕ × ViewSpec) → List (List ℕ)
names_of vs = map (λ v. v.0) vs

each_differs : (k : String Global) (es : List (String Global × ViewSpec))
    → AllByRecursion (λ y. string_eq k y ≡ false) (keys_of es)
    → AllByRecursion (λ y. bytes_eq (string_bytes k) y ≡ false) (names_of (named es))
each_differs k [] h = tt
each_differs k (e ∷ es) h = (h.0, each_differs k es h.1)

-- keys that differ have names that differ
pub distinct_names : (es : List (String Global × ViewSpec)) → IsDistinct string_eq (keys_of es)
    → IsDistinct bytes_eq (names_of (named es))
unfolding IsDistinct
distinct_names [] h = tt
distinct_names (e ∷ es) h = (each_differs e.0 es h.0, distinct_names es h.1)

middle : (P : List ℕ → Type 0) (xs : List (List ℕ)) (n : List ℕ) (more : List (List ℕ))
    → AllByRecursion P (xs ++ n ∷ more) → P n
middle P [] n more h = h.0
middle P (x ∷ xs) n more h = middle P xs n more h.1

-- a name that is there isn't among the next names
not_twice : (n : List ℕ) (ns more : List (List ℕ)) (v : ℕ) → slice_get ns v ≡ Some n
    → IsDistinct bytes_eq (ns ++ n ∷ more) → ⊥
unfolding IsDistinct
not_twice n [] more v g d = cc
not_twice n (x ∷ ns) more zero g d =
    let same : x ≡ n = cc in
    let alike : bytes_eq x n ≡ true = (bytes_eq-Decides x n).1 same in
    true≢false (sym alike ∙ middle (λ y. bytes_eq x y ≡ false) ns n more d.0)
not_twice n (x ∷ ns) more (suc v) g d = not_twice n ns more v g d.1

pub names_same : (form : Form) (lens : List ℕ) (ts : List Value) (xs ys : List (List ℕ × ViewSpec))
    → SpellsEach (SpellsView form lens) (items_view ts) xs → SpellsEach (SpellsView form lens) (items_view ts) ys
    → names_of xs ≡ names_of ys
names_same form lens ts xs ys p q =
    ap names_of
    (each_same (SpellsView form lens) (SpellsView form lens) (same_view form lens) (items_view ts) xs ys p q)

pub each_drop : {X : Type 0} (S : Data → X → Type 0) (ts : List Value) (xs : List X) (i : ℕ)
    → SpellsEach S (items_view ts) xs → SpellsEach S (items_view (drop i ts)) (drop i xs)
each_drop S ts xs zero h = h
each_drop S [] [] (suc i) h = h
each_drop S [] (x ∷ xs) (suc i) h = absurd h
each_drop S (t ∷ ts) [] (suc i) h = absurd h
each_drop S (t ∷ ts) (x ∷ xs) (suc i) h = each_drop S ts xs i h.1

next_is : (form : Form) (lens : List ℕ) (ts : List Value) (i : ℕ) (t : Value) (n : List ℕ) (spec : ViewSpec)
    (ns : List (List ℕ)) (v : ℕ) (rest : List (List ℕ × ViewSpec))
    → i < length ts → t ≡ get_or ts i t → SpellsView form lens (view t) (n, spec) → slice_get ns v ≡ Some n
    → SpellsEach (SpellsView form lens) (items_view (drop i ts)) rest → IsDistinct bytes_eq (ns ++ names_of rest) → ⊥
next_is form lens ts i t n spec ns v [] lt e s g h d = let bad = rw (drop-cons ts i t) at h in absurd bad
next_is form lens ts i t n spec ns v (y ∷ more) lt e s g h d = grind (arith, common_steps, same_view, not_twice)

-- where a name comes again, no views are spelled
pub view_twice : (form : Form) (lens : List ℕ) (ts : List Value) (i : ℕ) (t : Value) (n : List ℕ) (spec : ViewSpec)
    (vs : List (List ℕ × ViewSpec)) (v : ℕ)
    → i < length ts → t ≡ get_or ts i t → EachSoFar (SpellsView form lens) ts i vs
    → SpellsView form lens (view t) (n, spec) → slice_get (names_of vs) v ≡ Some n → (ys : List (List ℕ × ViewSpec))
    → SpellsViews form lens (items_view ts) ys → ⊥
view_twice form lens ts i t n spec vs v lt e so_far s g ys h =
    let rest = each_drop (SpellsView form lens) ts ys i h.each in
    let same : names_of (vs ++ drop i ys) ≡ names_of ys =
    names_same form lens ts (vs ++ drop i ys) ys (so_far (drop i ys) rest) h.each in
    let parts : names_of ys ≡ names_of vs ++ names_of (drop i ys) =
    sym same ∙ map-append (λ (w : List ℕ × ViewSpec). w.0) vs (drop i ys) in
    next_is form lens ts i t n spec (names_of vs) v (drop i ys) lt e s g rest (rw parts at h.views.distinct)

-- `view_twice`, where a look-up found the name
pub twice_by : (form : Form) (lens : List ℕ) (ts : List Value) (i : ℕ) (t : Value) (n : List ℕ) (spec : ViewSpec)
    (vs : List (List ℕ × ViewSpec)) (found : Option ℕ)
    → i < length ts → t ≡ get_or ts i t → EachSoFar (SpellsView form lens) ts i vs
    → SpellsView form lens (view t) (n, spec) → IfSome found (λ v. slice_get (names_of vs) v ≡ Some n)
    → is_some found ≡ true → (ys : List (List ℕ × ViewSpec)) → SpellsViews form lens (items_view ts) ys → ⊥
twice_by form lens ts i t n spec vs None lt e so_far s there some ys h = absurd (true≢false (sym some))
twice_by form lens ts i t n spec vs (Some v) lt e so_far s there some ys h =
    view_twice form lens ts i t n spec vs v lt e so_far s there ys h

-- a name that no view has isn't found in the map
not_found : (es : List (String Global × ViewSpec)) (n : List ℕ)
    → ((v : ℕ) → slice_get (names_of (named es)) v ≡ Some n → ⊥) → lookup (λ k. bytes_eq n (string_bytes k)) es ≡ None
not_found [] n none = refl
not_found (e ∷ es) n none = by (bytes_eq n (string_bytes e.0)) refl (not_found es n (λ v g. none (suc v) g))
  where
    by : (b : Bool) → bytes_eq n (string_bytes e.0) ≡ b → lookup (λ k. bytes_eq n (string_bytes k)) es ≡ None
        → lookup (λ k. bytes_eq n (string_bytes k)) (e ∷ es) ≡ None
    by true t rest =
        let same : n ≡ string_bytes e.0 = (bytes_eq-Decides n (string_bytes e.0)).0 t in
        absurd (none 0 (ap (λ (b : List ℕ). Some b) (sym same)))
    by false t rest = rw t rest

-- a view with a new name goes last
pub added : {S : Type 0} (m : IndexMap (String Global) ViewSpec S) (es : List (String Global × ViewSpec))
    (k : String Global) (n : List ℕ) (spec : ViewSpec)
    → string_bytes k ≡ n → ((v : ℕ) → slice_get (names_of (named m.entries)) v ≡ Some n → ⊥)
    → es ≡ insert_entry string_eq m.entries k spec → named es ≡ named m.entries ++ (n, spec) ∷ []
added m es k n spec e none h =
    let absent = subst (λ (b : List ℕ). get_by (λ q. bytes_eq b (string_bytes q)) m ≡ None) (sym e)
    (not_found m.entries n none) in
    ap named (h ∙ insert_entry-new string_eq m k spec absent)
    ∙ map-append (λ (p : String Global × ViewSpec). (string_bytes p.0, p.1)) m.entries ((k, spec) ∷ [])
    ∙ ap (λ (b : List ℕ). named m.entries ++ (b, spec) ∷ []) e

-- the invariant of views, from the map's own

pub none_are_views : AreViews []
unfolding IsDistinct
none_are_views = record { few = omega arith; distinct = tt }

pub no_views : (es : List (String Global × ViewSpec)) → es ≡ [] → AreViews (named es)
no_views es e = rw e none_are_views

pub more_views : (es fs : List (String Global × ViewSpec)) (v : List ℕ × ViewSpec) → named fs ≡ named es ++ v ∷ []
    → length (named es) < 64 → IsDistinct string_eq (keys_of fs) → AreViews (named fs)
more_views es fs v e room distinct = grind (arith, common_steps, length, length-append, distinct_names)
