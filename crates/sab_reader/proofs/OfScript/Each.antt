-- Items that spell the elements of a list.
use Rattle.std.proofs.Common.{◌≡◌, ℕ, zero, suc, ◌+◌, ◌<◌, List, [], ◌∷◌, ◌++◌, length, get_or, drop, refl, ap, arith, append_assoc, append-nil, add-one, drop-cons}
use Rattle.std.proofs.lemmas.Grind.{common_steps}
use Rattle.std.proofs.Math.Seq.{drop-length}
use Rattle.serde_json.specs.Data.{Data, Items, no_items, item}
use Rattle.serde_json.specs.View.{view, items_view}
use Rattle.serde_json.specs.declared.value.Value.{Value}
use Rattle.sab_reader.specs.Script.Reading.{SpellsEach}

pub length-each : {X : Type 0} (S : Data → X → Type 0) (ts : List Value) (xs : List X) → SpellsEach S (items_view ts) xs
    → length xs ≡ length ts
length-each S [] [] h = refl
length-each S [] (x ∷ xs) h = absurd h
length-each S (t ∷ ts) [] h = absurd h
length-each S (t ∷ ts) (x ∷ xs) h = ap (λ n. suc n) (length-each S ts xs h.1)

-- each item spells an element
pub item_part : {X : Type 0} (S : Data → X → Type 0) (ts : List Value) (xs : List X) (i : ℕ) (t : Value) → i < length ts
    → t ≡ get_or ts i t → SpellsEach S (items_view ts) xs → (x : X) × S (view t) x
item_part S [] xs i t lt e h = absurd (omega arith)
item_part S (s ∷ ts) [] i t lt e h = absurd h
item_part S (s ∷ ts) (x ∷ xs) zero t lt e h = (x, rw e h.0)
item_part S (s ∷ ts) (x ∷ xs) (suc i) t lt e h = item_part S ts xs i t (omega arith) e h.1

-- xs are the elements of the items before the index i
abbrev pub EachSoFar : {X : Type 0} → (Data → X → Type 0) → List Value → ℕ → List X → Type 0
EachSoFar {X = X} S ts i xs = (rest : List X) → SpellsEach S (items_view (drop i ts)) rest
    → SpellsEach S (items_view ts) (xs ++ rest)

pub each_none : {X : Type 0} (S : Data → X → Type 0) (ts : List Value) → EachSoFar S ts 0 []
each_none S ts = λ rest h. h

pub each_more : {X : Type 0} (S : Data → X → Type 0) (ts : List Value) (i : ℕ) (xs : List X) (t : Value) (x : X)
    → i < length ts → t ≡ get_or ts i t → EachSoFar S ts i xs → S (view t) x → EachSoFar S ts (i + 1) (xs ++ x ∷ [])
each_more S ts i xs t x lt e h s = grind (arith, common_steps, items_view, drop, add-one, drop-cons, append_assoc)

pub each_all : {X : Type 0} (S : Data → X → Type 0) (ts : List Value) (i : ℕ) (xs : List X) → i ≡ length ts
    → EachSoFar S ts i xs → SpellsEach S (items_view ts) xs
each_all S ts i xs e h =
    let end : SpellsEach S (items_view (drop i ts)) [] = rw (e, drop-length ts) tt in
    rw append-nil at (h [] end)

-- one element for each item, so one list for all
pub each_same : {X : Type 0} (S T : Data → X → Type 0) → ((d : Data) (x y : X) → S d x → T d y → x ≡ y)
    → (ds : Items) (xs ys : List X) → SpellsEach S ds xs → SpellsEach T ds ys → xs ≡ ys
each_same S T same no_items [] [] p q = refl
each_same S T same no_items (x ∷ xs) ys p q = absurd p
each_same S T same no_items [] (y ∷ ys) p q = absurd q
each_same S T same (item d ds) [] ys p q = absurd p
each_same S T same (item d ds) (x ∷ xs) [] p q = absurd q
each_same S T same (item d ds) (x ∷ xs) (y ∷ ys) p q =
    let one = same d x y p.0 q.0 in
    let rest = each_same S T same ds xs ys p.1 q.1 in
    λ i. one i ∷ rest i
