-- A call of three items and more.
use Rattle.std.proofs.Common.{◌≡◌, ℕ, zero, suc, ℤ, pos, negsuc, List, [], ◌∷◌, Result, Ok, Err, Some, false, true≢false, refl, sym, ap, ◌∙◌, arith}
use Rattle.std.proofs.lemmas.Grind.{common_steps}
use Rattle.std.specs.Prelude.{slice_get}
use Rattle.std.specs.List.{IsDistinct, AllByRecursion}
use Rattle.std.specs.Str.{bytes_eq}
use Rattle.std.proofs.lemmas.Slice.Eq.{bytes_eq-Decides}
use Rattle.serde_json.specs.Data.{Data, string, array, Items, item}
use Rattle.sab_plan.specs.declared.call.Call.{Call}
use Rattle.sab_refusal.specs.declared.located.Located.{Located}
use Rattle.sab_reader.specs.Script.Reading.{Finds}
use Rattle.sab_refusal.specs.Reason.{fault_of}
use Rattle.sab_reader.specs.Script.Calls.{Spelling, spelling_of, call_tree, SpellsParts, HasSpelling, SpellsCall}
use Rattle.sab_reader.specs.Script.Views.{SpellsName}
use Rattle.sab_reader.specs.Script.Numbers.{whole, SpellsWhole}
use Rattle.sab_block.specs.Operand.{IsSafeInteger}
use Rattle.sab_reader.proofs.OfScript.Refusing.{refuses_more}

-- a whole number has one tree
pub same_whole : (y z : ℤ) → whole y ≡ whole z → y ≡ z
same_whole (pos m) (pos n) e = let same : m ≡ n = cc in ap pos same
same_whole (pos m) (negsuc n) e = cc
same_whole (negsuc m) (pos n) e = cc
same_whole (negsuc m) (negsuc n) e = cc

-- names that differ have one place each
absent : (n : List ℕ) (ns : List (List ℕ)) (v : ℕ) → AllByRecursion (λ y. bytes_eq n y ≡ false) ns
    → slice_get ns v ≡ Some n → ⊥
absent n [] v h g = cc
absent n (x ∷ ns) zero h g =
    let same : n ≡ x = cc in true≢false (sym ((bytes_eq-Decides n x).1 same) ∙ h.0)
absent n (x ∷ ns) (suc v) h g = absent n ns v h.1 g

pub one_place : (ns : List (List ℕ)) (n : List ℕ) (v w : ℕ) → IsDistinct bytes_eq ns → slice_get ns v ≡ Some n
    → slice_get ns w ≡ Some n → v ≡ w
unfolding IsDistinct
one_place [] n v w d g h = cc
one_place (x ∷ ns) n zero zero d g h = refl
one_place (x ∷ ns) n zero (suc w) d g h = let same : x ≡ n = cc in absurd (absent x ns w d.0 (rw same h))
one_place (x ∷ ns) n (suc v) zero d g h = let same : x ≡ n = cc in absurd (absent x ns v d.0 (rw same g))
one_place (x ∷ ns) n (suc v) (suc w) d g h = ap (λ k. suc k) (one_place ns n v w d.1 g h)

-- the second item of a call's array is the name of a view
pub name_part : (names : List (List ℕ)) (d a b i : Data) (rest : Items) → d ≡ array (item a (item b (item i rest)))
    → (c : Call) → SpellsCall names d c → (v : ℕ) × SpellsName names b v
name_part names d a b i rest e c h = grind (arith, common_steps, spelling_of, array, item, call_tree)

-- the first is the name of the call, and the third its index
pub word_part : (names : List (List ℕ)) (d a b i : Data) (rest : Items) → d ≡ array (item a (item b (item i rest)))
    → (c : Call) → SpellsCall names d c → (s : List ℕ) × (a ≡ string s)
word_part names d a b i rest e c h = grind (arith, common_steps, spelling_of, array, item, call_tree, string)

pub index_part : (names : List (List ℕ)) (d a b i : Data) (rest : Items) → d ≡ array (item a (item b (item i rest)))
    → (c : Call) → SpellsCall names d c → (z : ℤ) × SpellsWhole i z
index_part names d a b i rest e c h = grind (arith, common_steps, spelling_of, array, item, call_tree, whole)

-- a spelling is that of an array's parts
pub parts_of_whole : (names : List (List ℕ)) (d b : Data) (word : List ℕ) (v : ℕ) (i : ℤ) (rest : Items)
    (s : Spelling) → IsDistinct bytes_eq names → d ≡ call_tree word b i rest → SpellsName names b v
    → HasSpelling names d s → SpellsParts word v i rest s
parts_of_whole names d b word v i rest s distinct e n h = grind (arith, common_steps, one_place, same_whole)

pub reads_call : (names : List (List ℕ)) (d b : Data) (word : List ℕ) (v : ℕ) (i : ℤ) (rest : Items)
    (r : Result Call Located) → IsDistinct bytes_eq names → d ≡ call_tree word b i rest → SpellsName names b v
    → IsSafeInteger i → Finds (λ (c : Call). c) (λ c. SpellsParts word v i rest (spelling_of c)) r
    → Finds (λ (c : Call). c) (SpellsCall names d) r
reads_call names d b word v i rest (Ok c) distinct e n w h = grind (arith, common_steps, call_tree)
reads_call names d b word v i rest (Err f) distinct e n w h =
    refuses_more (λ (c : Call). SpellsParts word v i rest (spelling_of c)) (SpellsCall names d) (fault_of f.why)
    (λ c p. (c, parts_of_whole names d b word v i rest (spelling_of c) distinct e n p)) h
