-- Members are read the same in whatever order they stand.
use Rattle.std.proofs.Common.{◌≡◌, ℕ, zero, suc, List, [], ◌∷◌, Option, Some, None, Bool, true, false, Ordering, Less, Equal, Greater, ◌&&◌, refl, ap, ◌∙◌, nat_cmp, arith}
use Rattle.std.proofs.lemmas.Grind.{common_steps}
use Rattle.std.specs.Prelude.{slice_get}
use Rattle.std.specs.Cmp.Lexicographic.{slice_cmp}
use Rattle.std.proofs.lemmas.Bool.{and_parts}
use Rattle.serde_json.specs.Data.{Data, Members, member, put}
use Rattle.sab_trace.specs.Tokens.{Slots, with_tree, members_of}

abbrev is_less : Ordering → Bool
is_less Less = true
is_less Equal = false
is_less Greater = false

abbrev is_greater : Ordering → Bool
is_greater Less = false
is_greater Equal = false
is_greater Greater = true

-- one name comes before another one
abbrev comes_before : List ℕ → List ℕ → Bool
comes_before k l = is_less (slice_cmp nat_cmp k l) && is_greater (slice_cmp nat_cmp l k)

abbrev comes_before_all : List ℕ → Slots → Bool
comes_before_all k [] = true
comes_before_all k (s ∷ ss) = comes_before k s.0 && comes_before_all k ss

abbrev pub are_sorted : Slots → Bool
are_sorted [] = true
are_sorted (s ∷ ss) = comes_before_all s.0 ss && are_sorted ss

-- the slot at a position has this tree
abbrev pub fill : ℕ → Data → Slots → Slots
fill i d [] = []
fill zero d (s ∷ ss) = (s.0, Some d) ∷ ss
fill (suc i) d (s ∷ ss) = s ∷ fill i d ss

less_is : (o : Ordering) → is_less o ≡ true → o ≡ Less
less_is Less e = refl
less_is Equal e = cc
less_is Greater e = cc

greater_is : (o : Ordering) → is_greater o ≡ true → o ≡ Greater
greater_is Less e = cc
greater_is Equal e = cc
greater_is Greater e = refl

less_of : (k l : List ℕ) → comes_before k l ≡ true → slice_cmp nat_cmp k l ≡ Less
less_of k l e = less_is (slice_cmp nat_cmp k l) (and_parts _ _ e).0

greater_of : (k l : List ℕ) → comes_before k l ≡ true → slice_cmp nat_cmp l k ≡ Greater
greater_of k l e = greater_is (slice_cmp nat_cmp l k) (and_parts _ _ e).1

-- what is put before all goes first
put_first : (k : List ℕ) (d : Data) (ss : Slots) → comes_before_all k ss ≡ true
    → put k d (members_of ss) ≡ member k d (members_of ss)
put_first k d [] e = refl
put_first k d ((l, None) ∷ ss) e = put_first k d ss (and_parts _ _ e).1
put_first k d ((l, Some t) ∷ ss) e = let less = less_of k l (and_parts _ _ e).0 in rw less refl

put_later : (k l : List ℕ) (d : Data) (o : Option Data) (ms : Members) → slice_cmp nat_cmp k l ≡ Greater
    → put k d (with_tree l o ms) ≡ with_tree l o (put k d ms)
put_later k l d None ms greater = refl
put_later k l d (Some t) ms greater = rw greater refl

abbrev name_in : Option (List ℕ × Option Data) → List ℕ
name_in None = []
name_in (Some x) = x.0

before_at : (l k : List ℕ) (i : ℕ) (ss : Slots) → comes_before_all l ss ≡ true → slice_get ss i ≡ Some (k, None)
    → comes_before l k ≡ true
before_at l k i [] e at = cc
before_at l k zero (s ∷ ss) e at = let same : s.0 ≡ k = ap name_in at in rw (← same) (and_parts _ _ e).0
before_at l k (suc i) (s ∷ ss) e at = before_at l k i ss (and_parts _ _ e).1 at

-- what is put into an empty slot stands there
pub put_at : (i : ℕ) (k : List ℕ) (d : Data) (ss : Slots) → are_sorted ss ≡ true → slice_get ss i ≡ Some (k, None)
    → put k d (members_of ss) ≡ members_of (fill i d ss)
put_at i k d [] sorted at = cc
put_at zero k d (s ∷ ss) sorted at = grind (arith, common_steps, and_parts, put_first)
put_at (suc i) k d (s ∷ ss) sorted at =
    let parts = and_parts _ _ sorted in
    let greater = greater_of s.0 k (before_at s.0 k i ss parts.0 at) in
    put_later k s.0 d s.1 (members_of ss) greater ∙ ap (with_tree s.0 s.1) (put_at i k d ss parts.1 at)
