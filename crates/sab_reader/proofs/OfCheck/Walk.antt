-- Going over a text, one byte after another.
use Rattle.std.proofs.Common.{◌≡◌, ℕ, ◌+◌, ◌<◌, List, [], ◌∷◌, ◌++◌, length, take, drop, get_or, true, false, not, Some, None, refl, arith, sym, ◌⊎◌, inl, inr, add-one, drop-cons, subst}
use Rattle.std.proofs.Math.Seq.{drop-length}
use Rattle.std.proofs.lemmas.List.{take_more, take_all}
use Rattle.std.proofs.lemmas.Bool.{cases_eq}
use Rattle.std.specs.Prelude.{fold, find, ◌==◌}
use Rattle.sab_reader.specs.declared.check.foreign.Foreign.{Foreign}
use Rattle.sab_reader.specs.declared.check.scanning.Side.{Side}
use Rattle.sab_reader.specs.Check.Foreign.{side_behind, side_after, is_white, foreign_on, foreign_behind, HasNoneBefore, FindsFirst}

fold_last : {A B : Type 0} (f : B → A → B) (b : B) (xs : List A) (x : A)
    → fold f b (xs ++ x ∷ []) ≡ f (fold f b xs) x
fold_last f b [] x = refl
fold_last f b (y ∷ ys) x = fold_last f (f b y) ys x

-- the side behind one more byte
pub next_side : (text : List ℕ) (i b : ℕ) (side after : Side) → i < length text → b ≡ get_or text i b
    → side ≡ side_after (take i text) → after ≡ side_behind side b → after ≡ side_after (take (i + 1) text)
next_side text i b side after lt e s a =
    rw (take_more text i b lt, ← e, fold_last side_behind _ (take i text) b, ← s) a

-- what was found is the first
pub found_here : (text rest : List ℕ) (i : ℕ) (side : Side) (what : Foreign)
    → side ≡ side_after (take i text) → rest ≡ drop i text → Some what ≡ foreign_on side rest
    → HasNoneBefore text i → FindsFirst text (Some (record { at = i; what = what }))
found_here text rest i side what s r found none = (rw (← s, ← r) (sym found), none)

-- nothing was found here either
pub none_here : (text rest : List ℕ) (i : ℕ) (side : Side)
    → side ≡ side_after (take i text) → rest ≡ drop i text → None ≡ foreign_on side rest
    → HasNoneBefore text i → HasNoneBefore text (i + 1)
none_here text rest i side s r nothing none k lt = go (cases_eq k i)
  where
    go : (k ≡ i) ⊎ (k ≡ i → ⊥) → foreign_behind text k ≡ None
    go (inl e) = rw (e, ← s, ← r) (sym nothing)
    go (inr ne) = none k (omega (arith, lt, ne))

-- and nowhere
pub none_at_all : (text : List ℕ) (i : ℕ) → i ≡ length text → HasNoneBefore text i → FindsFirst text None
none_at_all text i e none = subst (λ n. HasNoneBefore text n) e none

-- a byte that stands between JSON's parts, and another one
pub found_white : (text : List ℕ) (i b : ℕ) → i < length text → b ≡ get_or text i b → is_white b ≡ true
    → find (λ c. not (is_white c)) (drop i text) ≡ find (λ c. not (is_white c)) text
    → find (λ c. not (is_white c)) (drop (i + 1) text) ≡ find (λ c. not (is_white c)) text
found_white text i b lt e white found = rw add-one (let t = rw (drop-cons text i b, ← e, white) at found in t)

pub found_other : (text : List ℕ) (i b : ℕ) → i < length text → b ≡ get_or text i b → is_white b ≡ false
    → find (λ c. not (is_white c)) (drop i text) ≡ find (λ c. not (is_white c)) text
    → Some b ≡ find (λ c. not (is_white c)) text
found_other text i b lt e other found = rw (drop-cons text i b, ← e, other) at found

-- no other one
pub found_no_other : (text : List ℕ) (i : ℕ) → i ≡ length text
    → find (λ c. not (is_white c)) (drop i text) ≡ find (λ c. not (is_white c)) text
    → None ≡ find (λ c. not (is_white c)) text
found_no_other text i e found = rw (e, drop-length text) at found
