-- Who of a line is woken or taken off, as loops take them out.
use Rattle.std.proofs.Common.{◌≡◌, ◌⊎◌, inl, inr, ℕ, zero, suc, ◌<◌, ◌≤◌, ◌||◌, ◌==◌, Bool, true, false, if◌then◌else◌, List, [], ◌∷◌, length, map, filter, take, get_or, set, refl, sym, ap, ◌∙◌, arith, eq-eqb, add-one, ◌+◌, ◌-◌, get_or-set_same, get_or-set_other}
use Rattle.std.proofs.lemmas.Grind.{common_steps}
use Rattle.std.specs.List.{list_any, remove}
use Rattle.std.proofs.lemmas.Bool.{cases_eq, true≢false, ne_eqb}
use Rattle.sab_plan.specs.declared.place.Place.{Place}
use Rattle.sab_plan.specs.declared.waiter.Waiter.{Waiter}
use Rattle.sab_object.specs.Object.{is_at, waiters, without_first}

-- the line where, from index i on, n more are taken out
abbrev pub rest_from : ℕ → ℕ → Place → List Waiter → List Waiter
rest_from zero n p line = without_first n p line
rest_from (suc i) n p [] = []
rest_from (suc i) n p (w ∷ line) = w ∷ rest_from i n p line

-- the agents that wait at the place from index i on
abbrev pub names_from : ℕ → Place → List Waiter → List ℕ
names_from zero p line = waiters p line
names_from (suc i) p [] = []
names_from (suc i) p (w ∷ line) = names_from i p line

-- one of them is this agent
abbrev pub has : ℕ → List ℕ → Bool
has b names = list_any (λ a. a == b) names

if_true : {X : Type 0} (b : Bool) (x y : X) → b ≡ true → (if b then x else y) ≡ x
if_true true x y e = refl
if_true false x y e = absurd (true≢false (sym e))

if_false : {X : Type 0} (b : Bool) (x y : X) → b ≡ false → (if b then x else y) ≡ y
if_false true x y e = absurd (true≢false e)
if_false false x y e = refl

pub without_none : (p : Place) (line : List Waiter) → without_first 0 p line ≡ line
without_none p [] = refl
without_none p (w ∷ line) = refl

pub rest_remove : (line : List Waiter) (i n : ℕ) (p : Place) (w : Waiter) → i < length line → w ≡ get_or line i w → is_at p w ≡ true
    → rest_from i n p (remove line i) ≡ rest_from i (suc n) p line
rest_remove [] i n p w lt e at = absurd (omega arith)
rest_remove (x ∷ line) zero n p w lt e at = sym (if_true (is_at p x) _ _ (ap (is_at p) (sym e) ∙ at))
rest_remove (x ∷ line) (suc i) n p w lt e at = ap (λ ws. x ∷ ws) (rest_remove line i n p w (omega arith) e at)

pub rest_skip : (line : List Waiter) (i n : ℕ) (p : Place) (w : Waiter) → i < length line → w ≡ get_or line i w → is_at p w ≡ false
    → rest_from (suc i) (suc n) p line ≡ rest_from i (suc n) p line
rest_skip [] i n p w lt e at = absurd (omega arith)
rest_skip (x ∷ line) zero n p w lt e at = sym (if_false (is_at p x) _ _ (ap (is_at p) (sym e) ∙ at))
rest_skip (x ∷ line) (suc i) n p w lt e at = ap (λ ws. x ∷ ws) (rest_skip line i n p w (omega arith) e at)

pub rest_none : (line : List Waiter) (i : ℕ) (p : Place) → rest_from i 0 p line ≡ line
rest_none line zero p = without_none p line
rest_none [] (suc i) p = refl
rest_none (x ∷ line) (suc i) p = ap (λ ws. x ∷ ws) (rest_none line i p)

pub rest_end : (line : List Waiter) (i n : ℕ) (p : Place) → length line ≤ i → rest_from i n p line ≡ line
rest_end [] zero n p le = refl
rest_end [] (suc i) n p le = refl
rest_end (x ∷ line) zero n p le = absurd (omega arith)
rest_end (x ∷ line) (suc i) n p le = ap (λ ws. x ∷ ws) (rest_end line i n p (omega arith))

pub names_remove : (line : List Waiter) (i : ℕ) (p : Place) (w : Waiter) → i < length line → w ≡ get_or line i w → is_at p w ≡ true
    → names_from i p line ≡ w.agent ∷ names_from i p (remove line i)
names_remove [] i p w lt e at = absurd (omega arith)
names_remove (x ∷ line) zero p w lt e at =
    ap (map (λ (v : Waiter). v.agent)) (if_true (is_at p x) _ _ (ap (is_at p) (sym e) ∙ at))
    ∙ ap (λ (v : Waiter). v.agent ∷ waiters p line) (sym e)
names_remove (x ∷ line) (suc i) p w lt e at = names_remove line i p w (omega arith) e at

pub names_skip : (line : List Waiter) (i : ℕ) (p : Place) (w : Waiter) → i < length line → w ≡ get_or line i w → is_at p w ≡ false
    → names_from (suc i) p line ≡ names_from i p line
names_skip [] i p w lt e at = absurd (omega arith)
names_skip (x ∷ line) zero p w lt e at =
    sym (ap (map (λ (v : Waiter). v.agent)) (if_false (is_at p x) _ _ (ap (is_at p) (sym e) ∙ at)))
names_skip (x ∷ line) (suc i) p w lt e at = names_skip line i p w (omega arith) e at

pub names_end : (line : List Waiter) (i : ℕ) (p : Place) → length line ≤ i → names_from i p line ≡ []
names_end [] zero p le = refl
names_end [] (suc i) p le = refl
names_end (x ∷ line) zero p le = absurd (omega arith)
names_end (x ∷ line) (suc i) p le = names_end line i p (omega arith)

-- a woken agent is one of the names
pub woken_one : (woken : List Bool) (a b : ℕ) (names : List ℕ) → a < length woken
    → (get_or (set woken a true) b false || has b names) ≡ (get_or woken b false || has b (a ∷ names))
woken_one woken a b names lt =
    grind (arith, common_steps, cases_eq, get_or, set, get_or-set_same, eq-eqb, get_or-set_other, ne_eqb)

one_less : (n : ℕ) → 0 < n → n ≡ suc (n - 1)
one_less n lt = omega (arith, lt)

-- a waiter at the place is taken out
module _ (line line' : List Waiter) (i left : ℕ) (p : Place) (w : Waiter) (some : 0 < left) (lt : i < length line)
    (items : line' ≡ remove line i) (is : w ≡ get_or line i w) (at : is_at p w ≡ true) where
  pub taken_rest : (target : List Waiter) → rest_from i left p line ≡ target → rest_from i (left - 1) p line' ≡ target
  taken_rest target h =
      ap (rest_from i (left - 1) p) items ∙ (rest_remove line i (left - 1) p w lt is at
      ∙ (ap (λ m. rest_from i m p line) (sym (one_less left some)) ∙ h))

  pub taken_woken : (woken : List Bool) (b : ℕ) (target : Bool) → w.agent < length woken
      → (get_or woken b false || has b (take left (names_from i p line))) ≡ target
      → (get_or (set woken w.agent true) b false || has b (take (left - 1) (names_from i p line'))) ≡ target
  taken_woken woken b target below h =
      woken_one woken w.agent b (take (left - 1) (names_from i p line')) below
      ∙ (ap (λ ws. get_or woken b false || has b (w.agent ∷ take (left - 1) (names_from i p ws))) items
      ∙ (ap (λ ns. get_or woken b false || has b (take (suc (left - 1)) ns)) (sym (names_remove line i p w lt is at))
      ∙ (ap (λ m. get_or woken b false || has b (take m (names_from i p line))) (sym (one_less left some)) ∙ h)))

-- a waiter at another place is passed by
module _ (line : List Waiter) (i left : ℕ) (p : Place) (w : Waiter) (some : 0 < left) (lt : i < length line)
    (is : w ≡ get_or line i w) (at : is_at p w ≡ false) where
  pub passed_rest : (target : List Waiter) → rest_from i left p line ≡ target → rest_from (i + 1) left p line ≡ target
  passed_rest target h =
      ap (λ j. rest_from j left p line) (add-one i) ∙ (ap (λ m. rest_from (suc i) m p line) (one_less left some)
      ∙ (rest_skip line i (left - 1) p w lt is at ∙ (ap (λ m. rest_from i m p line) (sym (one_less left some)) ∙ h)))

  pub passed_woken : (woken : List Bool) (b : ℕ) (target : Bool)
      → (get_or woken b false || has b (take left (names_from i p line))) ≡ target
      → (get_or woken b false || has b (take left (names_from (i + 1) p line))) ≡ target
  passed_woken woken b target h =
      ap (λ j. get_or woken b false || has b (take left (names_from j p line))) (add-one i)
      ∙ (ap (λ ns. get_or woken b false || has b (take left ns)) (names_skip line i p w lt is at) ∙ h)

-- the loop is over
module _ (line : List Waiter) (i left : ℕ) (p : Place) (over : (left ≡ 0) ⊎ (length line ≤ i)) where
  pub over_rest : rest_from i left p line ≡ line
  over_rest = elim over [
    | inl e ↦ ap (λ m. rest_from i m p line) e ∙ rest_none line i p
    | inr le ↦ rest_end line i left p le
  ]

  pub over_woken : (woken : List Bool) (b : ℕ) → (get_or woken b false || has b (take left (names_from i p line))) ≡ get_or woken b false
  over_woken woken b = elim over [
    | inl e ↦ ap (λ m. get_or woken b false || has b (take m (names_from i p line))) e ∙ or_false _
    | inr le ↦ ap (λ ns. get_or woken b false || has b (take left ns)) (names_end line i p le) ∙ (ap (λ ns. get_or woken b false || has b ns) (take_nil left) ∙ or_false _)
  ]
    where
      or_false : (x : Bool) → (x || false) ≡ x
      or_false true = refl
      or_false false = refl

      take_nil : (n : ℕ) → ◌≡◌ {A = List ℕ} (take n []) []
      take_nil zero = refl
      take_nil (suc n) = refl

-- an element that is read twice is one
pub read_twice : {X : Type 0} (xs : List X) (i : ℕ) (a b : X) → i < length xs → a ≡ get_or xs i a → b ≡ get_or xs i b → a ≡ b
read_twice [] i a b lt e f = absurd (omega arith)
read_twice (x ∷ xs) zero a b lt e f = e ∙ sym f
read_twice (x ∷ xs) (suc i) a b lt e f = read_twice xs i a b (omega arith) e f

-- the line where, from index i on, those that fail a test are taken out
abbrev pub kept_from : ℕ → (Waiter → Bool) → List Waiter → List Waiter
kept_from zero t line = filter t line
kept_from (suc i) t [] = []
kept_from (suc i) t (w ∷ line) = w ∷ kept_from i t line

pub kept_remove : (line line' : List Waiter) (i : ℕ) (t : Waiter → Bool) (w : Waiter) → i < length line → w ≡ get_or line i w → t w ≡ false
    → line' ≡ remove line i → (target : List Waiter) → kept_from i t line ≡ target → kept_from i t line' ≡ target
kept_remove line line' i t w lt e fails items target h = ap (kept_from i t) items ∙ (go line i lt e ∙ h)
  where
    go : (line : List Waiter) (i : ℕ) → i < length line → w ≡ get_or line i w → kept_from i t (remove line i) ≡ kept_from i t line
    go [] i lt e = absurd (omega arith)
    go (x ∷ line) zero lt e = sym (if_false (t x) _ _ (ap t (sym e) ∙ fails))
    go (x ∷ line) (suc i) lt e = ap (λ ws. x ∷ ws) (go line i (omega arith) e)

pub kept_skip : (line : List Waiter) (i : ℕ) (t : Waiter → Bool) (w : Waiter) → i < length line → w ≡ get_or line i w → t w ≡ true
    → (target : List Waiter) → kept_from i t line ≡ target → kept_from (i + 1) t line ≡ target
kept_skip line i t w lt e passes target h = ap (λ j. kept_from j t line) (add-one i) ∙ (go line i lt e ∙ h)
  where
    go : (line : List Waiter) (i : ℕ) → i < length line → w ≡ get_or line i w → kept_from (suc i) t line ≡ kept_from i t line
    go [] i lt e = absurd (omega arith)
    go (x ∷ line) zero lt e = sym (if_true (t x) _ _ (ap t (sym e) ∙ passes))
    go (x ∷ line) (suc i) lt e = ap (λ ws. x ∷ ws) (go line i (omega arith) e)

pub kept_end : (line : List Waiter) (i : ℕ) (t : Waiter → Bool) → length line ≤ i → kept_from i t line ≡ line
kept_end [] zero t le = refl
kept_end [] (suc i) t le = refl
kept_end (x ∷ line) zero t le = absurd (omega arith)
kept_end (x ∷ line) (suc i) t le = ap (λ ws. x ∷ ws) (kept_end line i t (omega arith))
