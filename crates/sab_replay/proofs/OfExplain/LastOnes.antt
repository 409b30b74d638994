-- The last entry of an agent that had an effect.
use Rattle.std.proofs.Common.{◌≡◌, inl, inr, ℕ, zero, suc, ◌<◌, ◌≤◌, Bool, true, false, List, [], ◌∷◌, ◌++◌, length, slice_get, Option, Some, None, refl, ap, sym, ◌∙◌, subst, arith, length-append}
use Rattle.std.specs.Prelude.{slice_index_or, slice_set, if◌then◌else◌}
use Rattle.std.proofs.lemmas.Bool.{cases_eq, true≢false}
use Rattle.std.proofs.lemmas.Option.{slice_get_within}
use Rattle.std.proofs.lemmas.List.{get_or-set_same, get_or-set_other}
use Rattle.sab_plan.specs.declared.entry.Entry.{Entry}
use Rattle.sab_plan.specs.Entry.{is_stuck}
use Rattle.sab_sim.proofs.ChangedLists.{slice_get-push}
use Rattle.sab_replay.specs.Explain.Fact.{HasEffect, IsLast}
use Rattle.sab_replay.specs.Explain.Explainer.{AreLast}

-- ---- there is one

-- an entry at the front moves the others by one
last_more : (e : Entry) (es : List Entry) (a : ℕ) (o : Option ℕ) → IsLast es a o → (p : Option ℕ) × IsLast (e ∷ es) a p
last_more e es a (Some j) h = (Some (suc j), (h.0, λ k. later k))
  where
    later : (k : ℕ) → HasEffect (e ∷ es) a k → k ≤ suc j
    later zero x = omega arith
    later (suc k) x = let l = h.1 k x in omega (arith, l)
last_more e es a None h = elim (cases_eq e.agent a) [
  | inl q ↦ go q (is_stuck e.what) refl
  | inr n ↦ (None, none (λ x. n x.0))
]
  where
    none : ((e.agent ≡ a) × (is_stuck e.what ≡ false) → ⊥) → IsLast (e ∷ es) a None
    none never zero x =
        never (let same : e ≡ x.0 = (let y = x.1 in cc) in
        (ap (λ (f : Entry). f.agent) same ∙ x.2, ap (λ (f : Entry). is_stuck f.what) same ∙ x.3))
    none never (suc k) x = h k x

    go : e.agent ≡ a → (b : Bool) → is_stuck e.what ≡ b → (p : Option ℕ) × IsLast (e ∷ es) a p
    go q true s = (None, none (λ x. true≢false (sym s ∙ x.1)))
    go q false s = (Some zero, ((e, refl, q, s), λ k. first k))
      where
        first : (k : ℕ) → HasEffect (e ∷ es) a k → k ≤ zero
        first zero x = omega arith
        first (suc k) x = absurd (h k x)

pub last_of : (journal : List Entry) (a : ℕ) → (o : Option ℕ) × IsLast journal a o
last_of [] a = (None, λ k x. let y = x.1 in absurd (cc))
last_of (e ∷ es) a = let rest = last_of es a in last_more e es a rest.0 rest.1

-- and no other
pub IsLast-one : (journal : List Entry) (a : ℕ) (o p : Option ℕ) → IsLast journal a o → IsLast journal a p → o ≡ p
IsLast-one journal a None None h g = refl
IsLast-one journal a None (Some j) h g = absurd (h j g.0)
IsLast-one journal a (Some i) None h g = absurd (g i h.0)
IsLast-one journal a (Some i) (Some j) h g =
    let l = h.1 j g.0 in
    let m = g.1 i h.0 in
    ap (λ (n : ℕ). Some n) (omega (arith, l, m))

-- ---- after one entry more

slice_get_before : {X : Type 0} (xs : List X) (y : X) (k : ℕ) (x : X) → slice_get xs k ≡ Some x
    → slice_get (xs ++ y ∷ []) k ≡ Some x
slice_get_before [] y k x e = absurd (cc)
slice_get_before (z ∷ xs) y zero x e = e
slice_get_before (z ∷ xs) y (suc k) x e = slice_get_before xs y k x e

slice_get_at : {X : Type 0} (xs : List X) (y : X) → slice_get (xs ++ y ∷ []) (length xs) ≡ Some y
slice_get_at [] y = refl
slice_get_at (x ∷ xs) y = slice_get_at xs y

-- an entry that has no effect for the agent leaves its last one
pub last_kept : (journal : List Entry) (e : Entry) (a : ℕ) (o : Option ℕ) → (e.agent ≡ a → is_stuck e.what ≡ false → ⊥)
    → IsLast journal a o → IsLast (journal ++ e ∷ []) a o
last_kept journal e a o never h = go o h
  where
    before : (k : ℕ) → HasEffect (journal ++ e ∷ []) a k → HasEffect journal a k
    before k x = elim (slice_get-push journal e k x.0 x.1) [
      | inl here ↦ (x.0, here.0, x.2, x.3)
      | inr new ↦ absurd
          (never (ap (λ (f : Entry). f.agent) new.1 ∙ x.2) (ap (λ (f : Entry). is_stuck f.what) new.1 ∙ x.3))
    ]

    go : (o : Option ℕ) → IsLast journal a o → IsLast (journal ++ e ∷ []) a o
    go None g = λ k x. g k (before k x)
    go (Some j) g = ((g.0.0, slice_get_before journal e j g.0.0 g.0.1, g.0.2, g.0.3), λ k x. g.1 k (before k x))

-- one that has is the last
last_new : (journal : List Entry) (e : Entry) → is_stuck e.what ≡ false
    → IsLast (journal ++ e ∷ []) e.agent (Some (length journal))
last_new journal e s = (
  (e, slice_get_at journal e, refl, s),
  λ k x. let l = slice_get_within (journal ++ e ∷ []) k x.0 x.1 in omega (arith, l, length-append journal (e ∷ [])),
)

pub AreLast-push : (journal : List Entry) (e : Entry) (last last' : List (Option ℕ))
    → e.agent < length last → last' ≡ (if is_stuck e.what then last else slice_set last e.agent (Some (length journal)))
    → AreLast journal last → AreLast (journal ++ e ∷ []) last'
AreLast-push journal e last last' room new h a l = go (is_stuck e.what) refl
  where
    written : is_stuck e.what ≡ false → last' ≡ slice_set last e.agent (Some (length journal))
    written s = new ∙ (rw s refl)

    go : (b : Bool) → is_stuck e.what ≡ b → IsLast (journal ++ e ∷ []) a (slice_index_or last' a None)
    go true s =
        let same : last' ≡ last = new ∙ (rw s refl) in
        rw same (last_kept journal e a (slice_index_or last a None) (λ q f. true≢false (sym s ∙ f)) (h a l))
    go false s = elim (cases_eq a e.agent) [
      | inl q ↦
          let here : slice_index_or last' a None ≡ Some (length journal) = ap
          (λ (xs : List (Option ℕ)). slice_index_or xs a None) (written s) ∙
          (rw q (get_or-set_same last e.agent (Some (length journal)) None room)) in
          rw here
          (subst (λ (b : ℕ). IsLast (journal ++ e ∷ []) b (Some (length journal))) (sym q) (last_new journal e s))
      | inr n ↦
          let there : slice_index_or last' a None ≡ slice_index_or last a None = ap
          (λ (xs : List (Option ℕ)). slice_index_or xs a None) (written s) ∙ get_or-set_other last e.agent a
          (Some (length journal)) None n in
          rw there (last_kept journal e a (slice_index_or last a None) (λ q f. n (sym q)) (h a l))
    ]
