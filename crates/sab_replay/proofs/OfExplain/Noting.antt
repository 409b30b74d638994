-- Agents of a list, and what is noted at them.
use Rattle.std.proofs.Common.{◌≡◌, ◌≢◌, inl, inr, ℕ, ◌<◌, ◌==◌, ◌||◌, Bool, true, false, List, [], ◌∷◌, ◌++◌, length, set, refl, ap, sym, ◌∙◌, subst, All}
use Rattle.std.specs.List.{list_any}
use Rattle.std.proofs.Math.Bool.{or-false, or-true}
use Rattle.std.proofs.lemmas.Bool.{cases_eq, ne_eqb, eq-eqb, eqb-true, false≢true, true≢false}
use Rattle.std.proofs.lemmas.List.{get_or-set_same, get_or-set_other}
use Rattle.std.proofs.lemmas.List.Elements.{All-nil, All-cons, All-head, All-tail}
use Rattle.std.proofs.lemmas.List.Folds.{list_any-append}
use Rattle.sab_replay.specs.Explain.Explainer.{IsNoted}

-- what holds of all holds of each that is found
pub All-found : (P : ℕ → Type 0) (xs : List ℕ) (b : ℕ) → All P xs → list_any (λ c. c == b) xs ≡ true → P b
All-found P [] b all e = absurd (false≢true e)
All-found P (x ∷ xs) b all e = go (All-found P xs b (All-tail P x xs all)) (x == b) refl e
  where
    go : (list_any (λ c. c == b) xs ≡ true → P b) → (d : Bool) → (x == b) ≡ d → (d || list_any (λ c. c == b) xs) ≡ true
        → P b
    go rest true f g = subst P (eqb-true x b f) (All-head P x xs all)
    go rest false f g = rest g

pub IsNoted-none : (entry : ℕ) (old : List ℕ) → IsNoted [] entry old old
IsNoted-none entry old = record { noted = λ a e. absurd (false≢true e); others = λ a e. refl }

pub IsNoted-more : (xs : List ℕ) (x entry : ℕ) (old new : List ℕ) → x < length new → IsNoted xs entry old new
    → IsNoted (xs ++ x ∷ []) entry old (set new x entry)
IsNoted-more xs x entry old new l h = record {
  noted = λ a e. elim (cases_eq a x) [
    | inl q ↦ rw q (get_or-set_same new x entry 0 l)
    | inr n ↦ get_or-set_other new x a entry 0 n ∙ h.noted a (sym (there a n) ∙ e)
  ];
  others = λ a e. elim (cases_eq a x) [
    | inl q ↦ absurd (true≢false (sym (here a q) ∙ e))
    | inr n ↦ get_or-set_other new x a entry 0 n ∙ h.others a (sym (there a n) ∙ e)
  ];
}
  where
    all_of : (a : ℕ) → list_any (λ c. c == a) (xs ++ x ∷ []) ≡ (list_any (λ c. c == a) xs || (x == a))
    all_of a =
        list_any-append (λ c. c == a) xs (x ∷ [])
        ∙ ap (λ (b : Bool). list_any (λ c. c == a) xs || b) (or-false (x == a))

    there : (a : ℕ) → a ≢ x → list_any (λ c. c == a) (xs ++ x ∷ []) ≡ list_any (λ c. c == a) xs
    there a n =
        let no : (x == a) ≡ false = ne_eqb x a (λ q. n (sym q)) in all_of a
        ∙ (ap (λ (b : Bool). list_any (λ c. c == a) xs || b) no ∙ or-false (list_any (λ c. c == a) xs))

    here : (a : ℕ) → a ≡ x → list_any (λ c. c == a) (xs ++ x ∷ []) ≡ true
    here a q =
        let yes : (x == a) ≡ true = eq-eqb x a (sym q) in all_of a
        ∙ (ap (λ (b : Bool). list_any (λ c. c == a) xs || b) yes ∙ or-true (list_any (λ c. c == a) xs))

-- what holds of each that is found holds of all
pub All-of_found : (P : ℕ → Type 0) (xs : List ℕ) → ((b : ℕ) → list_any (λ c. c == b) xs ≡ true → P b) → All P xs
All-of_found P [] h = All-nil P
All-of_found P (x ∷ xs) h =
    All-cons P x xs (h x (let own : (x == x) ≡ true = eq-eqb x x refl in rw own refl))
    (All-of_found P xs (λ b e. h b (rw e (or-true (x == b)))))
