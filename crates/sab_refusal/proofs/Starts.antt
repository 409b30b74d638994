-- The starts of lists.
use Rattle.std.proofs.Common.{◌≡◌, ℕ, zero, suc, ◌<◌, ◌≤◌, List, [], ◌∷◌, ◌++◌, length, take, refl, ap, ◌∙◌, arith}
use Rattle.std.proofs.lemmas.List.{take-append-le, take_all}

-- a start is as long as asked for, or the whole list
same_start : (m n : ℕ) (t : List ℕ) → m ≤ n → (m < n → length t ≤ m) → take m t ≡ take n t
same_start zero zero t h s = refl
same_start zero (suc n) [] h s = refl
same_start zero (suc n) (x ∷ t) h s = let none = s (omega arith) in absurd (omega (arith, none))
same_start (suc m) zero t h s = absurd (omega (arith, h))
same_start (suc m) (suc n) [] h s = refl
same_start (suc m) (suc n) (x ∷ t) h s =
    ap (λ (l : List ℕ). x ∷ l)
    (same_start m n t (omega (arith, h)) (λ less. let short = s (omega (arith, less)) in omega (arith, short)))

-- what was copied to the front of a room is the start of the text
pub copied_start : (m n : ℕ) (t xs rest : List ℕ) → xs ≡ take m t → length xs ≡ m → m ≤ n → (m < n → length t ≤ m)
    → take m (xs ++ rest) ≡ take n t
copied_start m n t xs rest is len h s =
    take-append-le m xs rest (omega (arith, len)) ∙ take_all m xs (omega (arith, len)) ∙ is ∙ same_start m n t h s
