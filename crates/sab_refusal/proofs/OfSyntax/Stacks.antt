-- Open brackets in an array, the innermost last.
use Rattle.std.proofs.Common.{◌≡◌, ℕ, suc, ◌+◌, ◌-◌, ◌<◌, ◌≤◌, List, [], ◌∷◌, ◌++◌, length, take, drop, reverse, get_or, refl, sym, ap, ◌∙◌, subst, arith}
use Rattle.std.proofs.lemmas.List.{length-reverse, length-take-le, reverse-append, take_more}

-- as many are open as the array has in use
pub length-stack : {A : Type 0} (n : ℕ) (xs : List A) → n ≤ length xs → length (reverse (take n xs)) ≡ n
length-stack n xs le = length-reverse (take n xs) ∙ length-take-le n xs le

-- with one less in use, the innermost is gone
pub popped : {A : Type 0} (n : ℕ) (xs : List A) (d : A) → 0 < n → n ≤ length xs
    → reverse (take (n - 1) xs) ≡ drop 1 (reverse (take n xs))
popped n xs d some le =
    let k = n - 1 in
    let n_is : n ≡ k + 1 = omega arith in
    let last : take n xs ≡ take k xs ++ get_or xs k d ∷ [] = ap (λ m. take m xs) n_is
    ∙ take_more xs k d (omega arith) in
    sym (ap (λ l. drop 1 (reverse l)) last ∙ ap (drop 1) (reverse-append (take k xs) (get_or xs k d ∷ [])))
