-- The greatest of numbers, as a loop finds it.
use Rattle.std.proofs.Common.{◌≡◌, ℕ, ◌<◌, ◌+◌, List, length, map, max, arith, add-one, drop-cons, drop, get_or}
use Rattle.sab_svg.specs.Shape.{greatest}

pub max_assoc : (a b c : ℕ) → max a (max b c) ≡ max (max a b) c
max_assoc a b c = omega arith

-- one number is counted in, and the rest is left
pub greatest_left : {A : Type 0} (f : A → ℕ) (xs : List A) (k : ℕ) (d : A) (m : ℕ) → k < length xs
    → max m (greatest (map f (drop k xs))) ≡ max (max m (f (get_or xs k d))) (greatest (map f (drop (k + 1) xs)))
greatest_left f xs k d m h =
    rw (drop-cons xs k d, add-one) (max_assoc m (f (get_or xs k d)) _)
