-- A BigInt's text is read as that BigInt.
use Rattle.std.proofs.Common.{◌≡◌, ℕ, suc, ◌^◌, ◌<◌, ◌≤◌, ◌∷◌, List, ℤ, pos, negsuc, Result, Ok, FitsSigned, refl, ap, subst, ◌∙◌, arith}
use lib.IntN.{neg_ℤ}
use Rattle.std.specs.Int.{w128}
use Rattle.std.specs.Fmt.{decimal, signed_decimal}
use Rattle.std.specs.Str.Parse.{ParsesSigned}
use Rattle.std.proofs.lemmas.Fmt.{decimal_is_IsNumeral_wide}
use Rattle.std.proofs.lemmas.Str.Parse.{numerals_by_value, tells_digits, parse_signed_minus, parse_signed_digits}
use Rattle.std.proofs.lemmas.Result.{Ok-from_Ok_iff}

small : (n : ℕ) → n ≤ 2 ^ 127 → n < 10 ^ 64
small n h = omega arith

pub parse-big : {E : Type 0} (z : ℤ) (bs : List ℕ) (r : Result ℤ E) → FitsSigned w128 z → bs ≡ signed_decimal z
    → ParsesSigned w128 10 bs r → r ≡ Ok z
parse-big (pos n) bs r fits is h =
    let k = decimal_is_IsNumeral_wide n (small n (omega (arith, fits.sfits))) in
    let read = parse_signed_digits (numerals_by_value _ tells_digits) w128 (decimal n) r
    (subst (λ l. ParsesSigned w128 10 l r) is h) k.0.1 in
    Ok-from_Ok_iff r _ _ read (k.0.0, omega (arith, k.1, fits.sfits)) ∙ ap (λ m. Ok (pos m)) k.1
parse-big (negsuc n) bs r fits is h =
    let k = decimal_is_IsNumeral_wide (suc n) (small (suc n) (omega (arith, fits.sfits))) in
    let read = parse_signed_minus (numerals_by_value _ tells_digits) w128 (45 ∷ decimal (suc n)) r
    (subst (λ l. ParsesSigned w128 10 l r) is h) refl in
    Ok-from_Ok_iff r _ _ read (k.0.1, k.0.0, omega (arith, k.1, fits.sfits)) ∙ ap (λ m. Ok (neg_ℤ (pos m))) k.1
