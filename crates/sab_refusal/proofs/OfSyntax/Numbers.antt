-- What the rest of a number has to be, by its parts.
use Rattle.std.proofs.Common.{◌≡◌, ℕ, suc, ◌+◌, ◌-◌, Bool, true, false, cond, ◌||◌, List, ◌∷◌, drop, Option, Some, None, option_and_then, refl, sym, ap, ◌∙◌, arith}
use Rattle.std.proofs.lemmas.Grind.{common_steps}
use Rattle.std.proofs.lemmas.Bool.{ne_eqb}
use Rattle.std.specs.Prelude.{◌==◌}
use Rattle.std.specs.List.{prefix_len}
use Rattle.std.specs.Char.{is_ascii_digit}
use Rattle.json.specs.Word.{after_digits, after_sign, after_whole, after_fraction, after_exponent, after_number}
use Rattle.sab_refusal.specs.declared.syntax.number_part.NumberPart.{NumberPart}
use Rattle.sab_refusal.specs.declared.syntax.number_part.NumberPart.TheVariants.{Minus, Zero, Whole, Point, Fraction, Power, Sign, Exponent}
use Rattle.sab_refusal.specs.Syntax.Number.{first_part, part_behind, is_complete, digit_to, power_to, point_or_power_to}

abbrev pub digits_of : List ℕ → List ℕ
digits_of t = drop (prefix_len is_ascii_digit t) t

-- what is left of a text behind the rest of a number
abbrev pub number_rest : NumberPart → List ℕ → Option (List ℕ)
number_rest Minus t = option_and_then after_exponent (option_and_then after_fraction (after_whole t))
number_rest Zero t = option_and_then after_exponent (after_fraction t)
number_rest Whole t = option_and_then after_exponent (after_fraction (digits_of t))
number_rest Point t = option_and_then after_exponent (after_digits t)
number_rest Fraction t = after_exponent (digits_of t)
number_rest Power t = after_digits (after_sign t)
number_rest Sign t = after_digits t
number_rest Exponent t = Some (digits_of t)

-- the same, by whether it goes on with a byte
abbrev pub going : Option NumberPart → Bool → ℕ → List ℕ → Option (List ℕ)
going (Some q) c b xs = number_rest q xs
going None c b xs = cond c (Some (b ∷ xs)) None

one_more : (b : ℕ) (xs : List ℕ) → is_ascii_digit b ≡ true
    → prefix_len is_ascii_digit (b ∷ xs) ≡ suc (prefix_len is_ascii_digit xs)
one_more b xs e =
    let k = prefix_len is_ascii_digit xs in
    let s : 1 + k ≡ suc k = omega arith in
    ap (λ c. cond c (1 + k) 0) e ∙ s

none_more : (b : ℕ) (xs : List ℕ) → is_ascii_digit b ≡ false → prefix_len is_ascii_digit (b ∷ xs) ≡ 0
none_more b xs e = ap (λ c. cond c (1 + prefix_len is_ascii_digit xs) 0) e

digits_on : (b : ℕ) (xs : List ℕ) → is_ascii_digit b ≡ true → digits_of (b ∷ xs) ≡ digits_of xs
digits_on b xs e = ap (λ n. drop n (b ∷ xs)) (one_more b xs e)

digits_off : (b : ℕ) (xs : List ℕ) → is_ascii_digit b ≡ false → digits_of (b ∷ xs) ≡ b ∷ xs
digits_off b xs e = ap (λ n. drop n (b ∷ xs)) (none_more b xs e)

after_on : (b : ℕ) (xs : List ℕ) → is_ascii_digit b ≡ true → after_digits (b ∷ xs) ≡ Some (digits_of xs)
after_on b xs e = grind (arith, common_steps, prefix_len, is_ascii_digit, cond, drop, one_more, ne_eqb)

after_off : (b : ℕ) (xs : List ℕ) → is_ascii_digit b ≡ false → after_digits (b ∷ xs) ≡ None
after_off b xs e = ap (λ n. cond (n == 0) None (Some (drop n (b ∷ xs)))) (none_more b xs e)

-- a digit, and then the part
by_digit : (b : ℕ) (xs : List ℕ) (d : Bool) (q : NumberPart) (f : List ℕ → Option (List ℕ))
    → is_ascii_digit b ≡ d → number_rest q xs ≡ f (digits_of xs)
    → option_and_then f (after_digits (b ∷ xs)) ≡ going (digit_to b q) false b xs
by_digit b xs true q f e same =
    ap (option_and_then f) (after_on b xs e) ∙ sym same ∙ sym (ap (λ c. going (cond c (Some q) None) false b xs) e)
by_digit b xs false q f e same =
    ap (option_and_then f) (after_off b xs e) ∙ sym (ap (λ c. going (cond c (Some q) None) false b xs) e)

some_same : (o : Option (List ℕ)) → option_and_then Some o ≡ o
some_same None = refl
some_same (Some x) = refl

by_last_digit : (b : ℕ) (xs : List ℕ) → after_digits (b ∷ xs) ≡ going (digit_to b Exponent) false b xs
by_last_digit b xs = sym (some_same (after_digits (b ∷ xs))) ∙ by_digit b xs (is_ascii_digit b) Exponent Some refl refl

-- an exponent, or nothing more
by_power : (b : ℕ) (xs : List ℕ) (e : Bool) → (b == 101 || b == 69) ≡ e
    → after_exponent (b ∷ xs) ≡ going (power_to b) true b xs
by_power b xs true e =
    ap (λ c. cond c (after_digits (after_sign xs)) (Some (b ∷ xs))) e
    ∙ sym (ap (λ c. going (cond c (Some Power) None) true b xs) e)
by_power b xs false e =
    ap (λ c. cond c (after_digits (after_sign xs)) (Some (b ∷ xs))) e
    ∙ sym (ap (λ c. going (cond c (Some Power) None) true b xs) e)

by_point : (b : ℕ) (xs : List ℕ) (p : Bool) → (b == 46) ≡ p
    → option_and_then after_exponent (after_fraction (b ∷ xs)) ≡ going (point_or_power_to b) true b xs
by_point b xs true e =
    ap (λ c. option_and_then after_exponent (cond c (after_digits xs) (Some (b ∷ xs)))) e
    ∙ sym (ap (λ c. going (cond c (Some Point) (power_to b)) true b xs) e)
by_point b xs false e =
    grind (arith, common_steps, option_and_then, after_exponent, cond, after_digits, by_power, power_to)

by_whole : (b : ℕ) (xs : List ℕ) (z : Bool) → (b == 48) ≡ z
    → number_rest Minus (b ∷ xs) ≡ going (part_behind Minus b) false b xs
by_whole b xs true e =
    grind (arith, common_steps, option_and_then, after_exponent, after_fraction, cond, after_digits, digit_to)
by_whole b xs false e =
    ap (λ c. option_and_then after_exponent (option_and_then after_fraction (cond c (Some xs) (after_digits
    (b ∷ xs))))) e
    ∙ and_then_twice (after_digits (b ∷ xs))
    ∙ by_digit b xs (is_ascii_digit b) Whole (λ t. option_and_then after_exponent (after_fraction t)) refl refl
    ∙ sym (ap (λ c. going (cond c (Some Zero) (digit_to b Whole)) false b xs) e)
  where
    and_then_twice : (o : Option (List ℕ)) → option_and_then after_exponent (option_and_then after_fraction o)
        ≡ option_and_then (λ t. option_and_then after_exponent (after_fraction t)) o
    and_then_twice None = refl
    and_then_twice (Some t) = refl

by_more : (b : ℕ) (xs : List ℕ) (d : Bool) (q : NumberPart) (o : Option NumberPart) (f : List ℕ → Option (List ℕ))
    → is_ascii_digit b ≡ d → number_rest q xs ≡ f (digits_of xs) → f (b ∷ xs) ≡ going o true b xs
    → f (digits_of (b ∷ xs)) ≡ going (cond (is_ascii_digit b) (Some q) o) true b xs
by_more b xs true q o f e same off =
    ap f (digits_on b xs e) ∙ sym same ∙ sym (ap (λ c. going (cond c (Some q) o) true b xs) e)
by_more b xs false q o f e same off =
    ap f (digits_off b xs e) ∙ off ∙ sym (ap (λ c. going (cond c (Some q) o) true b xs) e)

by_sign : (b : ℕ) (xs : List ℕ) (s : Bool) → (b == 45 || b == 43) ≡ s
    → number_rest Power (b ∷ xs) ≡ going (part_behind Power b) false b xs
by_sign b xs true e =
    ap (λ c. after_digits (cond c xs (b ∷ xs))) e
    ∙ sym (ap (λ c. going (cond c (Some Sign) (digit_to b Exponent)) false b xs) e)
by_sign b xs false e =
    ap (λ c. after_digits (cond c xs (b ∷ xs))) e ∙ by_last_digit b xs
    ∙ sym (ap (λ c. going (cond c (Some Sign) (digit_to b Exponent)) false b xs) e)

-- one byte of a number
pub number_rest-step : (q : NumberPart) (b : ℕ) (xs : List ℕ)
    → number_rest q (b ∷ xs) ≡ going (part_behind q b) (is_complete q) b xs
number_rest-step Minus b xs = by_whole b xs (b == 48) refl
number_rest-step Zero b xs = by_point b xs (b == 46) refl
number_rest-step Whole b xs =
    by_more b xs (is_ascii_digit b) Whole (point_or_power_to b) (λ t. option_and_then after_exponent
    (after_fraction t)) refl refl
    (by_point b xs (b == 46) refl)
number_rest-step Point b xs = by_digit b xs (is_ascii_digit b) Fraction after_exponent refl refl
number_rest-step Fraction b xs =
    by_more b xs (is_ascii_digit b) Fraction (power_to b) after_exponent refl refl (by_power b xs
    (b == 101 || b == 69) refl)
number_rest-step Power b xs = by_sign b xs (b == 45 || b == 43) refl
number_rest-step Sign b xs = by_last_digit b xs
number_rest-step Exponent b xs = by_more b xs (is_ascii_digit b) Exponent None Some refl refl refl

-- the first byte of a number

abbrev pub begun : Option NumberPart → List ℕ → Option (List ℕ)
begun (Some q) xs = number_rest q xs
begun None xs = None

first_digit : (b : ℕ) (xs : List ℕ) (d : Bool) → is_ascii_digit b ≡ d
    → option_and_then after_exponent (option_and_then after_fraction (after_digits (b ∷ xs)))
    ≡ begun (digit_to b Whole) xs
first_digit b xs true e =
    ap (λ o. option_and_then after_exponent (option_and_then after_fraction o)) (after_on b xs e)
    ∙ sym (ap (λ c. begun (cond c (Some Whole) None) xs) e)
first_digit b xs false e =
    ap (λ o. option_and_then after_exponent (option_and_then after_fraction o)) (after_off b xs e)
    ∙ sym (ap (λ c. begun (cond c (Some Whole) None) xs) e)

first_zero : (b : ℕ) (xs : List ℕ) (z : Bool) → (b == 48) ≡ z
    → option_and_then after_exponent (option_and_then after_fraction (after_whole (b ∷ xs)))
    ≡ begun (cond (b == 48) (Some Zero) (digit_to b Whole)) xs
first_zero b xs true e =
    grind (arith, common_steps, option_and_then, after_exponent, after_fraction, cond, after_digits, digit_to)
first_zero b xs false e =
    ap (λ c. option_and_then after_exponent (option_and_then after_fraction (cond c (Some xs) (after_digits
    (b ∷ xs))))) e
    ∙ first_digit b xs (is_ascii_digit b) refl
    ∙ sym (ap (λ c. begun (cond c (Some Zero) (digit_to b Whole)) xs) e)

first_minus : (b : ℕ) (xs : List ℕ) (m : Bool) → (b == 45) ≡ m → after_number (b ∷ xs) ≡ begun (first_part b) xs
unfolding after_number
first_minus b xs true e =
    ap (λ c. option_and_then after_exponent (option_and_then after_fraction (after_whole (cond c xs (b ∷ xs))))) e
    ∙ sym (ap (λ c. begun (cond c (Some Minus) (cond (b == 48) (Some Zero) (digit_to b Whole))) xs) e)
first_minus b xs false e =
    ap (λ c. option_and_then after_exponent (option_and_then after_fraction (after_whole (cond c xs (b ∷ xs))))) e
    ∙ first_zero b xs (b == 48) refl
    ∙ sym (ap (λ c. begun (cond c (Some Minus) (cond (b == 48) (Some Zero) (digit_to b Whole))) xs) e)

pub after_number-first : (b : ℕ) (xs : List ℕ) → after_number (b ∷ xs) ≡ begun (first_part b) xs
after_number-first b xs = first_minus b xs (b == 45) refl

-- no number goes on with such a byte
pub no_part : (q : NumberPart) (b : ℕ) → is_ascii_digit b ≡ false → (b == 48) ≡ false → (b == 46) ≡ false
    → (b == 101 || b == 69) ≡ false → (b == 45 || b == 43) ≡ false → part_behind q b ≡ None
no_part Minus b d z p e s = ap (λ c. cond c (Some Zero) (digit_to b Whole)) z ∙ ap (λ c. cond c (Some Whole) None) d
no_part Zero b d z p e s = ap (λ c. cond c (Some Point) (power_to b)) p ∙ ap (λ c. cond c (Some Power) None) e
no_part Whole b d z p e s =
    ap (λ c. cond c (Some Whole) (point_or_power_to b)) d ∙ ap (λ c. cond c (Some Point) (power_to b)) p
    ∙ ap (λ c. cond c (Some Power) None) e
no_part Point b d z p e s = ap (λ c. cond c (Some Fraction) None) d
no_part Fraction b d z p e s = ap (λ c. cond c (Some Fraction) (power_to b)) d ∙ ap (λ c. cond c (Some Power) None) e
no_part Power b d z p e s = ap (λ c. cond c (Some Sign) (digit_to b Exponent)) s
    ∙ ap (λ c. cond c (Some Exponent) None) d
no_part Sign b d z p e s = ap (λ c. cond c (Some Exponent) None) d
no_part Exponent b d z p e s = ap (λ c. cond c (Some Exponent) None) d
