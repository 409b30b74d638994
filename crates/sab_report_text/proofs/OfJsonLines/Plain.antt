-- Texts that stand in a string as they are: digits, signs and names.
use Rattle.std.proofs.Common.{◌≡◌, ℕ, zero, suc, ◌≤◌, ◌/◌, ◌%◌, ◌==◌, ℤ, pos, negsuc, Bool, true, false, cond, List, [], ◌∷◌, ◌++◌, length, refl, ap₂, arith}
use Rattle.std.proofs.lemmas.Grind.{common_steps}
use Rattle.std.specs.Prelude.{All, IsTrue, flat_map, slice_index_or}
use Rattle.std.specs.Fmt.{digits, digits_onto, digit_glyph, decimal, signed_decimal}
use Rattle.std.proofs.lemmas.Bool.{cases_lt, lt-ltb, le-ltb}
use Rattle.std.proofs.lemmas.Bool.Decides.{nat_tests}
use Rattle.std.proofs.lemmas.List.{get_or_past}
use Rattle.std.proofs.lemmas.List.Elements.{All-nil, All-cons, All-head, All-tail}
use Rattle.json.specs.Print.{escape}
use Rattle.json.proofs.Printed.Strings.{escape_byte_plain}
use Rattle.sab_report_text.specs.Text.Text.{hex_byte}
use Rattle.sab_report_text.specs.JsonLines.CallData.{is_name_byte, AreNames}

-- no control byte, no quote and no backslash
pub record IsPlain (b : ℕ) : Type 0 where
  pub above : 35 ≤ b
  pub other : b ≡ 92 → ⊥

pub escape_same : (xs : List ℕ) → All IsPlain xs → escape xs ≡ xs
escape_same [] h = refl
escape_same (x ∷ xs) h =
    let p = All-head IsPlain x xs h in
    ap₂ (λ (a b : List ℕ). a ++ b)
    (escape_byte_plain x (λ e. absurd (let l = p.above in omega arith)) p.other (let l = p.above in omega arith))
    (escape_same xs (All-tail IsPlain x xs h))

-- ---- digits

digit_plain : (d : ℕ) → IsPlain (digit_glyph false d)
digit_plain d = grind (arith, common_steps, cases_lt, lt-ltb, le-ltb)

either : (b : Bool) (xs ys : List ℕ) → All IsPlain xs → All IsPlain ys → All IsPlain (cond b xs ys)
either true xs ys p q = p
either false xs ys p q = q

digits_onto_plain : (k n : ℕ) (acc : List ℕ) → All IsPlain acc → All IsPlain (digits_onto k 10 false n acc)
digits_onto_plain zero n acc h = h
digits_onto_plain (suc k) n acc h =
    let d = digit_glyph false (n % 10) in
    let more = All-cons IsPlain d acc (digit_plain (n % 10)) h in
    either (n / 10 == 0) (d ∷ acc) _ more (digits_onto_plain k (n / 10) (d ∷ acc) more)

pub decimal_plain : (n : ℕ) → All IsPlain (decimal n)
unfolding digits
decimal_plain n = digits_onto_plain 64 n [] (All-nil IsPlain)

pub signed_decimal_plain : (z : ℤ) → All IsPlain (signed_decimal z)
signed_decimal_plain (pos n) = decimal_plain n
signed_decimal_plain (negsuc n) =
    All-cons IsPlain 45 (decimal (suc n)) (record { above = omega arith; other = λ e. omega arith })
    (decimal_plain (suc n))

pub hex_plain : (bytes : List ℕ) → All IsPlain (flat_map hex_byte bytes)
hex_plain [] = All-nil IsPlain
hex_plain (b ∷ bytes) = grind (arith, common_steps, flat_map, hex_byte, digit_glyph, digit_plain, hex_plain bytes)

-- ---- names

name_byte_plain : (b : ℕ) → IsTrue (is_name_byte b) → IsPlain b
name_byte_plain b h = record { above = grind (arith, nat_tests); other = λ e. grind (arith, nat_tests) }

pub name_plain : (names : List (List ℕ)) (view : ℕ) → AreNames names → All IsPlain (slice_index_or names view [])
name_plain names view h = grind (arith, common_steps, cases_lt, length, name_byte_plain, get_or_past)
