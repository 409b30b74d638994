-- Texts of characters: put one behind the other, and plain ones, which stand as they are.
use Rattle.std.proofs.Common.{◌≡◌, ℕ, ◌^◌, zero, suc, ◌≤◌, ◌<◌, ◌/◌, ◌%◌, ◌==◌, ℤ, pos, negsuc, Bool, true, false, cond, List, [], ◌∷◌, ◌++◌, length, refl, ap₂, arith, append_assoc}
use Rattle.std.specs.Prelude.{All}
use Rattle.std.specs.Fmt.{digits, digits_onto, digit_glyph, decimal, signed_decimal}
use Rattle.std.proofs.lemmas.Bool.{lt-ltb}
use Rattle.std.proofs.lemmas.Bool.Decides.{nat_tests}
use Rattle.std.proofs.lemmas.Fmt.{length-decimal-le}
use Rattle.std.proofs.lemmas.Grind.{flat_map-append}
use Rattle.std.proofs.lemmas.List.Elements.{All-nil, All-cons, All-head, All-tail}
use Rattle.sab_svg.specs.Xml.Xml.{Node, nodes, is_plain, char_text, text_of, nodes_text}

pub text_of_both : (a b : List ℕ) → text_of (a ++ b) ≡ text_of a ++ text_of b
text_of_both a b = flat_map-append char_text a b

pub plain_char : (c : ℕ) → is_plain c ≡ true → char_text c ≡ c ∷ []
unfolding char_text
plain_char c h = rw h refl

-- ---- plain texts

abbrev pub IsPlain : ℕ → Type 0
IsPlain c = is_plain c ≡ true

pub text_of_plain : (s : List ℕ) → All IsPlain s → text_of s ≡ s
text_of_plain [] h = refl
text_of_plain (c ∷ s) h =
    ap₂ (λ (a b : List ℕ). a ++ b) (plain_char c (All-head IsPlain c s h)) (text_of_plain s (All-tail IsPlain c s h))

-- ---- digits

digit_plain : (d : ℕ) → d < 10 → IsPlain (digit_glyph false d)
digit_plain d h = rw (lt-ltb d 10 h) (grind (arith, nat_tests))

either : (b : Bool) (xs ys : List ℕ) → All IsPlain xs → All IsPlain ys → All IsPlain (cond b xs ys)
either true xs ys p q = p
either false xs ys p q = q

digits_onto_plain : (k n : ℕ) (acc : List ℕ) → All IsPlain acc → All IsPlain (digits_onto k 10 false n acc)
digits_onto_plain zero n acc h = h
digits_onto_plain (suc k) n acc h =
    let d = digit_glyph false (n % 10) in
    let more = All-cons IsPlain d acc (digit_plain (n % 10) (omega arith)) h in
    either (n / 10 == 0) (d ∷ acc) _ more (digits_onto_plain k (n / 10) (d ∷ acc) more)

pub decimal_plain : (n : ℕ) → All IsPlain (decimal n)
unfolding digits
decimal_plain n = digits_onto_plain 64 n [] (All-nil IsPlain)

pub signed_decimal_plain : (z : ℤ) → All IsPlain (signed_decimal z)
signed_decimal_plain (pos n) = decimal_plain n
signed_decimal_plain (negsuc n) = All-cons IsPlain 45 (decimal (suc n)) refl (decimal_plain (suc n))

pub text_of_decimal : (n : ℕ) → text_of (decimal n) ≡ decimal n
text_of_decimal n = text_of_plain (decimal n) (decimal_plain n)

pub text_of_signed_decimal : (z : ℤ) → text_of (signed_decimal z) ≡ signed_decimal z
text_of_signed_decimal z = text_of_plain (signed_decimal z) (signed_decimal_plain z)

pub short_number : (n : ℕ) → n < 2 ^ 16 → length (decimal n) ≤ 5
short_number n h = length-decimal-le 5 n (omega arith) (omega arith) (omega arith)

-- ---- nodes

pub nodes_text_both : (a b : List Node) → nodes_text (nodes (a ++ b)) ≡ nodes_text (nodes a) ++ nodes_text (nodes b)
nodes_text_both [] b = refl
nodes_text_both (n ∷ a) b = rw (nodes_text_both a b, append_assoc) refl
