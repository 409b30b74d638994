-- What the rest of a string has to be, by its parts.
use Rattle.std.proofs.Common.{◌≡◌, ℕ, zero, suc, ◌+◌, ◌-◌, ◌*◌, ◌<◌, ◌≤◌, Bool, true, false, cond, ◌&&◌, not, nat_lt, nat_le, List, [], ◌∷◌, Option, Some, None, is_some, option_and_then, refl, sym, ap, ap₂, ◌∙◌, subst, arith, inl, inr}
use Rattle.std.proofs.lemmas.Grind.{common_steps}
use Rattle.std.proofs.lemmas.Bool.{false≢true, and_parts, and_right, or_from, cases_Bool, cases_lt, cases_eq, ltb-true, le-ltb, le-leb, lt-leb, lt-ltb, leb-true, leb-false, eqb-false, and_from, and_left, eqb-true, ne_eqb}
use Rattle.std.specs.Prelude.{◌==◌}
use Rattle.std.specs.Char.{is_digit, digit_value, encode_utf8}
use Rattle.json.specs.Text.{code_unit, is_high_surrogate, is_low_surrogate, surrogate_pair, plain, after_backslash, after_u, after_high, prepend, content}
use Rattle.sab_refusal.specs.declared.syntax.string_part.StringPart.{StringPart}
use Rattle.sab_refusal.specs.declared.syntax.string_part.StringPart.TheVariants as P
use Rattle.sab_refusal.specs.Syntax.String.{is_hex, is_from_c, is_d}

abbrev pub found : Option (List ℕ) → Bool
found o = is_some o

-- a first byte, and the rest
abbrev pub by_byte : (ℕ → List ℕ → Bool) → List ℕ → Bool
by_byte f [] = false
by_byte f (b ∷ xs) = f b xs

abbrev pub plain_rest : List ℕ → Bool
plain_rest xs = found (content plain xs)

abbrev pub pair_fourth : List ℕ → Bool
pair_fourth xs = by_byte (λ b ys. cond (is_hex b) (plain_rest ys) false) xs

abbrev pub pair_third : List ℕ → Bool
pair_third xs = by_byte (λ b ys. cond (is_hex b) (pair_fourth ys) false) xs

abbrev pub pair_second : List ℕ → Bool
pair_second xs = by_byte (λ b ys. cond (is_from_c b) (pair_third ys) false) xs

abbrev pub pair_first : List ℕ → Bool
pair_first xs = by_byte (λ b ys. cond (is_d b) (pair_second ys) false) xs

abbrev pub pair_escape : List ℕ → Bool
pair_escape xs = by_byte (λ b ys. cond (b == 117) (pair_first ys) false) xs

abbrev pub pair_rest : List ℕ → Bool
pair_rest xs = by_byte (λ b ys. cond (b == 92) (pair_escape ys) false) xs

abbrev pub behind_unit : Bool → List ℕ → Bool
behind_unit true xs = pair_rest xs
behind_unit false xs = plain_rest xs

abbrev pub fourth : Bool → List ℕ → Bool
fourth h xs = by_byte (λ b ys. cond (is_hex b) (behind_unit h ys) false) xs

abbrev pub third : Bool → List ℕ → Bool
third h xs = by_byte (λ b ys. cond (is_hex b) (fourth h ys) false) xs

abbrev pub second_by : Bool → ℕ → List ℕ → Bool
second_by false b ys = cond (is_hex b) (third false ys) false
second_by true b ys = cond (is_from_c b) false (cond (is_hex b) (third (nat_le 56 b) ys) false)

abbrev pub second : Bool → List ℕ → Bool
second d xs = by_byte (second_by d) xs

abbrev pub first : List ℕ → Bool
first xs = by_byte (λ b ys. cond (is_hex b) (second (is_d b) ys) false) xs

-- the rest of a string can be read
abbrev pub string_rest : StringPart → List ℕ → Bool
string_rest P.Plain xs = plain_rest xs
string_rest P.Escape xs = found (content after_backslash xs)
string_rest P.First xs = first xs
string_rest (P.Second d) xs = second d xs
string_rest (P.Third h) xs = third h xs
string_rest (P.Fourth h) xs = fourth h xs
string_rest P.Pair xs = pair_rest xs
string_rest P.PairEscape xs = pair_escape xs
string_rest P.PairFirst xs = pair_first xs
string_rest P.PairSecond xs = pair_second xs
string_rest P.PairThird xs = pair_third xs
string_rest P.PairFourth xs = pair_fourth xs

-- ---- hexadecimal digits

-- a test holds of each number below n
abbrev holds_below : (ℕ → Bool) → ℕ → Bool
holds_below p zero = true
holds_below p (suc n) = p n && holds_below p n

holds_at : (p : ℕ → Bool) (n : ℕ) → holds_below p n ≡ true → (x : ℕ) → x < n → p x ≡ true
holds_at p zero e x h = absurd (omega arith)
holds_at p (suc n) e x h =
    let q = and_parts (p n) (holds_below p n) e in
    elim (cases_eq x n) [
      | inl same ↦ subst (λ k. p k
          ≡ true) (sym same) q.0
      | inr other ↦ holds_at p n q.1 x (omega arith)
    ]

abbrev same : Bool → Bool → Bool
same true b = b
same false b = not b

same_is : (a b : Bool) → same a b ≡ true → a ≡ b
same_is true true e = refl
same_is true false e = sym e
same_is false true e = e
same_is false false e = refl

-- of a byte below 128, and of another one
hex_small : (b : ℕ) → b < 128 → is_hex b ≡ is_digit b 16
hex_small b h = same_is (is_hex b) (is_digit b 16) (holds_at (λ x. same (is_hex x) (is_digit x 16)) 128 refl b h)

hex_large : (b : ℕ) → 128 ≤ b → is_digit b 16 ≡ false
hex_large b h = grind (arith, common_steps, digit_value, cond, nat_lt, le-ltb)

hex_large_too : (b : ℕ) → 128 ≤ b → is_hex b ≡ false
hex_large_too b h =
    or_from _ _ (or_from _ _ (and_right _ _ (lt-leb b 57 (omega arith))) (and_right _ _ (lt-leb b 102 (omega arith))))
    (and_right _ _ (lt-leb b 70 (omega arith)))

pub hex_same : (b : ℕ) → is_hex b ≡ is_digit b 16
hex_same b = grind (arith, common_steps, cases_lt, hex_small, hex_large_too, hex_large)

-- a hexadecimal digit is below 128
hex_below : (b : ℕ) → is_hex b ≡ true → b < 128
hex_below b h = grind (arith, common_steps, cases_lt, false≢true, hex_large_too)

record Digit (b : ℕ) : Type 0 where
  small : digit_value b < 16
  d : is_d b ≡ (digit_value b == 13)
  from_c : is_from_c b ≡ nat_le 12 (digit_value b)
  from_8 : nat_le 56 b ≡ nat_le 8 (digit_value b)

digit_facts : (b : ℕ) → is_hex b ≡ true → Digit b
digit_facts b h =
    let below = hex_below b h in
    let is16 : is_digit b 16 ≡ true = sym (hex_same b) ∙ h in
    let fact = λ (p q : ℕ → Bool) (e : holds_below (λ x. cond (is_hex x) (same (p x) (q x)) true) 128 ≡ true).
    same_is (p b) (q b) (sym (ap (λ c. cond c (same (p b) (q b)) true) h)
    ∙ holds_at (λ x. cond (is_hex x) (same (p x) (q x)) true) 128 e b below) in
    record {
      small = ltb-true (digit_value b) 16 is16;
      d = fact is_d (λ x. digit_value x == 13) refl;
      from_c = fact is_from_c (λ x. nat_le 12 (digit_value x)) refl;
      from_8 = fact (λ x. nat_le 56 x) (λ x. nat_le 8 (digit_value x)) refl;
    }

-- from c on, and a d, are digits
pub from_c_hex : (b : ℕ) → is_from_c b ≡ true → is_hex b ≡ true
from_c_hex b h =
    grind (arith, common_steps, cases_lt, holds_at, cond, is_from_c, is_hex, false≢true, or_from, and_right, lt-leb)

pub d_hex : (b : ℕ) → is_d b ≡ true → is_hex b ≡ true
d_hex b h = grind (arith, common_steps, cases_lt, holds_at, cond, is_d, is_hex, false≢true, or_from, ne_eqb)

-- ---- units

abbrev value_of : ℕ → ℕ → ℕ → ℕ → ℕ
value_of a b c d = digit_value a * 4096 + digit_value b * 256 + digit_value c * 16 + digit_value d

-- what four digits are, by the first two
high_unit : (a b c d : ℕ) → Digit a → Digit b → Digit c → Digit d → is_d a ≡ true → is_from_c b ≡ false
    → nat_le 56 b ≡ true
    → is_high_surrogate (value_of a b c d) ≡ true
high_unit a b c d fa fb fc fd ea eb e8 =
    let va : digit_value a ≡ 13 = eqb-true (digit_value a) 13 (sym fa.d ∙ ea) in
    let vb : digit_value b < 12 = leb-false 12 (digit_value b) (sym fb.from_c ∙ eb) in
    let v8 : 8 ≤ digit_value b = leb-true 8 (digit_value b) (sym fb.from_8 ∙ e8) in
    let sc = fc.small in let sd = fd.small in
    and_from _ _ (le-leb 55296 (value_of a b c d) (omega arith)) (lt-ltb (value_of a b c d) 56320 (omega arith))

low_unit : (a b c d : ℕ) → Digit a → Digit b → Digit c → Digit d → is_d a ≡ true → is_from_c b ≡ true
    → (is_high_surrogate (value_of a b c d) ≡ false) × (is_low_surrogate (value_of a b c d) ≡ true)
low_unit a b c d fa fb fc fd ea eb =
    grind (arith, common_steps, digit_value, eqb-true, leb-true, and_right, le-ltb, and_from, le-leb, lt-ltb)

below_unit : (a b c d : ℕ) → Digit a → Digit b → Digit c → Digit d → is_d a ≡ true → is_from_c b ≡ false
    → nat_le 56 b ≡ false
    → (is_high_surrogate (value_of a b c d) ≡ false) × (is_low_surrogate (value_of a b c d) ≡ false)
below_unit a b c d fa fb fc fd ea eb e8 =
    let va : digit_value a ≡ 13 = eqb-true (digit_value a) 13 (sym fa.d ∙ ea) in
    let v8 : digit_value b < 8 = leb-false 8 (digit_value b) (sym fb.from_8 ∙ e8) in
    let sc = fc.small in let sd = fd.small in (
      and_left _ _ (lt-leb 55296 (value_of a b c d) (omega arith)),
      and_left _ _ (lt-leb 56320 (value_of a b c d) (omega arith)),
    )

other_unit : (a b c d : ℕ) → Digit a → Digit b → Digit c → Digit d → is_d a ≡ false
    → (is_high_surrogate (value_of a b c d) ≡ false) × (is_low_surrogate (value_of a b c d) ≡ false)
other_unit a b c d fa fb fc fd ea =
    let sa = fa.small in let sb = fb.small in let sc = fc.small in let sd = fd.small in
    elim (cases_lt (digit_value a) 13) [
      | inl less ↦ (
        and_left _ _ (lt-leb 55296 (value_of a b c d) (omega arith)),
        and_left _ _ (lt-leb 56320 (value_of a b c d) (omega arith)),
      )
      | inr more ↦
          let ne = eqb-false (digit_value a) 13 (sym fa.d ∙ ea) in (
            and_right _ _ (le-ltb (value_of a b c d) 56320 (omega (arith, ne))),
            and_right _ _ (le-ltb (value_of a b c d) 57344 (omega (arith, ne))),
          )
    ]

pub found_prepend : (s : List ℕ) (o : Option (List ℕ)) → found (prepend s o) ≡ found o
found_prepend s None = refl
found_prepend s (Some x) = refl

-- what is behind a unit of this value
abbrev by_unit : List ℕ → ℕ → Option (List ℕ)
by_unit xs u =
    cond (is_high_surrogate u) (content (after_high u) xs)
    (cond (is_low_surrogate u) None (prepend (encode_utf8 u) (content plain xs)))

-- the code unit of four bytes
unit_some : (a b c d : ℕ) → is_hex a ≡ true → is_hex b ≡ true → is_hex c ≡ true → is_hex d ≡ true
    → code_unit a b c d ≡ Some (value_of a b c d)
unfolding code_unit
unit_some a b c d ea eb ec ed =
    ap (λ t. cond t (Some (value_of a b c d)) None)
    (and_from _ _ (and_from _ _ (and_from _ _ (sym (hex_same a) ∙ ea) (sym (hex_same b) ∙ eb)) (sym (hex_same c)
    ∙ ec)) (sym (hex_same d) ∙ ed))

unit_none : (a b c d : ℕ) → (is_hex a && is_hex b && is_hex c && is_hex d) ≡ false → code_unit a b c d ≡ None
unfolding code_unit
unit_none a b c d e =
    ap (λ t. cond t (Some (value_of a b c d)) None)
    (sym (ap₂ (λ x y. x && y) (ap₂ (λ x y. x && y) (ap₂ (λ x y. x && y) (hex_same a) (hex_same b)) (hex_same c))
    (hex_same d)) ∙ e)

pub same_branches : (b : Bool) (x : Bool) → cond b x x ≡ x
same_branches true x = refl
same_branches false x = refl

no_second : (d : Bool) (b : ℕ) (ys : List ℕ) → ((h : Bool) → third h ys ≡ false) → second_by d b ys ≡ false
no_second false b ys none = ap (λ t. cond (is_hex b) t false) (none false) ∙ same_branches (is_hex b) false
no_second true b ys none =
    ap (λ t. cond (is_from_c b) false (cond (is_hex b) t false)) (none (nat_le 56 b))
    ∙ ap (λ t. cond (is_from_c b) false t) (same_branches (is_hex b) false) ∙ same_branches (is_from_c b) false

no_second_digit : (d : Bool) (b : ℕ) (ys : List ℕ) → is_hex b ≡ false → second_by d b ys ≡ false
no_second_digit false b ys e = ap (λ t. cond t (third false ys) false) e
no_second_digit true b ys e =
    ap (λ t. cond (is_from_c b) false (cond t (third (nat_le 56 b) ys) false)) e ∙ same_branches (is_from_c b) false

third_is : (h : Bool) (c d : ℕ) (xs : List ℕ) → is_hex c ≡ true → is_hex d ≡ true
    → third h (c ∷ d ∷ xs) ≡ behind_unit h xs
third_is h c d xs ec ed = ap (λ t. cond t (fourth h (d ∷ xs)) false) ec ∙ ap (λ t. cond t (behind_unit h xs) false) ed

no_third : (h : Bool) (c d : ℕ) (xs : List ℕ) → is_hex c ≡ false → third h (c ∷ d ∷ xs) ≡ false
no_third h c d xs ec = ap (λ t. cond t (fourth h (d ∷ xs)) false) ec

no_fourth : (h : Bool) (c d : ℕ) (xs : List ℕ) → is_hex d ≡ false → third h (c ∷ d ∷ xs) ≡ false
no_fourth h c d xs ed =
    ap (λ t. cond (is_hex c) (cond t (behind_unit h xs) false) false) ed ∙ same_branches (is_hex c) false

-- a first digit, and then nothing that can be
no_first : (a : ℕ) (ys : List ℕ) → second (is_d a) ys ≡ false → first (a ∷ ys) ≡ false
no_first a ys e = ap (λ t. cond (is_hex a) t false) e ∙ same_branches (is_hex a) false

-- ---- the second unit of a pair

abbrev by_second : ℕ → List ℕ → ℕ → Option (List ℕ)
by_second h xs l = cond (is_low_surrogate l) (prepend (encode_utf8 (surrogate_pair h l)) (content plain xs)) None

not_low : (a b c d : ℕ) → Digit a → Digit b → Digit c → Digit d → is_d a ≡ true → is_from_c b ≡ false
    → is_low_surrogate (value_of a b c d) ≡ false
not_low a b c d fa fb fc fd ea eb =
    let va : digit_value a ≡ 13 = eqb-true (digit_value a) 13 (sym fa.d ∙ ea) in
    let vb : digit_value b < 12 = leb-false 12 (digit_value b) (sym fb.from_c ∙ eb) in
    let sc = fc.small in let sd = fd.small in
    and_left _ _ (lt-leb 56320 (value_of a b c d) (omega arith))

low_by : (h a b c d : ℕ) (xs : List ℕ) (l : Bool) → is_low_surrogate (value_of a b c d) ≡ l
    → is_hex a ≡ true → is_hex b ≡ true → is_hex c ≡ true → is_hex d ≡ true
    → found (option_and_then (by_second h xs) (code_unit a b c d)) ≡ cond l (plain_rest xs) false
low_by h a b c d xs true el ea eb ec ed =
    ap (λ o. found (option_and_then (by_second h xs) o)) (unit_some a b c d ea eb ec ed)
    ∙ ap (λ t. found (cond t (prepend (encode_utf8 (surrogate_pair h (value_of a b c d))) (content plain xs)) None)) el
    ∙ found_prepend (encode_utf8 (surrogate_pair h (value_of a b c d))) (content plain xs)
low_by h a b c d xs false el ea eb ec ed =
    ap (λ o. found (option_and_then (by_second h xs) o)) (unit_some a b c d ea eb ec ed)
    ∙ ap (λ t. found (cond t (prepend (encode_utf8 (surrogate_pair h (value_of a b c d))) (content plain xs)) None)) el

no_unit : (h a b c d : ℕ) (xs : List ℕ) → (is_hex a && is_hex b && is_hex c && is_hex d) ≡ false
    → found (option_and_then (by_second h xs) (code_unit a b c d)) ≡ false
no_unit h a b c d xs e = ap (λ o. found (option_and_then (by_second h xs) o)) (unit_none a b c d e)

-- the last two digits
last_digits : (h a b c d : ℕ) (xs : List ℕ) (ha hb hc hd da fb : Bool)
    → is_hex a ≡ ha → is_hex b ≡ hb → is_hex c ≡ hc → is_hex d ≡ hd → is_d a ≡ da → is_from_c b ≡ fb
    → found (option_and_then (by_second h xs) (code_unit a b c d)) ≡ pair_first (a ∷ b ∷ c ∷ d ∷ xs)
last_digits h a b c d xs true true true true true true ea eb ec ed eda efb =
    grind (arith, common_steps, low_by, low_unit, digit_facts, cond)
last_digits h a b c d xs true true true true true false ea eb ec ed eda efb =
    grind (arith, common_steps, low_by, not_low, digit_facts, cond)
last_digits h a b c d xs true true true true false fb ea eb ec ed eda efb =
    low_by h a b c d xs false (other_unit a b c d (digit_facts a ea) (digit_facts b eb) (digit_facts c ec)
    (digit_facts d ed) eda).1 ea eb ec ed
    ∙ sym (ap (λ t. cond t (pair_second (b ∷ c ∷ d ∷ xs)) false) eda)
last_digits h a b c d xs ha hb hc false da fb ea eb ec ed eda efb =
    grind (arith, common_steps, no_unit, and_right, cond, is_d, is_from_c, is_hex, same_branches)
last_digits h a b c d xs ha hb false true da fb ea eb ec ed eda efb =
    grind (arith, common_steps, no_unit, and_left, and_right, cond, is_d, is_from_c, same_branches)
last_digits h a b c d xs ha false true true da fb ea eb ec ed eda efb =
    let none : is_from_c b ≡ false = elim (cases_Bool (is_from_c b)) [
      | inl y ↦ absurd (false≢true (sym eb
          ∙ from_c_hex b y))
      | inr n ↦ n
    ] in
    no_unit h a b c d xs (and_left _ _ (and_left _ _ (and_right _ _ eb)))
    ∙ sym (ap (λ t. cond (is_d a) (cond t (pair_third (c ∷ d ∷ xs)) false) false) none ∙ same_branches (is_d a) false)
last_digits h a b c d xs false true true true da fb ea eb ec ed eda efb =
    grind (arith, common_steps, is_d, cases_Bool, false≢true, d_hex, no_unit, and_left, cond)

short_cond : (b x : Bool) → x ≡ false → cond b x false ≡ false
short_cond b x e = ap (λ t. cond b t false) e ∙ same_branches b false

pub pair-content : (h : ℕ) (xs : List ℕ) → found (content (after_high h) xs) ≡ pair_rest xs
unfolding content
pair-content h [] = refl
pair-content h (s ∷ []) = sym (same_branches (s == 92) false)
pair-content h (s ∷ u ∷ []) = sym (short_cond (s == 92) _ (same_branches (u == 117) false))
pair-content h (s ∷ u ∷ a ∷ []) = sym (short_cond (s == 92) _ (short_cond (u == 117) _ (same_branches (is_d a) false)))
pair-content h (s ∷ u ∷ a ∷ b ∷ []) =
    sym (short_cond (s == 92) _ (short_cond (u == 117) _ (short_cond (is_d a) _ (same_branches (is_from_c b) false))))
pair-content h (s ∷ u ∷ a ∷ b ∷ c ∷ []) =
    sym (short_cond (s == 92) _ (short_cond (u == 117) _ (short_cond (is_d a) _ (short_cond (is_from_c b) _
    (same_branches (is_hex c) false)))))
pair-content h (s ∷ u ∷ a ∷ b ∷ c ∷ d ∷ xs) = go (s == 92) (u == 117)
  where
    rest : Bool
    rest = pair_first (a ∷ b ∷ c ∷ d ∷ xs)

    unit : Option (List ℕ)
    unit = option_and_then (by_second h xs) (code_unit a b c d)

    go : (s92 u117 : Bool) → found (cond (s92 && u117) (option_and_then (by_second h xs) (code_unit a b c d)) None)
        ≡ cond s92 (cond u117 (pair_first (a ∷ b ∷ c ∷ d ∷ xs)) false) false
    go true true = last_digits h a b c d xs (is_hex a) (is_hex b) (is_hex c) (is_hex d) (is_d a)
        (is_from_c b) refl refl refl refl refl refl
    go true false = refl
    go false u = refl

-- ---- a unit

first_all : (a b c d : ℕ) (xs : List ℕ) (da fb e8 : Bool)
    → is_hex a ≡ true → is_hex b ≡ true → is_hex c ≡ true → is_hex d ≡ true → is_d a ≡ da → is_from_c b ≡ fb
    → nat_le 56 b ≡ e8
    → found (by_unit xs (value_of a b c d)) ≡ second_by (is_d a) b (c ∷ d ∷ xs)
first_all a b c d xs true true e8 ea eb ec ed eda efb ee =
    let low = low_unit a b c d (digit_facts a ea) (digit_facts b eb) (digit_facts c ec) (digit_facts d ed) eda efb in
    let u = value_of a b c d in
    ap (λ t. found (cond t (content (after_high u) xs) (cond (is_low_surrogate u) None (prepend (encode_utf8 u)
    (content plain xs))))) low.0
    ∙ ap (λ t. found (cond t None (prepend (encode_utf8 u) (content plain xs)))) low.1
    ∙ sym (ap (λ t. second_by t b (c ∷ d ∷ xs)) eda
    ∙ ap (λ t. cond t false (cond (is_hex b) (third (nat_le 56 b) (c ∷ d ∷ xs)) false)) efb)
first_all a b c d xs true false true ea eb ec ed eda efb ee =
    let high = high_unit a b c d (digit_facts a ea) (digit_facts b eb) (digit_facts c ec)
    (digit_facts d ed) eda efb ee in
    let u = value_of a b c d in
    ap (λ t. found (cond t (content (after_high u) xs) (cond (is_low_surrogate u) None (prepend (encode_utf8 u)
    (content plain xs))))) high
    ∙ pair-content u xs
    ∙ sym (ap (λ t. second_by t b (c ∷ d ∷ xs)) eda
    ∙ ap (λ t. cond t false (cond (is_hex b) (third (nat_le 56 b) (c ∷ d ∷ xs)) false)) efb
    ∙ ap (λ t. cond t (third (nat_le 56 b) (c ∷ d ∷ xs)) false) eb ∙ ap (λ t. third t (c ∷ d ∷ xs)) ee
    ∙ third_is true c d xs ec ed)
first_all a b c d xs true false false ea eb ec ed eda efb ee =
    let below = below_unit a b c d (digit_facts a ea) (digit_facts b eb) (digit_facts c ec)
    (digit_facts d ed) eda efb ee in
    let u = value_of a b c d in
    ap (λ t. found (cond t (content (after_high u) xs) (cond (is_low_surrogate u) None (prepend (encode_utf8 u)
    (content plain xs))))) below.0
    ∙ ap (λ t. found (cond t None (prepend (encode_utf8 u) (content plain xs)))) below.1
    ∙ found_prepend (encode_utf8 u) (content plain xs)
    ∙ sym (ap (λ t. second_by t b (c ∷ d ∷ xs)) eda
    ∙ ap (λ t. cond t false (cond (is_hex b) (third (nat_le 56 b) (c ∷ d ∷ xs)) false)) efb
    ∙ ap (λ t. cond t (third (nat_le 56 b) (c ∷ d ∷ xs)) false) eb ∙ ap (λ t. third t (c ∷ d ∷ xs)) ee
    ∙ third_is false c d xs ec ed)
first_all a b c d xs false fb e8 ea eb ec ed eda efb ee =
    let other = other_unit a b c d (digit_facts a ea) (digit_facts b eb) (digit_facts c ec) (digit_facts d ed) eda in
    let u = value_of a b c d in
    ap (λ t. found (cond t (content (after_high u) xs) (cond (is_low_surrogate u) None (prepend (encode_utf8 u)
    (content plain xs))))) other.0
    ∙ ap (λ t. found (cond t None (prepend (encode_utf8 u) (content plain xs)))) other.1
    ∙ found_prepend (encode_utf8 u) (content plain xs)
    ∙ sym (ap (λ t. second_by t b (c ∷ d ∷ xs)) eda ∙ ap (λ t. cond t (third false (c ∷ d ∷ xs)) false) eb
    ∙ third_is false c d xs ec ed)

first_by : (a b c d : ℕ) (xs : List ℕ) (ha hb hc hd : Bool) → is_hex a ≡ ha → is_hex b ≡ hb → is_hex c ≡ hc
    → is_hex d ≡ hd
    → found (option_and_then (by_unit xs) (code_unit a b c d)) ≡ first (a ∷ b ∷ c ∷ d ∷ xs)
first_by a b c d xs true true true true ea eb ec ed =
    grind (arith, common_steps, option_and_then, unit_some, first_all, is_d, is_from_c, nat_le, cond)
first_by a b c d xs false hb hc hd ea eb ec ed =
    ap (λ o. found (option_and_then (by_unit xs) o)) (unit_none a b c d (and_left _ _ (and_left _ _ (and_left _ _ ea))))
    ∙ sym (ap (λ t. cond t (second (is_d a) (b ∷ c ∷ d ∷ xs)) false) ea)
first_by a b c d xs true false hc hd ea eb ec ed =
    grind (arith, common_steps, option_and_then, unit_none, and_left, and_right, no_first, no_second_digit, is_d)
first_by a b c d xs true true false hd ea eb ec ed =
    ap (λ o. found (option_and_then (by_unit xs) o)) (unit_none a b c d (and_left _ _ (and_right _ _ ec)))
    ∙ sym (no_first a (b ∷ c ∷ d ∷ xs) (no_second (is_d a) b (c ∷ d ∷ xs) (λ h. no_third h c d xs ec)))
first_by a b c d xs true true true false ea eb ec ed =
    ap (λ o. found (option_and_then (by_unit xs) o)) (unit_none a b c d (and_right _ _ ed))
    ∙ sym (no_first a (b ∷ c ∷ d ∷ xs) (no_second (is_d a) b (c ∷ d ∷ xs) (λ h. no_fourth h c d xs ed)))

pub first-content : (xs : List ℕ) → found (content after_u xs) ≡ first xs
unfolding content
first-content [] = refl
first-content (a ∷ []) = sym (no_first a [] refl)
first-content (a ∷ b ∷ []) = sym (no_first a (b ∷ []) (no_second (is_d a) b [] (λ h. refl)))
first-content (a ∷ b ∷ c ∷ []) =
    sym (no_first a (b ∷ c ∷ []) (no_second (is_d a) b (c ∷ []) (λ h. same_branches (is_hex c) false)))
first-content (a ∷ b ∷ c ∷ d ∷ xs) = first_by a b c d xs (is_hex a) (is_hex b) (is_hex c) (is_hex d) refl refl refl refl
