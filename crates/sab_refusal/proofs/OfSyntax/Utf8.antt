-- Where a text can be cut that may have bytes of no character.
use Rattle.std.proofs.Common.{◌≡◌, ℕ, zero, suc, ◌+◌, ◌-◌, ◌<◌, ◌≤◌, Bool, true, false, cond, ◌||◌, List, [], ◌∷◌, ◌++◌, length, take, drop, get_or, slice_index, IsUtf8, Option, Some, None, is_some, inl, inr, ◌⊎◌, ⊎_elim, refl, sym, ap, ◌∙◌, subst, arith, add-one, unwrap_or, IsCharBoundary}
use Rattle.std.proofs.lemmas.Grind.{common_steps}
use lib.Seq.{take-add}
use Rattle.std.proofs.lemmas.Bool.{false≢true, true≢false, and_parts, and_from, lt-ltb, or_cases, cases_eq, cases_lt, eqb-true, eq-eqb, ne_eqb, le-ltb, leb-true}
use Rattle.std.proofs.lemmas.List.{take_more, take-take, length-take-le, length-drop, get_or-take, get_or-drop}
use Rattle.std.proofs.lemmas.Str.{IsUtf8-append, IsUtf8-nil, IsUtf8-take, IsUtf8-from_is_utf8, is_utf8-from_IsUtf8, utf8_valid_len_le, IsCharBoundary-before_ascii, IsCharBoundary-after_ascii}
use Rattle.std.specs.Prelude.{◌==◌, ⊤, nat_le, nat_lt}
use Rattle.std.proofs.str.Valid.{of_two, of_three, of_four}
use Rattle.std.specs.Str.{is_utf8}
use Rattle.std.specs.Str.Lossy.{valid_len_up_to, utf8_valid_len, utf8_error_len, second_byte_min, second_byte_max}
use Rattle.std.specs.Int.{is_in_range}
use Rattle.json.proofs.Printed.Utf8.{IsUtf8-are_ascii}
use Rattle.sab_refusal.specs.Syntax.Reader.{is_operator, is_white, ends_word}
use Rattle.sab_refusal.specs.Syntax.Stop.{is_place, broken_by, broken_of}
use Rattle.sab_refusal.specs.Syntax.Begins.{IsEdge}
use Rattle.sab_refusal.proofs.OfSyntax.Steps.{white_cases, operator_cases}
use Rattle.sab_refusal.proofs.OfSyntax.Readings.{any_number}

-- what ends a word is ASCII
pub ends_ascii : (b : ℕ) → ends_word b ≡ true → b < 128
ends_ascii b e = ⊎_elim by_other (λ q. subst Q (sym (eqb-true b 34 q)) (omega arith)) (or_cases _ _ e)
  where
    Q : ℕ → Type 0
    Q y = y < 128

    by_other : ((is_operator b || is_white b) ≡ true) → b < 128
    by_other o =
        ⊎_elim (λ h. operator_cases any_number (λ y. y < 128) (omega arith) (omega arith) (omega arith) (omega arith)
        (omega arith) (omega arith) b h)
        (λ h. white_cases any_number (λ y. y < 128) (omega arith) (omega arith) (omega arith) (omega arith) b h)
        (or_cases _ _ o)

-- ---- the longest front that is UTF-8

front_by : (bs : List ℕ) (n : ℕ) (c : Bool) → is_utf8 (take (suc n) bs) ≡ c → IsUtf8 (take (valid_len_up_to bs n) bs)
    → IsUtf8 (take (cond c (suc n) (valid_len_up_to bs n)) bs)
front_by bs n true e u = IsUtf8-from_is_utf8 (take (suc n) bs) e
front_by bs n false e u = u

front_to : (bs : List ℕ) (n : ℕ) → IsUtf8 (take (valid_len_up_to bs n) bs)
front_to bs zero = IsUtf8-nil
front_to bs (suc n) = front_by bs n (is_utf8 (take (suc n) bs)) refl (front_to bs n)

longest_by : (bs : List ℕ) (n k : ℕ) (c : Bool) → is_utf8 (take (suc n) bs) ≡ c → (k ≡ suc n) ⊎ (k ≡ suc n → ⊥)
    → k ≤ suc n → IsUtf8 (take k bs) → (k ≤ n → k ≤ valid_len_up_to bs n)
    → k ≤ cond c (suc n) (valid_len_up_to bs n)
longest_by bs n k true e o le u ih = le
longest_by bs n k false e (inl same) le u ih =
    absurd (false≢true (sym e ∙ is_utf8-from_IsUtf8 (take (suc n) bs) (subst (λ j. IsUtf8 (take j bs)) same u)))
longest_by bs n k false e (inr other) le u ih = ih (omega (arith, other))

longest_to : (bs : List ℕ) (n k : ℕ) → k ≤ n → IsUtf8 (take k bs) → k ≤ valid_len_up_to bs n
longest_to bs zero k le u = le
longest_to bs (suc n) k le u =
    longest_by bs n k (is_utf8 (take (suc n) bs)) refl (cases_eq k (suc n)) le u (λ less. longest_to bs n k less u)

pub valid_front : (bs : List ℕ) → IsUtf8 (take (utf8_valid_len bs) bs)
unfolding utf8_valid_len
valid_front bs = front_to bs (length bs)

pub valid_longest : (bs : List ℕ) (k : ℕ) → k ≤ length bs → IsUtf8 (take k bs) → k ≤ utf8_valid_len bs
unfolding utf8_valid_len
valid_longest bs k le u = longest_to bs (length bs) k le u

-- the byte behind it isn't ASCII
pub valid_end : (bs : List ℕ) → utf8_valid_len bs < length bs → 128 ≤ slice_index bs (utf8_valid_len bs)
valid_end bs lt = go (cases_lt b 128)
  where
    v : ℕ
    v = utf8_valid_len bs

    b : ℕ
    b = get_or bs (utf8_valid_len bs) 0

    go : (b < 128) ⊎ (128 ≤ b) → 128 ≤ b
    go (inr high) = high
    go (inl low) =
        let one : IsUtf8 (b ∷ []) = IsUtf8-are_ascii (b ∷ []) (and_from (nat_lt b 128) true (lt-ltb b 128 low) refl) in
        let more : IsUtf8 (take (v + 1) bs) =
        subst IsUtf8 (sym (take_more bs v 0 lt)) (IsUtf8-append (take v bs) (b ∷ []) (valid_front bs) one) in
        absurd (omega (arith, valid_longest bs (v + 1) (omega arith) more))

-- ---- bytes that end within a character

then_none : (c : Bool) (o : Option ℕ) (n : ℕ) → cond c o (Some n) ≡ None → (c ≡ true) × (o ≡ None)
then_none true o n e = (refl, e)
then_none false o n e = absurd (true≢false (ap is_some e))

at_least : (lo hi b : ℕ) → is_in_range lo hi b ≡ true → lo ≤ b
at_least lo hi b e = leb-true lo b (and_parts (nat_le lo b) (nat_le b hi) e).0

at_most : (lo hi b : ℕ) → is_in_range lo hi b ≡ true → b ≤ hi
at_most lo hi b e = leb-true b hi (and_parts (nat_le lo b) (nat_le b hi) e).1

second_high : (x : ℕ) (e f : Bool) → 128 ≤ cond e 160 (cond f 144 128)
second_high x true f = omega arith
second_high x false true = omega arith
second_high x false false = omega arith

first_is : (x : ℕ) → is_in_range 194 244 x ≡ true → 128 ≤ x
first_is x e = omega (arith, at_least 194 244 x e)

second_is : (x y : ℕ) → is_in_range (second_byte_min x) (second_byte_max x) y ≡ true → 128 ≤ y
second_is x y e = grind (arith, common_steps, at_least, second_byte_min, second_byte_max, second_high)

third_is : (z : ℕ) → is_in_range 128 191 z ≡ true → 128 ≤ z
third_is z e = at_least 128 191 z e

-- no character has more than four bytes: bytes that begin as one does are at fault by then
abbrev fault_by : Bool → Bool → Bool → Option ℕ
fault_by a b c = cond a (cond b (cond c (Some 3) (Some 2)) (Some 1)) (Some 1)

fault_some : (a b c : Bool) → fault_by a b c ≡ None → ⊥
fault_some true true true e = true≢false (ap is_some e)
fault_some true true false e = true≢false (ap is_some e)
fault_some true false c e = true≢false (ap is_some e)
fault_some false b c e = true≢false (ap is_some e)

abbrev fault_of : ℕ → Bool → Bool → Bool → Option ℕ
fault_of n a b c =
    cond (n == 0) None (cond a (cond (nat_lt n 2) None (cond b (cond (nat_lt n 3) None (cond c (cond (nat_lt n 4) None
    (Some 3)) (Some 2))) (Some 1))) (Some 1))

long_none : (n : ℕ) (a b c : Bool) → 4 ≤ n → fault_of n a b c ≡ None → ⊥
long_none n a b c le e = grind (arith, common_steps, fault_some, ne_eqb, le-ltb)

-- none of them is ASCII
pub cut_high : (bs : List ℕ) → utf8_error_len bs ≡ None → (i : ℕ) → i < length bs → 128 ≤ slice_index bs i
unfolding utf8_error_len
cut_high [] e i lt = absurd (omega arith)
cut_high (x ∷ []) e zero lt = first_is x (then_none (is_in_range 194 244 x) None 1 e).0
cut_high (x ∷ []) e (suc i) lt = absurd (omega arith)
cut_high (x ∷ y ∷ []) e zero lt = first_is x (then_none (is_in_range 194 244 x) _ 1 e).0
cut_high (x ∷ y ∷ []) e (suc zero) lt =
    let p = then_none (is_in_range 194 244 x) _ 1 e in
    second_is x y (then_none (is_in_range (second_byte_min x) (second_byte_max x) y) None 1 p.1).0
cut_high (x ∷ y ∷ []) e (suc (suc i)) lt = absurd (omega arith)
cut_high (x ∷ y ∷ z ∷ []) e zero lt = first_is x (then_none (is_in_range 194 244 x) _ 1 e).0
cut_high (x ∷ y ∷ z ∷ []) e (suc zero) lt =
    let p = then_none (is_in_range 194 244 x) _ 1 e in
    second_is x y (then_none (is_in_range (second_byte_min x) (second_byte_max x) y) _ 1 p.1).0
cut_high (x ∷ y ∷ z ∷ []) e (suc (suc zero)) lt =
    let p = then_none (is_in_range 194 244 x) _ 1 e in
    let q = then_none (is_in_range (second_byte_min x) (second_byte_max x) y) _ 1 p.1 in
    third_is z (then_none (is_in_range 128 191 z) None 2 q.1).0
cut_high (x ∷ y ∷ z ∷ []) e (suc (suc (suc i))) lt = absurd (omega arith)
cut_high (x ∷ y ∷ z ∷ w ∷ bs) e i lt =
    absurd (long_none (length (x ∷ y ∷ z ∷ w ∷ bs)) (is_in_range 194 244 x) (is_in_range (second_byte_min x)
    (second_byte_max x) y) (is_in_range 128 191 z) (omega arith) e)

-- ---- more bytes end the character

abbrev pub AreHigh : List ℕ → Type 0
AreHigh [] = ⊤
AreHigh (x ∷ xs) = (128 ≤ x) × AreHigh xs

pub record Finish (bs : List ℕ) : Type 0 where
  pub rest : List ℕ
  pub high : AreHigh rest
  pub utf8 : IsUtf8 (bs ++ rest)

two : (x y : ℕ) → 194 ≤ x → x < 224 → 128 ≤ y → y < 192 → IsUtf8 (x ∷ y ∷ [])
two x y a b c d = of_two (x ∷ y ∷ []) 0 (omega arith) (a, b) (c, d)

abbrev Second : ℕ → ℕ → Type 0
Second x y = (128 ≤ y) × ((y < 192) × ((x ≡ 224 → 160 ≤ y) × ((x ≡ 237 → y < 160) × ((x ≡ 240 → 144 ≤ y)
    × (x ≡ 244 → y < 144)))))

three : (x y z : ℕ) → 224 ≤ x → x < 240 → Second x y → 128 ≤ z → z < 192 → IsUtf8 (x ∷ y ∷ z ∷ [])
three x y z a b s c d = go (cases_eq x 224) (cases_eq x 237)
  where
    go : (x ≡ 224) ⊎ (x ≡ 224 → ⊥) → (x ≡ 237) ⊎ (x ≡ 237 → ⊥) → IsUtf8 (x ∷ y ∷ z ∷ [])
    go (inl e) (inl f) = absurd (omega (arith, e, f))
    go (inl e) (inr f) =
        of_three (x ∷ y ∷ z ∷ []) 0 (omega arith) (a, b) (s.0, s.1.0) (c, d) (omega (arith, e, s.1.1.0 e, s.0)) (inl
        (omega (arith, e, s.1.0)))
    go (inr e) (inl f) =
        of_three (x ∷ y ∷ z ∷ []) 0 (omega arith) (a, b) (s.0, s.1.0) (c, d) (omega (arith, f, s.0)) (inl (omega
        (arith, f, s.1.1.1.0 f)))
    go (inr e) (inr f) = by (cases_lt x 237)
      where
        by : (x < 237) ⊎ (237 ≤ x) → IsUtf8 (x ∷ y ∷ z ∷ [])
        by (inl l) = of_three (x ∷ y ∷ z ∷ []) 0 (omega arith) (a, b) (s.0, s.1.0) (c, d) (omega (arith, e, s.0)) (inl
            (omega (arith, l, s.1.0)))
        by (inr l) = of_three (x ∷ y ∷ z ∷ []) 0 (omega arith) (a, b) (s.0, s.1.0) (c, d) (omega (arith, e, s.0)) (inr
            (omega (arith, l, f, s.0)))

four : (x y z w : ℕ) → 240 ≤ x → x < 245 → Second x y → 128 ≤ z → z < 192 → 128 ≤ w → w < 192
    → IsUtf8 (x ∷ y ∷ z ∷ w ∷ [])
four x y z w a b s c d f g = go (cases_eq x 240) (cases_eq x 244)
  where
    go : (x ≡ 240) ⊎ (x ≡ 240 → ⊥) → (x ≡ 244) ⊎ (x ≡ 244 → ⊥) → IsUtf8 (x ∷ y ∷ z ∷ w ∷ [])
    go (inl e) (inl h) = absurd (omega (arith, e, h))
    go (inl e) (inr h) =
        of_four (x ∷ y ∷ z ∷ w ∷ []) 0 (omega arith) a (s.0, s.1.0) (c, d) (f, g) (
          omega (
            arith,
            e,
            s.1.1.1.1.0 e,
            s.0,
          ),
          omega (arith, e, s.1.0),
        )
    go (inr e) (inl h) =
        of_four (x ∷ y ∷ z ∷ w ∷ []) 0 (omega arith) a (s.0, s.1.0) (c, d) (f, g) (
          omega (arith, h, s.0),
          omega
              (arith, h, s.1.1.1.1.1 h),
        )
    go (inr e) (inr h) =
        of_four (x ∷ y ∷ z ∷ w ∷ []) 0 (omega arith) a (s.0, s.1.0) (c, d) (f, g) (
          omega (arith, e, s.0),
          omega
              (arith, h, b, s.1.0),
        )

-- a byte that can come second
a_second : (x : ℕ) → Second x 128 ⊎ (Second x 144 ⊎ Second x 160)
a_second x = grind (arith, common_steps, cases_eq)

finish_three : (x y : ℕ) → 224 ≤ x → x < 240 → Second x y → Finish (x ∷ [])
finish_three x y a b s = record {
  rest = y ∷ 128 ∷ [];
  high = (s.0, (omega arith, tt));
  utf8 = three x y 128 a b s (omega arith) (omega arith);
}

finish_four : (x y : ℕ) → 240 ≤ x → x < 245 → Second x y → Finish (x ∷ [])
finish_four x y a b s = record {
  rest = y ∷ 128 ∷ 128 ∷ [];
  high = (s.0, (omega arith, (omega arith, tt)));
  utf8 = four x y 128 128 a b s (omega arith) (omega arith) (omega arith) (omega arith);
}

finish_one : (x : ℕ) → 194 ≤ x → x < 245 → Finish (x ∷ [])
finish_one x a b = go (cases_lt x 224) (cases_lt x 240)
  where
    go : (x < 224) ⊎ (224 ≤ x) → (x < 240) ⊎ (240 ≤ x) → Finish (x ∷ [])
    go (inl l) q = record { rest = 128 ∷ []; high = (omega arith, tt); utf8 = two x 128 a l (omega arith) (omega arith) }
    go (inr l) (inl m) =
        ⊎_elim (finish_three x 128 l m) (λ o. ⊎_elim (finish_three x 144 l m) (finish_three x 160 l m) o) (a_second x)
    go (inr l) (inr m) =
        ⊎_elim (finish_four x 128 m b) (λ o. ⊎_elim (finish_four x 144 m b) (finish_four x 160 m b) o) (a_second x)

-- no front of the bytes is UTF-8
abbrev pub NoFront : List ℕ → Type 0
NoFront bs = (k : ℕ) → 0 < k → k ≤ length bs → IsUtf8 (take k bs) → ⊥

finish_two : (x y : ℕ) → 194 ≤ x → x < 245 → Second x y → NoFront (x ∷ y ∷ []) → Finish (x ∷ y ∷ [])
finish_two x y a b s none = go (cases_lt x 224) (cases_lt x 240)
  where
    go : (x < 224) ⊎ (224 ≤ x) → (x < 240) ⊎ (240 ≤ x) → Finish (x ∷ y ∷ [])
    go (inl l) q = absurd (none 2 (omega arith) (omega arith) (two x y a l s.0 s.1.0))
    go (inr l) (inl m) = record {
      rest = 128 ∷ [];
      high = (omega arith, tt);
      utf8 = three x y 128 l m s (omega arith) (omega arith);
    }
    go (inr l) (inr m) = record {
      rest = 128 ∷ 128 ∷ [];
      high = (omega arith, (omega arith, tt));
      utf8 = four x y 128 128 m b s (omega arith) (omega arith) (omega arith) (omega arith);
    }

finish_last : (x y z : ℕ) → 194 ≤ x → x < 245 → Second x y → 128 ≤ z → z < 192 → NoFront (x ∷ y ∷ z ∷ [])
    → Finish (x ∷ y ∷ z ∷ [])
finish_last x y z a b s c d none = go (cases_lt x 224) (cases_lt x 240)
  where
    go : (x < 224) ⊎ (224 ≤ x) → (x < 240) ⊎ (240 ≤ x) → Finish (x ∷ y ∷ z ∷ [])
    go (inl l) q = absurd (none 2 (omega arith) (omega arith) (two x y a l s.0 s.1.0))
    go (inr l) (inl m) = absurd (none 3 (omega arith) (omega arith) (three x y z l m s c d))
    go (inr l) (inr m) = record {
      rest = 128 ∷ [];
      high = (omega arith, tt);
      utf8 = four x y z 128 m b s c d (omega arith) (omega arith);
    }

most_second : (u v : Bool) → cond u 159 (cond v 143 191) < 192
most_second true v = omega arith
most_second false true = omega arith
most_second false false = omega arith

mid_second : (u : Bool) → 144 ≤ cond u 160 144
mid_second true = omega arith
mid_second false = omega arith

not_first : (x y : ℕ) → (x ≡ 237 → ⊥) → (u : Bool) → (x == 237) ≡ u → y ≤ cond u 159 143 → y < 144
not_first x y never true f l = absurd (never (eqb-true x 237 f))
not_first x y never false f l = omega arith

second_of : (x y : ℕ) → is_in_range (second_byte_min x) (second_byte_max x) y ≡ true → Second x y
second_of x y e =
    grind (
      arith,
      common_steps,
      is_in_range,
      cond,
      at_least,
      at_most,
      second_high,
      most_second,
      eq-eqb,
      mid_second,
      not_first,
    )

first_range : (x : ℕ) → is_in_range 194 244 x ≡ true → (194 ≤ x) × (x < 245)
first_range x e = (at_least 194 244 x e, omega (arith, at_most 194 244 x e))

-- where the bytes of a character are cut, some more make it whole
pub finish : (bs : List ℕ) → utf8_error_len bs ≡ None → 0 < length bs → NoFront bs → Finish bs
unfolding utf8_error_len
finish [] e lt none = absurd (omega arith)
finish (x ∷ []) e lt none =
    let r = first_range x (then_none (is_in_range 194 244 x) None 1 e).0 in finish_one x r.0 r.1
finish (x ∷ y ∷ []) e lt none =
    let p = then_none (is_in_range 194 244 x) _ 1 e in
    let q = then_none (is_in_range (second_byte_min x) (second_byte_max x) y) None 1 p.1 in
    let r = first_range x p.0 in
    finish_two x y r.0 r.1 (second_of x y q.0) none
finish (x ∷ y ∷ z ∷ []) e lt none =
    let p = then_none (is_in_range 194 244 x) _ 1 e in
    let q = then_none (is_in_range (second_byte_min x) (second_byte_max x) y) _ 1 p.1 in
    let l = then_none (is_in_range 128 191 z) None 2 q.1 in
    let r = first_range x p.0 in
    finish_last x y z r.0 r.1 (second_of x y q.0) (at_least 128 191 z l.0) (omega (arith, at_most 128 191 z l.0)) none
finish (x ∷ y ∷ z ∷ w ∷ bs) e lt none =
    absurd (long_none (length (x ∷ y ∷ z ∷ w ∷ bs)) (is_in_range 194 244 x) (is_in_range (second_byte_min x)
    (second_byte_max x) y) (is_in_range 128 191 z) (omega arith) e)

-- ---- bytes of no character

-- no byte of no character is at a place before this one: outside of strings such a byte is refused anyway
abbrev pub IsClean : List ℕ → ℕ → Type 0
IsClean text n = (i : ℕ) → i < n → 128 ≤ slice_index text i → is_place (broken_of text) i ≡ false

pub broken_is : (o : Option ℕ) (n : ℕ) → is_place o n ≡ true → o ≡ Some n
broken_is None n e = absurd (false≢true e)
broken_is (Some k) n e = ap Some (eqb-true k n e)

broken_at : (o : Option ℕ) (v n : ℕ) → broken_by o v ≡ Some n → n ≡ v
broken_at None v n e = absurd (false≢true (ap is_some e))
broken_at (Some k) v n e = grind (arith, common_steps, unwrap_or)

pub broken_valid : (text : List ℕ) (n : ℕ) → broken_of text ≡ Some n → n ≡ utf8_valid_len text
broken_valid text n e = broken_at (utf8_error_len (drop (utf8_valid_len text) text)) (utf8_valid_len text) n e

-- a text isn't UTF-8 behind such a byte
pub broken_behind : (text : List ℕ) (n k : ℕ) → broken_of text ≡ Some n → n < k → k ≤ length text
    → IsUtf8 (take k text) → ⊥
broken_behind text n k e lt le u = omega (arith, valid_longest text k le u, broken_valid text n e)

unplaced : (o : Option ℕ) (v : ℕ) → is_place (broken_by o v) v ≡ false → o ≡ None
unplaced None v e = refl
unplaced (Some k) v e = absurd (true≢false (sym (eq-eqb v v refl) ∙ e))

-- where a text isn't UTF-8 and has no such byte, it ends within a character
pub cut_from : (text : List ℕ) (n : ℕ) → n ≤ length text → IsClean text n → utf8_valid_len text < n
    → utf8_error_len (drop (utf8_valid_len text) text) ≡ None
cut_from text n le clean lt =
    let v = utf8_valid_len text in
    unplaced (utf8_error_len (drop v text)) v (clean v lt (valid_end text (omega arith)))

pub high_from : (text : List ℕ) (n i : ℕ) → n ≤ length text → IsClean text n → utf8_valid_len text < n
    → utf8_valid_len text ≤ i → i < length text → 128 ≤ slice_index text i
high_from text n i le clean lt from below =
    let v = utf8_valid_len text in
    let here : get_or (drop v text) (i - v) 0 ≡ get_or text i 0 =
    get_or-drop v text (i - v) 0 ∙ ap (λ j. get_or text j 0) (omega arith) in
    omega (arith, here, cut_high (drop v text) (cut_from text n le clean lt) (i - v) (omega (arith, length-drop v text)))

-- where a text is cut within a character, no front of the cut bytes is UTF-8
pub no_front : (text : List ℕ) → NoFront (drop (utf8_valid_len text) text)
no_front text k lt le u =
    let v = utf8_valid_len text in
    let more : IsUtf8 (take (v + k) text) =
    subst IsUtf8 (sym (take-add v k text)) (IsUtf8-append (take v text) (take k (drop v text)) (valid_front text) u) in
    omega (arith, valid_longest text (v + k) (omega (arith, length-drop v text, utf8_valid_len_le text)) more)

-- before an edge a text is UTF-8
pub utf8_before : (text : List ℕ) (n : ℕ) → n < length text → IsEdge text n → IsClean text n → IsUtf8 (take n text)
utf8_before text n lt edge clean = go (cases_lt v n)
  where
    v : ℕ
    v = utf8_valid_len text

    high : v < n → (i : ℕ) → v ≤ i → i < length text → 128 ≤ slice_index text i
    high less i from below = high_from text n i (omega arith) clean less from below

    none : v < n → IsEdge text n → IsUtf8 (take n text)
    none less (inl zero_is) = absurd (omega arith)
    none less (inr (inl end_is)) = absurd (omega arith)
    none less (inr (inr (inl e))) = absurd (omega (arith, ends_ascii (get_or text n 0) e, high less n (omega arith) lt))
    none less (inr (inr (inr e))) = absurd (omega (
      arith,
      ends_ascii (get_or text (n - 1) 0) e,
      high less (n - 1)
          (omega arith) (omega arith),
    ))

    size : n < v → length (take v text) ≡ v
    size less = length-take-le v text (utf8_valid_len_le text)

    cut : n < v → IsUtf8 (take n (take v text)) → IsUtf8 (take n text)
    cut less u = subst IsUtf8 (take-take n v text (omega arith)) u

    within : n < v → IsEdge text n → IsUtf8 (take n text)
    within less (inl zero_is) = subst (λ k. IsUtf8 (take k text)) (sym zero_is) IsUtf8-nil
    within less (inr (inl end_is)) = absurd (omega arith)
    within less (inr (inr (inl e))) = cut less (IsUtf8-take (take v text) n (valid_front text)
        (IsCharBoundary-before_ascii (take v text) n (omega (arith, size less)) (omega (
          arith,
          ends_ascii
              (get_or text n 0) e,
          get_or-take v text n 0 less,
        ))))
    within less (inr (inr (inr e))) = before n less e
      where
        before : (m : ℕ) → m < v → ends_word (slice_index text (m - 1)) ≡ true → IsUtf8 (take m text)
        before zero l f = IsUtf8-nil
        before (suc m) l f =
            let m_is : get_or (take v text) m 0 ≡ get_or text m 0 = get_or-take v text m 0 (omega arith) in
            let less_one : suc m - 1 ≡ m = omega arith in
            let low : get_or text m 0 < 128 = ends_ascii (get_or text m 0) (ap (λ j. ends_word (get_or text j 0)) (sym
            less_one) ∙ f) in
            let b = IsCharBoundary-after_ascii (take v text) m (valid_front text) (omega (
              arith,
              length-take-le v text
                  (utf8_valid_len_le text),
            )) (omega arith) in
            subst IsUtf8 (take-take (suc m) v text (omega arith)) (IsUtf8-take (take v text) (suc m) (valid_front text)
            (subst (IsCharBoundary (take v text)) (add-one m) b))

    go : (v < n) ⊎ (n ≤ v) → IsUtf8 (take n text)
    go (inl less) = none less edge
    go (inr le) = by (cases_eq n v)
      where
        by : (n ≡ v) ⊎ (n ≡ v → ⊥) → IsUtf8 (take n text)
        by (inl same) = subst (λ k. IsUtf8 (take k text)) (sym same) (valid_front text)
        by (inr other) = within (omega (arith, other)) edge
