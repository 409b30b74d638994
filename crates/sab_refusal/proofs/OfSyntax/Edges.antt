-- What a byte does beside an edge: it ends a word, or a line feed ends the text there.
use Rattle.std.proofs.Common.{◌≡◌, ℕ, zero, suc, ◌<◌, ◌≤◌, Bool, true, false, cond, ◌&&◌, ◌||◌, nat_lt, nat_le, List, length, Option, Some, None, Ok, Err, inl, inr, ◌⊎◌, ⊎_elim, refl, sym, ap, ◌∙◌, subst, arith}
use Rattle.std.proofs.lemmas.Grind.{common_steps}
use Rattle.std.proofs.lemmas.Bool.{false≢true, true≢false, cases_Bool, and_parts, or_from, or_left, or_right, or_cases, eqb-true, ne_eqb, leb-true, le-ltb}
use Rattle.std.specs.Prelude.{◌==◌, ⊤, slice_get}
use Rattle.std.specs.Char.{is_ascii_digit, is_ascii_alphabetic}
use Rattle.sab_refusal.specs.declared.syntax.brackets.Bracket.{Bracket}
use Rattle.sab_refusal.specs.declared.syntax.fault.Fault.{Fault}
use Rattle.sab_refusal.specs.declared.syntax.fault.Fault.TheVariants as F
use Rattle.sab_refusal.specs.declared.syntax.literal.Literal.{Literal}
use Rattle.sab_refusal.specs.declared.syntax.literal.Literal.TheVariants.{True, False, Null}
use Rattle.sab_refusal.specs.declared.syntax.number_part.NumberPart.{NumberPart}
use Rattle.sab_refusal.specs.declared.syntax.number_part.NumberPart.TheVariants as N
use Rattle.sab_refusal.specs.declared.syntax.string_part.StringPart.{StringPart}
use Rattle.sab_refusal.specs.declared.syntax.string_part.StringPart.TheVariants as P
use Rattle.sab_refusal.specs.declared.syntax.reader.Next.{Next}
use Rattle.sab_refusal.specs.declared.syntax.reader.Next.TheVariants.{After}
use Rattle.sab_refusal.specs.declared.syntax.reader.Inside.{Inside}
use Rattle.sab_refusal.specs.declared.syntax.reader.Inside.TheVariants as I
use Rattle.sab_refusal.specs.declared.syntax.reader.Reader.{Reader}
use Rattle.sab_refusal.specs.declared.syntax.reader.Slip.{Slip}
use Rattle.sab_refusal.specs.declared.syntax.reader.Slip.TheVariants as S
use Rattle.sab_refusal.specs.Syntax.Brackets.{innermost}
use Rattle.sab_refusal.specs.Syntax.Literal.{letters_of, literal_at}
use Rattle.sab_refusal.specs.Syntax.Number.{first_part, part_behind, is_complete, is_in_range}
use Rattle.sab_refusal.specs.Syntax.String.{Behind, string_behind, is_hex, is_from_c, is_d, is_escape}
use Rattle.sab_refusal.specs.Syntax.Reader.{Step, reader, expected_of, is_between, is_in_string, takes_value, takes_name, behind_comma, behind_colon, going_on, open_bracket, close_bracket, may_close, closes, by_operator, is_operator, is_white, begin_in, begin_string, begin_inside, inside_by, inside_at, string_by, literal_by, number_by, number_end, step_in, ends_word}
use Rattle.sab_refusal.proofs.OfSyntax.Steps.{Between, between_operator, between_begin, WordFits}
use Rattle.sab_refusal.proofs.OfSyntax.Readings.{any_number}
use Rattle.sab_refusal.proofs.OfSyntax.Utf8.{ends_ascii}

-- a step has a property, by a test
by_test : (Q : Step → Type 0) (c : Bool) (s u : Step) → (c ≡ true → Q s) → (c ≡ false → Q u) → Q (cond c s u)
by_test Q true s u p q = p refl
by_test Q false s u p q = q refl

white_ends : (b : ℕ) → is_white b ≡ true → ends_word b ≡ true
white_ends b e = or_left (is_operator b || is_white b) (b == 34) (or_right (is_operator b) (is_white b) e)

operator_ends : (b : ℕ) → is_operator b ≡ true → ends_word b ≡ true
operator_ends b e = or_left (is_operator b || is_white b) (b == 34) (or_left (is_operator b) (is_white b) e)

quote_ends : (b : ℕ) → (b == 34) ≡ true → ends_word b ≡ true
quote_ends b e = or_right (is_operator b || is_white b) (b == 34) e

not_end : (b : ℕ) → is_white b ≡ false → (b == 34) ≡ false → is_operator b ≡ false → ends_word b ≡ false
not_end b w q o = or_from (is_operator b || is_white b) (b == 34) (or_from (is_operator b) (is_white b) o w) q

-- in a word or a number
abbrev pub is_word : Inside → Bool
is_word I.Nothing = false
is_word (I.String part) = false
is_word (I.Literal l) = true
is_word (I.Number part) = true

-- ---- where a byte leads

-- between tokens by a byte that ends words, and into a word or a number by another
abbrev pub GoesTo : ℕ → Inside → Type 0
GoesTo b I.Nothing = ends_word b ≡ true
GoesTo b (I.String part) = ⊤
GoesTo b (I.Literal l) = ends_word b ≡ false
GoesTo b (I.Number part) = ends_word b ≡ false

abbrev pub Goes : ℕ → Step → Type 0
Goes b (Err slip) = ⊤
Goes b (Ok r) = GoesTo b r.inside

goes_between : (b : ℕ) (s : Step) → ends_word b ≡ true → Between any_number s → Goes b s
goes_between b (Err slip) e h = tt
goes_between b (Ok r) e h = subst (GoesTo b) (sym h) e

goes_string : (next : Next) (st : List Bracket) (b : ℕ) → Goes b (begin_string (reader I.Nothing next st))
goes_string next st b =
    by_test (Goes b) (takes_value next st) _ _ (λ e. tt) (λ e. by_test (Goes b) (takes_name next st) _ _ (λ n. tt)
    (λ n. tt))

goes_inside : (next : Next) (st : List Bracket) (l : Option Literal) (o : Option NumberPart) (b : ℕ)
    → ends_word b ≡ false → Goes b (begin_inside (reader I.Nothing next st) (inside_by l o) b)
goes_inside next st None None b e = tt
goes_inside next st None (Some q) b e = e
goes_inside next st (Some l) o b e = e

goes_begin : (next : Next) (st : List Bracket) (b : ℕ) → Goes b (begin_in (reader I.Nothing next st) b)
goes_begin next st b =
    by_test (Goes b) (is_white b) _ _ (λ w. white_ends b w)
    (λ w. by_test (Goes b) (b == 34) _ _ (λ q. goes_string next st b)
    (λ q. by_test (Goes b) (is_operator b) _ _ (λ o. goes_between b (by_operator (reader I.Nothing next st) b)
    (operator_ends b o) (between_operator any_number next st b))
    (λ o. by_test (Goes b) (takes_value next st) _ _ (λ v. goes_inside next st (literal_at b) (first_part b) b
    (not_end b w q o)) (λ v. tt))))

-- a quote ends a string
abbrev Closes : ℕ → Behind → Type 0
Closes b (Err fault) = ⊤
Closes b (Ok None) = ends_word b ≡ true
Closes b (Ok (Some part)) = ⊤

closes_by : (b : ℕ) (c : Bool) (s u : Behind) → (c ≡ true → Closes b s) → (c ≡ false → Closes b u)
    → Closes b (cond c s u)
closes_by b true s u p q = p refl
closes_by b false s u p q = q refl

closes_digit : (b : ℕ) (part : StringPart) (fault : Fault) (c : Bool)
    → Closes b (cond c (Ok (Some part)) (Err fault))
closes_digit b part fault c = closes_by b c (Ok (Some part)) (Err fault) (λ e. tt) (λ e. tt)

closes_second : (b : ℕ) (part : StringPart) (c h : Bool)
    → Closes b (cond c (Ok (Some part)) (cond h (Err F.Surrogate) (Err F.Escape)))
closes_second b part c h =
    closes_by b c (Ok (Some part)) (cond h (Err F.Surrogate) (Err F.Escape)) (λ e. tt) (λ e. closes_by b h
    (Err F.Surrogate) (Err F.Escape) (λ i. tt) (λ i. tt))

string_closes : (part : StringPart) (b : ℕ) → Closes b (string_behind part b)
string_closes P.Plain b =
    closes_by b (b == 34) _ _ (λ q. quote_ends b q) (λ q. closes_by b (b == 92) _ _ (λ e. tt) (λ e. closes_by b
    (nat_lt b 32) _ _ (λ c. tt) (λ c. tt)))
string_closes P.Escape b =
    closes_by b (b == 117) _ _ (λ e. tt) (λ e. closes_by b (is_escape b) _ _ (λ f. tt) (λ f. tt))
string_closes P.First b = closes_digit b (P.Second (is_d b)) F.Escape (is_hex b)
string_closes (P.Second false) b = closes_digit b (P.Third false) F.Escape (is_hex b)
string_closes (P.Second true) b =
    closes_by b (is_from_c b) _ _ (λ e. tt) (λ e. closes_digit b (P.Third (nat_le 56 b)) F.Escape (is_hex b))
string_closes (P.Third h) b = closes_digit b (P.Fourth h) F.Escape (is_hex b)
string_closes (P.Fourth false) b = closes_digit b P.Plain F.Escape (is_hex b)
string_closes (P.Fourth true) b = closes_digit b P.Pair F.Escape (is_hex b)
string_closes P.Pair b = closes_digit b P.PairEscape F.Surrogate (b == 92)
string_closes P.PairEscape b = closes_digit b P.PairFirst F.Surrogate (b == 117)
string_closes P.PairFirst b = closes_second b P.PairSecond (is_d b) (is_hex b)
string_closes P.PairSecond b = closes_second b P.PairThird (is_from_c b) (is_hex b)
string_closes P.PairThird b = closes_digit b P.PairFourth F.Escape (is_hex b)
string_closes P.PairFourth b = closes_digit b P.Plain F.Escape (is_hex b)

goes_in_string : (r : Reader) (b : ℕ) (o : Behind) → Closes b o → Goes b (string_by r o)
goes_in_string r b (Err fault) h = tt
goes_in_string r b (Ok None) h = h
goes_in_string r b (Ok (Some part)) h = tt

-- a letter of a word ends no word
abbrev Letter : Option ℕ → Type 0
Letter None = ⊤
Letter (Some c) = (ends_word c ≡ false) × (c < 128)

letter : (l : Literal) (n : ℕ) → Letter (slice_get (letters_of l) n)
letter True zero = (refl, omega arith)
letter True (suc zero) = (refl, omega arith)
letter True (suc (suc zero)) = (refl, omega arith)
letter True (suc (suc (suc zero))) = (refl, omega arith)
letter True (suc (suc (suc (suc n)))) = tt
letter False zero = (refl, omega arith)
letter False (suc zero) = (refl, omega arith)
letter False (suc (suc zero)) = (refl, omega arith)
letter False (suc (suc (suc zero))) = (refl, omega arith)
letter False (suc (suc (suc (suc zero)))) = (refl, omega arith)
letter False (suc (suc (suc (suc (suc n))))) = tt
letter Null zero = (refl, omega arith)
letter Null (suc zero) = (refl, omega arith)
letter Null (suc (suc zero)) = (refl, omega arith)
letter Null (suc (suc (suc zero))) = (refl, omega arith)
letter Null (suc (suc (suc (suc n)))) = tt

goes_letter : (l : Literal) (next : Next) (st : List Bracket) (o : Option ℕ) (b : ℕ) → Letter o
    → Goes b (literal_by (reader (I.Literal l) next st) o b)
goes_letter l next st None b h = by_test (Goes b) (ends_word b) _ _ (λ e. goes_begin next st b) (λ e. tt)
goes_letter l next st (Some c) b h =
    by_test (Goes b) (c == b) _ _ (λ e. subst (λ y. ends_word y ≡ false) (eqb-true c b e) h.0) (λ e. tt)

goes_part : (part : NumberPart) (next : Next) (st : List Bracket) (o : Option NumberPart) (b : ℕ)
    → ends_word b ≡ false → Goes b (number_by (reader (I.Number part) next st) o)
goes_part part next st None b e = tt
goes_part part next st (Some q) b e = e

pub goes : (i : Inside) (next : Next) (st : List Bracket) (t : List ℕ) (b : ℕ)
    → Goes b (step_in is_in_range i (reader i next st) t b)
goes I.Nothing next st t b = goes_begin next st b
goes (I.String part) next st t b =
    goes_in_string (reader (I.String part) next st) b (string_behind part b) (string_closes part b)
goes (I.Literal l) next st t b =
    goes_letter l next st (slice_get (letters_of l) (length t)) b (letter l (length t))
goes (I.Number part) next st t b =
    by_test (Goes b) (ends_word b) _ _
    (λ e. by_test (Goes b) (is_complete part) _ _ (λ c. by_test (Goes b) (is_in_range t) _ _
    (λ g. goes_begin next st b) (λ g. tt)) (λ c. tt))
    (λ e. goes_part part next st (part_behind part b) b e)

-- between tokens a byte has ended words, and in a word it hasn't
pub between_to : (b : ℕ) (i : Inside) → is_between i ≡ true → GoesTo b i → ends_word b ≡ true
between_to b I.Nothing e to = to
between_to b (I.String part) e to = absurd (false≢true e)
between_to b (I.Literal l) e to = absurd (false≢true e)
between_to b (I.Number part) e to = absurd (false≢true e)

pub word_to : (b : ℕ) (i : Inside) → is_between i ≡ false → is_in_string i ≡ false → GoesTo b i → ends_word b ≡ false
word_to b I.Nothing e s to = absurd (true≢false e)
word_to b (I.String part) e s to = absurd (true≢false s)
word_to b (I.Literal l) e s to = to
word_to b (I.Number part) e s to = to

pub in_word_to : (b : ℕ) (i : Inside) → is_word i ≡ true → GoesTo b i → ends_word b ≡ false
in_word_to b I.Nothing w to = absurd (false≢true w)
in_word_to b (I.String part) w to = absurd (false≢true w)
in_word_to b (I.Literal l) w to = to
in_word_to b (I.Number part) w to = to

-- ---- behind a word

-- a word or a number leads to no string
abbrev pub NoString : Step → Type 0
NoString (Err slip) = ⊤
NoString (Ok r) = is_in_string r.inside ≡ false

between_string : (s : Step) → Between any_number s → NoString s
between_string (Err slip) h = tt
between_string (Ok r) h = ap is_in_string h

after_word : (st : List Bracket) (b : ℕ) → NoString (begin_in (reader I.Nothing After st) b)
after_word st b = between_string (begin_in (reader I.Nothing After st) b) (between_begin any_number st b)

letter_after : (l : Literal) (st : List Bracket) (o : Option ℕ) (b : ℕ)
    → NoString (literal_by (reader (I.Literal l) After st) o b)
letter_after l st None b = by_test NoString (ends_word b) _ _ (λ e. after_word st b) (λ e. tt)
letter_after l st (Some c) b = by_test NoString (c == b) _ _ (λ e. refl) (λ e. tt)

part_after : (part : NumberPart) (st : List Bracket) (o : Option NumberPart)
    → NoString (number_by (reader (I.Number part) After st) o)
part_after part st None = tt
part_after part st (Some q) = refl

pub no_string : (i : Inside) (next : Next) (st : List Bracket) (t : List ℕ) (b : ℕ) → is_word i ≡ true
    → WordFits any_number i next → NoString (step_in is_in_range i (reader i next st) t b)
no_string I.Nothing next st t b w h = absurd (false≢true w)
no_string (I.String part) next st t b w h = absurd (false≢true w)
no_string (I.Literal l) next st t b w h =
    subst (λ n. NoString (step_in is_in_range (I.Literal l) (reader (I.Literal l) n st) t b)) (sym h)
    (letter_after l st (slice_get (letters_of l) (length t)) b)
no_string (I.Number part) next st t b w h =
    subst (λ n. NoString (step_in is_in_range (I.Number part) (reader (I.Number part) n st) t b)) (sym h)
    (by_test NoString (ends_word b) _ _
    (λ e. by_test NoString (is_complete part) _ _ (λ c. by_test NoString (is_in_range t) _ _
    (λ g. after_word st b) (λ g. tt)) (λ c. tt))
    (λ e. part_after part st (part_behind part b)))

-- ---- outside of a string a byte that is taken is ASCII

abbrev pub Low : ℕ → Step → Type 0
Low b (Err slip) = ⊤
Low b (Ok r) = b < 128

low : (b : ℕ) (s : Step) → b < 128 → Low b s
low b (Err slip) h = tt
low b (Ok r) h = h

ends_low : (b : ℕ) (s : Step) → ends_word b ≡ true → Low b s
ends_low b s e = low b s (ends_ascii b e)

abbrev LowPart : ℕ → Option NumberPart → Type 0
LowPart b None = ⊤
LowPart b (Some q) = b < 128

part_by : (b : ℕ) (c : Bool) (s u : Option NumberPart) → (c ≡ true → LowPart b s) → (c ≡ false → LowPart b u)
    → LowPart b (cond c s u)
part_by b true s u p q = p refl
part_by b false s u p q = q refl

same_low : (b c : ℕ) → c < 128 → (b == c) ≡ true → b < 128
same_low b c h e = subst (λ y. y < 128) (sym (eqb-true b c e)) h

either_low : (b c d : ℕ) → c < 128 → d < 128 → (b == c || b == d) ≡ true → b < 128
either_low b c d h i e = ⊎_elim (λ x. same_low b c h x) (λ x. same_low b d i x) (or_cases _ _ e)

digit_low : (b : ℕ) → is_ascii_digit b ≡ true → b < 128
digit_low b e = omega (arith, leb-true b 57 (and_parts (nat_le 48 b) (nat_le b 57) e).1)

low_digit : (b : ℕ) (q : NumberPart) → LowPart b (cond (is_ascii_digit b) (Some q) None)
low_digit b q = part_by b (is_ascii_digit b) (Some q) None (λ e. digit_low b e) (λ e. tt)

low_power : (b : ℕ) → LowPart b (cond (b == 101 || b == 69) (Some N.Power) None)
low_power b = part_by b (b == 101 || b == 69) (Some N.Power) None (λ e. either_low b 101 69 (omega arith) (omega arith)
    e) (λ e. tt)

low_point : (b : ℕ) → LowPart b (cond (b == 46) (Some N.Point) (cond (b == 101 || b == 69) (Some N.Power) None))
low_point b = part_by b (b == 46) (Some N.Point) _ (λ e. same_low b 46 (omega arith) e) (λ e. low_power b)

part_low : (part : NumberPart) (b : ℕ) → LowPart b (part_behind part b)
part_low N.Minus b = part_by b (b == 48) (Some N.Zero) _ (λ e. same_low b 48 (omega arith) e) (λ e. low_digit b N.Whole)
part_low N.Zero b = low_point b
part_low N.Whole b = part_by b (is_ascii_digit b) (Some N.Whole) _ (λ e. digit_low b e) (λ e. low_point b)
part_low N.Point b = low_digit b N.Fraction
part_low N.Fraction b = part_by b (is_ascii_digit b) (Some N.Fraction) _ (λ e. digit_low b e) (λ e. low_power b)
part_low N.Power b = part_by b (b == 45 || b == 43) (Some N.Sign) _ (λ e. either_low b 45 43 (omega arith)
    (omega arith) e) (λ e. low_digit b N.Exponent)
part_low N.Sign b = low_digit b N.Exponent
part_low N.Exponent b = low_digit b N.Exponent

first_low : (b : ℕ) → LowPart b (first_part b)
first_low b =
    part_by b (b == 45) (Some N.Minus) _ (λ e. same_low b 45 (omega arith) e)
    (λ e. part_by b (b == 48) (Some N.Zero) _ (λ f. same_low b 48 (omega arith) f) (λ f. low_digit b N.Whole))

abbrev LowLiteral : ℕ → Option Literal → Type 0
LowLiteral b None = ⊤
LowLiteral b (Some l) = b < 128

literal_low : (b : ℕ) → LowLiteral b (literal_at b)
literal_low b = grind (arith, common_steps, cond, same_low)

low_inside : (next : Next) (st : List Bracket) (l : Option Literal) (o : Option NumberPart) (b : ℕ)
    → LowLiteral b l → LowPart b o → Low b (begin_inside (reader I.Nothing next st) (inside_by l o) b)
low_inside next st None None b h k = tt
low_inside next st None (Some q) b h k = k
low_inside next st (Some l) o b h k = h

low_begin : (next : Next) (st : List Bracket) (b : ℕ) → Low b (begin_in (reader I.Nothing next st) b)
low_begin next st b =
    by_test (Low b) (is_white b) _ _ (λ w. ends_ascii b (white_ends b w))
    (λ w. by_test (Low b) (b == 34) _ _ (λ q. ends_low b (begin_string (reader I.Nothing next st)) (quote_ends b q))
    (λ q. by_test (Low b) (is_operator b) _ _ (λ o. ends_low b (by_operator (reader I.Nothing next st) b)
    (operator_ends b o))
    (λ o. by_test (Low b) (takes_value next st) _ _ (λ v. low_inside next st (literal_at b) (first_part b) b
    (literal_low b) (first_low b)) (λ v. tt))))

low_letter : (l : Literal) (next : Next) (st : List Bracket) (o : Option ℕ) (b : ℕ) → Letter o
    → Low b (literal_by (reader (I.Literal l) next st) o b)
low_letter l next st None b h = by_test (Low b) (ends_word b) _ _ (λ e. low_begin next st b) (λ e. tt)
low_letter l next st (Some c) b h =
    by_test (Low b) (c == b) _ _ (λ e. subst (λ y. y < 128) (eqb-true c b e) h.1) (λ e. tt)

low_part : (part : NumberPart) (next : Next) (st : List Bracket) (o : Option NumberPart) (b : ℕ)
    → LowPart b o → Low b (number_by (reader (I.Number part) next st) o)
low_part part next st None b h = tt
low_part part next st (Some q) b h = h

pub taken_low : (i : Inside) (next : Next) (st : List Bracket) (t : List ℕ) (b : ℕ) → is_in_string i ≡ false
    → Low b (step_in is_in_range i (reader i next st) t b)
taken_low I.Nothing next st t b s = low_begin next st b
taken_low (I.String part) next st t b s = absurd (true≢false s)
taken_low (I.Literal l) next st t b s =
    low_letter l next st (slice_get (letters_of l) (length t)) b (letter l (length t))
taken_low (I.Number part) next st t b s =
    by_test (Low b) (ends_word b) _ _
    (λ e. by_test (Low b) (is_complete part) _ _ (λ c. by_test (Low b) (is_in_range t) _ _
    (λ g. low_begin next st b) (λ g. tt)) (λ c. tt))
    (λ e. low_part part next st (part_behind part b) b (part_low part b))

-- ---- a byte that isn't ASCII is in a string's text

abbrev pub Plainly : Step → Type 0
Plainly (Err slip) = ⊤
Plainly (Ok r) = r.inside ≡ I.String P.Plain

abbrev PlainTo : Behind → Type 0
PlainTo (Err fault) = ⊤
PlainTo (Ok None) = ⊥
PlainTo (Ok (Some part)) = part ≡ P.Plain

plain_by : (c : Bool) (s u : Behind) → (c ≡ true → PlainTo s) → (c ≡ false → PlainTo u) → PlainTo (cond c s u)
plain_by true s u p q = p refl
plain_by false s u p q = q refl

letter_low : (b lo hi : ℕ) → hi < 128 → (nat_le lo b && nat_le b hi) ≡ true → b < 128
letter_low b lo hi h e = omega (arith, h, leb-true b hi (and_parts (nat_le lo b) (nat_le b hi) e).1)

hex_low : (b : ℕ) → is_hex b ≡ true → b < 128
hex_low b e =
    ⊎_elim (λ h. ⊎_elim (λ d. digit_low b d) (λ l. letter_low b 97 102 (omega arith) l) (or_cases _ _ h))
    (λ l. letter_low b 65 70 (omega arith) l) (or_cases _ _ e)

from_c_low : (b : ℕ) → is_from_c b ≡ true → b < 128
from_c_low b e =
    ⊎_elim (λ l. letter_low b 99 102 (omega arith) l) (λ l. letter_low b 67 70 (omega arith) l) (or_cases _ _ e)

plain_never : (b : ℕ) (part : StringPart) (fault : Fault) (c : Bool) → (c ≡ true → b < 128) → 128 ≤ b
    → PlainTo (cond c (Ok (Some part)) (Err fault))
plain_never b part fault c low high =
    plain_by c (Ok (Some part)) (Err fault) (λ e. absurd (omega (arith, low e, high))) (λ e. tt)

plain_second : (b : ℕ) (part : StringPart) (c h : Bool) → (c ≡ true → b < 128) → 128 ≤ b
    → PlainTo (cond c (Ok (Some part)) (cond h (Err F.Surrogate) (Err F.Escape)))
plain_second b part c h low high =
    plain_by c (Ok (Some part)) (cond h (Err F.Surrogate) (Err F.Escape)) (λ e. absurd (omega (arith, low e, high)))
    (λ e. plain_by h (Err F.Surrogate) (Err F.Escape) (λ i. tt) (λ i. tt))

plain_hex : (b : ℕ) (part : StringPart) → 128 ≤ b → PlainTo (cond (is_hex b) (Ok (Some part)) (Err F.Escape))
plain_hex b part high = plain_never b part F.Escape (is_hex b) (hex_low b) high

string_plain : (part : StringPart) (b : ℕ) → 128 ≤ b → PlainTo (string_behind part b)
string_plain P.Plain b h = grind (arith, common_steps, plain_by, same_low, nat_lt)
string_plain P.Escape b h =
    plain_by (b == 117) _ _ (λ e. absurd (omega (arith, h, same_low b 117 (omega arith) e))) (λ e. plain_by
    (is_escape b) _ _ (λ f. refl) (λ f. tt))
string_plain P.First b h = plain_hex b (P.Second (is_d b)) h
string_plain (P.Second false) b h = plain_hex b (P.Third false) h
string_plain (P.Second true) b h =
    plain_by (is_from_c b) _ _ (λ e. tt) (λ e. plain_hex b (P.Third (nat_le 56 b)) h)
string_plain (P.Third f) b h = plain_hex b (P.Fourth f) h
string_plain (P.Fourth false) b h = plain_hex b P.Plain h
string_plain (P.Fourth true) b h = plain_hex b P.Pair h
string_plain P.Pair b h = plain_never b P.PairEscape F.Surrogate (b == 92) (same_low b 92 (omega arith)) h
string_plain P.PairEscape b h = plain_never b P.PairFirst F.Surrogate (b == 117) (same_low b 117 (omega arith)) h
string_plain P.PairFirst b h =
    plain_second b P.PairSecond (is_d b) (is_hex b) (either_low b 100 68 (omega arith) (omega arith)) h
string_plain P.PairSecond b h = plain_second b P.PairThird (is_from_c b) (is_hex b) (from_c_low b) h
string_plain P.PairThird b h = plain_hex b P.PairFourth h
string_plain P.PairFourth b h = plain_hex b P.Plain h

plain_in : (r : Reader) (o : Behind) → PlainTo o → Plainly (string_by r o)
plain_in r (Err fault) h = tt
plain_in r (Ok None) h = absurd h
plain_in r (Ok (Some part)) h = ap I.String h

never_low : (b : ℕ) (s : Step) → 128 ≤ b → Low b s → Plainly s
never_low b (Err slip) h l = tt
never_low b (Ok r) h l = absurd (omega (arith, h, l))

pub high_plain : (i : Inside) (next : Next) (st : List Bracket) (t : List ℕ) (b : ℕ) → 128 ≤ b
    → Plainly (step_in is_in_range i (reader i next st) t b)
high_plain I.Nothing next st t b h =
    never_low b (step_in is_in_range I.Nothing (reader I.Nothing next st) t b) h (taken_low I.Nothing next st t b refl)
high_plain (I.String part) next st t b h =
    plain_in (reader (I.String part) next st) (string_behind part b) (string_plain part b h)
high_plain (I.Literal l) next st t b h =
    never_low b (step_in is_in_range (I.Literal l) (reader (I.Literal l) next st) t b) h
    (taken_low (I.Literal l) next st t b refl)
high_plain (I.Number part) next st t b h =
    never_low b (step_in is_in_range (I.Number part) (reader (I.Number part) next st) t b) h
    (taken_low (I.Number part) next st t b refl)

-- and a string goes on behind it
pub plain_on : (next : Next) (st : List Bracket) (t : List ℕ) (b : ℕ) → 128 ≤ b
    → step_in is_in_range (I.String P.Plain) (reader (I.String P.Plain) next st) t b
    ≡ Ok (reader (I.String P.Plain) next st)
plain_on next st t b h =
    rw (ne_eqb b 34 (λ e. omega (arith, e, h)), ne_eqb b 92 (λ e. omega (arith, e, h)), le-ltb b 32 (omega (arith, h)))
    refl

-- ---- which slips there are

-- no slip of the token before
abbrev OfByte : Step → Type 0
OfByte (Err (S.Token fault)) = ⊥
OfByte (Err (S.Byte fault)) = ⊤
OfByte (Ok r) = ⊤

going_byte : (r : Reader) (o : Option Next) → OfByte (going_on r o)
going_byte r None = tt
going_byte r (Some n) = tt

open_byte : (r : Reader) (b : Bracket) → OfByte (open_bracket r b)
open_byte r b =
    by_test OfByte (takes_value r.next r.brackets) _ _ (λ v. by_test OfByte (length r.brackets == 127) _ _ (λ e. tt)
    (λ e. tt)) (λ v. tt)

close_byte : (r : Reader) (b : Bracket) → OfByte (close_bracket r b)
close_byte r b = by_test OfByte (may_close r.next && closes (innermost r.brackets) b) _ _ (λ e. tt) (λ e. tt)

operator_byte : (r : Reader) (b : ℕ) → OfByte (by_operator r b)
operator_byte r b =
    grind (arith, common_steps, by_test, open_byte, close_byte, going_byte, behind_comma, innermost, behind_colon)

inside_byte : (r : Reader) (o : Option Inside) (b : ℕ) → OfByte (begin_inside r o b)
inside_byte r None b = grind (arith, common_steps, is_ascii_alphabetic, cond, expected_of)
inside_byte r (Some i) b = tt

begin_byte : (r : Reader) (b : ℕ) → OfByte (begin_in r b)
begin_byte r b =
    by_test OfByte (is_white b) _ _ (λ w. tt)
    (λ w. by_test OfByte (b == 34) _ _ (λ q. by_test OfByte (takes_value r.next r.brackets) _ _ (λ v. tt)
    (λ v. by_test OfByte (takes_name r.next r.brackets) _ _ (λ n. tt) (λ n. tt)))
    (λ q. by_test OfByte (is_operator b) _ _ (λ o. operator_byte r b)
    (λ o. by_test OfByte (takes_value r.next r.brackets) _ _ (λ v. inside_byte r (inside_at b) b) (λ v. tt))))

no_token : (r : Reader) (b : ℕ) (fault : Fault) → begin_in r b ≡ Err (S.Token fault) → ⊥
no_token r b fault e = subst OfByte e (begin_byte r b)

pub between_token : (i : Inside) (next : Next) (st : List Bracket) (t : List ℕ) (b : ℕ) (fault : Fault)
    → is_in_string i ≡ false → is_word i ≡ false
    → step_in is_in_range i (reader i next st) t b ≡ Err (S.Token fault) → ⊥
between_token I.Nothing next st t b fault s w did = no_token (reader I.Nothing next st) b fault did
between_token (I.String part) next st t b fault s w did = absurd (true≢false s)
between_token (I.Literal l) next st t b fault s w did = absurd (true≢false w)
between_token (I.Number part) next st t b fault s w did = absurd (true≢false w)

-- in no string and no word: in no token
pub no_token_is : (i : Inside) → is_in_string i ≡ false → is_word i ≡ false → is_between i ≡ true
no_token_is I.Nothing s w = refl
no_token_is (I.String part) s w = absurd (true≢false s)
no_token_is (I.Literal l) s w = absurd (true≢false w)
no_token_is (I.Number part) s w = absurd (true≢false w)

-- ---- a line feed at an edge

-- a line feed isn't taken
abbrev pub Stuck : Inside → Next → List Bracket → List ℕ → Type 0
Stuck i next st t = (slip : Slip) × (step_in is_in_range i (reader i next st) t 10 ≡ Err slip)

feed : (part : StringPart) → (fault : Fault) × (string_behind part 10 ≡ Err fault)
feed P.Plain = (F.Control, refl)
feed P.Escape = (F.Escape, refl)
feed P.First = (F.Escape, refl)
feed (P.Second false) = (F.Escape, refl)
feed (P.Second true) = (F.Escape, refl)
feed (P.Third h) = (F.Escape, refl)
feed (P.Fourth false) = (F.Escape, refl)
feed (P.Fourth true) = (F.Escape, refl)
feed P.Pair = (F.Surrogate, refl)
feed P.PairEscape = (F.Surrogate, refl)
feed P.PairFirst = (F.Escape, refl)
feed P.PairSecond = (F.Escape, refl)
feed P.PairThird = (F.Escape, refl)
feed P.PairFourth = (F.Escape, refl)

-- no string has one
pub string_stuck : (i : Inside) (next : Next) (st : List Bracket) (t : List ℕ) → is_in_string i ≡ true
    → Stuck i next st t
string_stuck I.Nothing next st t e = absurd (false≢true e)
string_stuck (I.String part) next st t e =
    (S.Token (feed part).0, ap (string_by (reader (I.String part) next st)) (feed part).1)
string_stuck (I.Literal l) next st t e = absurd (false≢true e)
string_stuck (I.Number part) next st t e = absurd (false≢true e)

letter_stuck : (l : Literal) (next : Next) (st : List Bracket) (o : Option ℕ) (b : ℕ) (fault : Fault) → Letter o
    → ends_word b ≡ true → literal_by (reader (I.Literal l) next st) o b ≡ Err (S.Token fault)
    → (slip : Slip) × (literal_by (reader (I.Literal l) next st) o 10 ≡ Err slip)
letter_stuck l next st None b fault h e did =
    absurd (no_token (reader I.Nothing next st) b fault (sym (ap (λ c. cond c (begin_in (reader I.Nothing next st) b)
    (Err (S.Token F.Word))) e) ∙ did))
letter_stuck l next st (Some c) b fault h e did = go (cases_Bool (c == 10))
  where
    go : ((c == 10) ≡ true) ⊎ ((c == 10) ≡ false)
        → (slip : Slip) × (literal_by (reader (I.Literal l) next st) (Some c) 10 ≡ Err slip)
    go (inl same) = absurd (true≢false (subst (λ y. ends_word y ≡ false) (eqb-true c 10 same) h.0))
    go (inr other) =
        (S.Token F.Word, ap (λ d. cond d (Ok (reader (I.Literal l) next st)) (Err (S.Token F.Word))) other)

number_stuck : (r : Reader) (b : ℕ) (fault : Fault) (s u : Step) (c g : Bool)
    → ((f : Fault) → s ≡ Err (S.Token f) → ⊥)
    → cond c (cond g s (Err (S.Token F.TooLarge))) (Err (S.Token F.Number)) ≡ Err (S.Token fault)
    → (slip : Slip) × (cond c (cond g u (Err (S.Token F.TooLarge))) (Err (S.Token F.Number)) ≡ Err slip)
number_stuck r b fault s u true true never did = absurd (never fault did)
number_stuck r b fault s u true false never did = (S.Token F.TooLarge, refl)
number_stuck r b fault s u false g never did = (S.Token F.Number, refl)

-- and no word that is broken at its end
pub word_stuck : (i : Inside) (next : Next) (st : List Bracket) (t : List ℕ) (b : ℕ) (fault : Fault)
    → ends_word b ≡ true → step_in is_in_range i (reader i next st) t b ≡ Err (S.Token fault) → Stuck i next st t
word_stuck I.Nothing next st t b fault e did = absurd (no_token (reader I.Nothing next st) b fault did)
word_stuck (I.String part) next st t b fault e did = string_stuck (I.String part) next st t refl
word_stuck (I.Literal l) next st t b fault e did =
    letter_stuck l next st (slice_get (letters_of l) (length t)) b fault (letter l (length t)) e did
word_stuck (I.Number part) next st t b fault e did =
    number_stuck (reader (I.Number part) next st) b fault (begin_in (reader I.Nothing next st) b)
    (begin_in (reader I.Nothing next st) 10) (is_complete part) (is_in_range t)
    (λ f h. no_token (reader I.Nothing next st) b f h)
    (sym (ap (λ c. cond c (number_end is_in_range (reader (I.Number part) next st) part t b)
    (number_by (reader (I.Number part) next st) (part_behind part b))) e) ∙ did)

-- a line feed is taken, and leads between tokens
abbrev pub Free : Inside → Next → List Bracket → List ℕ → Type 0
Free i next st t = step_in is_in_range i (reader i next st) t 10 ≡ Ok (reader I.Nothing next st)

pub between_free : (i : Inside) (next : Next) (st : List Bracket) (t : List ℕ) → is_between i ≡ true
    → Free i next st t
between_free I.Nothing next st t e = refl
between_free (I.String part) next st t e = absurd (false≢true e)
between_free (I.Literal l) next st t e = absurd (false≢true e)
between_free (I.Number part) next st t e = absurd (false≢true e)

abbrev pub Before : Inside → Next → List Bracket → List ℕ → ℕ → Type 0
Before i next st t b = Free i next st t × ((is_between i ≡ true) ⊎ (ends_word b ≡ true))

-- a property that holds if the byte itself is wrong
abbrev pub AtByte : Type 0 → Step → Type 0
AtByte Q (Err (S.Token fault)) = ⊤
AtByte Q (Err (S.Byte fault)) = Q
AtByte Q (Ok r) = ⊤

at_any : (Q : Type 0) (s : Step) → Q → AtByte Q s
at_any Q (Err (S.Token fault)) q = tt
at_any Q (Err (S.Byte fault)) q = q
at_any Q (Ok r) q = tt

at_string : (Q : Type 0) (r : Reader) (o : Behind) → AtByte Q (string_by r o)
at_string Q r (Err fault) = tt
at_string Q r (Ok None) = tt
at_string Q r (Ok (Some part)) = tt

at_part : (Q : Type 0) (r : Reader) (o : Option NumberPart) → AtByte Q (number_by r o)
at_part Q r None = tt
at_part Q r (Some part) = tt

at_letter : (l : Literal) (next : Next) (st : List Bracket) (o : Option ℕ) (b : ℕ)
    → AtByte ((literal_by (reader (I.Literal l) next st) o 10 ≡ Ok (reader I.Nothing next st))
    × ((false ≡ true) ⊎ (ends_word b ≡ true))) (literal_by (reader (I.Literal l) next st) o b)
at_letter l next st None b = grind (arith, common_steps, by_test, literal_by, reader, ends_word, at_any, begin_in)
at_letter l next st (Some c) b =
    by_test (AtByte ((literal_by (reader (I.Literal l) next st) (Some c) 10 ≡ Ok (reader I.Nothing next st))
    × ((false ≡ true) ⊎ (ends_word b ≡ true)))) (c == b) _ _ (λ e. tt) (λ e. tt)

-- the token before a byte that is wrong is whole
pub before : (i : Inside) (next : Next) (st : List Bracket) (t : List ℕ) (b : ℕ)
    → AtByte (Before i next st t b) (step_in is_in_range i (reader i next st) t b)
before I.Nothing next st t b =
    at_any (Before I.Nothing next st t b) (begin_in (reader I.Nothing next st) b) (refl, inl refl)
before (I.String part) next st t b =
    at_string (Before (I.String part) next st t b) (reader (I.String part) next st) (string_behind part b)
before (I.Literal l) next st t b = at_letter l next st (slice_get (letters_of l) (length t)) b
before (I.Number part) next st t b =
    by_test (AtByte Q) (ends_word b) _ _
    (λ e. by_test (AtByte Q) (is_complete part) _ _ (λ c. by_test (AtByte Q) (is_in_range t) _ _
    (λ g. at_any Q (begin_in (reader I.Nothing next st) b) (free c g, inr e)) (λ g. tt)) (λ c. tt))
    (λ e. at_part Q (reader (I.Number part) next st) (part_behind part b))
  where
    Q : Type 0
    Q = Before (I.Number part) next st t b

    free : is_complete part ≡ true → is_in_range t ≡ true → Free (I.Number part) next st t
    free c g =
        ap (λ x. cond x (cond (is_in_range t) (Ok (reader I.Nothing next st)) (Err (S.Token F.TooLarge))) (Err
        (S.Token F.Number))) c
        ∙ ap (λ x. cond x (Ok (reader I.Nothing next st)) (Err (S.Token F.TooLarge))) g

-- ---- numbers of any size

-- what isn't taken isn't with numbers of any size either, or the byte ends a word
pub any_slip : (i : Inside) (r : Reader) (t : List ℕ) (b : ℕ) (slip : Slip) → step_in is_in_range i r t b ≡ Err slip
    → (step_in any_number i r t b ≡ Err slip) ⊎ (ends_word b ≡ true)
any_slip I.Nothing r t b slip did = inl did
any_slip (I.String part) r t b slip did = inl did
any_slip (I.Literal l) r t b slip did = inl did
any_slip (I.Number part) r t b slip did = go (cases_Bool (ends_word b))
  where
    go : ((ends_word b ≡ true) ⊎ (ends_word b ≡ false))
        → (step_in any_number (I.Number part) r t b ≡ Err slip) ⊎ (ends_word b ≡ true)
    go (inl e) = inr e
    go (inr e) =
        inl (ap (λ c. cond c (number_end any_number r part t b) (number_by r (part_behind part b))) e
        ∙ sym (ap (λ c. cond c (number_end is_in_range r part t b) (number_by r (part_behind part b))) e) ∙ did)
