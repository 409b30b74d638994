-- Each text that a reader is within can be brought to an end.
use Rattle.std.proofs.Common.{◌≡◌, ℕ, zero, suc, ◌<◌, ◌≤◌, Bool, true, false, cond, ◌&&◌, List, [], ◌∷◌, ◌++◌, length, take, drop, Option, Some, None, Ok, Err, refl, sym, ap, ◌∙◌, subst, arith}
use Rattle.std.proofs.lemmas.Bool.{false≢true, and_parts, and_from, eq-eqb}
use Rattle.std.specs.Prelude.{⊤, nat_lt, nat_eq}
use Rattle.std.proofs.Math.Seq.{drop-nil}
use lib.Pointwise.{pointwise}
use Rattle.json.specs.Word.{ends_word as ends}
use Rattle.json.specs.Lex.{between, in_word, lex, punctuate}
use Rattle.json.proofs.Printed.Utf8.{are_ascii}
use Rattle.sab_refusal.specs.declared.syntax.literal.Literal.{Literal}
use Rattle.sab_refusal.specs.declared.syntax.literal.Literal.TheVariants.{True, False, Null}
use Rattle.sab_refusal.specs.declared.syntax.number_part.NumberPart.{NumberPart}
use Rattle.sab_refusal.specs.declared.syntax.number_part.NumberPart.TheVariants as N
use Rattle.sab_refusal.specs.Syntax.Literal.{letters_of}
use Rattle.sab_refusal.specs.Syntax.Number.{part_behind, is_complete}
use Rattle.sab_refusal.proofs.OfSyntax.Tails.{tail}
use Rattle.sab_refusal.specs.declared.syntax.brackets.Bracket.{Bracket}
use Rattle.sab_refusal.specs.declared.syntax.brackets.Bracket.TheVariants.{Array, Object}
use Rattle.sab_refusal.specs.declared.syntax.string_part.StringPart.{StringPart}
use Rattle.sab_refusal.specs.declared.syntax.string_part.StringPart.TheVariants as P
use Rattle.sab_refusal.specs.declared.syntax.reader.Next.{Next}
use Rattle.sab_refusal.specs.declared.syntax.reader.Next.TheVariants.{First, Value, Name, Colon, After}
use Rattle.sab_refusal.specs.declared.syntax.reader.Inside.{Inside}
use Rattle.sab_refusal.specs.declared.syntax.reader.Inside.TheVariants as I
use Rattle.sab_refusal.specs.declared.syntax.reader.Reader.{Reader}
use Rattle.sab_refusal.specs.Syntax.Reader.{Step, reader, is_between, step}
use Rattle.sab_refusal.proofs.OfSyntax.Steps.{letters_rest, rest_of, rest_by, rest-step}
use Rattle.sab_refusal.proofs.OfSyntax.Readings.{any_number}
use Rattle.sab_refusal.proofs.OfSyntax.Fits.{Fits, NextFits, InFits}

-- the brackets that close these
abbrev pub closers : List Bracket → List ℕ
closers [] = []
closers (Array ∷ st) = 93 ∷ closers st
closers (Object ∷ st) = 125 ∷ closers st

closers_ascii : (st : List Bracket) → are_ascii (closers st) ≡ true
closers_ascii [] = refl
closers_ascii (Array ∷ st) = closers_ascii st
closers_ascii (Object ∷ st) = closers_ascii st

ascii_both : (xs ys : List ℕ) → are_ascii xs ≡ true → are_ascii ys ≡ true → are_ascii (xs ++ ys) ≡ true
ascii_both [] ys p q = q
ascii_both (x ∷ xs) ys p q =
    let parts = and_parts (nat_lt x 128) (are_ascii xs) p in
    and_from (nat_lt x 128) (are_ascii (xs ++ ys)) parts.0 (ascii_both xs ys parts.1 q)

module _ (ok : List ℕ → Bool) where
  -- one byte between tokens, and one within a string
  at : (next : Next) (st : List Bracket) (b : ℕ) (xs : List ℕ) → length st ≤ 127
      → rest_of ok (reader I.Nothing next st) [] (b ∷ xs) ≡ rest_by ok (step ok (reader I.Nothing next st) [] b) [] b xs
  at next st b xs le = rest-step ok (reader I.Nothing next st) [] b xs le (λ e. refl) tt

  in_text : (part : StringPart) (next : Next) (st : List Bracket) (b : ℕ) (xs : List ℕ) → length st ≤ 127
      → rest_of ok (reader (I.String part) next st) [] (b ∷ xs)
      ≡ rest_by ok (step ok (reader (I.String part) next st) [] b) [] b xs
  in_text part next st b xs le = rest-step ok (reader (I.String part) next st) [] b xs le (λ e. absurd
      (false≢true e)) tt

  all_closed : tail ok After [] (lex between []) ≡ true
  unfolding lex punctuate
  all_closed = refl

  closed : (st : List Bracket) → length st ≤ 127 → rest_of ok (reader I.Nothing After st) [] (closers st) ≡ true
  closed [] le = all_closed
  closed (Array ∷ st) le = at After (Array ∷ st) 93 (closers st) le ∙ closed st (omega arith)
  closed (Object ∷ st) le = at After (Object ∷ st) 125 (closers st) le ∙ closed st (omega arith)

  -- an empty string is a value
  value_closed : (next : Next) (st : List Bracket) → length st ≤ 127
      → rest_of ok (reader I.Nothing Value st) [] (34 ∷ 34 ∷ closers st) ≡ true
  value_closed next st le =
      at Value st 34 (34 ∷ closers st) le ∙ in_text P.Plain After st 34 (closers st) le ∙ closed st le

  pub record Ending (r : Reader) (t : List ℕ) : Type 0 where
    pub bytes : List ℕ
    pub ascii : are_ascii bytes ≡ true
    pub ends : rest_of ok r t bytes ≡ true

  -- between tokens
  pub end_between : (next : Next) (st : List Bracket) → length st ≤ 127 → NextFits next st
      → Ending (reader I.Nothing next st) []
  end_between First [] le n = absurd n
  end_between First (Array ∷ st) le n =
      record {
        bytes = 93 ∷ closers st;
        ascii = closers_ascii st;
        ends = at First (Array ∷ st) 93 (closers st) le
            ∙ closed st (omega arith);
      }
  end_between First (Object ∷ st) le n =
      record {
        bytes = 125 ∷ closers st;
        ascii = closers_ascii st;
        ends = at First (Object ∷ st) 125
            (closers st) le ∙ closed st (omega arith);
      }
  end_between Value st le n = record {
    bytes = 34 ∷ 34 ∷ closers st;
    ascii = closers_ascii st;
    ends = value_closed
        Value st le;
  }
  end_between Name [] le n = absurd n
  end_between Name (Array ∷ st) le n = absurd n
  end_between Name (Object ∷ st) le n = record {
    bytes = 34 ∷ 34 ∷ 58 ∷ 34 ∷ 34 ∷ closers (Object ∷ st);
    ascii = closers_ascii st;
    ends =
        at Name (Object ∷ st) 34 (34 ∷ 58 ∷ 34 ∷ 34 ∷ closers (Object ∷ st)) le
        ∙ in_text P.Plain Colon (Object ∷ st) 34 (58 ∷ 34 ∷ 34 ∷ closers (Object ∷ st)) le
        ∙ at Colon (Object ∷ st) 58 (34 ∷ 34 ∷ closers (Object ∷ st)) le
        ∙ value_closed Value (Object ∷ st) le;
  }
  end_between Colon [] le n = absurd n
  end_between Colon (Array ∷ st) le n = absurd n
  end_between Colon (Object ∷ st) le n = record {
    bytes = 58 ∷ 34 ∷ 34 ∷ closers (Object ∷ st);
    ascii = closers_ascii st;
    ends = at Colon (Object ∷ st) 58 (34 ∷ 34 ∷ closers (Object ∷ st)) le ∙ value_closed Value (Object ∷ st) le;
  }
  end_between After st le n = record { bytes = closers st; ascii = closers_ascii st; ends = closed st le }

  -- within a string
  abbrev StringEnds : StringPart → List ℕ → Type 0
  StringEnds part front = (next : Next) (st : List Bracket) (xs : List ℕ) → length st ≤ 127
      → rest_of ok (reader (I.String part) next st) [] (front ++ xs) ≡ rest_of ok (reader I.Nothing next st) [] xs

  plain_ends : StringEnds P.Plain (34 ∷ [])
  plain_ends next st xs le = in_text P.Plain next st 34 xs le

  escape_ends : StringEnds P.Escape (110 ∷ 34 ∷ [])
  escape_ends next st xs le = in_text P.Escape next st 110 (34 ∷ xs) le ∙ plain_ends next st xs le

  pair_fourth_ends : StringEnds P.PairFourth (48 ∷ 34 ∷ [])
  pair_fourth_ends next st xs le = in_text P.PairFourth next st 48 (34 ∷ xs) le ∙ plain_ends next st xs le

  pair_third_ends : StringEnds P.PairThird (48 ∷ 48 ∷ 34 ∷ [])
  pair_third_ends next st xs le = in_text P.PairThird next st 48 (48 ∷ 34 ∷ xs) le ∙ pair_fourth_ends next st xs le

  pair_second_ends : StringEnds P.PairSecond (99 ∷ 48 ∷ 48 ∷ 34 ∷ [])
  pair_second_ends next st xs le = in_text P.PairSecond next st 99 (48 ∷ 48 ∷ 34 ∷ xs) le
      ∙ pair_third_ends next st xs le

  pair_first_ends : StringEnds P.PairFirst (100 ∷ 99 ∷ 48 ∷ 48 ∷ 34 ∷ [])
  pair_first_ends next st xs le = in_text P.PairFirst next st 100 (99 ∷ 48 ∷ 48 ∷ 34 ∷ xs) le
      ∙ pair_second_ends next st xs le

  pair_escape_ends : StringEnds P.PairEscape (117 ∷ 100 ∷ 99 ∷ 48 ∷ 48 ∷ 34 ∷ [])
  pair_escape_ends next st xs le =
      in_text P.PairEscape next st 117 (100 ∷ 99 ∷ 48 ∷ 48 ∷ 34 ∷ xs) le ∙ pair_first_ends next st xs le

  pair_ends : StringEnds P.Pair (92 ∷ 117 ∷ 100 ∷ 99 ∷ 48 ∷ 48 ∷ 34 ∷ [])
  pair_ends next st xs le =
      in_text P.Pair next st 92 (117 ∷ 100 ∷ 99 ∷ 48 ∷ 48 ∷ 34 ∷ xs) le ∙ pair_escape_ends next st xs le

  abbrev fourth_end : Bool → List ℕ
  fourth_end true = 48 ∷ 92 ∷ 117 ∷ 100 ∷ 99 ∷ 48 ∷ 48 ∷ 34 ∷ []
  fourth_end false = 48 ∷ 34 ∷ []

  fourth_ends : (h : Bool) → StringEnds (P.Fourth h) (fourth_end h)
  fourth_ends true next st xs le =
      in_text (P.Fourth true) next st 48 (92 ∷ 117 ∷ 100 ∷ 99 ∷ 48 ∷ 48 ∷ 34 ∷ xs) le ∙ pair_ends next st xs le
  fourth_ends false next st xs le = in_text (P.Fourth false) next st 48 (34 ∷ xs) le ∙ plain_ends next st xs le

  third_ends : (h : Bool) → StringEnds (P.Third h) (48 ∷ fourth_end h)
  third_ends h next st xs le = in_text (P.Third h) next st 48 (fourth_end h ++ xs) le ∙ fourth_ends h next st xs le

  second_ends : (d : Bool) → StringEnds (P.Second d) (48 ∷ 48 ∷ 48 ∷ 34 ∷ [])
  second_ends true next st xs le = in_text (P.Second true) next st 48 (48 ∷ 48 ∷ 34 ∷ xs) le
      ∙ third_ends false next st xs le
  second_ends false next st xs le = in_text (P.Second false) next st 48 (48 ∷ 48 ∷ 34 ∷ xs) le
      ∙ third_ends false next st xs le

  first_ends : StringEnds P.First (48 ∷ 48 ∷ 48 ∷ 48 ∷ 34 ∷ [])
  first_ends next st xs le = in_text P.First next st 48 (48 ∷ 48 ∷ 48 ∷ 34 ∷ xs) le ∙ second_ends false next st xs le

  ended_by : (part : StringPart) (front : List ℕ) → StringEnds part front → (next : Next) (st : List Bracket)
      → length st ≤ 127 → NextFits next st
      → are_ascii front ≡ true → Ending (reader (I.String part) next st) []
  ended_by part front ends next st le n ascii =
      let rest = end_between next st le n in
      record {
        bytes = front ++ rest.bytes;
        ascii = ascii_both front rest.bytes ascii rest.ascii;
        ends = ends next st
            rest.bytes le ∙ rest.ends;
      }

  pub end_string : (part : StringPart) (next : Next) (st : List Bracket) → length st ≤ 127 → NextFits next st
      → Ending (reader (I.String part) next st) []
  end_string P.Plain next st le n = ended_by P.Plain (34 ∷ []) plain_ends next st le n refl
  end_string P.Escape next st le n = ended_by P.Escape (110 ∷ 34 ∷ []) escape_ends next st le n refl
  end_string P.First next st le n = ended_by P.First (48 ∷ 48 ∷ 48 ∷ 48 ∷ 34 ∷ []) first_ends next st le n refl
  end_string (P.Second d) next st le n = ended_by (P.Second d) (48 ∷ 48 ∷ 48 ∷ 34 ∷ [])
      (second_ends d) next st le n refl
  end_string (P.Third true) next st le n = ended_by (P.Third true) (48 ∷ fourth_end true)
      (third_ends true) next st le n refl
  end_string (P.Third false) next st le n = ended_by (P.Third false) (48 ∷ fourth_end false)
      (third_ends false) next st le n refl
  end_string (P.Fourth true) next st le n = ended_by (P.Fourth true) (fourth_end true)
      (fourth_ends true) next st le n refl
  end_string (P.Fourth false) next st le n = ended_by (P.Fourth false) (fourth_end false)
      (fourth_ends false) next st le n refl
  end_string P.Pair next st le n = ended_by P.Pair (92 ∷ 117 ∷ 100 ∷ 99 ∷ 48 ∷ 48 ∷ 34 ∷ []) pair_ends next st le n refl
  end_string P.PairEscape next st le n = ended_by P.PairEscape
      (117 ∷ 100 ∷ 99 ∷ 48 ∷ 48 ∷ 34 ∷ []) pair_escape_ends next st le n refl
  end_string P.PairFirst next st le n = ended_by P.PairFirst
      (100 ∷ 99 ∷ 48 ∷ 48 ∷ 34 ∷ []) pair_first_ends next st le n refl
  end_string P.PairSecond next st le n = ended_by P.PairSecond
      (99 ∷ 48 ∷ 48 ∷ 34 ∷ []) pair_second_ends next st le n refl
  end_string P.PairThird next st le n = ended_by P.PairThird (48 ∷ 48 ∷ 34 ∷ []) pair_third_ends next st le n refl
  end_string P.PairFourth next st le n = ended_by P.PairFourth (48 ∷ 34 ∷ []) pair_fourth_ends next st le n refl

-- within a word: the letters that are left, and a space; a number of any size
abbrev letters_left : Literal → ℕ → List ℕ
letters_left l n = drop n (letters_of l)

over_nothing : (n : ℕ) (xs : List ℕ) → lex in_word (drop n [] ++ xs) ≡ lex in_word xs
over_nothing n xs = ap (λ l. lex in_word (l ++ xs)) (drop-nil n)

over_letters : (l : Literal) (n : ℕ) (xs : List ℕ) → lex in_word (letters_left l n ++ xs) ≡ lex in_word xs
unfolding lex
over_letters True zero xs = refl
over_letters True (suc zero) xs = refl
over_letters True (suc (suc zero)) xs = refl
over_letters True (suc (suc (suc zero))) xs = refl
over_letters True (suc (suc (suc (suc n)))) xs = over_nothing n xs
over_letters False zero xs = refl
over_letters False (suc zero) xs = refl
over_letters False (suc (suc zero)) xs = refl
over_letters False (suc (suc (suc zero))) xs = refl
over_letters False (suc (suc (suc (suc zero)))) xs = refl
over_letters False (suc (suc (suc (suc (suc n))))) xs = over_nothing n xs
over_letters Null zero xs = refl
over_letters Null (suc zero) xs = refl
over_letters Null (suc (suc zero)) xs = refl
over_letters Null (suc (suc (suc zero))) xs = refl
over_letters Null (suc (suc (suc (suc n)))) xs = over_nothing n xs

letters_ascii : (l : Literal) (n : ℕ) → are_ascii (letters_left l n) ≡ true
letters_ascii True zero = refl
letters_ascii True (suc zero) = refl
letters_ascii True (suc (suc zero)) = refl
letters_ascii True (suc (suc (suc zero))) = refl
letters_ascii True (suc (suc (suc (suc n)))) = ap are_ascii (drop-nil n)
letters_ascii False zero = refl
letters_ascii False (suc zero) = refl
letters_ascii False (suc (suc zero)) = refl
letters_ascii False (suc (suc (suc zero))) = refl
letters_ascii False (suc (suc (suc (suc zero)))) = refl
letters_ascii False (suc (suc (suc (suc (suc n))))) = ap are_ascii (drop-nil n)
letters_ascii Null zero = refl
letters_ascii Null (suc zero) = refl
letters_ascii Null (suc (suc zero)) = refl
letters_ascii Null (suc (suc (suc zero))) = refl
letters_ascii Null (suc (suc (suc (suc n)))) = ap are_ascii (drop-nil n)

letters_end : (letters xs : List ℕ) → letters_rest letters (letters ++ 32 ∷ xs) ≡ true
letters_end [] xs = refl
letters_end (c ∷ cs) xs =
    ap (λ b. (b && pointwise nat_eq cs (take (length cs) (cs ++ 32 ∷ xs))) && ends (drop (length cs)
    (cs ++ 32 ∷ xs))) (eq-eqb c c refl)
    ∙ letters_end cs xs

module _ (st : List Bracket) (le : length st ≤ 127) where
  spaced : tail any_number After st (lex in_word (32 ∷ closers st)) ≡ true
  unfolding lex
  spaced = closed any_number st le

  pub end_literal : (l : Literal) (t : List ℕ) → Ending any_number (reader (I.Literal l) After st) t
  end_literal l t = record {
    bytes = letters_left l (length t) ++ 32 ∷ closers st;
    ascii = ascii_both (letters_left l (length t)) (32 ∷ closers st) (letters_ascii l (length t)) (closers_ascii st);
    ends =
        ap (λ b. cond b (tail any_number After st (lex in_word (letters_left l
        (length t) ++ 32 ∷ closers st))) false) (letters_end (letters_left l (length t)) (closers st))
        ∙ ap (tail any_number After st) (over_letters l (length t) (32 ∷ closers st)) ∙ spaced;
  }

  -- one byte within a number
  in_digits : (part : NumberPart) (t : List ℕ) (b : ℕ) (xs : List ℕ)
      → rest_of any_number (reader (I.Number part) After st) t (b ∷ xs)
      ≡ rest_by any_number (step any_number (reader (I.Number part) After st) t b) t b xs
  in_digits part t b xs = rest-step any_number (reader (I.Number part) After st) t b xs le (λ e. absurd
      (false≢true e)) refl

  complete_ends : (part : NumberPart) (t : List ℕ) → is_complete part ≡ true
      → rest_of any_number (reader (I.Number part) After st) t (32 ∷ closers st) ≡ true
  complete_ends N.Minus t e = absurd (false≢true e)
  complete_ends N.Zero t e = in_digits N.Zero t 32 (closers st) ∙ closed any_number st le
  complete_ends N.Whole t e = in_digits N.Whole t 32 (closers st) ∙ closed any_number st le
  complete_ends N.Point t e = absurd (false≢true e)
  complete_ends N.Fraction t e = in_digits N.Fraction t 32 (closers st) ∙ closed any_number st le
  complete_ends N.Power t e = absurd (false≢true e)
  complete_ends N.Sign t e = absurd (false≢true e)
  complete_ends N.Exponent t e = in_digits N.Exponent t 32 (closers st) ∙ closed any_number st le

  abbrev complete_ending : (part : NumberPart) (t : List ℕ) → is_complete part ≡ true
      → Ending any_number (reader (I.Number part) After st) t
  complete_ending part t e = record { bytes = 32 ∷ closers st; ascii = closers_ascii st; ends = complete_ends part t e }

  abbrev zero_ending : (part next : NumberPart) (t : List ℕ) → part_behind part 48 ≡ Some next → is_complete next ≡ true
      → (rest_of any_number (reader (I.Number part) After st) t (48 ∷ 32 ∷ closers st)
      ≡ rest_of any_number (reader (I.Number next) After st) (t ++ 48 ∷ []) (32 ∷ closers st))
      → Ending any_number (reader (I.Number part) After st) t
  zero_ending part next t p e s = record {
    bytes = 48 ∷ 32 ∷ closers st;
    ascii = closers_ascii st;
    ends = s
        ∙ complete_ends next (t ++ 48 ∷ []) e;
  }

  pub end_number : (part : NumberPart) (t : List ℕ) → Ending any_number (reader (I.Number part) After st) t
  end_number N.Minus t = zero_ending N.Minus N.Zero t refl refl (in_digits N.Minus t 48 (32 ∷ closers st))
  end_number N.Zero t = complete_ending N.Zero t refl
  end_number N.Whole t = complete_ending N.Whole t refl
  end_number N.Point t = zero_ending N.Point N.Fraction t refl refl (in_digits N.Point t 48 (32 ∷ closers st))
  end_number N.Fraction t = complete_ending N.Fraction t refl
  end_number N.Power t = zero_ending N.Power N.Exponent t refl refl (in_digits N.Power t 48 (32 ∷ closers st))
  end_number N.Sign t = zero_ending N.Sign N.Exponent t refl refl (in_digits N.Sign t 48 (32 ∷ closers st))
  end_number N.Exponent t = complete_ending N.Exponent t refl

-- wherever a reader is
literal_ending : (l : Literal) (next : Next) (st : List Bracket) (t : List ℕ) → length st ≤ 127 → next ≡ After
    → Ending any_number (reader (I.Literal l) next st) t
literal_ending l next st t le e = subst (λ n. Ending any_number (reader (I.Literal l) n st) t) (sym e)
    (end_literal st le l t)

number_ending : (part : NumberPart) (next : Next) (st : List Bracket) (t : List ℕ) → length st ≤ 127 → next ≡ After
    → Ending any_number (reader (I.Number part) next st) t
number_ending part next st t le e = subst (λ n. Ending any_number (reader (I.Number part) n st) t) (sym e)
    (end_number st le part t)

pub ending : (i : Inside) (next : Next) (st : List Bracket) (t : List ℕ) → Fits i next st
    → Ending any_number (reader i next st) t
ending I.Nothing next st t f =
    let e = end_between any_number next st f.few f.next_fits in record {
      bytes = e.bytes;
      ascii = e.ascii;
      ends =
          e.ends;
    }
ending (I.String part) next st t f =
    let e = end_string any_number part next st f.few f.next_fits in record {
      bytes = e.bytes;
      ascii = e.ascii;
      ends =
          e.ends;
    }
ending (I.Literal l) next st t f = literal_ending l next st t f.few f.in_fits
ending (I.Number part) next st t f = number_ending part next st t f.few f.in_fits
