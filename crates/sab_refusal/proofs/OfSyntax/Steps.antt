-- What the rest of a text has to be, by how far a reader is, and that a step keeps it.
use Rattle.std.proofs.Common.{◌≡◌, ℕ, zero, suc, ◌-◌, ◌≤◌, Bool, true, false, cond, ◌&&◌, ◌||◌, List, [], ◌∷◌, ◌++◌, length, take, drop, Option, Some, None, Ok, Err, is_some, refl, sym, ap, ◌∙◌, subst, arith, ◌⊎◌, ⊎_elim, inl, inr, append_assoc, length-append, take_at}
use Rattle.std.proofs.lemmas.Bool.{false≢true, true≢false, eqb-true, or_cases, or_parts}
use Rattle.std.specs.Prelude.{◌==◌, nat_eq, slice_get}
use Rattle.std.proofs.Math.Seq.{drop-nil}
use lib.Pointwise.{pointwise}
use Rattle.std.specs.Char.{is_ascii_digit}
use Rattle.json.specs.Token.{Token}
use Rattle.json.specs.Word.{is_space, ends_word as ends, literal, number_before, after_number, word}
use Rattle.json.specs.Ascii as ascii
use Rattle.json.specs.Text.{plain, content}
use Rattle.json.specs.Lex.{Lexeme, token, quote, backslash, operator, space, other, class, between, in_word, in_string, lex_byte, lex, string_token}
use Rattle.json.proofs.Printed.Numbers.{in_word-ended}
use Rattle.sab_refusal.specs.declared.syntax.brackets.Bracket.{Bracket}
use Rattle.sab_refusal.specs.declared.syntax.brackets.Bracket.TheVariants.{Array, Object}
use Rattle.sab_refusal.specs.declared.syntax.literal.Literal.{Literal}
use Rattle.sab_refusal.specs.declared.syntax.literal.Literal.TheVariants.{True, False, Null}
use Rattle.sab_refusal.specs.declared.syntax.number_part.NumberPart.{NumberPart}
use Rattle.sab_refusal.specs.declared.syntax.string_part.StringPart.{StringPart}
use Rattle.sab_refusal.specs.declared.syntax.string_part.StringPart.TheVariants.{Plain}
use Rattle.sab_refusal.specs.declared.syntax.fault.Fault.TheVariants as F
use Rattle.sab_refusal.specs.declared.syntax.reader.Next.{Next}
use Rattle.sab_refusal.specs.declared.syntax.reader.Next.TheVariants.{First, Colon, After}
use Rattle.sab_refusal.specs.declared.syntax.reader.Inside.{Inside}
use Rattle.sab_refusal.specs.declared.syntax.reader.Inside.TheVariants as I
use Rattle.sab_refusal.specs.declared.syntax.reader.Slip.{Slip}
use Rattle.sab_refusal.specs.declared.syntax.reader.Slip.TheVariants as S
use Rattle.sab_refusal.specs.declared.syntax.reader.Reader.{Reader}
use Rattle.sab_refusal.specs.Syntax.Literal.{letters_of, literal_at}
use Rattle.sab_refusal.specs.Syntax.Number.{first_part, part_behind, is_complete}
use Rattle.sab_refusal.specs.Syntax.String.{Behind, string_behind}
use Rattle.sab_refusal.specs.Syntax.Reader.{Step, reader, takes_value, takes_name, begin_in, begin_string, begin_word, begin_inside, inside_by, inside_at, by_operator, open_bracket, close_bracket, pass_comma, pass_colon, going_on, behind_comma, behind_colon, may_close, closes, expected_of, is_operator, is_white, ends_word, string_by, in_string as step_in_string, literal_by, in_literal, number_by, number_end, in_number, step, step_in, is_between}
use Rattle.sab_refusal.specs.Syntax.Stop.{token_after}
use Rattle.sab_refusal.specs.Syntax.Brackets.{innermost}
use Rattle.sab_refusal.proofs.OfSyntax.Tails.{IsLeaf, tail, tail_by, tail-open, tail-close, tail-comma, tail-colon, tail-string, tail-bad, tail-leaf, leaf-number, leaf-boolean, leaf-null}
use Rattle.sab_refusal.proofs.OfSyntax.Numbers.{number_rest, going, number_rest-step, begun, after_number-first, no_part}
use Rattle.sab_refusal.proofs.OfSyntax.Strings.{plain_rest, string_rest, same_branches}
use Rattle.sab_refusal.proofs.OfSyntax.StringSteps.{rest_behind, string_rest-step, mode_of, Moves, moves}

-- the letters are next, and then the word ends
abbrev pub letters_rest : List ℕ → List ℕ → Bool
letters_rest letters xs = pointwise nat_eq letters (take (length letters) xs) && ends (drop (length letters) xs)

module _ (ok : List ℕ → Bool) where
  -- the text `all`, which ends with what is left, begins with a number that passes
  abbrev pub number_good : List ℕ → Option (List ℕ) → Bool
  number_good all None = false
  number_good all (Some rest) = cond (ends rest) (ok (take (length all - length rest) all)) false

  abbrev pub rest_in : Inside → Next → List Bracket → List ℕ → List ℕ → Bool
  rest_in I.Nothing next st t xs = tail ok next st (lex between xs)
  rest_in (I.String part) next st t xs = cond (string_rest part xs) (tail ok next st (lex (mode_of part) xs)) false
  rest_in (I.Literal l) next st t xs = cond (letters_rest (drop (length t) (letters_of l)) xs) (tail ok next st
      (lex in_word xs)) false
  rest_in (I.Number part) next st t xs = cond (number_good (t ++ xs) (number_rest part xs)) (tail ok next st
      (lex in_word xs)) false

  -- the bytes are the rest of a text, by how far a reader is, where the token that it is in has these bytes so far
  abbrev pub rest_of : Reader → List ℕ → List ℕ → Bool
  rest_of r t xs = rest_in r.inside r.next r.brackets t xs

  -- the same behind a step
  abbrev pub rest_by : Step → List ℕ → ℕ → List ℕ → Bool
  rest_by (Err slip) t b xs = false
  rest_by (Ok r) t b xs = rest_of r (token_after (is_between r.inside) t b) xs

  -- ---- between tokens

  -- whatever a step leads to, it leads between tokens
  abbrev pub Between : Step → Type 0
  Between (Err slip) = Unit {0}
  Between (Ok r) = r.inside ≡ I.Nothing

  between_cond : (c : Bool) (s u : Step) → Between s → Between u → Between (cond c s u)
  between_cond true s u p q = p
  between_cond false s u p q = q

  between_open : (next : Next) (st : List Bracket) (b : Bracket) → Between (open_bracket (reader I.Nothing next st) b)
  between_open next st b =
      between_cond (takes_value next st) _ _ (between_cond (length st == 127) (Err (S.Byte F.TooDeep)) (Ok
      (reader I.Nothing First (b ∷ st))) tt refl) tt

  between_close : (next : Next) (st : List Bracket) (b : Bracket) → Between (close_bracket (reader I.Nothing next st) b)
  between_close next st b = between_cond (may_close next && closes (innermost st) b) (Ok (reader I.Nothing After
      (drop 1 st))) _ refl tt

  between_going : (next : Next) (st : List Bracket) (o : Option Next) → Between (going_on (reader I.Nothing next st) o)
  between_going next st None = tt
  between_going next st (Some n) = refl

  nothing_by : (s : Step) (b : ℕ) (xs : List ℕ) → Between s → tail_by ok s (lex between xs) ≡ rest_by s [] b xs
  nothing_by (Err slip) b xs h = refl
  nothing_by (Ok r) b xs h = ap (λ i. rest_in i r.next r.brackets (token_after (is_between r.inside) [] b) xs) (sym h)

  abbrev AtOperator : Next → List Bracket → List ℕ → ℕ → Type 0
  AtOperator next st xs b = tail ok next st (lex between (b ∷ xs))
      ≡ rest_by (by_operator (reader I.Nothing next st) b) [] b xs

  at_open_array : (next : Next) (st : List Bracket) (xs : List ℕ) → length st ≤ 127 → AtOperator next st xs 91
  unfolding lex
  at_open_array next st xs le =
      tail-open ok I.Nothing next st Array (lex between xs) le
      ∙ nothing_by (open_bracket (reader I.Nothing next st) Array) 91 xs (between_open next st Array)

  at_open_object : (next : Next) (st : List Bracket) (xs : List ℕ) → length st ≤ 127 → AtOperator next st xs 123
  unfolding lex
  at_open_object next st xs le =
      tail-open ok I.Nothing next st Object (lex between xs) le
      ∙ nothing_by (open_bracket (reader I.Nothing next st) Object) 123 xs (between_open next st Object)

  at_close_array : (next : Next) (st : List Bracket) (xs : List ℕ) → AtOperator next st xs 93
  unfolding lex
  at_close_array next st xs =
      tail-close ok I.Nothing next st Array (lex between xs)
      ∙ nothing_by (close_bracket (reader I.Nothing next st) Array) 93 xs (between_close next st Array)

  at_close_object : (next : Next) (st : List Bracket) (xs : List ℕ) → AtOperator next st xs 125
  unfolding lex
  at_close_object next st xs =
      tail-close ok I.Nothing next st Object (lex between xs)
      ∙ nothing_by (close_bracket (reader I.Nothing next st) Object) 125 xs (between_close next st Object)

  at_comma : (next : Next) (st : List Bracket) (xs : List ℕ) → AtOperator next st xs 44
  unfolding lex
  at_comma next st xs =
      tail-comma ok I.Nothing next st (lex between xs)
      ∙ nothing_by (pass_comma (reader I.Nothing next st)) 44 xs (between_going next st (behind_comma next
      (innermost st)))

  at_colon : (next : Next) (st : List Bracket) (xs : List ℕ) → AtOperator next st xs 58
  unfolding lex
  at_colon next st xs =
      tail-colon ok I.Nothing next st (lex between xs)
      ∙ nothing_by (pass_colon (reader I.Nothing next st)) 58 xs (between_going next st (behind_colon next))

  -- a quote

  begun_string : (tv tn : Bool) (next : Next) (st : List Bracket) (slip : Slip) (xs : List ℕ)
      → cond (plain_rest xs) (tail_by ok (cond tv (Ok (reader (I.String Plain) After st)) (cond tn (Ok (reader
      (I.String Plain) Colon st)) (Err slip))) (lex in_string xs)) false
      ≡ rest_by (cond tv (Ok (reader (I.String Plain) After st)) (cond tn (Ok (reader (I.String Plain) Colon st))
      (Err slip))) [] 34 xs
  begun_string true tn next st slip xs = refl
  begun_string false true next st slip xs = refl
  begun_string false false next st slip xs = same_branches (plain_rest xs) false

  string_at : (next : Next) (st : List Bracket) (xs : List ℕ) (o : Option (List ℕ))
      → tail ok next st (token (string_token o) ∷ lex in_string xs)
      ≡ cond (is_some o) (tail_by ok (begin_string (reader I.Nothing next st)) (lex in_string xs)) false
  string_at next st xs None = tail-bad ok next st (lex in_string xs)
  string_at next st xs (Some s) = tail-string ok I.Nothing next st s (lex in_string xs)

  at_quote : (next : Next) (st : List Bracket) (xs : List ℕ)
      → tail ok next st (lex between (34 ∷ xs)) ≡ rest_by (begin_string (reader I.Nothing next st)) [] 34 xs
  unfolding lex
  at_quote next st xs =
      string_at next st xs (content plain xs)
      ∙ begun_string (takes_value next st) (takes_name next st) next st (S.Byte (F.Unexpected (expected_of next st))) xs

  -- a word

  abbrev good_by : Option Literal → Option NumberPart → ℕ → List ℕ → Bool
  good_by (Some l) o b xs = letters_rest (drop 1 (letters_of l)) xs
  good_by None (Some q) b xs = number_good (b ∷ xs) (number_rest q xs)
  good_by None None b xs = false

  begun_word : (next : Next) (st : List Bracket) (l : Option Literal) (o : Option NumberPart) (b : ℕ) (xs : List ℕ)
      → rest_by (begin_inside (reader I.Nothing next st) (inside_by l o) b) [] b xs
      ≡ cond (good_by l o b xs) (tail ok After st (lex in_word xs)) false
  begun_word next st None None b xs = refl
  begun_word next st None (Some q) b xs = refl
  begun_word next st (Some l) o b xs = refl

  word_by : (tv : Bool) (next : Next) (st : List Bracket) (b : ℕ) (xs : List ℕ) (slip : Slip)
      → rest_by (cond tv (begin_inside (reader I.Nothing next st) (inside_at b) b) (Err slip)) [] b xs
      ≡ cond tv (cond (good_by (literal_at b) (first_part b) b xs) (tail ok After st (lex in_word xs)) false) false
  word_by true next st b xs slip = begun_word next st (literal_at b) (first_part b) b xs
  word_by false next st b xs slip = refl

  leaf_or_bad : (g : Bool) (t : Token) → IsLeaf ok t true → (next : Next) (st : List Bracket) (ls : List Lexeme)
      → tail ok next st (token (cond g t Token.bad) ∷ ls)
      ≡ cond (takes_value next st) (cond g (tail ok After st ls) false) false
  leaf_or_bad true t leaf next st ls = tail-leaf ok t true leaf next st ls
  leaf_or_bad false t leaf next st ls = tail-bad ok next st ls ∙ sym (same_branches (takes_value next st) false)

  number_or_bad : (all : List ℕ) (o : Option (List ℕ)) (next : Next) (st : List Bracket) (ls : List Lexeme)
      → tail ok next st (token (number_before all o) ∷ ls)
      ≡ cond (takes_value next st) (cond (number_good all o) (tail ok After st ls) false) false
  number_or_bad all None next st ls = tail-bad ok next st ls ∙ sym (same_branches (takes_value next st) false)
  number_or_bad all (Some rest) next st ls = go (ends rest)
    where
      s : List ℕ
      s = take (length all - length rest) all

      go : (e : Bool) → tail ok next st (token (cond e (Token.number (take
          (length all - length rest) all)) Token.bad) ∷ ls)
          ≡ cond (takes_value next st) (cond (cond e (ok (take (length all - length rest) all)) false)
          (tail ok After st ls) false) false
      go true = tail-leaf ok (Token.number (take (length all - length rest) all)) _ (leaf-number ok (take
          (length all - length rest) all)) next st ls
      go false = tail-bad ok next st ls ∙ sym (same_branches (takes_value next st) false)

  abbrev IsWordGood : Next → List Bracket → List Lexeme → ℕ → List ℕ → Token → Bool → Type 0
  IsWordGood next st ls b xs t g = tail ok next st (token t ∷ ls)
      ≡ cond (takes_value next st) (cond g (tail ok After st ls) false) false

  number_word : (next : Next) (st : List Bracket) (ls : List Lexeme) (b : ℕ) (xs : List ℕ) (o : Option NumberPart)
      → IsWordGood next st ls b xs (number_before (b ∷ xs) (begun o xs)) (good_by None o b xs)
  number_word next st ls b xs None = number_or_bad (b ∷ xs) None next st ls
  number_word next st ls b xs (Some q) = number_or_bad (b ∷ xs) (number_rest q xs) next st ls

  word_of : (next : Next) (st : List Bracket) (ls : List Lexeme) (b : ℕ) (xs : List ℕ) (t f n : Bool)
      → (b == 116) ≡ t → (b == 102) ≡ f → (b == 110) ≡ n
      → IsWordGood next st ls b xs
      (cond t (literal ascii.true_text (Token.boolean true) (b ∷ xs)) (cond f (literal ascii.false_text
      (Token.boolean false) (b ∷ xs))
      (cond n (literal ascii.null_text Token.null (b ∷ xs)) (number_before (b ∷ xs) (after_number (b ∷ xs))))))
      (good_by (cond t (Some True) (cond f (Some False) (cond n (Some Null) None))) (first_part b) b xs)
  word_of next st ls b xs true f n et ef en =
      subst (λ y. IsWordGood next st ls y xs (literal ascii.true_text (Token.boolean true) (y ∷ xs)) (letters_rest
      (drop 1 (letters_of True)) xs)) (sym (eqb-true b 116 et))
      (leaf_or_bad (letters_rest (drop 1 (letters_of True)) xs) (Token.boolean true) (leaf-boolean ok true) next st ls)
  word_of next st ls b xs false true n et ef en =
      subst (λ y. IsWordGood next st ls y xs (literal ascii.false_text (Token.boolean false) (y ∷ xs)) (letters_rest
      (drop 1 (letters_of False)) xs)) (sym (eqb-true b 102 ef))
      (leaf_or_bad (letters_rest (drop 1 (letters_of False)) xs) (Token.boolean false)
      (leaf-boolean ok false) next st ls)
  word_of next st ls b xs false false true et ef en =
      subst (λ y. IsWordGood next st ls y xs (literal ascii.null_text Token.null (y ∷ xs)) (letters_rest (drop 1
      (letters_of Null)) xs)) (sym (eqb-true b 110 en))
      (leaf_or_bad (letters_rest (drop 1 (letters_of Null)) xs) Token.null (leaf-null ok) next st ls)
  word_of next st ls b xs false false false et ef en =
      ap (λ o. tail ok next st (token (number_before (b ∷ xs) o) ∷ ls)) (after_number-first b xs)
      ∙ number_word next st ls b xs (first_part b)

  word_good : (next : Next) (st : List Bracket) (ls : List Lexeme) (b : ℕ) (xs : List ℕ)
      → IsWordGood next st ls b xs (word (b ∷ xs)) (good_by (literal_at b) (first_part b) b xs)
  unfolding word
  word_good next st ls b xs = word_of next st ls b xs (b == 116) (b == 102) (b == 110) refl refl refl

  -- a byte that is no operator, no space and no quote
  at_word : (next : Next) (st : List Bracket) (b : ℕ) (xs : List ℕ) (s : Bool) → is_white b ≡ false
      → (b == 34) ≡ false → is_operator b ≡ false → (b == 92) ≡ s
      → tail ok next st (lex between (b ∷ xs)) ≡ rest_by (begin_word (reader I.Nothing next st) b) [] b xs
  unfolding lex
  at_word next st b xs true w q o e =
      subst (λ y. tail ok next st (lex between (y ∷ xs))
      ≡ rest_by (begin_word (reader I.Nothing next st) y) [] y xs) (sym (eqb-true b 92 e))
      (tail-bad ok next st (lex in_word xs)
      ∙ sym (word_by (takes_value next st) next st 92 xs (S.Byte (F.Unexpected (expected_of next st)))
      ∙ same_branches (takes_value next st) false))
  at_word next st b xs false w q o e =
      let c : class b ≡ other =
      ap (λ t. cond t quote (cond (b == 92) backslash (cond (is_operator b) operator (cond
      (is_space b) space other)))) q
      ∙ ap (λ t. cond t backslash (cond (is_operator b) operator (cond (is_space b) space other))) e
      ∙ ap (λ t. cond t operator (cond (is_space b) space other)) o ∙ ap (λ t. cond t space other) w in
      ap (λ k. tail ok next st (lex_byte between k b xs (λ m. lex m xs))) c
      ∙ word_good next st (lex in_word xs) b xs
      ∙ sym (word_by (takes_value next st) next st b xs (S.Byte (F.Unexpected (expected_of next st))))

  -- which bytes they are

  pub white_cases : (Q : ℕ → Type 0) → Q 32 → Q 9 → Q 10 → Q 13 → (b : ℕ) → is_white b ≡ true → Q b
  white_cases Q a c d e b h = go (or_cases _ _ h)
    where
      at : (k : ℕ) → (b == k) ≡ true → Q k → Q b
      at k t q = subst Q (sym (eqb-true b k t)) q

      first : ((b == 32 || b == 9) ≡ true) → Q b
      first t = ⊎_elim (λ x. at 32 x a) (λ x. at 9 x c) (or_cases _ _ t)

      third : ((b == 32 || b == 9 || b == 10) ≡ true) → Q b
      third t = ⊎_elim first (λ x. at 10 x d) (or_cases _ _ t)

      go : ((b == 32 || b == 9 || b == 10) ≡ true) ⊎ ((b == 13) ≡ true) → Q b
      go o = ⊎_elim third (λ x. at 13 x e) o

  pub operator_cases : (Q : ℕ → Type 0) → Q 123 → Q 125 → Q 91 → Q 93 → Q 58 → Q 44 → (b : ℕ) → is_operator b ≡ true → Q b
  operator_cases Q a c d e f g b h = go (or_cases _ _ h)
    where
      at : (k : ℕ) → (b == k) ≡ true → Q k → Q b
      at k t q = subst Q (sym (eqb-true b k t)) q

      second : ((b == 123 || b == 125) ≡ true) → Q b
      second t = ⊎_elim (λ x. at 123 x a) (λ x. at 125 x c) (or_cases _ _ t)

      third : ((b == 123 || b == 125 || b == 91) ≡ true) → Q b
      third t = ⊎_elim second (λ x. at 91 x d) (or_cases _ _ t)

      fourth : ((b == 123 || b == 125 || b == 91 || b == 93) ≡ true) → Q b
      fourth t = ⊎_elim third (λ x. at 93 x e) (or_cases _ _ t)

      go : ((b == 123 || b == 125 || b == 91 || b == 93 || b == 58) ≡ true) ⊎ ((b == 44) ≡ true) → Q b
      go o = ⊎_elim (λ t. ⊎_elim fourth (λ x. at 58 x f) (or_cases _ _ t)) (λ x. at 44 x g) o

  white_between : (b : ℕ) (xs : List ℕ) → is_white b ≡ true → lex between (b ∷ xs) ≡ lex between xs
  unfolding lex
  white_between b xs h = white_cases (λ y. lex between (y ∷ xs) ≡ lex between xs) refl refl refl refl b h

  begin_by : (next : Next) (st : List Bracket) (b : ℕ) (xs : List ℕ) (w q o : Bool) → length st ≤ 127
      → is_white b ≡ w → (b == 34) ≡ q → is_operator b ≡ o
      → tail ok next st (lex between (b ∷ xs))
      ≡ rest_by (cond w (Ok (reader I.Nothing next st)) (cond q (begin_string (reader I.Nothing next st)) (cond o
      (by_operator (reader I.Nothing next st) b) (begin_word (reader I.Nothing next st) b)))) [] b xs
  begin_by next st b xs true q o le ew eq eo = ap (tail ok next st) (white_between b xs ew)
  begin_by next st b xs false true o le ew eq eo =
      subst (λ y. tail ok next st (lex between (y ∷ xs))
      ≡ rest_by (begin_string (reader I.Nothing next st)) [] y xs) (sym (eqb-true b 34 eq)) (at_quote next st xs)
  begin_by next st b xs false false true le ew eq eo =
      operator_cases (AtOperator next st xs) (at_open_object next st xs le) (at_close_object next st xs)
      (at_open_array next st xs le) (at_close_array next st xs)
      (at_colon next st xs) (at_comma next st xs) b eo
  begin_by next st b xs false false false le ew eq eo = at_word next st b xs (b == 92) ew eq eo refl

  begin-step : (next : Next) (st : List Bracket) (b : ℕ) (xs : List ℕ) → length st ≤ 127
      → tail ok next st (lex between (b ∷ xs)) ≡ rest_by (begin_in (reader I.Nothing next st) b) [] b xs
  begin-step next st b xs le = begin_by next st b xs (is_white b) (b == 34) (is_operator b) le refl refl refl

  -- ---- within a string

  string_step_by : (next : Next) (st : List Bracket) (t : List ℕ) (part : StringPart) (b : ℕ) (xs : List ℕ) (o : Behind)
      → Moves (mode_of part) b xs o
      → cond (rest_behind o xs) (tail ok next st (lex (mode_of part) (b ∷ xs))) false
      ≡ rest_by (string_by (reader (I.String part) next st) o) t b xs
  string_step_by next st t part b xs (Err fault) m = refl
  string_step_by next st t part b xs (Ok None) m = ap (tail ok next st) m
  string_step_by next st t part b xs (Ok (Some q)) m = ap (λ ls. cond (string_rest q xs) (tail ok next st ls) false) m

  string-step : (next : Next) (st : List Bracket) (t : List ℕ) (part : StringPart) (b : ℕ) (xs : List ℕ)
      → rest_in (I.String part) next st t (b ∷ xs)
      ≡ rest_by (step_in_string (reader (I.String part) next st) part b) t b xs
  string-step next st t part b xs =
      ap (λ c. cond c (tail ok next st (lex (mode_of part) (b ∷ xs))) false) (string_rest-step part b xs)
      ∙ string_step_by next st t part b xs (string_behind part b) (moves part b xs)

  -- ---- behind a word

  rest_by_between : (s : Step) (t u : List ℕ) (b : ℕ) (xs : List ℕ) → Between s → rest_by s t b xs ≡ rest_by s u b xs
  rest_by_between (Err slip) t u b xs h = refl
  rest_by_between (Ok r) t u b xs h =
      ap (λ i. rest_in i r.next r.brackets (token_after (is_between r.inside) t b) xs) h
      ∙ ap (λ i. rest_in i r.next r.brackets (token_after (is_between r.inside) u b) xs) (sym h)

  pub between_operator : (next : Next) (st : List Bracket) (b : ℕ) → Between (by_operator (reader I.Nothing next st) b)
  between_operator next st b =
      between_cond (b == 91) _ _ (between_open next st Array) (between_cond (b == 123) _ _ (between_open next st Object)
      (between_cond (b == 93) _ _ (between_close next st Array) (between_cond (b == 125) _ _
      (between_close next st Object)
      (between_cond (b == 44) _ _ (between_going next st (behind_comma next (innermost st))) (between_going next st
      (behind_colon next))))))

  pub between_begin : (st : List Bracket) (b : ℕ) → Between (begin_in (reader I.Nothing After st) b)
  between_begin st b =
      between_cond (is_white b) (Ok (reader I.Nothing After st)) _ refl
      (between_cond (b == 34) (begin_string (reader I.Nothing After st)) _ tt
      (between_cond (is_operator b) (by_operator (reader I.Nothing After st) b) (begin_word
      (reader I.Nothing After st) b) (between_operator After st b) tt))

  -- no quote comes behind a value
  quote_after : (st : List Bracket) (t : List ℕ) (b : ℕ) (xs : List ℕ) → is_white b ≡ false → (b == 34) ≡ true
      → rest_by (begin_in (reader I.Nothing After st) b) t b xs ≡ false
  quote_after st t b xs w q =
      ap (λ c. rest_by (cond c (Ok (reader I.Nothing After st)) (cond (b == 34) (begin_string
      (reader I.Nothing After st)) (cond (is_operator b) (by_operator (reader I.Nothing After st) b) (begin_word
      (reader I.Nothing After st) b)))) t b xs) w
      ∙ ap (λ c. rest_by (cond c (begin_string (reader I.Nothing After st)) (cond (is_operator b) (by_operator
      (reader I.Nothing After st) b) (begin_word (reader I.Nothing After st) b))) t b xs) q

  over_word : (b : ℕ) (xs : List ℕ) → (is_operator b || is_space b) ≡ false → lex in_word (b ∷ xs) ≡ lex in_word xs
  unfolding lex
  over_word b xs e =
      let p = or_parts (is_operator b) (is_space b) e in
      passed (b == 34) (b == 92) (is_operator b) (is_space b) p.0 p.1
    where
      passed : (q s o w : Bool) → o ≡ false → w ≡ false
          → lex_byte in_word (cond q quote (cond s backslash (cond o operator (cond w space other)))) b xs
          (λ m. lex m xs) ≡ lex in_word xs
      passed true s o w f g = refl
      passed false true o w f g = refl
      passed false false true w f g = absurd (true≢false f)
      passed false false false true f g = absurd (true≢false g)
      passed false false false false f g = refl

  -- a word that has ended, and then the byte
  ended : (st : List Bracket) (t : List ℕ) (b : ℕ) (xs : List ℕ) → length st ≤ 127
      → (is_operator b || is_space b) ≡ true
      → tail ok After st (lex in_word (b ∷ xs)) ≡ rest_by (begin_in (reader I.Nothing After st) b) t b xs
  ended st t b xs le e =
      ap (tail ok After st) (in_word-ended (b ∷ xs) e) ∙ begin-step After st b xs le
      ∙ rest_by_between (begin_in (reader I.Nothing After st) b) [] t b xs (between_begin st b)

  -- by whether an operator or a space is there, or a quote
  literal_end : (st : List Bracket) (l : Literal) (t : List ℕ) (b : ℕ) (xs : List ℕ) (d q : Bool) → length st ≤ 127
      → (is_operator b || is_space b) ≡ d → (b == 34) ≡ q
      → cond (is_operator b || is_space b) (tail ok After st (lex in_word (b ∷ xs))) false
      ≡ rest_by (cond (d || q) (begin_in (reader I.Nothing After st) b) (Err (S.Token F.Word))) t b xs
  literal_end st l t b xs true q le ed eq =
      ap (λ c. cond c (tail ok After st (lex in_word (b ∷ xs))) false) ed ∙ ended st t b xs le ed
  literal_end st l t b xs false true le ed eq =
      ap (λ c. cond c (tail ok After st (lex in_word (b ∷ xs))) false) ed
      ∙ sym (quote_after st t b xs (or_parts (is_operator b) (is_space b) ed).1 eq)
  literal_end st l t b xs false false le ed eq = ap (λ c. cond c (tail ok After st (lex in_word (b ∷ xs))) false) ed

  abbrev LetterFact : Literal → ℕ → Option ℕ → Type 0
  LetterFact l n None = drop n (letters_of l) ≡ []
  LetterFact l n (Some c) = (drop n (letters_of l) ≡ c ∷ drop (suc n) (letters_of l))
      × ((is_operator c || is_space c) ≡ false)

  letter_fact : (l : Literal) (n : ℕ) → LetterFact l n (slice_get (letters_of l) n)
  letter_fact True zero = (refl, refl)
  letter_fact True (suc zero) = (refl, refl)
  letter_fact True (suc (suc zero)) = (refl, refl)
  letter_fact True (suc (suc (suc zero))) = (refl, refl)
  letter_fact True (suc (suc (suc (suc n)))) = drop-nil n
  letter_fact False zero = (refl, refl)
  letter_fact False (suc zero) = (refl, refl)
  letter_fact False (suc (suc zero)) = (refl, refl)
  letter_fact False (suc (suc (suc zero))) = (refl, refl)
  letter_fact False (suc (suc (suc (suc zero)))) = (refl, refl)
  letter_fact False (suc (suc (suc (suc (suc n))))) = drop-nil n
  letter_fact Null zero = (refl, refl)
  letter_fact Null (suc zero) = (refl, refl)
  letter_fact Null (suc (suc zero)) = (refl, refl)
  letter_fact Null (suc (suc (suc zero))) = (refl, refl)
  letter_fact Null (suc (suc (suc (suc n)))) = drop-nil n

  one_longer : (t : List ℕ) (b : ℕ) → length (t ++ b ∷ []) ≡ suc (length t)
  one_longer t b = omega (arith, length-append t (b ∷ []))

  letter_by : (st : List Bracket) (l : Literal) (t : List ℕ) (c b : ℕ) (xs : List ℕ) (same : Bool)
      → (c == b) ≡ same → (is_operator c || is_space c) ≡ false
      → cond (letters_rest (c ∷ drop (suc (length t)) (letters_of l)) (b ∷ xs)) (tail ok After st (lex in_word
      (b ∷ xs))) false
      ≡ rest_by (cond same (Ok (reader (I.Literal l) After st)) (Err (S.Token F.Word))) t b xs
  letter_by st l t c b xs true e o =
      let rest = drop (suc (length t)) (letters_of l) in
      let b_is : (is_operator b || is_space b) ≡ false = subst (λ y. (is_operator y || is_space y)
      ≡ false) (eqb-true c b e) o in
      ap (λ s. cond ((s && pointwise nat_eq rest (take (length rest) xs)) && ends (drop (length rest) xs))
      (tail ok After st (lex in_word (b ∷ xs))) false) e
      ∙ ap (λ ls. cond (letters_rest rest xs) (tail ok After st ls) false) (over_word b xs b_is)
      ∙ sym (ap (λ n. cond (letters_rest (drop n (letters_of l)) xs) (tail ok After st (lex in_word xs)) false)
      (one_longer t b))
  letter_by st l t c b xs false e o =
      let rest = drop (suc (length t)) (letters_of l) in
      ap (λ s. cond ((s && pointwise nat_eq rest (take (length rest) xs)) && ends (drop (length rest) xs))
      (tail ok After st (lex in_word (b ∷ xs))) false) e

  literal_step_by : (st : List Bracket) (l : Literal) (t : List ℕ) (b : ℕ) (xs : List ℕ) (o : Option ℕ)
      → length st ≤ 127 → LetterFact l (length t) o
      → rest_in (I.Literal l) After st t (b ∷ xs) ≡ rest_by (literal_by (reader (I.Literal l) After st) o b) t b xs
  literal_step_by st l t b xs None le fact =
      ap (λ letters. cond (letters_rest letters (b ∷ xs)) (tail ok After st (lex in_word (b ∷ xs))) false) fact
      ∙ literal_end st l t b xs (is_operator b || is_space b) (b == 34) le refl refl
  literal_step_by st l t b xs (Some c) le fact =
      ap (λ letters. cond (letters_rest letters (b ∷ xs)) (tail ok After st (lex in_word (b ∷ xs))) false) fact.0
      ∙ letter_by st l t c b xs (c == b) refl fact.1

  -- ---- within a number

  no_number : (part : NumberPart) (b : ℕ) → ends_word b ≡ true → part_behind part b ≡ None
  no_number part b e = go (or_cases _ _ e)
    where
      Q : ℕ → Type 0
      Q y = part_behind part y ≡ None

      at : (y : ℕ) → is_ascii_digit y ≡ false → (y == 48) ≡ false → (y == 46) ≡ false
          → (y == 101 || y == 69) ≡ false → (y == 45 || y == 43) ≡ false
          → part_behind part y ≡ None
      at y a b c d f = no_part part y a b c d f

      go : ((is_operator b || is_white b) ≡ true) ⊎ ((b == 34) ≡ true) → part_behind part b ≡ None
      go (inr q) = subst (λ y. part_behind part y ≡ None) (sym (eqb-true b 34 q)) (at 34 refl refl refl refl refl)
      go (inl o) = ⊎_elim
          (λ h. operator_cases (λ y. part_behind part y
          ≡ None) (at 123 refl refl refl refl refl) (at 125 refl refl refl refl refl)
          (at 91 refl refl refl refl refl)
          (at 93 refl refl refl refl refl) (at 58 refl refl refl refl refl) (at 44 refl refl refl refl refl) b h)
          (λ h. white_cases (λ y. part_behind part y
          ≡ None) (at 32 refl refl refl refl refl) (at 9 refl refl refl refl refl) (at 10 refl refl refl refl refl)
          (at 13 refl refl refl refl refl) b h) (or_cases _ _ o)

  number_stop : (st : List Bracket) (t : List ℕ) (b : ℕ) (xs : List ℕ) (d q g : Bool) → length st ≤ 127
      → (is_operator b || is_space b) ≡ d → (b == 34) ≡ q → ok t ≡ g → (d || q) ≡ true
      → cond (cond (is_operator b || is_space b) (ok (take (length (t ++ b ∷ xs) - length (b ∷ xs))
      (t ++ b ∷ xs))) false) (tail ok After st (lex in_word (b ∷ xs))) false
      ≡ rest_by (cond g (begin_in (reader I.Nothing After st) b) (Err (S.Token F.TooLarge))) t b xs
  number_stop st t b xs true q g le ed eq eg e =
      let size : length (t ++ b ∷ xs) - length (b ∷ xs) ≡ length t = omega (arith, length-append t (b ∷ xs)) in
      ap (λ c. cond (cond c (ok (take (length (t ++ b ∷ xs) - length (b ∷ xs)) (t ++ b ∷ xs))) false)
      (tail ok After st (lex in_word (b ∷ xs))) false) ed
      ∙ ap (λ n. cond (ok (take n (t ++ b ∷ xs))) (tail ok After st (lex in_word (b ∷ xs))) false) size
      ∙ ap (λ s. cond (ok s) (tail ok After st (lex in_word (b ∷ xs))) false) (take_at t (b ∷ xs) (length t) refl)
      ∙ whole g eg
    where
      whole : (h : Bool) → ok t ≡ h → cond (ok t) (tail ok After st (lex in_word (b ∷ xs))) false
          ≡ rest_by (cond h (begin_in (reader I.Nothing After st) b) (Err (S.Token F.TooLarge))) t b xs
      whole true f = ap (λ c. cond c (tail ok After st (lex in_word (b ∷ xs))) false) f ∙ ended st t b xs le ed
      whole false f = ap (λ c. cond c (tail ok After st (lex in_word (b ∷ xs))) false) f
  number_stop st t b xs false true true le ed eq eg e =
      ap (λ c. cond (cond c (ok (take (length (t ++ b ∷ xs) - length (b ∷ xs)) (t ++ b ∷ xs))) false)
      (tail ok After st (lex in_word (b ∷ xs))) false) ed
      ∙ sym (quote_after st t b xs (or_parts (is_operator b) (is_space b) ed).1 eq)
  number_stop st t b xs false true false le ed eq eg e =
      ap (λ c. cond (cond c (ok (take (length (t ++ b ∷ xs) - length (b ∷ xs)) (t ++ b ∷ xs))) false)
      (tail ok After st (lex in_word (b ∷ xs))) false) ed
  number_stop st t b xs false false g le ed eq eg e = absurd (false≢true e)

  number_stop_by : (st : List Bracket) (part : NumberPart) (t : List ℕ) (b : ℕ) (xs : List ℕ) (c : Bool)
      → length st ≤ 127 → ends_word b ≡ true
      → cond (number_good (t ++ b ∷ xs) (cond c (Some (b ∷ xs)) None)) (tail ok After st (lex in_word (b ∷ xs))) false
      ≡ rest_by (cond c (cond (ok t) (begin_in (reader I.Nothing After st) b) (Err (S.Token F.TooLarge))) (Err
      (S.Token F.Number))) t b xs
  number_stop_by st part t b xs true le e = number_stop st t b xs (is_operator b || is_space b) (b == 34)
      (ok t) le refl refl refl e
  number_stop_by st part t b xs false le e = refl

  number_goes : (st : List Bracket) (part : NumberPart) (t : List ℕ) (b : ℕ) (xs : List ℕ) (o : Option NumberPart)
      (c : Bool)
      → (is_operator b || is_space b) ≡ false
      → cond (number_good (t ++ b ∷ xs) (going o c b xs)) (tail ok After st (lex in_word (b ∷ xs))) false
      ≡ rest_by (number_by (reader (I.Number part) After st) o) t b xs
  number_goes st part t b xs (Some q) c d =
      ap (λ all. cond (number_good all (number_rest q xs)) (tail ok After st (lex in_word (b ∷ xs))) false) (sym
      (append_assoc t (b ∷ []) xs))
      ∙ ap (λ ls. cond (number_good ((t ++ b ∷ []) ++ xs) (number_rest q xs)) (tail ok After st ls) false)
      (over_word b xs d)
  number_goes st part t b xs None true d =
      ap (λ e. cond (cond e (ok (take (length (t ++ b ∷ xs) - length (b ∷ xs)) (t ++ b ∷ xs))) false)
      (tail ok After st (lex in_word (b ∷ xs))) false) d
  number_goes st part t b xs None false d = refl

  number_step_by : (st : List Bracket) (part : NumberPart) (t : List ℕ) (b : ℕ) (xs : List ℕ) (e : Bool)
      → length st ≤ 127 → ends_word b ≡ e
      → cond (number_good (t ++ b ∷ xs) (going (part_behind part b) (is_complete part) b xs)) (tail ok After st
      (lex in_word (b ∷ xs))) false
      ≡ rest_by (cond e (number_end ok (reader (I.Number part) After st) part t b) (number_by (reader
      (I.Number part) After st) (part_behind part b))) t b xs
  number_step_by st part t b xs true le e =
      ap (λ o. cond (number_good (t ++ b ∷ xs) (going o (is_complete part) b xs)) (tail ok After st (lex in_word
      (b ∷ xs))) false) (no_number part b e)
      ∙ number_stop_by st part t b xs (is_complete part) le e
  number_step_by st part t b xs false le e = number_goes st part t b xs (part_behind part b) (is_complete part)
      (or_parts (is_operator b || is_white b) (b == 34) e).0

  -- ---- a step

  -- behind a word or a number comes what comes behind a value
  abbrev pub WordFits : Inside → Next → Type 0
  WordFits I.Nothing next = Unit {0}
  WordFits (I.String part) next = Unit {0}
  WordFits (I.Literal l) next = next ≡ After
  WordFits (I.Number part) next = next ≡ After

  step_by : (i : Inside) (next : Next) (st : List Bracket) (t : List ℕ) (b : ℕ) (xs : List ℕ) → length st ≤ 127
      → (is_between i ≡ true → t ≡ []) → WordFits i next
      → rest_in i next st t (b ∷ xs) ≡ rest_by (step_in ok i (reader i next st) t b) t b xs
  step_by I.Nothing next st t b xs le empty fits =
      begin-step next st b xs le ∙ ap (λ u. rest_by (begin_in (reader I.Nothing next st) b) u b xs) (sym (empty refl))
  step_by (I.String part) next st t b xs le empty fits = string-step next st t part b xs
  step_by (I.Literal l) next st t b xs le empty fits =
      subst (λ n. rest_in (I.Literal l) n st t (b ∷ xs)
      ≡ rest_by (in_literal (reader (I.Literal l) n st) l t b) t b xs) (sym fits)
      (literal_step_by st l t b xs (slice_get (letters_of l) (length t)) le (letter_fact l (length t)))
  step_by (I.Number part) next st t b xs le empty fits =
      subst (λ n. rest_in (I.Number part) n st t (b ∷ xs)
      ≡ rest_by (in_number ok (reader (I.Number part) n st) part t b) t b xs) (sym fits)
      (ap (λ o. cond (number_good (t ++ b ∷ xs) o) (tail ok After st (lex in_word (b ∷ xs))) false)
      (number_rest-step part b xs)
      ∙ number_step_by st part t b xs (ends_word b) le refl)

  pub rest-step : (r : Reader) (t : List ℕ) (b : ℕ) (xs : List ℕ) → length r.brackets ≤ 127
      → (is_between r.inside ≡ true → t ≡ []) → WordFits r.inside r.next
      → rest_of r t (b ∷ xs) ≡ rest_by (step ok r t b) t b xs
  rest-step r t b xs le empty fits = step_by r.inside r.next r.brackets t b xs le empty fits
