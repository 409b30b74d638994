-- One byte of a string.
use Rattle.std.proofs.Common.{◌≡◌, ℕ, Bool, true, false, cond, ◌||◌, nat_lt, nat_le, List, [], ◌∷◌, Option, Some, None, Ok, Err, is_some, option_and_then, refl, sym, ap, ◌∙◌, arith}
use Rattle.std.proofs.lemmas.Grind.{common_steps}
use Rattle.std.proofs.lemmas.Bool.{false≢true, true≢false, cases_Bool, eqb-true}
use Rattle.std.specs.Prelude.{◌==◌, ⊤}
use Rattle.json.specs.Text.{short_escape, plain, after_backslash, after_u, prepend, content}
use Rattle.json.specs.Word.{is_operator, is_space}
use Rattle.json.specs.Lex.{Lexeme, quote, backslash, operator, space, other, Mode, between, in_string, in_escape, lex_byte, lex}
use Rattle.sab_refusal.specs.declared.syntax.string_part.StringPart.{StringPart}
use Rattle.sab_refusal.specs.declared.syntax.string_part.StringPart.TheVariants as P
use Rattle.sab_refusal.specs.declared.syntax.fault.Fault.TheVariants as F
use Rattle.sab_refusal.specs.Syntax.String.{Behind, is_hex, is_from_c, is_d, is_escape, digit_to, string_behind}
use Rattle.sab_refusal.proofs.OfSyntax.Strings.{found, plain_rest, third, string_rest, first-content, found_prepend, d_hex, from_c_hex}

-- what a byte leaves, by what it leads to
abbrev pub rest_behind : Behind → List ℕ → Bool
rest_behind (Err fault) xs = false
rest_behind (Ok None) xs = true
rest_behind (Ok (Some part)) xs = string_rest part xs

by_plain : (b : ℕ) (xs : List ℕ) (q s c : Bool)
    → found (cond q (Some []) (cond s (content after_backslash xs) (cond c None (prepend (b ∷ []) (content plain xs)))))
    ≡ rest_behind (cond q (Ok None) (cond s (Ok (Some P.Escape)) (cond c (Err F.Control) (Ok (Some P.Plain))))) xs
by_plain b xs true s c = refl
by_plain b xs false true c = refl
by_plain b xs false false true = refl
by_plain b xs false false false = found_prepend (b ∷ []) (content plain xs)

escapes : (b : ℕ) (x y f n r t : Bool)
    → is_some (cond x (Some b) (cond y (Some 8) (cond f (Some 12) (cond n (Some 10) (cond r (Some 13) (cond t
    (Some 9) None))))))
    ≡ (x || y || f || n || r || t)
escapes b true y f n r t = refl
escapes b false true f n r t = refl
escapes b false false true n r t = refl
escapes b false false false true r t = refl
escapes b false false false false true t = refl
escapes b false false false false false true = refl
escapes b false false false false false false = refl

short_is : (b : ℕ) → is_some (short_escape b) ≡ is_escape b
unfolding short_escape
short_is b = escapes b (b == 34 || b == 92 || b == 47) (b == 98) (b == 102) (b == 110) (b == 114) (b == 116)

escaped : (xs : List ℕ) (o : Option ℕ) (e : Bool) → is_some o ≡ e
    → found (option_and_then (λ c. prepend (c ∷ []) (content plain xs)) o) ≡ cond e (plain_rest xs) false
escaped xs None true e = absurd (false≢true e)
escaped xs None false e = refl
escaped xs (Some c) true e = found_prepend (c ∷ []) (content plain xs)
escaped xs (Some c) false e = absurd (true≢false e)

by_escape : (b : ℕ) (xs : List ℕ) (u e : Bool) → is_some (short_escape b) ≡ e
    → found (cond u (content after_u xs) (option_and_then (λ c. prepend (c ∷ []) (content plain xs)) (short_escape b)))
    ≡ rest_behind (cond u (Ok (Some P.First)) (cond e (Ok (Some P.Plain)) (Err F.Escape))) xs
by_escape b xs true e s = first-content xs
by_escape b xs false true s = escaped xs (short_escape b) true s
by_escape b xs false false s = escaped xs (short_escape b) false s

by_cond : (t : Bool) (part : StringPart) (fault : _) (xs : List ℕ)
    → cond t (string_rest part xs) false ≡ rest_behind (cond t (Ok (Some part)) (Err fault)) xs
by_cond true part fault xs = refl
by_cond false part fault xs = refl

by_second : (t h : Bool) (part : StringPart) (xs : List ℕ)
    → cond t (string_rest part xs) false
    ≡ rest_behind (cond t (Ok (Some part)) (cond h (Err F.Surrogate) (Err F.Escape))) xs
by_second true h part xs = refl
by_second false true part xs = refl
by_second false false part xs = refl

by_surrogate : (c h e : Bool) (xs : List ℕ)
    → cond c false (cond h (third e xs) false)
    ≡ rest_behind (cond c (Err F.Surrogate) (cond h (Ok (Some (P.Third e))) (Err F.Escape))) xs
by_surrogate true h e xs = refl
by_surrogate false true e xs = refl
by_surrogate false false e xs = refl

-- the rest of a string, by its first byte
pub string_rest-step : (part : StringPart) (b : ℕ) (xs : List ℕ)
    → string_rest part (b ∷ xs) ≡ rest_behind (string_behind part b) xs
unfolding content
string_rest-step P.Plain b xs = by_plain b xs (b == 34) (b == 92) (nat_lt b 32)
string_rest-step P.Escape b xs = by_escape b xs (b == 117) (is_escape b) (short_is b)
string_rest-step P.First b xs = by_cond (is_hex b) (P.Second (is_d b)) F.Escape xs
string_rest-step (P.Second false) b xs = by_cond (is_hex b) (P.Third false) F.Escape xs
string_rest-step (P.Second true) b xs = by_surrogate (is_from_c b) (is_hex b) (nat_le 56 b) xs
string_rest-step (P.Third h) b xs = by_cond (is_hex b) (P.Fourth h) F.Escape xs
string_rest-step (P.Fourth false) b xs = by_cond (is_hex b) P.Plain F.Escape xs
string_rest-step (P.Fourth true) b xs = by_cond (is_hex b) P.Pair F.Escape xs
string_rest-step P.Pair b xs = by_cond (b == 92) P.PairEscape F.Surrogate xs
string_rest-step P.PairEscape b xs = by_cond (b == 117) P.PairFirst F.Surrogate xs
string_rest-step P.PairFirst b xs = by_second (is_d b) (is_hex b) P.PairSecond xs
string_rest-step P.PairSecond b xs = by_second (is_from_c b) (is_hex b) P.PairThird xs
string_rest-step P.PairThird b xs = by_cond (is_hex b) P.PairFourth F.Escape xs
string_rest-step P.PairFourth b xs = by_cond (is_hex b) P.Plain F.Escape xs

-- ---- the lexer beside it

abbrev pub mode_of : StringPart → Mode
mode_of P.Plain = in_string
mode_of P.Escape = in_escape
mode_of P.First = in_string
mode_of (P.Second d) = in_string
mode_of (P.Third h) = in_string
mode_of (P.Fourth h) = in_string
mode_of P.Pair = in_string
mode_of P.PairEscape = in_escape
mode_of P.PairFirst = in_string
mode_of P.PairSecond = in_string
mode_of P.PairThird = in_string
mode_of P.PairFourth = in_string

-- the lexer goes over a byte, to where it leads
abbrev pub Moves : Mode → ℕ → List ℕ → Behind → Type 0
Moves m b xs (Err fault) = ⊤
Moves m b xs (Ok None) = lex m (b ∷ xs) ≡ lex between xs
Moves m b xs (Ok (Some part)) = lex m (b ∷ xs) ≡ lex (mode_of part) xs

passes : (o s : Bool) (x : ℕ) (xs : List ℕ) (k : Mode → List Lexeme)
    → lex_byte in_string (cond o operator (cond s space other)) x xs k ≡ k in_string
passes true s x xs k = refl
passes false true x xs k = refl
passes false false x xs k = refl

over_plain : (b : ℕ) (xs : List ℕ) → (b == 34) ≡ false → (b == 92) ≡ false → lex in_string (b ∷ xs) ≡ lex in_string xs
unfolding lex
over_plain b xs q s =
    ap (λ t. lex_byte in_string (cond t quote (cond (b == 92) backslash (cond (is_operator b) operator (cond
    (is_space b) space other)))) b xs (λ m. lex m xs)) q
    ∙ ap (λ t. lex_byte in_string (cond t backslash (cond (is_operator b) operator (cond
    (is_space b) space other))) b xs (λ m. lex m xs)) s
    ∙ passes (is_operator b) (is_space b) b xs (λ m. lex m xs)

over_quote : (b : ℕ) (xs : List ℕ) → (b == 34) ≡ true → lex in_string (b ∷ xs) ≡ lex between xs
unfolding lex
over_quote b xs e = ap (λ y. lex in_string (y ∷ xs)) (eqb-true b 34 e)

over_backslash : (b : ℕ) (xs : List ℕ) → (b == 92) ≡ true → lex in_string (b ∷ xs) ≡ lex in_escape xs
unfolding lex
over_backslash b xs e = ap (λ y. lex in_string (y ∷ xs)) (eqb-true b 92 e)

over_escaped : (b : ℕ) (xs : List ℕ) → lex in_escape (b ∷ xs) ≡ lex in_string xs
unfolding lex
over_escaped b xs = refl

-- a byte that is not this one
is_other : (p : ℕ → Bool) (b c : ℕ) → p c ≡ false → p b ≡ true → (b == c) ≡ false
is_other p b c never h = grind (arith, common_steps, cases_Bool, false≢true, eqb-true)

over_hex : (b : ℕ) (xs : List ℕ) → is_hex b ≡ true → lex in_string (b ∷ xs) ≡ lex in_string xs
over_hex b xs h = over_plain b xs (is_other is_hex b 34 refl h) (is_other is_hex b 92 refl h)

-- a digit, and then a part within the string
moves_digit : (b : ℕ) (xs : List ℕ) (part : StringPart) (t : Bool) → mode_of part ≡ in_string → is_hex b ≡ t
    → Moves in_string b xs (cond t (Ok (Some part)) (Err F.Escape))
moves_digit b xs part true m e = over_hex b xs e ∙ ap (λ n. lex n xs) (sym m)
moves_digit b xs part false m e = tt

moves_surrogate : (b : ℕ) (xs : List ℕ) (c : Bool)
    → Moves in_string b xs (cond c (Err F.Surrogate) (digit_to b (P.Third (nat_le 56 b))))
moves_surrogate b xs true = tt
moves_surrogate b xs false = moves_digit b xs (P.Third (nat_le 56 b)) (is_hex b) refl refl

moves_second : (b : ℕ) (xs : List ℕ) (part : StringPart) (t h : Bool) → mode_of part ≡ in_string → (t ≡ true
    → is_hex b ≡ true)
    → Moves in_string b xs (cond t (Ok (Some part)) (cond h (Err F.Surrogate) (Err F.Escape)))
moves_second b xs part true h m e = over_hex b xs (e refl) ∙ ap (λ n. lex n xs) (sym m)
moves_second b xs part false true m e = tt
moves_second b xs part false false m e = tt

moves_plain : (b : ℕ) (xs : List ℕ) (q s c : Bool) → (b == 34) ≡ q → (b == 92) ≡ s
    → Moves in_string b xs (cond q (Ok None) (cond s (Ok (Some P.Escape)) (cond c (Err F.Control) (Ok (Some P.Plain)))))
moves_plain b xs true s c eq es = over_quote b xs eq
moves_plain b xs false true c eq es = over_backslash b xs es
moves_plain b xs false false true eq es = tt
moves_plain b xs false false false eq es = over_plain b xs eq es

moves_escape : (b : ℕ) (xs : List ℕ) (u e : Bool)
    → Moves in_escape b xs (cond u (Ok (Some P.First)) (cond e (Ok (Some P.Plain)) (Err F.Escape)))
moves_escape b xs true e = over_escaped b xs
moves_escape b xs false true = over_escaped b xs
moves_escape b xs false false = tt

moves_backslash : (b : ℕ) (xs : List ℕ) (t : Bool) → (b == 92) ≡ t
    → Moves in_string b xs (cond t (Ok (Some P.PairEscape)) (Err F.Surrogate))
moves_backslash b xs true e = over_backslash b xs e
moves_backslash b xs false e = tt

moves_u : (b : ℕ) (xs : List ℕ) (t : Bool) → Moves in_escape b xs (cond t (Ok (Some P.PairFirst)) (Err F.Surrogate))
moves_u b xs true = over_escaped b xs
moves_u b xs false = tt

pub moves : (part : StringPart) (b : ℕ) (xs : List ℕ) → Moves (mode_of part) b xs (string_behind part b)
moves P.Plain b xs = moves_plain b xs (b == 34) (b == 92) (nat_lt b 32) refl refl
moves P.Escape b xs = moves_escape b xs (b == 117) (is_escape b)
moves P.First b xs = moves_digit b xs (P.Second (is_d b)) (is_hex b) refl refl
moves (P.Second false) b xs = moves_digit b xs (P.Third false) (is_hex b) refl refl
moves (P.Second true) b xs = moves_surrogate b xs (is_from_c b)
moves (P.Third h) b xs = moves_digit b xs (P.Fourth h) (is_hex b) refl refl
moves (P.Fourth false) b xs = moves_digit b xs P.Plain (is_hex b) refl refl
moves (P.Fourth true) b xs = moves_digit b xs P.Pair (is_hex b) refl refl
moves P.Pair b xs = moves_backslash b xs (b == 92) refl
moves P.PairEscape b xs = moves_u b xs (b == 117)
moves P.PairFirst b xs = moves_second b xs P.PairSecond (is_d b) (is_hex b) refl (d_hex b)
moves P.PairSecond b xs = moves_second b xs P.PairThird (is_from_c b) (is_hex b) refl (from_c_hex b)
moves P.PairThird b xs = moves_digit b xs P.PairFourth (is_hex b) refl refl
moves P.PairFourth b xs = moves_digit b xs P.Plain (is_hex b) refl refl
