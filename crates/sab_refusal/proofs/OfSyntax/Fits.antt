-- How far a reader can be.
use Rattle.std.proofs.Common.{◌≡◌, ℕ, ◌≤◌, Bool, true, false, cond, ◌&&◌, List, [], ◌∷◌, length, drop, Option, Some, None, Ok, Err, refl, arith}
use Rattle.std.proofs.lemmas.Grind.{common_steps}
use Rattle.std.proofs.lemmas.Bool.{false≢true, eqb-false}
use Rattle.std.specs.Prelude.{◌==◌, ⊤}
use Rattle.sab_refusal.specs.declared.syntax.brackets.Bracket.{Bracket}
use Rattle.sab_refusal.specs.declared.syntax.brackets.Bracket.TheVariants.{Array, Object}
use Rattle.sab_refusal.specs.declared.syntax.literal.Literal.{Literal}
use Rattle.sab_refusal.specs.declared.syntax.number_part.NumberPart.{NumberPart}
use Rattle.sab_refusal.specs.declared.syntax.string_part.StringPart.{StringPart}
use Rattle.sab_refusal.specs.declared.syntax.reader.Next.{Next}
use Rattle.sab_refusal.specs.declared.syntax.reader.Next.TheVariants.{First, Value, Name, Colon, After}
use Rattle.sab_refusal.specs.declared.syntax.reader.Inside.{Inside}
use Rattle.sab_refusal.specs.declared.syntax.reader.Inside.TheVariants as I
use Rattle.sab_refusal.specs.Syntax.Brackets.{innermost}
use Rattle.sab_refusal.specs.Syntax.Literal.{literal_at}
use Rattle.sab_refusal.specs.Syntax.Number.{first_part, part_behind, is_complete}
use Rattle.sab_refusal.specs.Syntax.String.{Behind, string_behind}
use Rattle.sab_refusal.specs.Syntax.Reader.{Step, reader, takes_value, takes_name, may_close, closes, open_bracket, close_bracket, pass_comma, pass_colon, by_operator, is_operator, is_white, begin_in, begin_string, begin_inside, inside_by, string_by, literal_by, number_by, step_in, ends_word}

-- what comes next goes with the brackets
abbrev pub NextFits : Next → List Bracket → Type 0
NextFits First [] = ⊥
NextFits First (b ∷ st) = ⊤
NextFits Value st = ⊤
NextFits Name [] = ⊥
NextFits Name (Array ∷ st) = ⊥
NextFits Name (Object ∷ st) = ⊤
NextFits Colon [] = ⊥
NextFits Colon (Array ∷ st) = ⊥
NextFits Colon (Object ∷ st) = ⊤
NextFits After st = ⊤

-- behind a string comes a colon, or what comes behind a value
abbrev pub InFits : Inside → Next → Type 0
InFits I.Nothing next = ⊤
InFits (I.String part) First = ⊥
InFits (I.String part) Value = ⊥
InFits (I.String part) Name = ⊥
InFits (I.String part) Colon = ⊤
InFits (I.String part) After = ⊤
InFits (I.Literal l) next = next ≡ After
InFits (I.Number part) next = next ≡ After

pub record Fits (i : Inside) (next : Next) (st : List Bracket) : Type 0 where
  pub few : length st ≤ 127
  pub next_fits : NextFits next st
  pub in_fits : InFits i next

abbrev pub Keeps : Step → Type 0
Keeps (Err slip) = ⊤
Keeps (Ok r) = Fits r.inside r.next r.brackets

keeps_cond : (c : Bool) (s u : Step) → (c ≡ true → Keeps s) → (c ≡ false → Keeps u) → Keeps (cond c s u)
keeps_cond true s u p q = p refl
keeps_cond false s u p q = q refl

nothing : (next : Next) (st : List Bracket) → length st ≤ 127 → NextFits next st → Fits I.Nothing next st
nothing next st le n = record { few = le; next_fits = n; in_fits = tt }

keeps_open : (next : Next) (st : List Bracket) (b : Bracket) → length st ≤ 127
    → Keeps (open_bracket (reader I.Nothing next st) b)
keeps_open next st b le = grind (arith, common_steps, keeps_cond, takes_value, length, eqb-false, nothing)

fewer : (st : List Bracket) → length st ≤ 127 → length (drop 1 st) ≤ 127
fewer [] le = omega arith
fewer (b ∷ st) le = omega arith

keeps_close : (next : Next) (st : List Bracket) (b : Bracket) → length st ≤ 127
    → Keeps (close_bracket (reader I.Nothing next st) b)
keeps_close next st b le =
    keeps_cond (may_close next && closes (innermost st) b) _ _ (λ e. nothing After (drop 1 st) (fewer st le) tt)
    (λ e. tt)

keeps_comma : (next : Next) (st : List Bracket) → length st ≤ 127 → Keeps (pass_comma (reader I.Nothing next st))
keeps_comma First st le = tt
keeps_comma Value st le = tt
keeps_comma Name st le = tt
keeps_comma Colon st le = tt
keeps_comma After [] le = tt
keeps_comma After (Array ∷ st) le = nothing Value (Array ∷ st) le tt
keeps_comma After (Object ∷ st) le = nothing Name (Object ∷ st) le tt

keeps_colon : (next : Next) (st : List Bracket) → length st ≤ 127 → Keeps (pass_colon (reader I.Nothing next st))
keeps_colon First st le = tt
keeps_colon Value st le = tt
keeps_colon Name st le = tt
keeps_colon Colon st le = nothing Value st le tt
keeps_colon After st le = tt

keeps_operator : (next : Next) (st : List Bracket) (b : ℕ) → length st ≤ 127
    → Keeps (by_operator (reader I.Nothing next st) b)
keeps_operator next st b le =
    grind (arith, common_steps, keeps_cond, keeps_open, keeps_close, keeps_comma, keeps_colon)

-- a name comes in an object
named : (next : Next) (st : List Bracket) → takes_name next st ≡ true → NextFits Colon st
named First [] e = false≢true e
named First (Array ∷ st) e = false≢true e
named First (Object ∷ st) e = tt
named Value st e = absurd (false≢true e)
named Name [] e = false≢true e
named Name (Array ∷ st) e = false≢true e
named Name (Object ∷ st) e = tt
named Colon st e = absurd (false≢true e)
named After st e = absurd (false≢true e)

keeps_string : (next : Next) (st : List Bracket) → length st ≤ 127 → Keeps (begin_string (reader I.Nothing next st))
keeps_string next st le = grind (arith, common_steps, keeps_cond, takes_value, takes_name, named)

keeps_inside : (next : Next) (st : List Bracket) (l : Option Literal) (o : Option NumberPart) (b : ℕ) → length st ≤ 127
    → Keeps (begin_inside (reader I.Nothing next st) (inside_by l o) b)
keeps_inside next st None None b le = tt
keeps_inside next st None (Some q) b le = record { few = le; next_fits = tt; in_fits = refl }
keeps_inside next st (Some l) o b le = record { few = le; next_fits = tt; in_fits = refl }

pub keeps_begin : (next : Next) (st : List Bracket) (b : ℕ) → length st ≤ 127 → NextFits next st
    → Keeps (begin_in (reader I.Nothing next st) b)
keeps_begin next st b le n =
    keeps_cond (is_white b) _ _ (λ e. nothing next st le n)
    (λ e. keeps_cond (b == 34) _ _ (λ e. keeps_string next st le)
    (λ e. keeps_cond (is_operator b) _ _ (λ e. keeps_operator next st b le)
    (λ e. keeps_cond (takes_value next st) _ _ (λ e. keeps_inside next st (literal_at b) (first_part b) b le)
    (λ e. tt))))

same_string : (p q : StringPart) (next : Next) → InFits (I.String p) next → InFits (I.String q) next
same_string p q First h = h
same_string p q Value h = h
same_string p q Name h = h
same_string p q Colon h = h
same_string p q After h = h

keeps_in_string : (part : StringPart) (next : Next) (st : List Bracket) (o : Behind) → Fits (I.String part) next st
    → Keeps (string_by (reader (I.String part) next st) o)
keeps_in_string part next st (Err fault) f = tt
keeps_in_string part next st (Ok None) f = nothing next st f.few f.next_fits
keeps_in_string part next st (Ok
    (Some q)) f = record { few = f.few; next_fits = f.next_fits; in_fits = same_string part q next f.in_fits }

keeps_letter : (l : Literal) (next : Next) (st : List Bracket) (o : Option ℕ) (b : ℕ) → Fits (I.Literal l) next st
    → Keeps (literal_by (reader (I.Literal l) next st) o b)
keeps_letter l next st None b f = keeps_cond (ends_word b) _ _ (λ e. keeps_begin next st b f.few f.next_fits) (λ e. tt)
keeps_letter l next st (Some c) b f = keeps_cond (c == b) _ _ (λ e. f) (λ e. tt)

keeps_part : (part : NumberPart) (next : Next) (st : List Bracket) (o : Option NumberPart)
    → Fits (I.Number part) next st → Keeps (number_by (reader (I.Number part) next st) o)
keeps_part part next st None f = tt
keeps_part part next st (Some q) f = record { few = f.few; next_fits = f.next_fits; in_fits = f.in_fits }

-- a step keeps it
pub keeps_step : (ok : List ℕ → Bool) (i : Inside) (next : Next) (st : List Bracket) (t : List ℕ) (b : ℕ)
    → Fits i next st → Keeps (step_in ok i (reader i next st) t b)
keeps_step ok I.Nothing next st t b f = keeps_begin next st b f.few f.next_fits
keeps_step ok (I.String part) next st t b f = keeps_in_string part next st (string_behind part b) f
keeps_step ok (I.Literal l) next st t b f = keeps_letter l next st _ b f
keeps_step ok (I.Number part) next st t b f =
    keeps_cond (ends_word b) _ _
    (λ e. keeps_cond (is_complete part) _ _ (λ e. keeps_cond (ok t) _ _
    (λ e. keeps_begin next st b f.few f.next_fits) (λ e. tt)) (λ e. tt))
    (λ e. keeps_part part next st (part_behind part b) f)
