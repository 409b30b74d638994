-- What the rest of a text has to be, by what can come next and by the brackets that are open.
use Rattle.std.proofs.Common.{◌≡◌, ℕ, zero, suc, ◌+◌, ◌-◌, ◌<◌, ◌≤◌, Bool, true, false, cond, ◌&&◌, List, [], ◌∷◌, length, drop, Option, Some, None, Ok, Err, option_and_then, refl, sym, ap, ◌∙◌, subst, arith, ⊎_elim, inl, inr, ◌⊎◌}
use Rattle.std.proofs.lemmas.Bool.{cases_eq, eq-eqb, ne_eqb}
use Rattle.std.specs.Prelude.{◌==◌}
use Rattle.json.specs.Token.{Token}
use Rattle.json.specs.Json.{after_end_array, read_key}
use Rattle.json.specs.Lex.{Lexeme, token, comma, colon, Place, fresh, after_value, after_comma, after_key, begins_colon, may_begin, if_allowed, place_token, punctuate}
use Rattle.sab_refusal.specs.declared.syntax.brackets.Bracket.{Bracket}
use Rattle.sab_refusal.specs.declared.syntax.brackets.Bracket.TheVariants.{Array, Object}
use Rattle.sab_refusal.specs.declared.syntax.reader.Next.{Next}
use Rattle.sab_refusal.specs.declared.syntax.reader.Next.TheVariants.{First, Value, Name, Colon, After}
use Rattle.sab_refusal.specs.declared.syntax.reader.Inside.{Inside}
use Rattle.sab_refusal.specs.declared.syntax.reader.Reader.{Reader}
use Rattle.sab_refusal.specs.declared.syntax.reader.Slip.{Slip}
use Rattle.sab_refusal.specs.declared.syntax.reader.Slip.TheVariants as S
use Rattle.sab_refusal.specs.declared.syntax.fault.Fault.TheVariants as F
use Rattle.sab_refusal.specs.Syntax.Reader.{Step, reader, takes_value, takes_name, begin_string, open_bracket, close_bracket, pass_comma, pass_colon}
use Rattle.sab_refusal.proofs.OfSyntax.Skips.{skip, skip_items, skip_members, skip-shorter, skip-nil, skip-number, skip-string, skip-boolean, skip-null, skip-bad, skip-key, skip-end_array, skip-end_object, skip-array_deep, skip-object_deep, skip-array, skip-object, item_turn, skip_items-suc, skip_items-zero, member_turn, skip_members-suc, skip_members-zero, same_items, same_members}

-- how deep a value within these brackets can be
abbrev pub room : List Bracket → ℕ
room st = 127 - length st

abbrev pub is_nil : List Token → Bool
is_nil [] = true
is_nil (t ∷ ts) = false

-- what is left passes a test
abbrev pub follow : Option (List Token) → (List Token → Bool) → Bool
follow None k = false
follow (Some ts) k = k ts

module _ (ok : List ℕ → Bool) where
  -- the tokens are the rest of what these brackets have open
  abbrev pub close : List Bracket → List Token → Bool
  close [] ts = is_nil ts
  close (Array ∷ st) ts = follow (skip_items ok (room (Array ∷ st)) (length ts) ts) (close st)
  close (Object ∷ st) ts = follow (skip_members ok (room (Object ∷ st)) (length ts) ts) (close st)

  -- they are a value and then that
  abbrev pub value_then : List Bracket → List Token → Bool
  value_then st ts = follow (skip ok (room st) ts) (close st)

  abbrev first : List Bracket → List Token → Bool
  first [] ts = false
  first (b ∷ st) ts = close (b ∷ st) ts

  abbrev name : List Bracket → List Token → Bool
  name [] ts = false
  name (Array ∷ st) ts = false
  name (Object ∷ st) ts = close (Object ∷ st) ts

  -- the lexemes are the rest of a text, by what can come next
  abbrev pub tail : Next → List Bracket → List Lexeme → Bool
  tail First st ls = first st (punctuate fresh ls)
  tail Value st ls = value_then st (punctuate fresh ls)
  tail Name st ls = name st (punctuate after_comma ls)
  tail Colon st ls = value_then st (punctuate after_key ls)
  tail After st ls = close st (punctuate after_value ls)

  -- by a step
  abbrev pub tail_by : Step → List Lexeme → Bool
  tail_by (Ok r) ls = tail r.next r.brackets ls
  tail_by (Err slip) ls = false

  -- Arrays and objects, a turn at a time.

  follow_and_then : (f : List Token → Option (List Token)) (o : Option (List Token)) (k : List Token → Bool)
      → follow (option_and_then f o) k ≡ follow o (λ r. follow (f r) k)
  follow_and_then f None k = refl
  follow_and_then f (Some r) k = refl

  array_end : (st : List Bracket) (ts r : List Token) → after_end_array ts ≡ Some r → close (Array ∷ st) ts ≡ close st r
  array_end st [] r e = absurd (cc)
  array_end st (t ∷ ts) r e =
      ap (λ o. follow o (close st)) (skip_items-suc ok (room (Array ∷ st)) (length ts) (t ∷ ts))
      ∙ ap (λ o. follow (item_turn ok (room (Array ∷ st)) (length ts) (t ∷ ts) o) (close st)) e

  array_item_by : (st : List Bracket) (d n : ℕ) (ts : List Token) (s : Option (List Token)) → length ts ≤ suc n
      → skip ok d ts ≡ s
      → ((r : List Token) → length r ≤ n
      → follow (skip_items ok d n r) (close st) ≡ follow (skip_items ok d (length r) r) (close st))
      → follow (option_and_then (skip_items ok d n) (skip ok d ts)) (close st)
      ≡ follow (skip ok d ts) (λ r. follow (skip_items ok d (length r) r) (close st))
  array_item_by st d n ts None le e same =
      ap (λ o. follow (option_and_then (skip_items ok d n) o) (close st)) e
      ∙ sym (ap (λ o. follow o (λ r. follow (skip_items ok d (length r) r) (close st))) e)
  array_item_by st d n ts (Some r) le e same =
      let less = skip-shorter ok d ts r e in
      ap (λ o. follow (option_and_then (skip_items ok d n) o) (close st)) e ∙ same r (omega arith)
      ∙ sym (ap (λ o. follow o (λ r. follow (skip_items ok d (length r) r) (close st))) e)

  array_item : (st : List Bracket) (ts : List Token) → after_end_array ts ≡ None
      → close (Array ∷ st) ts ≡ value_then (Array ∷ st) ts
  array_item st [] e =
      ap (λ o. follow o (close st)) (skip_items-zero ok (room (Array ∷ st)) [])
      ∙ sym (ap (λ o. follow o (close (Array ∷ st))) (skip-nil ok (room (Array ∷ st))))
  array_item st (t ∷ ts) e =
      let d = room (Array ∷ st) in
      ap (λ o. follow o (close st)) (skip_items-suc ok d (length ts) (t ∷ ts))
      ∙ ap (λ o. follow (item_turn ok d (length ts) (t ∷ ts) o) (close st)) e
      ∙ array_item_by st d (length ts) (t ∷ ts) (skip ok d (t ∷ ts)) (omega arith) refl
      (λ r le. ap (λ o. follow o (close st)) (same_items ok d (length ts) (length r) r le (omega arith)))

  object_end : (st : List Bracket) (ts r : List Token) → read_key ts ≡ Some (None, r)
      → close (Object ∷ st) ts ≡ close st r
  object_end st [] r e = absurd (cc)
  object_end st (t ∷ ts) r e =
      ap (λ o. follow o (close st)) (skip_members-suc ok (room (Object ∷ st)) (length ts) (t ∷ ts))
      ∙ ap (λ o. follow (member_turn ok (room (Object ∷ st)) (length ts) o) (close st)) e

  no_name : (st : List Bracket) (ts : List Token) → read_key ts ≡ None → close (Object ∷ st) ts ≡ false
  no_name st [] e = ap (λ o. follow o (close st)) (skip_members-zero ok (room (Object ∷ st)) [])
  no_name st (t ∷ ts) e =
      ap (λ o. follow o (close st)) (skip_members-suc ok (room (Object ∷ st)) (length ts) (t ∷ ts))
      ∙ ap (λ o. follow (member_turn ok (room (Object ∷ st)) (length ts) o) (close st)) e

  object_member_by : (st : List Bracket) (d n : ℕ) (ts : List Token) (s : Option (List Token)) → length ts ≤ n
      → skip ok d ts ≡ s
      → ((r : List Token) → length r ≤ n
      → follow (skip_members ok d n r) (close st) ≡ follow (skip_members ok d (length r) r) (close st))
      → follow (option_and_then (skip_members ok d n) (skip ok d ts)) (close st)
      ≡ follow (skip ok d ts) (λ r. follow (skip_members ok d (length r) r) (close st))
  object_member_by st d n ts None le e same =
      ap (λ o. follow (option_and_then (skip_members ok d n) o) (close st)) e
      ∙ sym (ap (λ o. follow o (λ r. follow (skip_members ok d (length r) r) (close st))) e)
  object_member_by st d n ts (Some r) le e same =
      let less = skip-shorter ok d ts r e in
      ap (λ o. follow (option_and_then (skip_members ok d n) o) (close st)) e ∙ same r (omega arith)
      ∙ sym (ap (λ o. follow o (λ r. follow (skip_members ok d (length r) r) (close st))) e)

  -- behind the name of a member, which is a key
  object_member : (st : List Bracket) (k : List ℕ) (ts : List Token)
      → close (Object ∷ st) (Token.key k ∷ ts) ≡ value_then (Object ∷ st) ts
  object_member st k ts =
      let d = room (Object ∷ st) in
      ap (λ o. follow o (close st)) (skip_members-suc ok d (length ts) (Token.key k ∷ ts))
      ∙ object_member_by st d (length ts) ts (skip ok d ts) (omega arith) refl
      (λ r le. ap (λ o. follow o (close st)) (same_members ok d (length ts) (length r) r le (omega arith)))

  -- What can't go on.

  no_value : (st : List Bracket) (ts : List Token) → skip ok (room st) ts ≡ None → value_then st ts ≡ false
  no_value st ts e = ap (λ o. follow o (close st)) e

  bad_value : (st : List Bracket) (ts : List Token) → value_then st (Token.bad ∷ ts) ≡ false
  bad_value st ts = no_value st (Token.bad ∷ ts) (skip-bad ok (room st) ts)

  pub bad_close : (st : List Bracket) (ts : List Token) → close st (Token.bad ∷ ts) ≡ false
  bad_close [] ts = refl
  bad_close (Array ∷ st) ts = array_item st (Token.bad ∷ ts) refl ∙ bad_value (Array ∷ st) ts
  bad_close (Object ∷ st) ts = no_name st (Token.bad ∷ ts) refl

  bad_first : (st : List Bracket) (ts : List Token) → first st (Token.bad ∷ ts) ≡ false
  bad_first [] ts = refl
  bad_first (b ∷ st) ts = bad_close (b ∷ st) ts

  bad_name : (st : List Bracket) (ts : List Token) → name st (Token.bad ∷ ts) ≡ false
  bad_name [] ts = refl
  bad_name (Array ∷ st) ts = refl
  bad_name (Object ∷ st) ts = bad_close (Object ∷ st) ts

  -- a bad token
  pub tail-bad : (next : Next) (st : List Bracket) (ls : List Lexeme) → tail next st (token Token.bad ∷ ls) ≡ false
  unfolding punctuate
  tail-bad First st ls = bad_first st []
  tail-bad Value st ls = bad_value st []
  tail-bad Name st ls = bad_name st []
  tail-bad Colon st ls = bad_value st []
  tail-bad After st ls = bad_close st []

  -- Opening brackets.

  open_array : (st : List Bracket) (ts : List Token) → length st ≤ 127
      → value_then st (Token.begin_array ∷ ts) ≡ cond (length st == 127) false (close (Array ∷ st) ts)
  open_array st ts le = go (cases_eq (length st) 127)
    where
      deeper : (d : ℕ) → room st ≡ suc d → value_then st (Token.begin_array ∷ ts) ≡ close (Array ∷ st) ts
      deeper d e =
          let d_is : d ≡ room (Array ∷ st) = omega arith in
          ap (λ n. follow (skip ok n (Token.begin_array ∷ ts)) (close st)) e
          ∙ ap (λ o. follow o (close st)) (skip-array ok d ts)
          ∙ ap (λ n. follow (skip_items ok n (length ts) ts) (close st)) d_is

      go : (length st ≡ 127) ⊎ (length st ≡ 127 → ⊥)
          → value_then st (Token.begin_array ∷ ts) ≡ cond (length st == 127) false (close (Array ∷ st) ts)
      go (inl e) =
          let none : room st ≡ 0 = omega arith in
          ap (λ n. follow (skip ok n (Token.begin_array ∷ ts)) (close st)) none
          ∙ ap (λ o. follow o (close st)) (skip-array_deep ok ts)
          ∙ sym (ap (λ b. cond b false (close (Array ∷ st) ts)) (eq-eqb (length st) 127 e))
      go (inr ne) =
          deeper (126 - length st) (omega arith)
          ∙ sym (ap (λ b. cond b false (close (Array ∷ st) ts)) (ne_eqb (length st) 127 ne))

  open_object : (st : List Bracket) (ts : List Token) → length st ≤ 127
      → value_then st (Token.begin_object ∷ ts) ≡ cond (length st == 127) false (close (Object ∷ st) ts)
  open_object st ts le = go (cases_eq (length st) 127)
    where
      deeper : (d : ℕ) → room st ≡ suc d → value_then st (Token.begin_object ∷ ts) ≡ close (Object ∷ st) ts
      deeper d e =
          let d_is : d ≡ room (Object ∷ st) = omega arith in
          ap (λ n. follow (skip ok n (Token.begin_object ∷ ts)) (close st)) e
          ∙ ap (λ o. follow o (close st)) (skip-object ok d ts)
          ∙ ap (λ n. follow (skip_members ok n (length ts) ts) (close st)) d_is

      go : (length st ≡ 127) ⊎ (length st ≡ 127 → ⊥)
          → value_then st (Token.begin_object ∷ ts) ≡ cond (length st == 127) false (close (Object ∷ st) ts)
      go (inl e) =
          let none : room st ≡ 0 = omega arith in
          ap (λ n. follow (skip ok n (Token.begin_object ∷ ts)) (close st)) none
          ∙ ap (λ o. follow o (close st)) (skip-object_deep ok ts)
          ∙ sym (ap (λ b. cond b false (close (Object ∷ st) ts)) (eq-eqb (length st) 127 e))
      go (inr ne) =
          deeper (126 - length st) (omega arith)
          ∙ sym (ap (λ b. cond b false (close (Object ∷ st) ts)) (ne_eqb (length st) 127 ne))

  -- the token that a bracket begins
  abbrev pub opens : Bracket → Token
  opens Array = Token.begin_array
  opens Object = Token.begin_object

  abbrev pub ends : Bracket → Token
  ends Array = Token.end_array
  ends Object = Token.end_object

  tail_cond : (b : Bool) (slip : Slip) (r : Reader) (ls : List Lexeme)
      → tail_by (cond b (Err slip) (Ok r)) ls ≡ cond b false (tail r.next r.brackets ls)
  tail_cond true slip r ls = refl
  tail_cond false slip r ls = refl

  pub tail-open : (i : Inside) (next : Next) (st : List Bracket) (b : Bracket) (ls : List Lexeme) → length st ≤ 127
      → tail next st (token (opens b) ∷ ls) ≡ tail_by (open_bracket (reader i next st) b) ls
  unfolding punctuate
  tail-open i First [] b ls le = refl
  tail-open i First (Array ∷ st) Array ls le =
      array_item st (Token.begin_array ∷ punctuate fresh ls) refl ∙ open_array (Array ∷ st) (punctuate fresh ls) le
      ∙ sym (tail_cond (length (Array ∷ st) == 127) (S.Byte F.TooDeep) (reader i First (Array ∷ Array ∷ st)) ls)
  tail-open i First (Array ∷ st) Object ls le =
      array_item st (Token.begin_object ∷ punctuate fresh ls) refl ∙ open_object (Array ∷ st) (punctuate fresh ls) le
      ∙ sym (tail_cond (length (Array ∷ st) == 127) (S.Byte F.TooDeep) (reader i First (Object ∷ Array ∷ st)) ls)
  tail-open i First (Object ∷ st) Array ls le = no_name st (Token.begin_array ∷ punctuate fresh ls) refl
  tail-open i First (Object ∷ st) Object ls le = no_name st (Token.begin_object ∷ punctuate fresh ls) refl
  tail-open i Value st Array ls le =
      open_array st (punctuate fresh ls) le
      ∙ sym (tail_cond (length st == 127) (S.Byte F.TooDeep) (reader i First (Array ∷ st)) ls)
  tail-open i Value st Object ls le =
      open_object st (punctuate fresh ls) le
      ∙ sym (tail_cond (length st == 127) (S.Byte F.TooDeep) (reader i First (Object ∷ st)) ls)
  tail-open i Name [] b ls le = refl
  tail-open i Name (Array ∷ st) b ls le = refl
  tail-open i Name (Object ∷ st) Array ls le = no_name st (Token.begin_array ∷ punctuate fresh ls) refl
  tail-open i Name (Object ∷ st) Object ls le = no_name st (Token.begin_object ∷ punctuate fresh ls) refl
  tail-open i Colon st Array ls le = bad_value st []
  tail-open i Colon st Object ls le = bad_value st []
  tail-open i After st Array ls le = bad_close st []
  tail-open i After st Object ls le = bad_close st []

  -- Closing brackets.

  not_an_item : (st : List Bracket) (ts : List Token) → close (Array ∷ st) (Token.end_object ∷ ts) ≡ false
  not_an_item st ts =
      array_item st (Token.end_object ∷ ts) refl
      ∙ no_value (Array ∷ st) (Token.end_object ∷ ts) (skip-end_object ok (room (Array ∷ st)) ts)

  pub tail-close : (i : Inside) (next : Next) (st : List Bracket) (b : Bracket) (ls : List Lexeme)
      → tail next st (token (ends b) ∷ ls) ≡ tail_by (close_bracket (reader i next st) b) ls
  unfolding punctuate
  tail-close i First [] b ls = refl
  tail-close i First (Array ∷ st) Array ls = array_end st (Token.end_array ∷ punctuate after_value ls)
      (punctuate after_value ls) refl
  tail-close i First (Array ∷ st) Object ls = not_an_item st (punctuate after_value ls)
  tail-close i First (Object ∷ st) Array ls = no_name st (Token.end_array ∷ punctuate after_value ls) refl
  tail-close i First (Object ∷ st) Object ls = object_end st (Token.end_object ∷ punctuate after_value ls)
      (punctuate after_value ls) refl
  tail-close i Value st Array ls =
      no_value st (Token.end_array ∷ punctuate after_value ls) (skip-end_array ok (room st) (punctuate after_value ls))
  tail-close i Value st Object ls =
      no_value st (Token.end_object ∷ punctuate after_value ls) (skip-end_object ok (room st)
      (punctuate after_value ls))
  tail-close i Name [] b ls = refl
  tail-close i Name (Array ∷ st) b ls = refl
  tail-close i Name (Object ∷ st) Array ls = bad_close (Object ∷ st) []
  tail-close i Name (Object ∷ st) Object ls = bad_close (Object ∷ st) []
  tail-close i Colon st Array ls = bad_value st []
  tail-close i Colon st Object ls = bad_value st []
  tail-close i After [] Array ls = refl
  tail-close i After [] Object ls = refl
  tail-close i After (Array ∷ st) Array ls = array_end st (Token.end_array ∷ punctuate after_value ls)
      (punctuate after_value ls) refl
  tail-close i After (Array ∷ st) Object ls = not_an_item st (punctuate after_value ls)
  tail-close i After (Object ∷ st) Array ls = no_name st (Token.end_array ∷ punctuate after_value ls) refl
  tail-close i After (Object ∷ st) Object ls = object_end st (Token.end_object ∷ punctuate after_value ls)
      (punctuate after_value ls) refl

  -- Commas and colons.

  string_some : (bc : Bool) (s : List ℕ) (k : Place → List Token)
      → is_nil (place_token after_comma (Token.string s) bc k) ≡ false
  string_some true s k = refl
  string_some false s k = refl

  comma_some : (ls : List Lexeme) → is_nil (punctuate after_comma ls) ≡ false
  unfolding punctuate
  comma_some [] = refl
  comma_some (token Token.begin_object ∷ ls) = refl
  comma_some (token Token.end_object ∷ ls) = refl
  comma_some (token Token.begin_array ∷ ls) = refl
  comma_some (token Token.end_array ∷ ls) = refl
  comma_some (token (Token.key s) ∷ ls) = refl
  comma_some (token (Token.string s) ∷ ls) = string_some (begins_colon ls) s (λ next. punctuate next ls)
  comma_some (token (Token.number s) ∷ ls) = refl
  comma_some (token (Token.boolean b) ∷ ls) = refl
  comma_some (token Token.null ∷ ls) = refl
  comma_some (token Token.bad ∷ ls) = refl
  comma_some (comma ∷ ls) = refl
  comma_some (colon ∷ ls) = refl

  string_no_end : (p : Place) (bc : Bool) (s : List ℕ) (k : Place → List Token) → may_begin p ≡ true
      → after_end_array (place_token p (Token.string s) bc k) ≡ None
  string_no_end fresh true s k e = refl
  string_no_end fresh false s k e = refl
  string_no_end after_value bc s k e = absurd (cc)
  string_no_end after_comma true s k e = refl
  string_no_end after_comma false s k e = refl
  string_no_end after_key bc s k e = absurd (cc)

  comma_no_end : (ls : List Lexeme) → after_end_array (punctuate after_comma ls) ≡ None
  unfolding punctuate
  comma_no_end [] = refl
  comma_no_end (token Token.begin_object ∷ ls) = refl
  comma_no_end (token Token.end_object ∷ ls) = refl
  comma_no_end (token Token.begin_array ∷ ls) = refl
  comma_no_end (token Token.end_array ∷ ls) = refl
  comma_no_end (token (Token.key s) ∷ ls) = refl
  comma_no_end (token (Token.string s) ∷ ls) = string_no_end after_comma (begins_colon ls) s
      (λ next. punctuate next ls) refl
  comma_no_end (token (Token.number s) ∷ ls) = refl
  comma_no_end (token (Token.boolean b) ∷ ls) = refl
  comma_no_end (token Token.null ∷ ls) = refl
  comma_no_end (token Token.bad ∷ ls) = refl
  comma_no_end (comma ∷ ls) = refl
  comma_no_end (colon ∷ ls) = refl

  same_string : (st : List Bracket) (bc : Bool) (s : List ℕ) (k : Place → List Token)
      → value_then st (place_token after_comma (Token.string s) bc k)
      ≡ value_then st (place_token fresh (Token.string s) bc k)
  same_string st true s k = refl
  same_string st false s k = refl

  -- a value is the same behind a comma
  comma_value : (st : List Bracket) (ls : List Lexeme)
      → value_then st (punctuate after_comma ls) ≡ value_then st (punctuate fresh ls)
  unfolding punctuate
  comma_value st [] = bad_value st [] ∙ sym (no_value st [] (skip-nil ok (room st)))
  comma_value st (token Token.begin_object ∷ ls) = refl
  comma_value st (token Token.end_object ∷ ls) =
      bad_value st [] ∙ sym (no_value st (Token.end_object ∷ punctuate after_value ls) (skip-end_object ok (room st)
      (punctuate after_value ls)))
  comma_value st (token Token.begin_array ∷ ls) = refl
  comma_value st (token Token.end_array ∷ ls) =
      bad_value st [] ∙ sym (no_value st (Token.end_array ∷ punctuate after_value ls) (skip-end_array ok (room st)
      (punctuate after_value ls)))
  comma_value st (token (Token.key s) ∷ ls) = refl
  comma_value st (token (Token.string s) ∷ ls) = same_string st (begins_colon ls) s (λ next. punctuate next ls)
  comma_value st (token (Token.number s) ∷ ls) = refl
  comma_value st (token (Token.boolean b) ∷ ls) = refl
  comma_value st (token Token.null ∷ ls) = refl
  comma_value st (token Token.bad ∷ ls) = refl
  comma_value st (comma ∷ ls) = refl
  comma_value st (colon ∷ ls) = refl

  pub tail-comma : (i : Inside) (next : Next) (st : List Bracket) (ls : List Lexeme)
      → tail next st (comma ∷ ls) ≡ tail_by (pass_comma (reader i next st)) ls
  unfolding punctuate
  tail-comma i First st ls = bad_first st []
  tail-comma i Value st ls = bad_value st []
  tail-comma i Name st ls = bad_name st []
  tail-comma i Colon st ls = bad_value st []
  tail-comma i After [] ls = comma_some ls
  tail-comma i After (Array ∷ st) ls =
      array_item st (punctuate after_comma ls) (comma_no_end ls) ∙ comma_value (Array ∷ st) ls
  tail-comma i After (Object ∷ st) ls = refl

  pub tail-colon : (i : Inside) (next : Next) (st : List Bracket) (ls : List Lexeme)
      → tail next st (colon ∷ ls) ≡ tail_by (pass_colon (reader i next st)) ls
  unfolding punctuate
  tail-colon i First st ls = bad_first st []
  tail-colon i Value st ls = bad_value st []
  tail-colon i Name st ls = bad_name st []
  tail-colon i Colon st ls = refl
  tail-colon i After st ls = bad_close st []

  -- Strings.

  -- a colon comes only behind a name
  colon_after : (st : List Bracket) (ls : List Lexeme) → begins_colon ls ≡ true
      → close st (punctuate after_value ls) ≡ false
  unfolding punctuate
  colon_after st [] e = absurd (cc)
  colon_after st (token t ∷ ls) e = absurd (cc)
  colon_after st (comma ∷ ls) e = absurd (cc)
  colon_after st (colon ∷ ls) e = bad_close st []

  place_after_key : (t : Token) (bc : Bool) (k : Place → List Token) → place_token after_key t bc k ≡ Token.bad ∷ []
  place_after_key Token.begin_object bc k = refl
  place_after_key Token.end_object bc k = refl
  place_after_key Token.begin_array bc k = refl
  place_after_key Token.end_array bc k = refl
  place_after_key (Token.key s) bc k = refl
  place_after_key (Token.string s) true k = refl
  place_after_key (Token.string s) false k = refl
  place_after_key (Token.number s) bc k = refl
  place_after_key (Token.boolean b) bc k = refl
  place_after_key Token.null bc k = refl
  place_after_key Token.bad bc k = refl

  -- nothing else does
  no_colon : (st : List Bracket) (ls : List Lexeme) → begins_colon ls ≡ false
      → value_then st (punctuate after_key ls) ≡ false
  unfolding punctuate
  no_colon st [] e = bad_value st []
  no_colon st (token t ∷ ls) e =
      ap (value_then st) (place_after_key t (begins_colon ls) (λ next. punctuate next ls)) ∙ bad_value st []
  no_colon st (comma ∷ ls) e = bad_value st []
  no_colon st (colon ∷ ls) e = absurd (cc)

  string_value_by : (st : List Bracket) (p : Place) (bc : Bool) (s : List ℕ) (ls : List Lexeme)
      → may_begin p ≡ true → begins_colon ls ≡ bc
      → value_then st (place_token p (Token.string s) bc (λ next. punctuate next ls))
      ≡ close st (punctuate after_value ls)
  string_value_by st fresh true s ls e f =
      no_value st (Token.key s ∷ punctuate after_key ls) (skip-key ok (room st) s (punctuate after_key ls))
      ∙ sym (colon_after st ls f)
  string_value_by st fresh false s ls e f = ap (λ o. follow o (close st)) (skip-string ok (room st) s
      (punctuate after_value ls))
  string_value_by st after_value bc s ls e f = absurd (cc)
  string_value_by st after_comma true s ls e f =
      no_value st (Token.key s ∷ punctuate after_key ls) (skip-key ok (room st) s (punctuate after_key ls))
      ∙ sym (colon_after st ls f)
  string_value_by st after_comma false s ls e f = ap (λ o. follow o (close st)) (skip-string ok (room st) s
      (punctuate after_value ls))
  string_value_by st after_key bc s ls e f = absurd (cc)

  string_name_by : (st : List Bracket) (p : Place) (bc : Bool) (s : List ℕ) (ls : List Lexeme) → may_begin p ≡ true
      → begins_colon ls ≡ bc
      → close (Object ∷ st) (place_token p (Token.string s) bc (λ next. punctuate next ls))
      ≡ value_then (Object ∷ st) (punctuate after_key ls)
  string_name_by st fresh true s ls e f = object_member st s (punctuate after_key ls)
  string_name_by st fresh false s ls e f =
      no_name st (Token.string s ∷ punctuate after_value ls) refl ∙ sym (no_colon (Object ∷ st) ls f)
  string_name_by st after_value bc s ls e f = absurd (cc)
  string_name_by st after_comma true s ls e f = object_member st s (punctuate after_key ls)
  string_name_by st after_comma false s ls e f =
      no_name st (Token.string s ∷ punctuate after_value ls) refl ∙ sym (no_colon (Object ∷ st) ls f)
  string_name_by st after_key bc s ls e f = absurd (cc)

  pub tail-string : (i : Inside) (next : Next) (st : List Bracket) (s : List ℕ) (ls : List Lexeme)
      → tail next st (token (Token.string s) ∷ ls) ≡ tail_by (begin_string (reader i next st)) ls
  unfolding punctuate
  tail-string i First [] s ls = refl
  tail-string i First (Array ∷ st) s ls =
      array_item st (place_token fresh (Token.string s) (begins_colon ls) (λ next. punctuate next ls))
      (string_no_end fresh (begins_colon ls) s (λ next. punctuate next ls) refl)
      ∙ string_value_by (Array ∷ st) fresh (begins_colon ls) s ls refl refl
  tail-string i First (Object ∷ st) s ls = string_name_by st fresh (begins_colon ls) s ls refl refl
  tail-string i Value st s ls = string_value_by st fresh (begins_colon ls) s ls refl refl
  tail-string i Name [] s ls = refl
  tail-string i Name (Array ∷ st) s ls = refl
  tail-string i Name (Object ∷ st) s ls = string_name_by st after_comma (begins_colon ls) s ls refl refl
  tail-string i Colon st s ls =
      ap (value_then st) (place_after_key (Token.string s) (begins_colon ls) (λ next. punctuate next ls))
      ∙ bad_value st []
  tail-string i After st s ls = string_after st (begins_colon ls)
    where
      string_after : (st : List Bracket) (bc : Bool)
          → close st (place_token after_value (Token.string s) bc (λ next. punctuate next ls)) ≡ false
      string_after st true = bad_close st []
      string_after st false = bad_close st []

  -- Words and numbers.

  -- a token that is a value, if this is so
  pub record IsLeaf (t : Token) (good : Bool) : Type 0 where
    pub placed : (p : Place) (bc : Bool) (k : Place → List Token)
        → place_token p t bc k ≡ if_allowed (may_begin p) t k after_value
    pub skipped : (d : ℕ) (ts : List Token) → skip ok d (t ∷ ts) ≡ cond good (Some ts) None
    pub no_end : (ts : List Token) → after_end_array (t ∷ ts) ≡ None
    pub no_key : (ts : List Token) → read_key (t ∷ ts) ≡ None

  follow_cond : (b : Bool) (ts : List Token) (k : List Token → Bool)
      → follow (cond b (Some ts) None) k ≡ cond b (k ts) false
  follow_cond true ts k = refl
  follow_cond false ts k = refl

  leaf_value : (t : Token) (good : Bool) → IsLeaf t good → (st : List Bracket) (ts : List Token)
      → value_then st (t ∷ ts) ≡ cond good (close st ts) false
  leaf_value t good leaf st ts = ap (λ o. follow o (close st)) (leaf.skipped (room st) ts)
      ∙ follow_cond good ts (close st)

  pub tail-leaf : (t : Token) (good : Bool) → IsLeaf t good → (next : Next) (st : List Bracket) (ls : List Lexeme)
      → tail next st (token t ∷ ls) ≡ cond (takes_value next st) (cond good (tail After st ls) false) false
  unfolding punctuate
  tail-leaf t good leaf First [] ls = refl
  tail-leaf t good leaf First (Array ∷ st) ls =
      ap (close (Array ∷ st)) (leaf.placed fresh (begins_colon ls) (λ next. punctuate next ls))
      ∙ array_item st (t ∷ punctuate after_value ls) (leaf.no_end (punctuate after_value ls))
      ∙ leaf_value t good leaf (Array ∷ st) (punctuate after_value ls)
  tail-leaf t good leaf First (Object ∷ st) ls =
      ap (close (Object ∷ st)) (leaf.placed fresh (begins_colon ls) (λ next. punctuate next ls))
      ∙ no_name st (t ∷ punctuate after_value ls) (leaf.no_key (punctuate after_value ls))
  tail-leaf t good leaf Value st ls =
      ap (value_then st) (leaf.placed fresh (begins_colon ls) (λ next. punctuate next ls))
      ∙ leaf_value t good leaf st (punctuate after_value ls)
  tail-leaf t good leaf Name [] ls = refl
  tail-leaf t good leaf Name (Array ∷ st) ls = refl
  tail-leaf t good leaf Name (Object ∷ st) ls =
      ap (close (Object ∷ st)) (leaf.placed after_comma (begins_colon ls) (λ next. punctuate next ls))
      ∙ no_name st (t ∷ punctuate after_value ls) (leaf.no_key (punctuate after_value ls))
  tail-leaf t good leaf Colon st ls =
      ap (value_then st) (place_after_key t (begins_colon ls) (λ next. punctuate next ls)) ∙ bad_value st []
  tail-leaf t good leaf After st ls =
      ap (close st) (leaf.placed after_value (begins_colon ls) (λ next. punctuate next ls)) ∙ bad_close st []

  pub leaf-number : (s : List ℕ) → IsLeaf (Token.number s) (ok s)
  leaf-number s = record {
    placed = λ p bc k. refl;
    skipped = λ d ts. skip-number ok d s ts;
    no_end = λ ts. refl;
    no_key = λ ts. refl;
  }

  pub leaf-boolean : (b : Bool) → IsLeaf (Token.boolean b) true
  leaf-boolean b = record {
    placed = λ p bc k. refl;
    skipped = λ d ts. skip-boolean ok d b ts;
    no_end = λ ts. refl;
    no_key = λ ts. refl;
  }

  pub leaf-null : IsLeaf Token.null true
  leaf-null = record {
    placed = λ p bc k. refl;
    skipped = λ d ts. skip-null ok d ts;
    no_end = λ ts. refl;
    no_key = λ ts. refl;
  }
