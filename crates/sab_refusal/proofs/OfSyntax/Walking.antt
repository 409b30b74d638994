-- A reader's walk stops where no text that is read goes on.
use Rattle.std.proofs.Common.{◌≡◌, ℕ, suc, ◌+◌, ◌-◌, ◌<◌, ◌≤◌, Bool, true, false, cond, ◌&&◌, List, [], ◌∷◌, ◌++◌, length, take, drop, get_or, slice_index, IsUtf8, Option, Some, None, Ok, Err, is_some, inl, inr, ◌⊎◌, refl, sym, ap, ◌∙◌, subst, arith, add-one, append_assoc, append-nil, take_at, length-append}
use Rattle.std.proofs.lemmas.Grind.{common_steps}
use Rattle.std.proofs.lemmas.Bool.{false≢true, true≢false, and_parts, and_cases, cases_eq, cases_lt}
use Rattle.std.proofs.lemmas.List.{take-take, take_all, take-append-drop, length-drop, length-take-le, get_or_at}
use Rattle.std.proofs.Math.Seq.{drop-length}
use Rattle.std.proofs.lemmas.Str.{IsUtf8-append, IsUtf8-nil, IsUtf8-take, IsCharBoundary-before_ascii, utf8_valid_len-IsUtf8}
use Rattle.std.specs.Str.Lossy.{utf8_valid_len, utf8_error_len}
use Rattle.json.proofs.Printed.Utf8.{IsUtf8-are_ascii}
use Rattle.serde_json.specs.Read.{read}
use Rattle.sab_refusal.specs.declared.syntax.fault.Fault.{Fault}
use Rattle.sab_refusal.specs.declared.syntax.fault.Fault.TheVariants.{NotUtf8}
use Rattle.sab_refusal.specs.declared.syntax.fault.Fault.TheVariants as F
use Rattle.sab_refusal.specs.declared.syntax.brackets.Bracket.{Bracket}
use Rattle.sab_refusal.specs.declared.syntax.string_part.StringPart.{StringPart}
use Rattle.sab_refusal.specs.declared.syntax.string_part.StringPart.TheVariants as P
use Rattle.sab_refusal.specs.declared.syntax.reader.Next.{Next}
use Rattle.sab_refusal.specs.declared.syntax.reader.Next.TheVariants.{Value}
use Rattle.sab_refusal.specs.declared.syntax.reader.Inside.{Inside}
use Rattle.sab_refusal.specs.declared.syntax.reader.Inside.TheVariants as I
use Rattle.sab_refusal.specs.declared.syntax.reader.Reader.{Reader}
use Rattle.sab_refusal.specs.declared.syntax.reader.Slip.{Slip}
use Rattle.sab_refusal.specs.declared.syntax.reader.Slip.TheVariants as S
use Rattle.sab_refusal.specs.declared.syntax.stop.Stop.{Stop}
use Rattle.sab_refusal.specs.declared.syntax.stop.Stop.TheVariants.{Token}
use Rattle.sab_refusal.specs.Syntax.Number.{is_in_range, part_behind, is_complete}
use Rattle.sab_refusal.specs.Syntax.Reader.{Step, reader, opening, step, step_in, begin, number_by, ends_word, is_between, is_in_string}
use Rattle.sab_refusal.specs.Syntax.Stop.{is_place, broken_by, broken_of, start_after, token_after, stop_by, walk, stop_of}
use Rattle.sab_refusal.specs.Syntax.Begins.{IsRead, form, IsFormed, BeginsRead, BeginsFormed, AreBegun, AreEnded, AreWhole, IsEdge, IsFirstBroken, StopsBehind, StopsAt}
use Rattle.sab_refusal.proofs.OfSyntax.Steps.{rest_of, rest_by, rest-step, WordFits}
use Rattle.sab_refusal.proofs.OfSyntax.Readings.{any_number, read-rest, form-rest}
use Rattle.sab_refusal.proofs.OfSyntax.Fits.{Fits, InFits, Keeps, keeps_step}
use Rattle.sab_refusal.proofs.OfSyntax.Endings.{ending, end_between, end_string}
use Rattle.sab_refusal.proofs.OfSyntax.Utf8.{IsClean, utf8_before, broken_is, broken_behind, valid_front, AreHigh, Finish, finish, cut_from, high_from, no_front}
use Rattle.sab_refusal.proofs.OfSyntax.Edges.{is_word, GoesTo, Goes, goes, between_to, word_to, in_word_to, NoString, no_string, Low, taken_low, between_token, Stuck, string_stuck, word_stuck, Free, between_free, Before, AtByte, before, any_slip, no_token_is, Plainly, high_plain, plain_on}

some_value : {A : Type 0} (o : Option A) → is_some o ≡ true → (a : A) × (o ≡ Some a)
some_value None e = absurd (false≢true e)
some_value (Some a) e = (a, refl)

-- a reader is there behind these bytes: what is left is what the text needs, to be read and to be JSON
record Reached (front : List ℕ) (r : Reader) (t : List ℕ) : Type 0 where
  reads : (xs : List ℕ) → is_some (read (front ++ xs)) ≡ rest_of is_in_range r t xs
  forms : (xs : List ℕ) → is_some (form (front ++ xs)) ≡ rest_of any_number r t xs
  fits : Fits r.inside r.next r.brackets
  empty : is_between r.inside ≡ true → t ≡ []

word_fits : (ok : List ℕ → Bool) (i : Inside) (next : Next) → InFits i next → WordFits ok i next
word_fits ok I.Nothing next h = tt
word_fits ok (I.String part) next h = tt
word_fits ok (I.Literal l) next h = h
word_fits ok (I.Number part) next h = h

-- a text of JSON begins so
live : (front : List ℕ) (r : Reader) (t : List ℕ) → Reached front r t → IsUtf8 front → BeginsFormed front
live front r t reached u =
    let e = ending r.inside r.next r.brackets t reached.fits in
    let some = some_value (form (front ++ e.bytes)) (reached.forms e.bytes ∙ e.ends) in
    (e.bytes, (some.0, IsUtf8-append front e.bytes u (IsUtf8-are_ascii e.bytes e.ascii), some.1))

-- one byte behind
behind : (ok : List ℕ → Bool) (r : Reader) (t : List ℕ) (b : ℕ) (xs : List ℕ) → Fits r.inside r.next r.brackets
    → (is_between r.inside ≡ true → t ≡ [])
    → rest_of ok r t (b ∷ xs) ≡ rest_by ok (step ok r t b) t b xs
behind ok r t b xs fits empty = rest-step ok r t b xs fits.few empty (word_fits ok r.inside r.next fits.in_fits)

-- nothing is read that goes on with this byte
dead : (front : List ℕ) (r : Reader) (t : List ℕ) (b : ℕ) (slip : Slip) → Reached front r t
    → step is_in_range r t b ≡ Err slip
    → BeginsRead (front ++ b ∷ []) → ⊥
dead front r t b slip reached did begins =
    grind (arith, common_steps, is_some, read, append_assoc, behind, is_in_range, rest_by, false≢true)

-- and nothing is JSON
formless : (front : List ℕ) (r : Reader) (t : List ℕ) (b : ℕ) (slip : Slip) → Reached front r t
    → step any_number r t b ≡ Err slip
    → BeginsFormed (front ++ b ∷ []) → ⊥
formless front r t b slip reached did begins =
    grind (arith, common_steps, is_some, form, append_assoc, behind, any_number, rest_by, false≢true)

-- numbers of any size take the same steps
any_end : (e c g : Bool) (s u : Step) (slip other : Slip) (r : Reader)
    → cond e (cond c (cond g s (Err slip)) (Err other)) u ≡ Ok r → cond e (cond c s (Err other)) u ≡ Ok r
any_end true true true s u slip other r h = h
any_end true true false s u slip other r h = absurd (cc)
any_end true false g s u slip other r h = h
any_end false c g s u slip other r h = h

any_step : (i : Inside) (r : Reader) (t : List ℕ) (b : ℕ) (r' : Reader) → step_in is_in_range i r t b ≡ Ok r'
    → step_in any_number i r t b ≡ Ok r'
any_step I.Nothing r t b r' h = h
any_step (I.String part) r t b r' h = h
any_step (I.Literal l) r t b r' h = h
any_step (I.Number part) r t b r' h =
    any_end (ends_word b) (is_complete part) (is_in_range t) (begin r b) (number_by r (part_behind part b))
    (S.Token F.TooLarge) (S.Token F.Number) r' h

reach : (front : List ℕ) (r : Reader) (t : List ℕ) (b : ℕ) (r' : Reader) → Reached front r t
    → step is_in_range r t b ≡ Ok r'
    → Reached (front ++ b ∷ []) r' (token_after (is_between r'.inside) t b)
reach front r t b r' reached did = record {
  reads = λ xs.
      ap (λ l. is_some (read l)) (append_assoc front (b ∷ []) xs) ∙ reached.reads (b ∷ xs)
      ∙ behind is_in_range r t b xs reached.fits reached.empty
      ∙ ap (λ s. rest_by is_in_range s t b xs) did;
  forms = λ xs.
      ap (λ l. is_some (form l)) (append_assoc front (b ∷ []) xs) ∙ reached.forms (b ∷ xs)
      ∙ behind any_number r t b xs reached.fits reached.empty
      ∙ ap (λ s. rest_by any_number s t b xs) (any_step r.inside r t b r' did);
  fits = subst Keeps did (keeps_step is_in_range r.inside r.next r.brackets t b reached.fits);
  empty = λ e. ap (λ c. token_after c t b) e;
}

-- ---- beginnings of a text

front_is : (text front bs : List ℕ) (n : ℕ) → text ≡ front ++ bs → n ≡ length front → take n text ≡ front
front_is text front bs n e at = ap (take n) e ∙ take_at front bs n (sym at)

-- one beginning more
begun_more : (text front bs : List ℕ) (n : ℕ) (r : Reader) (t : List ℕ) → text ≡ front ++ bs → n ≡ length front
    → Reached front r t
    → AreBegun text n → AreBegun text (n + 1)
begun_more text front bs n r t e at reached begun k lt u = go (cases_eq k n)
  where
    go : (k ≡ n) ⊎ (k ≡ n → ⊥) → BeginsFormed (take k text)
    go (inl same) =
        let is : take k text ≡ front = ap (λ j. take j text) same ∙ front_is text front bs n e at in
        subst BeginsFormed (sym is) (live front r t reached (subst IsUtf8 is u))
    go (inr other) = begun k (omega (arith, other)) u

-- ---- what is read from here

-- between tokens, and in a string
live_between : (front : List ℕ) (next : Next) (st : List Bracket) (t : List ℕ)
    → Reached front (reader I.Nothing next st) t → IsUtf8 front → BeginsRead front
live_between front next st t reached u =
    let e = end_between is_in_range next st reached.fits.few reached.fits.next_fits in
    let some = some_value (read (front ++ e.bytes)) (reached.reads e.bytes ∙ e.ends) in
    (e.bytes, (some.0, IsUtf8-append front e.bytes u (IsUtf8-are_ascii e.bytes e.ascii), some.1))

live_string : (front : List ℕ) (part : StringPart) (next : Next) (st : List Bracket) (t : List ℕ)
    → Reached front (reader (I.String part) next st) t → IsUtf8 front → BeginsRead front
live_string front part next st t reached u =
    let e = end_string is_in_range part next st reached.fits.few reached.fits.next_fits in
    let some = some_value (read (front ++ e.bytes)) (reached.reads e.bytes ∙ e.ends) in
    (e.bytes, (some.0, IsUtf8-append front e.bytes u (IsUtf8-are_ascii e.bytes e.ascii), some.1))

live_behind : (front : List ℕ) (b : ℕ) (i : Inside) (next : Next) (st : List Bracket) (t : List ℕ)
    → Reached front (reader i next st) t → GoesTo b i → ends_word b ≡ true → IsUtf8 front → BeginsRead front
live_behind front b I.Nothing next st t reached to e u = live_between front next st t reached u
live_behind front b (I.String part) next st t reached to e u = live_string front part next st t reached u
live_behind front b (I.Literal l) next st t reached to e u = absurd (true≢false (sym e ∙ to))
live_behind front b (I.Number part) next st t reached to e u = absurd (true≢false (sym e ∙ to))

-- a string goes on behind bytes that aren't ASCII
high_on : (rest front : List ℕ) (next : Next) (st : List Bracket) (t : List ℕ)
    → Reached front (reader (I.String P.Plain) next st) t → AreHigh rest
    → (t' : List ℕ) × Reached (front ++ rest) (reader (I.String P.Plain) next st) t'
high_on [] front next st t reached high = grind (arith, common_steps, reader, append-nil)
high_on (b ∷ rest) front next st t reached high =
    let more = reach front (reader (I.String P.Plain) next st) t b (reader (I.String P.Plain) next st) reached (plain_on
    next st t b high.0) in
    let end = high_on rest (front ++ b ∷ []) next st (t ++ b ∷ []) more high.1 in (
      end.0,
      subst (λ l. Reached l (reader (I.String P.Plain) next st) end.0) (append_assoc front (b ∷ []) rest) end.1,
    )

-- what a line feed can follow is whole
free_whole : (front : List ℕ) (i : Inside) (next : Next) (st : List Bracket) (t : List ℕ)
    → Reached front (reader i next st) t → Free i next st t → IsUtf8 front → AreWhole front
free_whole front i next st t reached free u =
    live_between (front ++ 10 ∷ []) next st [] (reach front (reader i next st) t 10 (reader I.Nothing next st) reached
    free) (IsUtf8-append front (10 ∷ []) u (IsUtf8-are_ascii (10 ∷ []) refl))

-- what begins more begins less
begins_less : (text more : List ℕ) (n k : ℕ) → n ≤ k → BeginsRead (take k text ++ more) → BeginsRead (take n text)
begins_less text more n k le begins =
    let parts : take k text ≡ take n text ++ drop n (take k text) =
    sym (take-append-drop n (take k text)) ∙ ap (λ l. l ++ drop n (take k text)) (take-take n k text le) in
    let rest = (drop n (take k text) ++ more) ++ begins.0 in (
      rest,
      subst IsRead (ap (λ l. (l ++ more) ++ begins.0) parts
          ∙ ap (λ l. l ++ begins.0) (append_assoc (take n text) (drop n (take k text)) more)
          ∙ append_assoc (take n text) (drop n (take k text) ++ more) begins.0) begins.1,
    )

-- ---- one byte of the walk

-- where a walk is: the token that it is in began at the edge `start`
record Walked (text : List ℕ) (r : Reader) (start at : ℕ) : Type 0 where
  begun : AreBegun text at
  ended : AreEnded text at
  clean : IsClean text at
  within : start ≤ at
  fresh : is_between r.inside ≡ true → start ≡ at
  edge : IsEdge text start
  whole : IsUtf8 (take start text) → AreWhole (take start text)
  inner : (k : ℕ) → start < k → k < at → IsEdge text k → AreWhole (take k text) → ⊥
  word : is_word r.inside ≡ true → ends_word (slice_index text (at - 1)) ≡ false
  high : 0 < at → 128 ≤ slice_index text (at - 1) → r.inside ≡ I.String P.Plain

module _ (text front bs : List ℕ) (b at start : ℕ) (i : Inside) (next : Next) (st : List Bracket) (t : List ℕ)
    (e : text ≡ front ++ b ∷ bs) (n : at ≡ length front) (reached : Reached front (reader i next st) t)
    (walked : Walked text (reader i next st) start at) where
  front_at : take at text ≡ front
  front_at = front_is text front (b ∷ bs) at e n

  byte_at : slice_index text at ≡ b
  byte_at = ap (λ l. slice_index l at) e ∙ get_or_at front b bs 0 at (sym n)

  size : at < length text
  size = omega (arith, ap length e, length-append front (b ∷ bs), n)

  longer : take (at + 1) text ≡ front ++ b ∷ []
  longer = front_is text (front ++ b ∷ []) bs (at + 1) (e ∙ sym (append_assoc front (b ∷ []) bs)) (omega (
    arith,
    n,
    length-append front (b ∷ []),
  ))

  stuck_here : Stuck i next st t → AreWhole (take at text) → ⊥
  stuck_here stuck whole =
      dead front (reader i next st) t 10 stuck.0 reached stuck.1 (subst AreWhole front_at whole)

  -- beside a byte within a word there is no edge
  no_edge : start < at → is_word i ≡ true → ends_word b ≡ false → IsEdge text at → ⊥
  no_edge lt w f (inl zero_is) = omega (arith, zero_is, lt)
  no_edge lt w f (inr (inl end_is)) = omega (arith, size, end_is)
  no_edge lt w f (inr (inr (inl edge))) = true≢false (sym edge ∙ ap ends_word byte_at ∙ f)
  no_edge lt w f (inr (inr (inr edge))) = true≢false (sym edge ∙ walked.word w)

  -- ---- the byte isn't taken

  refused : (slip : Slip) (k : ℕ) → step is_in_range (reader i next st) t b ≡ Err slip → at < k
      → AreWhole (take k text) → ⊥
  refused slip k did lt whole =
      dead front (reader i next st) t b slip reached did (subst BeginsRead longer (begins_less text (10 ∷ []) (at + 1) k
      (omega arith) whole))

  by_judged : (slip : Slip) → (step any_number (reader i next st) t b ≡ Err slip) ⊎ (ends_word b ≡ true)
      → (BeginsFormed (take (at + 1) text) → ⊥) ⊎ (ends_word (slice_index text (at + 1 - 1)) ≡ true)
  by_judged slip (inl any) =
      inl (λ begins. formless front (reader i next st) t b slip reached any (subst BeginsFormed longer begins))
  by_judged slip (inr ends) =
      let same : at + 1 - 1 ≡ at = omega arith in
      inr (ap (λ j. ends_word (slice_index text j)) same ∙ ap ends_word byte_at ∙ ends)

  stopped : (place : ℕ) (slip : Slip) → place ≤ at → step is_in_range (reader i next st) t b ≡ Err slip
      → StopsBehind text place (at + 1)
  stopped place slip le did = record {
    behind = omega arith;
    within = omega (arith, size);
    none = λ begins. dead front (reader i next st) t b slip reached did (subst BeginsRead longer begins);
    begun = begun_more text front (b ∷ bs) at (reader i next st) t e n reached walked.begun;
    judged = by_judged slip (any_slip i (reader i next st) t b slip did);
  }

  whole_start : AreWhole (take start text)
  whole_start = walked.whole (utf8_before text start (omega (arith, size, walked.within)) walked.edge (λ j lt high.
      walked.clean j (omega (arith, walked.within)) high))

  -- the token before the byte is broken
  token_last : (fault : Fault) → step is_in_range (reader i next st) t b ≡ Err (S.Token fault) → (k : ℕ) → start < k
      → IsEdge text k → AreWhole (take k text) → ⊥
  token_last fault did k lt edge whole = go (cases_lt at k)
    where
      here : (k ≡ at) → (c : Bool) → is_in_string i ≡ c → (d : Bool) → ends_word b ≡ d → (w : Bool) → is_word i ≡ w → ⊥
      here same true s d f w g = stuck_here (string_stuck i next st t s) (subst (λ j. AreWhole (take j text)) same whole)
      here same false s true f w g = stuck_here (word_stuck i next st t b fault f did) (subst (λ j. AreWhole
          (take j text)) same whole)
      here same false s false f true g = no_edge (omega (arith, same)) g f (subst (IsEdge text) same edge)
      here same false s false f false g = between_token i next st t b fault s g did

      go : (at < k) ⊎ (k ≤ at) → ⊥
      go (inl more) = refused (S.Token fault) k did more whole
      go (inr le) = by (cases_eq k at)
        where
          by : (k ≡ at) ⊎ (k ≡ at → ⊥) → ⊥
          by (inl same) = here same (is_in_string i) refl (ends_word b) refl (is_word i) refl
          by (inr other) = walked.inner k lt (omega (arith, other)) edge whole

  token_broken : (fault : Fault) → step is_in_range (reader i next st) t b ≡ Err (S.Token fault)
      → IsFirstBroken text start
  token_broken fault did = record {
    edge = walked.edge;
    whole = whole_start;
    last = λ k lt le. token_last fault did k lt;
  }

  -- the byte is
  edge_here : (is_between i ≡ true) ⊎ (ends_word b ≡ true) → IsEdge text at
  edge_here (inl between) = subst (IsEdge text) (walked.fresh between) walked.edge
  edge_here (inr ends) = inr (inr (inl (ap ends_word byte_at ∙ ends)))

  byte_broken : (fault : Fault) → step is_in_range (reader i next st) t b ≡ Err (S.Byte fault)
      → IsFirstBroken text at
  byte_broken fault did =
      let h : Before i next st t b = subst (AtByte (Before i next st t b)) did (before i next st t b) in
      let edge = edge_here h.1 in
      let u = utf8_before text at size edge walked.clean in
      record {
        edge = edge;
        whole = subst AreWhole (sym front_at) (free_whole front i next st t reached h.0 (subst IsUtf8 front_at u));
        last = λ k lt le edge whole. refused (S.Byte fault) k did lt whole;
      }

  -- the string has bytes of no character
  string_broken : is_place (broken_of text) at ≡ true → is_in_string i ≡ true → IsFirstBroken text start
  string_broken place s = record {
    edge = walked.edge;
    whole = whole_start;
    last = λ k lt le edge whole. go k lt le edge whole (cases_lt at k);
  }
    where
      utf8_of : (k : ℕ) → k ≤ length text → AreWhole (take k text) → IsUtf8 (take k text)
      utf8_of k le whole =
          let all : List ℕ = take k text ++ 10 ∷ whole.0 in
          let u : IsUtf8 (take k text ++ 10 ∷ whole.0) =
          subst IsUtf8 (append_assoc (take k text) (10 ∷ []) whole.0) whole.1.1 in
          let long : length (take k text) ≡ k = length-take-le k text le in
          let feed : get_or (take k text ++ 10 ∷ whole.0) k 0 ≡ 10 = get_or_at (take k text) 10 whole.0 0 k long in
          subst IsUtf8 (take_at (take k text) (10 ∷ whole.0) k long) (IsUtf8-take (take k text ++ 10 ∷ whole.0) k u
          (IsCharBoundary-before_ascii (take k text ++ 10 ∷ whole.0) k (omega (
            arith,
            long,
            length-append
                (take k text) (10 ∷ whole.0),
          )) (omega (arith, feed))))

      go : (k : ℕ) → start < k → k ≤ length text → IsEdge text k → AreWhole (take k text) → (at < k) ⊎ (k ≤ at) → ⊥
      go k lt le edge whole (inl more) =
          broken_behind text at k (broken_is (broken_of text) at place) more le (utf8_of k le whole)
      go k lt le edge whole (inr less) = by (cases_eq k at)
        where
          by : (k ≡ at) ⊎ (k ≡ at → ⊥) → ⊥
          by (inl same) = stuck_here (string_stuck i next st t s) (subst (λ j. AreWhole (take j text)) same whole)
          by (inr other) = walked.inner k lt (omega (arith, other)) edge whole

  -- ---- the byte is taken

  module _ (i' : Inside) (next' : Next) (st' : List Bracket) (did : step is_in_range (reader i next st) t b
      ≡ Ok (reader i' next' st')) (sound : (is_place (broken_of text) at && is_in_string i) ≡ false) where
    there : Reached (front ++ b ∷ []) (reader i' next' st') (token_after (is_between i') t b)
    there = reach front (reader i next st) t b (reader i' next' st') reached did

    to : GoesTo b i'
    to = subst (Goes b) did (goes i next st t b)

    ended_here : (k : ℕ) → k < at + 1 → ends_word (slice_index text k) ≡ true → IsUtf8 (take (k + 1) text)
        → BeginsRead (take (k + 1) text)
    ended_here k lt ends u = go (cases_eq k at)
      where
        go : (k ≡ at) ⊎ (k ≡ at → ⊥) → BeginsRead (take (k + 1) text)
        go (inl same) =
            let is : take (k + 1) text ≡ front ++ b ∷ [] = ap (λ j. take (j + 1) text) same ∙ longer in
            let f : ends_word b ≡ true =
            ap ends_word (sym byte_at) ∙ ap (λ j. ends_word (slice_index text j)) (sym same) ∙ ends in
            subst BeginsRead (sym is) (live_behind (front ++ b ∷ []) b i' next' st' (token_after (is_between i') t b)
            there to f (subst IsUtf8 is u))
        go (inr other) = walked.ended k (omega (arith, other)) ends u

    clean_here : (j : ℕ) → j < at + 1 → 128 ≤ slice_index text j → is_place (broken_of text) j ≡ false
    clean_here j lt high = go (cases_eq j at)
      where
        low_here : is_in_string i ≡ false → b < 128
        low_here s = subst (Low b) did (taken_low i next st t b s)

        by : (is_place (broken_of text) at ≡ false) ⊎ (is_in_string i ≡ false) → 128 ≤ slice_index text at
            → is_place (broken_of text) at ≡ false
        by (inl p) h = p
        by (inr s) h = absurd (omega (arith, h, byte_at, low_here s))

        go : (j ≡ at) ⊎ (j ≡ at → ⊥) → is_place (broken_of text) j ≡ false
        go (inl same) =
            ap (is_place (broken_of text)) same
            ∙ by (and_cases (is_place (broken_of text) at) (is_in_string i) sound) (subst (λ m. 128 ≤ slice_index text
            m) same high)
        go (inr other) = walked.clean j (omega (arith, other)) high

    begun_here : AreBegun text (at + 1)
    begun_here = begun_more text front (b ∷ bs) at (reader i next st) t e n reached walked.begun

    last_byte : slice_index text (at + 1 - 1) ≡ b
    last_byte = ap (slice_index text) (omega arith) ∙ byte_at

    word_here : is_word i' ≡ true → ends_word (slice_index text (at + 1 - 1)) ≡ false
    word_here w = ap ends_word last_byte ∙ in_word_to b i' w to

    high_here : 0 < at + 1 → 128 ≤ slice_index text (at + 1 - 1) → i' ≡ I.String P.Plain
    high_here lt h = subst Plainly did (high_plain i next st t b (omega (arith, h, last_byte)))

    -- within the token there is no whole edge
    inner_here : is_between i' ≡ false → (k : ℕ) → start < k → k < at + 1 → IsEdge text k → AreWhole (take k text) → ⊥
    inner_here f k lt less edge whole = go (cases_eq k at)
      where
        here : k ≡ at → (s : Bool) → is_in_string i ≡ s → (w : Bool) → is_word i ≡ w → ⊥
        here same true g w h = stuck_here (string_stuck i next st t g) (subst (λ j. AreWhole (take j text)) same whole)
        here same false g true h =
            let none : is_in_string i' ≡ false = subst NoString did (no_string i next st t b h (word_fits any_number i
            next reached.fits.in_fits)) in
            no_edge (omega (arith, same)) h (word_to b i' f none to) (subst (IsEdge text) same edge)
        here same false g false h = omega (arith, same, walked.fresh (no_token_is i g h))

        go : (k ≡ at) ⊎ (k ≡ at → ⊥) → ⊥
        go (inl same) = here same (is_in_string i) refl (is_word i) refl
        go (inr other) = walked.inner k lt (omega (arith, other)) edge whole

    moved : (c : Bool) → is_between i' ≡ c → Walked text (reader i' next' st') (start_after c start at) (at + 1)
    moved true f = record {
      begun = begun_here;
      ended = ended_here;
      clean = clean_here;
      within = omega arith;
      fresh = λ g. omega arith;
      edge = inr (inr (inr (ap ends_word (ap (slice_index text) (omega arith) ∙ byte_at) ∙ between_to b i' f to)));
      whole = λ u.
          let is : take (suc at) text ≡ front ++ b ∷ [] = ap (λ j. take j text) (sym (add-one at)) ∙ longer in
          subst AreWhole (sym is) (free_whole (front ++ b ∷ []) i' next' st' (token_after (is_between i') t b) there
          (between_free i' next' st' (token_after (is_between i') t b) f) (subst IsUtf8 is u));
      inner = λ k lt less edge whole. absurd (omega arith);
      word = word_here;
      high = high_here;
    }
    moved false f = record {
      begun = begun_here;
      ended = ended_here;
      clean = clean_here;
      within = omega (arith, walked.within);
      fresh = λ g. absurd (true≢false (sym g ∙ f));
      edge = walked.edge;
      whole = walked.whole;
      inner = inner_here f;
      word = word_here;
      high = high_here;
    }

-- ---- the walk

-- some text of JSON begins with what is read to its end, where it ends within a character too
ending_cut : (text : List ℕ) (next : Next) (st : List Bracket) (t : List ℕ)
    → Reached text (reader (I.String P.Plain) next st) t → Finish (drop (utf8_valid_len text) text) → BeginsFormed text
ending_cut text next st t reached fin =
    let v = utf8_valid_len text in
    let end = high_on fin.rest text next st t reached fin.high in
    let parts : take v text ++ (drop v text ++ fin.rest) ≡ text ++ fin.rest =
    sym (append_assoc (take v text) (drop v text) fin.rest) ∙ ap (λ l. l ++ fin.rest) (take-append-drop v text) in
    let u : IsUtf8 (text ++ fin.rest) =
    subst IsUtf8 parts (IsUtf8-append (take v text) (drop v text ++ fin.rest) (valid_front text) fin.utf8) in
    let begun = live (text ++ fin.rest) (reader (I.String P.Plain) next st) end.0 end.1 u in
    (fin.rest ++ begun.0, subst IsFormed (append_assoc text fin.rest begun.0) begun.1)

ending_text : (text : List ℕ) (i : Inside) (next : Next) (st : List Bracket) (t : List ℕ)
    → Reached text (reader i next st) t → IsClean text (length text)
    → (0 < length text → 128 ≤ slice_index text (length text - 1) → i ≡ I.String P.Plain) → BeginsFormed text
ending_text text i next st t reached clean high = go (cases_lt v (length text))
  where
    v : ℕ
    v = utf8_valid_len text

    cut : List ℕ
    cut = drop v text

    go : (v < length text) ⊎ (length text ≤ v) → BeginsFormed text
    go (inr le) =
        let same : take v text ≡ text = take_all v text le in
        live text (reader i next st) t reached (subst IsUtf8 same (valid_front text))
    go (inl lt) =
        let fin = finish cut (cut_from text (length text) (omega arith) clean lt) (omega (arith, lt, length-drop v text))
        (no_front text) in
        let last : 128 ≤ slice_index text (length text - 1) = high_from text (length text) (length text - 1)
        (omega arith) clean lt (omega (arith, lt)) (omega (arith, lt)) in
        ending_cut text next st t (subst (λ j. Reached text (reader j next st) t) (high (omega (arith, lt)) last) reached)
        fin

module _ (text : List ℕ) (unless : (at : ℕ) → is_place (broken_of text) at ≡ true → IsUtf8 text → ⊥) where
  -- by the step of a byte
  stops_by : (go : Reader → ℕ → List ℕ
      → Stop) (front bs : List ℕ) (b start at : ℕ) (r : Reader) (t : List ℕ) (c : Bool) (did : Step)
      → (e : text ≡ front ++ b ∷ bs) → (n : at ≡ length front) → (reached : Reached front r t)
      → (walked : Walked text r start at)
      → (is_place (broken_of text) at && is_in_string r.inside) ≡ c → step is_in_range r t b ≡ did
      → ((r' : Reader) → Reached (front ++ b ∷ []) r' (token_after (is_between r'.inside) t b)
      → Walked text r' (start_after (is_between r'.inside) start at) (at + 1)
      → StopsAt text (go r' (start_after (is_between r'.inside) start at) (token_after (is_between r'.inside) t b)))
      → StopsAt text (cond c (Token start NotUtf8) (stop_by go did start t at b))
  stops_by go front bs b start at r t true did e n reached walked test is ih =
      let both = and_parts (is_place (broken_of text) at) (is_in_string r.inside) test in (
        string_broken text front bs b at start r.inside r.next r.brackets t e n reached walked both.0 both.1,
        inr (refl, ((at, broken_is (broken_of text) at both.0), unless at both.0)),
      )
  stops_by go front bs b start at r t false (Err (S.Token fault)) e n reached walked test is ih = (
    token_broken text front bs b at start r.inside r.next r.brackets t e n reached walked fault is,
    inl (
      at + 1,
      stopped text front bs b at start r.inside r.next r.brackets t e n reached walked start (S.Token fault)
          walked.within is,
    ),
  )
  stops_by go front bs b start at r t false (Err (S.Byte fault)) e n reached walked test is ih = (
    byte_broken text front bs b at start r.inside r.next r.brackets t e n reached walked fault is,
    inl (
      at + 1,
      stopped text front bs b at start r.inside r.next r.brackets t e n reached walked at (S.Byte fault)
          (omega arith) is,
    ),
  )
  stops_by go front bs b start at r t false (Ok r') e n reached walked test is ih =
      ih r' (reach front r t b r' reached is)
      (moved text front bs b at start r.inside r.next r.brackets t e n reached walked r'.inside r'.next r'.brackets is
      test (is_between r'.inside) refl)

  walked_on : (bs front : List ℕ) (start at : ℕ) (r : Reader) (t : List ℕ) → text ≡ front ++ bs → at ≡ length front
      → Reached front r t → Walked text r start at → StopsAt text (walk (broken_of text) r start t at bs)
  unfolding walk
  walked_on [] front start at r t e n reached walked =
      let size : at ≡ length text = omega (arith, n, ap length (e ∙ append-nil front)) in
      let all : text ≡ front = e ∙ append-nil front in (
        ending_text text r.inside r.next r.brackets t (subst (λ l. Reached l r t) (sym all) reached)
            (subst (IsClean text) size walked.clean) (λ lt h. walked.high (omega (arith, size, lt)) (subst (λ j. 128 ≤
            slice_index text (j - 1)) (sym size) h)),
        subst (AreEnded text) size walked.ended,
      )
  walked_on (b ∷ bs) front start at r t e n reached walked =
      let next : suc at ≡ length (front ++ b ∷ []) = omega (arith, n, length-append front (b ∷ [])) in
      stops_by (λ r' start' token'. walk (broken_of text) r' start' token' (suc at) bs) front bs b start at r t
      (is_place (broken_of text) at && is_in_string r.inside) (step is_in_range r t b)
      e n reached walked refl refl
      (λ r' reached' walked'. walked_on bs (front ++ b ∷ []) (start_after (is_between r'.inside) start at) (suc at) r'
      (token_after (is_between r'.inside) t b) (e ∙ sym (append_assoc front (b ∷ []) bs)) next reached'
      (subst (Walked text r' (start_after (is_between r'.inside) start at)) (add-one at) walked'))

  opened : Reached [] opening []
  opened = record {
    reads = read-rest;
    forms = form-rest;
    fits = record {
      few = omega arith;
      next_fits = tt;
      in_fits = tt;
    };
    empty = λ e. refl;
  }

  pub stops : StopsAt text (walk (broken_of text) opening 0 [] 0 text)
  stops =
      walked_on text [] 0 0 opening [] refl refl opened
      (record {
        begun = λ k lt u. absurd (omega arith);
        ended = λ k lt e u. absurd (omega arith);
        clean = λ j lt h. absurd (omega arith);
        within = omega arith;
        fresh = λ e. refl;
        edge = inl refl;
        whole = λ u. free_whole [] I.Nothing Value [] [] opened refl IsUtf8-nil;
        inner = λ k lt less e w. absurd (omega arith);
        word = λ w. absurd (false≢true w);
        high = λ lt h. absurd (omega arith);
      })

-- what is UTF-8 has no such bytes
broken-utf8 : (text : List ℕ) (at : ℕ) → is_place (broken_of text) at ≡ true → IsUtf8 text → ⊥
unfolding utf8_error_len
broken-utf8 text at e u =
    let none : broken_of text ≡ None =
    ap (λ bs. broken_by (utf8_error_len bs) (utf8_valid_len text)) (ap (λ n. drop n text)
    (utf8_valid_len-IsUtf8 text u) ∙ drop-length text) in
    false≢true (sym (ap (λ o. is_place o at) none) ∙ e)

-- a text stops where no text that is read goes on
pub stop_stops : (text : List ℕ) (stop : Stop) → stop ≡ stop_of text → StopsAt text stop
stop_stops text stop e = subst (StopsAt text) (sym e) (stops text (broken-utf8 text))
