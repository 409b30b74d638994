-- The pieces of a text that is split at each byte 0 are its words.
use Rattle.std.proofs.Common.{◌≡◌, ℕ, suc, ◌-◌, ◌<◌, true, List, [], ◌∷◌, ◌++◌, map, length, Option, inl, inr, refl, sym, ap, subst, ◌∙◌, append_assoc, length-append, arith}
use Rattle.std.specs.Prelude.{IfSome, slice_get}
use Rattle.std.specs.Borrow.{Bor}
use Rattle.std.specs.List.{join_with_byte, onto_first}
use Rattle.std.specs.Iterator.Runs.{Run, YieldsRun}
use Rattle.std.specs.Str.Iter.{LacksByte, IsSplitTerminatorRun}
use Rattle.std.proofs.lemmas.Bool.{cases_lt, ne_eqb}
use Rattle.sabsim_wasm.specs.Words.{words_of}

-- ---- one word

-- a word that ends at a byte 0
first_word : (word rest : List ℕ) → LacksByte 0 word → words_of (word ++ 0 ∷ rest) ≡ word ∷ words_of rest
first_word [] rest lacks = refl
first_word (b ∷ word) rest lacks =
    rw (ne_eqb b 0 (lacks 0 (omega arith)))
    (ap (onto_first b) (first_word word rest (λ k within. lacks (suc k) (omega (arith, within)))))

-- the last word, after which nothing comes
last_word : (word : List ℕ) → LacksByte 0 word → 0 < length word → words_of word ≡ word ∷ []
last_word [] lacks some = absurd (omega (arith, some))
last_word (b ∷ []) lacks some = rw (ne_eqb b 0 (lacks 0 (omega arith))) refl
last_word (b ∷ c ∷ word) lacks some =
    rw (ne_eqb b 0 (lacks 0 (omega arith)))
    (ap (onto_first b) (last_word (c ∷ word) (λ k within. lacks (suc k) (omega (arith, within))) (omega arith)))

-- ---- all pieces

abbrev Piece : Type 0
Piece = Bor (List ℕ)

abbrev texts : List Piece → List (List ℕ)
texts pieces = map (λ piece. piece.now) pieces

abbrev joined : List Piece → List ℕ
joined pieces = join_with_byte 0 (texts pieces)

-- a piece has no byte 0
abbrev Lacks : Option Piece → Type 0
Lacks o = IfSome o (λ piece. LacksByte 0 piece.now)

abbrev AllLack : List Piece → Type 0
AllLack pieces = (k : ℕ) → Lacks (slice_get pieces k)

-- a piece isn't empty
abbrev HasBytes : Option Piece → Type 0
HasBytes o = IfSome o (λ piece. 0 < length piece.now)

-- a byte 0 is between the pieces, and one after the last
ended_words : (pieces : List Piece) → 0 < length pieces → AllLack pieces
    → words_of (joined pieces ++ 0 ∷ []) ≡ texts pieces
ended_words [] some lack = absurd (omega (arith, some))
ended_words (x ∷ []) some lack = first_word x.now [] (lack 0)
ended_words (x ∷ y ∷ pieces) some lack =
    ap words_of (append_assoc x.now (0 ∷ joined (y ∷ pieces)) (0 ∷ []))
    ∙ first_word x.now (joined (y ∷ pieces) ++ 0 ∷ []) (lack 0)
    ∙ ap (λ (words : List (List ℕ)). x.now ∷ words) (ended_words (y ∷ pieces) (omega arith) (λ k. lack (suc k)))

-- a byte 0 is between the pieces, and the last isn't empty
open_words : (pieces : List Piece) → AllLack pieces → HasBytes (slice_get pieces (length pieces - 1))
    → words_of (joined pieces) ≡ texts pieces
open_words [] lack last = refl
open_words (x ∷ []) lack last = last_word x.now (lack 0) last
open_words (x ∷ y ∷ pieces) lack last =
    let before_last : suc (suc (length pieces)) - 1 ≡ suc (suc (length pieces) - 1) = omega arith in
    let ends = subst (λ (n : ℕ). HasBytes (slice_get (x ∷ y ∷ pieces) n)) before_last last in
    first_word x.now (joined (y ∷ pieces)) (lack 0)
    ∙ ap (λ (words : List (List ℕ)). x.now ∷ words) (open_words (y ∷ pieces) (λ k. lack (suc k)) ends)

-- ---- a run of calls that gave the pieces

module _ {S : Type 0} {steps : S → Option Piece → S → Type 0} (run : Run steps) (bytes : List ℕ) where
  item_at : (k : ℕ) → run.at k ≡ slice_get run.items k
  unfolding YieldsRun
  item_at k = run.gave.1 k

  -- if a byte 0 is after the last piece, there is one
  some : run.whole ≡ true → IsSplitTerminatorRun run bytes 0 → bytes ≡ joined run.items ++ 0 ∷ []
      → 0 < length run.items
  some whole is ended = elim (cases_lt 0 (length run.items)) [
    | inl within ↦ within
    | inr none ↦
        let empty : length bytes ≡ 0 = is.2 whole (omega (arith, none, run.long)) in
        absurd (omega (arith, ap length ended, empty, length-append (joined run.items) (0 ∷ [])))
  ]

  pub words_by_run : run.whole ≡ true → IsSplitTerminatorRun run bytes 0 → texts run.items ≡ words_of bytes
  words_by_run whole is =
      let lack : AllLack run.items = λ k. subst Lacks (item_at k) (is.0 k) in
      elim (is.3 whole) [
        | inl same ↦
            let last = subst (λ (n : ℕ). HasBytes (slice_get run.items (n - 1))) run.long
            (subst HasBytes (item_at (run.len - 1)) same.1) in
            sym (ap words_of same.0 ∙ open_words run.items lack last)
        | inr ended ↦ sym (ap words_of ended ∙ ended_words run.items (some whole is ended) lack)
      ]
