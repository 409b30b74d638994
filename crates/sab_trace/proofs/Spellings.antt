-- Lines that spell events, one after another.
use Rattle.std.proofs.Common.{◌≡◌, ℕ, zero, suc, ◌+◌, List, [], ◌∷◌, ◌++◌, length, take, Some, refl, ap, sym, subst, arith}
use Rattle.std.specs.Prelude.{slice_get}
use Rattle.sab_judge.specs.declared.event.Event.{Event}
use Rattle.sab_trace.specs.Reading.{SpellsEach}
use Rattle.sab_trace.specs.Spelling.{SpellsLine}

pub as_many : (p : ℕ) (lines : List (List ℕ)) (events : List Event) → SpellsEach p lines events
    → length lines ≡ length events
as_many p [] [] h = refl
as_many p [] (e ∷ es) h = absurd h
as_many p (l ∷ ls) [] h = absurd h
as_many p (l ∷ ls) (e ∷ es) h = ap (λ n. suc n) (as_many (p + 1) ls es h.1)

pub one_more : (p : ℕ) (lines : List (List ℕ)) (events : List Event) (line : List ℕ) (event : Event)
    → SpellsEach p lines events → SpellsLine (p + length events) line event
    → SpellsEach p (lines ++ line ∷ []) (events ++ event ∷ [])
one_more p [] [] line event h s = (let e : p + 0 ≡ p = omega arith in rw e at s, tt)
one_more p [] (e ∷ es) line event h s = absurd h
one_more p (l ∷ ls) [] line event h s = absurd h
one_more p (l ∷ ls) (e ∷ es) line event h s =
    let same : p + suc (length es) ≡ (p + 1) + length es = omega arith in
    (h.0, one_more (p + 1) ls es line event h.1 (subst (λ n. SpellsLine n line event) same s))

-- the line at a position spells an event
pub line_at : (p k : ℕ) (lines : List (List ℕ)) (events : List Event) (line : List ℕ) → SpellsEach p lines events
    → slice_get lines k ≡ Some line → (event : Event) × SpellsLine (p + k) line event
line_at p k [] events line h g = cc
line_at p k (l ∷ ls) [] line h g = absurd h
line_at p zero (l ∷ ls) (e ∷ es) line h g =
    let same : l ≡ line = cc in
    let there : p + 0 ≡ p = omega arith in (e, rw (there, ← same) h.0)
line_at p (suc k) (l ∷ ls) (e ∷ es) line h g =
    let there : p + suc k ≡ (p + 1) + k = omega arith in
    subst (λ n. (event : Event) × SpellsLine n line event) (sym there) (line_at (p + 1) k ls es line h.1 g)

-- lines, and one more behind them
pub front_of : (lines rest : List (List ℕ)) → take (length lines) (lines ++ rest) ≡ lines
front_of [] rest = refl
front_of (l ∷ ls) rest = ap (λ (x : List (List ℕ)). l ∷ x) (front_of ls rest)

pub next_of : (lines rest : List (List ℕ)) (line : List ℕ)
    → slice_get (lines ++ line ∷ rest) (length lines) ≡ Some line
next_of [] rest line = refl
next_of (l ∷ ls) rest line = next_of ls rest line
