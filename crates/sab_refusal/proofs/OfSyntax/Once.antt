-- There is at most one place where a text's first broken token begins.
use Rattle.std.proofs.Common.{◌≡◌, ℕ, ◌-◌, ◌<◌, ◌≤◌, true, List, length, slice_index, inl, inr, ◌⊎◌, arith}
use Rattle.std.proofs.lemmas.Grind.{common_steps}
use Rattle.std.proofs.lemmas.Bool.{false≢true, cases_lt}
use lib.ListN.{get_or-eq_default}
use Rattle.sab_refusal.specs.Syntax.Reader.{ends_word}
use Rattle.sab_refusal.specs.Syntax.Begins.{IsEdge, IsFirstBroken}

-- what ends words is within a text
ends_within : (text : List ℕ) (k : ℕ) → ends_word (slice_index text k) ≡ true → k < length text
ends_within text k e = grind (arith, common_steps, cases_lt, length, false≢true, ends_word, get_or-eq_default)

edge_within : (text : List ℕ) (k : ℕ) → IsEdge text k → k ≤ length text
edge_within text k (inl zero_is) = omega arith
edge_within text k (inr (inl end_is)) = omega arith
edge_within text k (inr (inr (inl e))) = omega (arith, ends_within text k e)
edge_within text k (inr (inr (inr e))) = omega (arith, ends_within text (k - 1) e)

pub first_once : (text : List ℕ) (a b : ℕ) → IsFirstBroken text a → IsFirstBroken text b → a ≡ b
first_once text a b p q = go (cases_lt a b) (cases_lt b a)
  where
    go : (a < b) ⊎ (b ≤ a) → (b < a) ⊎ (a ≤ b) → a ≡ b
    go (inl lt) o = absurd (p.last b lt (edge_within text b q.edge) q.edge q.whole)
    go (inr le) (inl lt) = absurd (q.last a lt (edge_within text a p.edge) p.edge p.whole)
    go (inr le) (inr ge) = omega arith
