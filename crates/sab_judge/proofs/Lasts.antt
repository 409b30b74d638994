-- The last event of a kind.
use Rattle.std.proofs.Common.{◌≡◌, ℕ, ◌+◌, ◌<◌, ◌≤◌, true, false, List, Option, Some, None, sym, ◌∙◌, arith}
use Rattle.std.proofs.lemmas.Grind.{common_steps}
use Rattle.std.proofs.lemmas.Bool.{false≢true, cases_lt}
use Rattle.sab_judge.specs.declared.event.Event.{Event}
use Rattle.sab_judge.specs.Sought.{Sought}
use Rattle.sab_judge.specs.Event.{event_at}
use Rattle.sab_judge.specs.Sought.{is_hit, IsLastBelow}

-- the p-th event is the last that is sought, and the m-th is no later
pub record IsNoLater (trace : List Event) (sought : Sought) (j m : ℕ) (from : Option ℕ) : Type 0 where
  pub last : ℕ
  pub from_is : from ≡ Some last
  pub later : m ≤ last
  pub below : last < j
  pub hit : is_hit sought (event_at trace last) ≡ true

-- where one is sought, a last is found, and it is no later
pub found_last : (trace : List Event) (sought : Sought) (j m : ℕ) (from : Option ℕ) → IsLastBelow trace sought j from
    → m < j → is_hit sought (event_at trace m) ≡ true → IsNoLater trace sought j m from
found_last trace sought j m None none lt hit = absurd (false≢true (sym (none m lt) ∙ hit))
found_last trace sought j m (Some p) is_last lt hit = grind (arith, common_steps, cases_lt, false≢true)

-- one more event that isn't sought
pub last_miss : (trace : List Event) (sought : Sought) (n : ℕ) (from : Option ℕ) → IsLastBelow trace sought n from
    → is_hit sought (event_at trace n) ≡ false → IsLastBelow trace sought (n + 1) from
last_miss trace sought n None none miss = grind (arith, common_steps, cases_lt, is_hit, event_at)
last_miss trace sought n (Some m) is_last miss = grind (arith, common_steps, cases_lt, is_hit, event_at)

-- one more event that is sought
pub last_hit : (trace : List Event) (sought : Sought) (n : ℕ) → is_hit sought (event_at trace n) ≡ true
    → IsLastBelow trace sought (n + 1) (Some n)
last_hit trace sought n hit = (omega arith, hit, λ k after h. absurd (omega (arith, after, h)))
