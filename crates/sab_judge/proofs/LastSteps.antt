-- The last step of the happens-before order.
use Rattle.std.proofs.Common.{◌⊎◌, inl, inr, ℕ, ◌<◌, List, refl, sym, subst, arith}
use Rattle.sab_judge.specs.declared.event.Event.{Event}
use Rattle.sab_judge.specs.HappensBefore.{HappensBefore, in_agent, by_sync, through, IsAgentsEarlier, SynchronizesWith}
use Rattle.sab_judge.specs.Clock.{IsAtOrBefore}

-- one step to the j-th event
abbrev pub IsStep : List Event → ℕ → ℕ → Type 0
IsStep trace m j = IsAgentsEarlier trace m j ⊎ SynchronizesWith trace m j

-- the last step to the j-th event begins at the i-th or after it
pub record HasLastStep (trace : List Event) (i j : ℕ) : Type 0 where
  pub middle : ℕ
  pub reached : IsAtOrBefore trace i middle
  pub step : IsStep trace middle j

-- who is at or before an event that happens before another, happens before that
pub reached_through : {trace : List Event} {i m j : ℕ} → IsAtOrBefore trace i m → HappensBefore trace m j
    → HappensBefore trace i j
reached_through {trace} {i} {m} {j} (inl e) h = subst (λ (x : ℕ). HappensBefore trace x j) (sym e) h
reached_through (inr g) h = through g h

pub reached_further : {trace : List Event} {i m j : ℕ} → IsAtOrBefore trace i m → IsAtOrBefore trace m j
    → IsAtOrBefore trace i j
reached_further {trace} {i} {m} {j} r (inl e) = subst (λ (x : ℕ). IsAtOrBefore trace i x) e r
reached_further r (inr h) = inr (reached_through r h)

-- each chain of steps ends with one
pub last_step : {trace : List Event} {i j : ℕ} → HappensBefore trace i j → HasLastStep trace i j
last_step {trace} {i} {j} (in_agent a) = record { middle = i; reached = inl refl; step = inl a }
last_step {trace} {i} {j} (by_sync s) = record { middle = i; reached = inl refl; step = inr s }
last_step (through g h) =
    let last = last_step h in
    record { middle = last.middle; reached = inr (reached_through' g last.reached); step = last.step }
  where
    reached_through' : {trace : List Event} {i m j : ℕ} → HappensBefore trace i m → IsAtOrBefore trace m j
        → HappensBefore trace i j
    reached_through' {trace} {i} {m} {j} g (inl e) = subst (λ (x : ℕ). HappensBefore trace i x) e g
    reached_through' g (inr h) = through g h

sync_earlier : {trace : List Event} {i j : ℕ} → SynchronizesWith trace i j → i < j
sync_earlier (inl r) = r.from.reads.earlier
sync_earlier (inr w) = w.earlier

-- what happens before is earlier in the trace
pub before_earlier : {trace : List Event} {i j : ℕ} → HappensBefore trace i j → i < j
before_earlier (in_agent a) = a.earlier
before_earlier (by_sync s) = sync_earlier s
before_earlier (through g h) = omega (arith, before_earlier g, before_earlier h)
