-- Places, agents that wait at them, and their line.
use Rattle.std.proofs.Common.{◌≡◌, ◌≢◌, ℕ, suc, ◌≤◌, ◌==◌, not, Bool, true, false, cond, List, [], ◌∷◌, set, slice_get, Some, refl, ap, sym, ◌∙◌, arith}
use Rattle.std.proofs.lemmas.Grind.{common_steps}
use Rattle.std.specs.Prelude.{filter}
use Rattle.std.specs.List.{list_any}
use Rattle.std.proofs.lemmas.Bool.{and_parts, ne_eqb, eq-eqb, eqb-true, eqb-false, false≢true, true≢false}
use Rattle.sab_plan.specs.declared.place.Place.{Place}
use Rattle.sab_sim.specs.declared.agent.Agent.{Agent}
use Rattle.sab_plan.specs.Place.{same_place}
use Rattle.sab_plan.specs.declared.waiter.Waiter.{Waiter}
use Rattle.sab_sim.specs.Agent.{waiting_phase}
use Rattle.sab_sim.specs.Line.{WaitsAt}
use Rattle.sab_sim.specs.Machine.{IsSeated}
use Rattle.sab_sim.proofs.ChangedLists.{slice_get-set_other}

-- ---- places

pub same_place-same : (p q : Place) → p ≡ q → same_place p q ≡ true
same_place-same p q e = grind (arith, common_steps, eq-eqb)

pub same_place-true : (p q : Place) → same_place p q ≡ true → p ≡ q
same_place-true p q e = grind (arith, common_steps, and_parts, eqb-true)

pub same_place-false : (p q : Place) → same_place p q ≡ false → p ≢ q
same_place-false p q f e = true≢false (sym (same_place-same p q e) ∙ f)

-- ---- agents that wait

-- an index of a list has one element
pub some_one : {X : Type 0} (xs : List X) (i : ℕ) (x y : X) → slice_get xs i ≡ Some x → slice_get xs i ≡ Some y → x ≡ y
some_one xs i x y e f = cc

-- a free agent doesn't wait
pub free_waits : (agents : List Agent) (a : ℕ) (g : Agent) (p : Place) (t : ℕ) → slice_get agents a ≡ Some g
    → waiting_phase g.phase ≡ false → WaitsAt agents a p t → ⊥
free_waits agents a g p t g_is free w =
    let same : g ≡ w.0 = some_one agents a g w.0 g_is w.1 in
    false≢true (sym free ∙ ap waiting_phase (ap (λ (k : Agent). k.phase) same ∙ w.2))

-- who waits, waits with one ticket at one place
pub one_ticket : (agents : List Agent) (a : ℕ) (p : Place) (t : ℕ) (q : Place) (u : ℕ) → WaitsAt agents a p t
    → WaitsAt agents a q u → (p ≡ q) × (t ≡ u)
one_ticket agents a p t q u w v = grind (arith, common_steps, some_one)

-- ---- the line without an agent

-- whether an agent stands in a line
abbrev pub stands_in : ℕ → List Waiter → Bool
stands_in a line = list_any (λ (w : Waiter). w.agent == a) line

-- a line without an agent
abbrev pub without : ℕ → List Waiter → List Waiter
without a line = filter (λ (w : Waiter). not (w.agent == a)) line

-- a line keeps to a lower bound
pub seated_lower : (agents : List Agent) (low low' : ℕ) (line : List Waiter) → low' ≤ low → IsSeated agents low line
    → IsSeated agents low' line
seated_lower agents low low' [] h s = tt
seated_lower agents low low' (w ∷ line) h s = (s.0, (omega (arith, s.1)), s.2, s.3)

-- the agent that leaves the line may change
pub seated_without : (agents : List Agent) (a : ℕ) (h : Agent) (low : ℕ) (line : List Waiter)
    → IsSeated agents low line → IsSeated (set agents a h) low (without a line)
seated_without agents a h low [] s = tt
seated_without agents a h low (w ∷ line) s =
    grind (
      arith,
      common_steps,
      set,
      cond,
      not,
      seated_lower,
      slice_get-set_other,
      eqb-false,
      seated_without agents a h
          (suc s.0) line s.3,
    )

-- who left the line doesn't stand in it
pub stands_without_own : (a : ℕ) (line : List Waiter) → stands_in a (without a line) ≡ false
stands_without_own a [] = refl
stands_without_own a (w ∷ line) = grind (arith, common_steps, cond, not, stands_without_own a line)

-- the others stand as before
pub stands_without : (a b : ℕ) (line : List Waiter) → b ≢ a → stands_in b (without a line) ≡ stands_in b line
stands_without a b [] n = refl
stands_without a b (w ∷ line) n = grind (arith, common_steps, cond, not, ne_eqb, eqb-true, stands_without a b line n)

-- the ticket of one who stands in the line
pub seated_ticket : (agents : List Agent) (low : ℕ) (line : List Waiter) (i : ℕ) (p : Place) (t : ℕ)
    → IsSeated agents low line → WaitsAt agents i p t → stands_in i line ≡ true → low ≤ t
seated_ticket agents low [] i p t s h e = absurd (false≢true e)
seated_ticket agents low (w ∷ line) i p t s h e =
    grind (arith, common_steps, one_ticket, eqb-true, seated_ticket agents (suc s.0) line i p t s.3 h)
