-- Lines in which each waiter is one of n agents, and no agent stands twice.
use Rattle.std.proofs.Common.{◌≡◌, ℕ, zero, suc, ◌<◌, ◌≤◌, ◌==◌, ◌||◌, Bool, true, false, if◌then◌else◌, List, [], ◌∷◌, ◌++◌, length, length-append, map, filter, get_or, refl, sym, ap, subst, ◌∙◌, arith, eq-eqb}
use Rattle.std.proofs.lemmas.Grind.{common_steps}
use Rattle.std.specs.List.{AllByRecursion, IsDistinct, list_any, remove}
use Rattle.std.proofs.lemmas.Bool.{true≢false, ne_eqb}
use Rattle.std.proofs.lemmas.List.{length-map}
use Rattle.std.proofs.lemmas.Map.Steps.{length-le_from_distinct_below}
use borrow.Author.Tests.{eqb-true}
use Rattle.sab_plan.specs.declared.place.Place.{Place}
use Rattle.sab_plan.specs.declared.waiter.Waiter.{Waiter}
use Rattle.sab_object.specs.Object.{is_at, without_first}
use Rattle.sab_object.specs.Kept.{AreAgents, is_in}

neither : (x y : Bool) → (x || y) ≡ false → (x ≡ false) × (y ≡ false)
neither false y e = (refl, e)
neither true y e = absurd (true≢false e)

flipped : (a b : ℕ) → (a == b) ≡ false → (b == a) ≡ false
flipped a b e = ne_eqb b a (λ p. absurd (true≢false (sym (eq-eqb a b (sym p)) ∙ e)))

-- ---- there are no more waiters than agents

others : (a : ℕ) (line : List Waiter) → is_in line a ≡ false → AllByRecursion (λ b. (a == b) ≡ false) (map (λ (w : Waiter). w.agent) line)
others a [] e = tt
others a (w ∷ line) e =
    let parts = neither (w.agent == a) (is_in line a) e in (flipped w.agent a parts.0, others a line parts.1)

distinct : (n : ℕ) (line : List Waiter) → AreAgents n line → IsDistinct (λ a b. a == b) (map (λ (w : Waiter). w.agent) line)
unfolding IsDistinct
distinct n [] h = tt
distinct n (w ∷ line) h = (others w.agent line h.1, distinct n line h.2)

below : (n : ℕ) (line : List Waiter) → AreAgents n line → (a : ℕ) → list_any (λ b. a == b) (map (λ (w : Waiter). w.agent) line) ≡ true → a < n
below n [] h a e = absurd (true≢false (sym e))
below n (w ∷ line) h a e = grind (arith, common_steps, list_any, map, eqb-true, below n line h.2 a)

-- the line is no longer than there are agents
pub agents_length : (n : ℕ) (line : List Waiter) → AreAgents n line → length line ≤ n
agents_length n line h =
    let most = length-le_from_distinct_below (map (λ (w : Waiter). w.agent) line) n (distinct n line h) (below n line h) in
    omega (arith, most, length-map line (λ (w : Waiter). w.agent))

-- a waiter of the line is one of the agents
pub agent_below : (line : List Waiter) (i n : ℕ) (w : Waiter) → AreAgents n line → i < length line → w ≡ get_or line i w
    → w.agent < n
agent_below [] i n w h lt e = absurd (omega arith)
agent_below (x ∷ line) zero n w h lt e = subst (λ (v : Waiter). v.agent < n) (sym e) h.0
agent_below (x ∷ line) (suc i) n w h lt e = agent_below line i n w h.2 (omega arith) e

-- ---- what keeps the line so

-- an agent that isn't in the line joins it
pub agents_push : (line : List Waiter) (n : ℕ) (w : Waiter) → AreAgents n line → w.agent < n → is_in line w.agent ≡ false
    → AreAgents n (line ++ w ∷ [])
agents_push [] n w h lt e = (lt, refl, tt)
agents_push (x ∷ line) n w h lt e =
    let parts = neither (x.agent == w.agent) (is_in line w.agent) e in
    (h.0, joined line h.1 (flipped x.agent w.agent parts.0), agents_push line n w h.2 lt parts.1)
  where
    joined : (ws : List Waiter) → is_in ws x.agent ≡ false → (w.agent == x.agent) ≡ false → is_in (ws ++ w ∷ []) x.agent ≡ false
    joined [] none other = ap (λ b. b || false) other
    joined (v ∷ ws) none other =
        let rest = neither (v.agent == x.agent) (is_in ws x.agent) none in
        ap (λ b. b || is_in (ws ++ w ∷ []) x.agent) rest.0 ∙ joined ws rest.1 other

-- so the line is shorter than there are agents, if one of them isn't in it
pub agents_room : (line : List Waiter) (n : ℕ) (w : Waiter) → AreAgents n line → w.agent < n → is_in line w.agent ≡ false
    → length line < n
agents_room line n w h lt e =
    let most = agents_length n (line ++ w ∷ []) (agents_push line n w h lt e) in
    omega (arith, most, length-append line (w ∷ []))

-- a waiter is taken out
pub agents_remove : (line : List Waiter) (i n : ℕ) → AreAgents n line → AreAgents n (remove line i)
agents_remove [] zero n h = tt
agents_remove [] (suc i) n h = tt
agents_remove (x ∷ line) zero n h = h.2
agents_remove (x ∷ line) (suc i) n h = (h.0, out line i h.1, agents_remove line i n h.2)
  where
    out : (ws : List Waiter) (i : ℕ) → is_in ws x.agent ≡ false → is_in (remove ws i) x.agent ≡ false
    out [] zero none = refl
    out [] (suc i) none = refl
    out (v ∷ ws) zero none = (neither (v.agent == x.agent) (is_in ws x.agent) none).1
    out (v ∷ ws) (suc i) none =
        let rest = neither (v.agent == x.agent) (is_in ws x.agent) none in
        ap (λ b. b || is_in (remove ws i) x.agent) rest.0 ∙ out ws i rest.1

-- those that fail a test are taken out
in_filter : (t : Waiter → Bool) (a : ℕ) (line : List Waiter) → is_in line a ≡ false → is_in (filter t line) a ≡ false
in_filter t a [] e = refl
in_filter t a (w ∷ line) e =
    let parts = neither (w.agent == a) (is_in line a) e in
    go (t w) (in_filter t a line parts.1) parts.0
  where
    go : (b : Bool) → is_in (filter t line) a ≡ false → (w.agent == a) ≡ false
        → is_in (if b then w ∷ filter t line else filter t line) a ≡ false
    go true rest other = ap (λ c. c || is_in (filter t line) a) other ∙ rest
    go false rest other = rest

pub agents_filter : (n : ℕ) (t : Waiter → Bool) (line : List Waiter) → AreAgents n line → AreAgents n (filter t line)
agents_filter n t [] h = tt
agents_filter n t (w ∷ line) h = grind (arith, common_steps, in_filter, is_in, filter, agents_filter n t line h.2)

-- the first k waiters at a place are taken out
in_without : (k : ℕ) (p : Place) (a : ℕ) (line : List Waiter) → is_in line a ≡ false → is_in (without_first k p line) a ≡ false
in_without k p a [] e = refl
in_without zero p a (w ∷ line) e = e
in_without (suc k) p a (w ∷ line) e =
    let parts = neither (w.agent == a) (is_in line a) e in
    go (is_at p w) (in_without k p a line parts.1) (in_without (suc k) p a line parts.1) parts.0
  where
    go : (b : Bool) → is_in (without_first k p line) a ≡ false → is_in (without_first (suc k) p line) a ≡ false
        → (w.agent == a) ≡ false
        → is_in (if b then without_first k p line else w ∷ without_first (suc k) p line) a ≡ false
    go true one more other = one
    go false one more other = ap (λ c. c || is_in (without_first (suc k) p line) a) other ∙ more

pub agents_without : (n k : ℕ) (p : Place) (line : List Waiter) → AreAgents n line → AreAgents n (without_first k p line)
agents_without n k p [] h = tt
agents_without n zero p (w ∷ line) h = h
agents_without n (suc k) p (w ∷ line) h =
    go (is_at p w) (in_without (suc k) p w.agent line h.1) (agents_without n k p line h.2) (agents_without n (suc k) p line h.2)
  where
    go : (b : Bool) → is_in (without_first (suc k) p line) w.agent ≡ false → AreAgents n (without_first k p line)
        → AreAgents n (without_first (suc k) p line)
        → AreAgents n (if b then without_first k p line else w ∷ without_first (suc k) p line)
    go true none one more = one
    go false none one more = (h.0, none, more)
