-- Who is woken.
use Rattle.std.proofs.Common.{◌≡◌, inl, inr, ℕ, zero, suc, ◌<◌, ◌==◌, ◌&&◌, ◌||◌, not, Bool, true, false, cond, List, [], ◌∷◌, ◌++◌, length, map, take, set, slice_get, slice_index_or, Option, Some, None, ℤ, refl, ap, sym, ◌∙◌, subst, arith}
use Rattle.std.proofs.lemmas.Grind.{common_steps}
use Rattle.std.specs.Prelude.{filter, option_map}
use Rattle.std.proofs.Math.Bool.{or-false, or-true, and-false, and-true}
use Rattle.std.proofs.lemmas.Bool.{cases_eq, ne_eqb, eq-eqb, eqb-true, false≢true, true≢false}
use Rattle.std.proofs.lemmas.List.Folds.{list_any-append}
use Rattle.std.proofs.lemmas.Option.{slice_get-get_or}
use Rattle.sab_plan.specs.declared.place.Place.{Place}
use Rattle.sab_sim.specs.declared.agent.Agent.{Agent}
use Rattle.sab_plan.specs.declared.waiter.Waiter.{Waiter}
use Rattle.sab_object.specs.Object.{State, is_at, waiters, without_first, woken, woken_count}
use Rattle.sab_sim.specs.Agent.{newcomer, agent_at, woken_agent, is_woken, is_waiting, IsLike}
use Rattle.sab_sim.specs.Line.{WaitsAt, IsLineFrom, IsLine, is_among, woken_if, AreWoken, Wakes}
use Rattle.sab_sim.specs.Machine.{MachineParts, IsSeated, Represents}
use Rattle.sab_sim.proofs.ChangedLists.{slice_get-set, slice_get-set_other}
use Rattle.sab_sim.proofs.SeatedLine.{stands_in, seated_lower, seated_ticket}
use Rattle.sab_sim.proofs.PlaceLine.{line_is, all_stand, line_within}

-- ---- agents that are woken one by one

-- one that is woken twice is woken
woken_twice : (b : Bool) (g h : Agent) → h ≡ woken_if b g → woken_agent h ≡ woken_agent g
woken_twice true g h e = ap woken_agent e
woken_twice false g h e = ap woken_agent e

-- one more is woken
pub AreWoken-push : (ws : List ℕ) (agents agents' : List Agent) (i : ℕ)
    → i < length agents' → AreWoken ws agents agents'
    → AreWoken (ws ++ i ∷ []) agents (set agents' i (woken_agent (agent_at agents' i)))
AreWoken-push ws agents agents' i within h a =
    grind (
      arith,
      common_steps,
      cases_eq,
      slice_get,
      set,
      woken_agent,
      option_map,
      woken_if,
      is_among,
      eq-eqb,
      or-true,
      slice_get-set,
      slice_get-get_or,
      newcomer,
      ne_eqb,
      or-false,
      slice_get-set_other,
      agent_at,
      list_any-append,
      woken_twice,
    )

-- ---- what being woken changes

-- one that waited isn't waiting then, but woken
abbrev IsChanged : Option Agent → Bool → Type 0
IsChanged o b =
    (is_woken (option_map (woken_if b) o) ≡ (is_woken o || b))
    × (is_waiting (option_map (woken_if b) o) ≡ (is_waiting o && not b))

woken_option : (o : Option Agent) (b : Bool) → (b ≡ true → is_waiting o ≡ true) → IsChanged o b
woken_option None true h = absurd (false≢true (h refl))
woken_option None false h = (refl, refl)
woken_option (Some g) true h = (sym (or-true (is_woken (Some g))), sym (and-false (is_waiting (Some g))))
woken_option (Some g) false h = (sym (or-false (is_woken (Some g))), sym (and-true (is_waiting (Some g))))

-- each of the first of a line is an agent
pub first_within : (agents agents' : List Agent) (p : Place) (n i : ℕ) (ws line : List ℕ) → IsLine agents p line → ws
    ≡ line → length agents' ≡ length agents → i < length (take n ws) → slice_index_or (take n ws) i 0 < length agents'
first_within agents agents' p n i ws line is_line same size there = grind (arith, common_steps, line_within, length)

-- those of a line wait at its place
line_waits : (agents : List Agent) (p : Place) (from n : ℕ) (ws : List ℕ) (b : ℕ)
    → IsLineFrom agents p from ws → is_among (take n ws) b ≡ true
    → (t : ℕ) × WaitsAt agents b p t
line_waits agents p from zero ws b line there = absurd (false≢true there)
line_waits agents p from (suc n) [] b line there = absurd (false≢true there)
line_waits agents p from (suc n) (i ∷ ws) b line there =
    grind (arith, common_steps, is_among, take, eqb-true, line_waits agents p (suc line.0) n ws b line.2)

-- each agent is woken from its wait, or as it was
pub woken_like : (agents agents' : List Agent) (p : Place) (n : ℕ) (line : List ℕ)
    → IsLine agents p line → AreWoken (take n line) agents agents'
    → (b : ℕ) (h : Agent) → slice_get agents' b ≡ Some h → (g : Agent) × (slice_get agents b ≡ Some g) × IsLike g h
woken_like agents agents' p n line is_line woken b h h_is =
    go (is_among (take n line) b) refl (slice_get agents b) refl (sym h_is ∙ woken b)
  where
    go : (c : Bool) → is_among (take n line) b ≡ c
        → (o : Option Agent) → slice_get agents b ≡ o → Some h ≡ option_map (woken_if c) o
        → (g : Agent) × (slice_get agents b ≡ Some g) × IsLike g h
    go c e None f q = absurd (cc)
    go false e (Some g) f q = (g, f, inl (let same : h ≡ g = cc in same))
    go true e (Some g) f q =
        let waits = line_waits agents p 0 n line b is_line e in
        let same : waits.1.0 ≡ g = cc in (
          g,
          f,
          inr (
            p,
            waits.0,
            ap (λ (k : Agent). k.phase) (sym same) ∙ waits.1.2,
            let r : h ≡ woken_agent g = cc in r,
          ),
        )

-- who waits waited
waited : (agents agents' : List Agent) (ws : List ℕ) (b : ℕ) (q : Place) (u : ℕ)
    → AreWoken ws agents agents' → WaitsAt agents' b q u → WaitsAt agents b q u
waited agents agents' ws b q u woken w =
    grind (arith, common_steps, is_among, slice_get, woken, option_map, woken_if, woken_agent)

-- who isn't woken still waits
waits_still : (agents agents' : List Agent) (ws : List ℕ) (b : ℕ) (q : Place) (u : ℕ)
    → AreWoken ws agents agents' → is_among ws b ≡ false → WaitsAt agents b q u → WaitsAt agents' b q u
waits_still agents agents' ws b q u woken other w = (w.0, woken b ∙ (rw (other, w.1) refl), w.2)

-- ---- the line without the first at a place

-- an agent stands in the line once
stands_once : (agents : List Agent) (low : ℕ) (w : Waiter) (line : List Waiter)
    → IsSeated agents low (w ∷ line) → stands_in w.agent line ≡ false
stands_once agents low w line s = go (stands_in w.agent line) refl
  where
    go : (b : Bool) → stands_in w.agent line ≡ b → b ≡ false
    go true e = absurd (let later =
        seated_ticket agents (suc s.0) line w.agent w.place s.0 s.3 s.2 e in omega (arith, later))
    go false e = refl

-- who doesn't stand in the line isn't among its first at a place
not_among : (n : ℕ) (p : Place) (line : List Waiter) (b : ℕ)
    → stands_in b line ≡ false → is_among (take n (waiters p line)) b ≡ false
not_among zero p line b e = refl
not_among (suc n) p [] b e = refl
not_among (suc n) p (w ∷ line) b e =
    grind (
      arith,
      common_steps,
      is_at,
      stands_in,
      is_among,
      take,
      waiters,
      map,
      cond,
      filter,
      true≢false,
      not_among n p
          line b,
      not_among (suc n) p line b,
    )

-- who stands in the line without the first n at a place
stands_without_first : (agents : List Agent) (low n : ℕ) (p : Place) (line : List Waiter) (b : ℕ)
    → IsSeated agents low line
    → stands_in b (without_first n p line) ≡ (stands_in b line && not (is_among (take n (waiters p line)) b))
stands_without_first agents low n p [] b s = refl
stands_without_first agents low zero p (w ∷ line) b s = sym (and-true (stands_in b (w ∷ line)))
stands_without_first agents low (suc n) p (w ∷ line) b s =
    go (stands_without_first agents (suc s.0) n p line b s.3)
    (stands_without_first agents (suc s.0) (suc n) p line b s.3) (w.agent == b) refl (is_at p w)
  where
    alone : (w.agent == b) ≡ true → stands_in b line ≡ false
    alone own = subst (λ k. stands_in k line ≡ false) (eqb-true w.agent b own) (stands_once agents low w line s)

    go : stands_in b (without_first n p line) ≡ (stands_in b line && not (is_among (take n (waiters p line)) b))
        → stands_in b (without_first (suc n) p line) ≡
        (stands_in b line && not (is_among (take (suc n) (waiters p line)) b))
        → (c : Bool) → (w.agent == b) ≡ c → (d : Bool)
        → stands_in b (cond d (without_first n p line) (w ∷ without_first (suc n) p line))
        ≡ ((c || stands_in b line) && not (is_among (take
        (suc n) (map (λ (v : Waiter). v.agent) (cond d (w ∷ filter (is_at p) line) (filter (is_at p) line)))) b))
    go one two true own true = rw (one, own, alone own) refl
    go one two false own true = rw own one
    go one two true own false = rw (own, not_among (suc n) p line b (alone own)) refl
    go one two false own false = rw own two

seated_without_first : (agents : List Agent) (low n : ℕ) (p : Place) (line : List Waiter)
    → IsSeated agents low line → IsSeated agents low (without_first n p line)
seated_without_first agents low n p [] s = tt
seated_without_first agents low zero p (w ∷ line) s = s
seated_without_first agents low (suc n) p (w ∷ line) s =
    grind (
      arith,
      common_steps,
      is_at,
      without_first,
      cond,
      seated_lower,
      seated_without_first agents (suc s.0) n p
          line s.3,
      seated_without_first agents (suc s.0) (suc n) p line s.3,
    )

-- the line stays where those who stand in it still wait
seated_still : (agents agents' : List Agent) (low : ℕ) (line : List Waiter) → IsSeated agents low line
    → ((b : ℕ) (q : Place) (u : ℕ) → stands_in b line ≡ true → WaitsAt agents b q u → WaitsAt agents' b q u)
    → IsSeated agents' low line
seated_still agents agents' low [] s still = tt
seated_still agents agents' low (w ∷ line) s still =
    let own : (w.agent == w.agent) ≡ true = eq-eqb w.agent w.agent refl in (
      s.0,
      s.1,
      still w.agent w.place s.0 (rw own refl) s.2,
      seated_still agents agents'
          (suc s.0) line s.3 (λ b q u stands. still b q u (rw (stands, or-true (w.agent == b)) refl)),
    )

-- ---- the object when some are woken

-- the agents as they are then represent the object as it is then
pub woken_represents : {m : MachineParts} {S : State} {p : Place} {count : Option ℤ} {n : ℕ} {agents : List Agent}
    (stood : Represents m S) → Wakes m.agents p count n agents
    → (n ≡ woken_count count (length (waiters p S.line))) × Represents (record m { agents = agents }) (woken n p S)
woken_represents {m} {S} {p} {count} {n} {agents} stood wakes = (
  rw same wakes.many,
  record {
    mem_is = stood.mem_is;
    notified_is = λ b. rw (are_woken b, (changes b).0, stood.notified_is b) refl;
    stands_is = λ b. rw (stands b, are_woken b, (changes b).1, ← stood.stands_is b) refl;
    seated = seated_still m.agents agents 0 (without_first n p S.line)
        (seated_without_first m.agents 0 n p S.line stood.seated)
        (λ b q u there w. waits_still m.agents agents first b q u are_woken (left b there) w);
    tickets = λ b q u w. stood.tickets b q u (waited m.agents agents first b q u are_woken w);
  },
)
  where
    same : waiters p S.line ≡ wakes.line
    same = line_is m.agents 0 S.line p wakes.line stood.seated (all_stand m S stood) wakes.is_line

    is_line : IsLine m.agents p (waiters p S.line)
    is_line = subst (IsLine m.agents p) (sym same) wakes.is_line

    first : List ℕ
    first = take n (waiters p S.line)

    are_woken : AreWoken first m.agents agents
    are_woken = subst (λ ws. AreWoken (take n ws) m.agents agents) (sym same) wakes.woken

    stands : (b : ℕ) → stands_in b (without_first n p S.line) ≡ (stands_in b S.line && not (is_among first b))
    stands b = stands_without_first m.agents 0 n p S.line b stood.seated

    changes : (b : ℕ) → IsChanged (slice_get m.agents b) (is_among first b)
    changes b = woken_option (slice_get m.agents b) (is_among first b) (λ there.
        let waits = line_waits m.agents p 0 n (waiters p S.line) b is_line there in
        rw (waits.1.1, waits.1.2) refl)

    left : (b : ℕ) → stands_in b (without_first n p S.line) ≡ true → is_among first b ≡ false
    left b there = go (is_among first b) (sym (stands b) ∙ there)
      where
        go : (c : Bool) → (stands_in b S.line && not c) ≡ true → c ≡ false
        go true e = absurd (false≢true (sym (and-false (stands_in b S.line)) ∙ e))
        go false e = refl
