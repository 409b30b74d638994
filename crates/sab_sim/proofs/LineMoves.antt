-- Moves into the line and out of it.
use Rattle.std.proofs.Common.{◌≡◌, ◌≢◌, ℕ, zero, suc, ◌<◌, ◌≤◌, ◌==◌, ◌&&◌, ◌||◌, not, Bool, true, false, cond, List, [], ◌∷◌, ◌++◌, set, slice_get, Some, None, refl, ap, sym, ◌∙◌, subst, arith}
use Rattle.std.proofs.lemmas.Grind.{common_steps}
use Rattle.std.specs.Prelude.{Contains, filter}
use Rattle.std.proofs.Math.Bool.{or-false, or-true, and-false, and-true}
use Rattle.std.proofs.lemmas.Option.{slice_get_within}
use Rattle.std.proofs.lemmas.Bool.{ne_eqb, eq-eqb, eqb-true, false≢true}
use Rattle.std.proofs.lemmas.List.Folds.{list_any-append}
use Rattle.sab_plan.specs.declared.place.Place.{Place}
use Rattle.sab_plan.specs.declared.plan_view.PlanView.{PlanView}
use Rattle.sab_plan.specs.declared.call.Call.{Call}
use Rattle.sab_plan.specs.declared.call.Call.TheVariants as C
use Rattle.sab_plan.specs.declared.answer.Answer.TheVariants as A
use Rattle.sab_plan.specs.declared.entry.What.TheVariants.{Enlisted, Left}
use Rattle.sab_sim.specs.declared.agent.Agent.{Agent}
use Rattle.sab_sim.specs.declared.agent.Phase.{Phase}
use Rattle.sab_sim.specs.declared.agent.Phase.TheVariants as P
use Rattle.sab_plan.specs.Call.{view_of}
use Rattle.sab_plan.specs.Place.{same_place}
use Rattle.sab_plan.specs.Plan.{PlanParts, calls_of, call_of, is_timed}
use Rattle.sab_plan.specs.declared.waiter.Waiter.{Waiter}
use Rattle.sab_object.specs.Object.{State, stands, is_at, joined, taken_off, departed, Does, DoesCall}
use Rattle.sab_sim.specs.Agent.{agent_at, waiting_phase, woken_phase, WaitsOn, HasCall, IsAtCall, IsInLine}
use Rattle.sab_sim.specs.Line.{WaitsAt}
use Rattle.sab_sim.specs.Machine.{MachineParts, with_phase, enlisted, IsSeated, Represents}
use Rattle.sab_sim.specs.Turn.{Turns, entry_of}
use Rattle.sab_sim.proofs.ChangedLists.{slice_get-set, slice_get-set_other}
use Rattle.sab_sim.proofs.SeatedLine.{same_place-same, free_waits, one_ticket, stands_in, without, seated_without, stands_without_own, stands_without}
use Rattle.sab_sim.proofs.OwnMoves.{HasTurn, DiffersAt, stands_set, free_ticket, seated_set, own_turn, does_call, its_stands}

-- ---- joining the line

-- the line with one more at its end
seated_push : (agents : List Agent) (low ticket a : ℕ) (p : Place) (line : List Waiter) → IsSeated agents low line
    → ((w : Waiter) (t : ℕ) → WaitsAt agents w.agent w.place t → Contains line w → t < ticket)
    → low ≤ ticket → WaitsAt agents a p ticket
    → IsSeated agents low (line ++ record { place = p; agent = a } ∷ [])
seated_push agents low ticket a p [] s below h waits = (ticket, h, waits, tt)
seated_push agents low ticket a p (w ∷ line) s below h waits =
    let t_lt : s.0 < ticket = below w s.0 s.2 (0, (omega arith), refl) in (
      s.0,
      s.1,
      s.2,
      seated_push agents (suc s.0) ticket a p line s.3
          (λ v t vs there. below v t vs (suc there.0, (omega (arith, there.1)), there.2)) (omega (arith, t_lt)) waits,
    )

-- who stands in the line waits
seated_waits : (agents : List Agent) (low : ℕ) (line : List Waiter) (w : Waiter) → IsSeated agents low line
    → Contains line w → (t : ℕ) × WaitsAt agents w.agent w.place t
seated_waits agents low [] w s there = absurd (omega (arith, there.1))
seated_waits agents low (v ∷ line) w s (zero, lt, e) =
    (s.0, subst (λ (x : Waiter). WaitsAt agents x.agent x.place s.0) e s.2)
seated_waits agents low (v ∷ line) w s (suc k, lt, e) =
    seated_waits agents (suc s.0) line w s.3 (k, omega (arith, lt), e)

-- a wait joins the line
pub enlisted_turn : {plan : PlanParts} {m : MachineParts} {a : ℕ} (turn : HasTurn plan m a) (call : Call) (p : Place)
    → (agent_at m.agents a).phase ≡ P.Begun → call_of plan a (agent_at m.agents a).returned ≡ Some call
    → WaitsOn plan p call
    → ((S : State) → S.mem ≡ m.blocks → Does plan S (entry_of m a Enlisted) (joined p a S))
    → Turns plan m (entry_of m a Enlisted) (enlisted m a p)
enlisted_turn {plan} {m} {a} turn call p begun call_is waits does =
    own_turn turn Enlisted h m.blocks refl (begun, (p, m.next_ticket, refl)) (call, call_is, waits)
    (λ S stood. (joined p a S, record { acts = does S stood.mem_is; justified = tt }, stands_after S stood))
  where
    g : Agent
    g = agent_at m.agents a

    h : Agent
    h = record { returned = g.returned; phase = P.Waiting p m.next_ticket }

    agents : List Agent
    agents = set m.agents a h

    free : waiting_phase g.phase ≡ false
    free = ap waiting_phase begun

    here : slice_get agents a ≡ Some h
    here = slice_get-set m.agents a h (slice_get_within m.agents a g turn.agent_is)

    stands_after : (S : State) → Represents m S → Represents (enlisted m a p) (joined p a S)
    stands_after S stood =
        stands_set stood turn.agent_is h (suc m.next_ticket) (joined p a S) stood.mem_is differs seated (omega arith)
        (λ q t waits. let same : t ≡ m.next_ticket = cc in omega (arith, same))
      where
        newest : Waiter
        newest = record { place = p; agent = a }

        -- each agent that stands in the line has an earlier ticket
        earlier : (w : Waiter) (t : ℕ) → WaitsAt agents w.agent w.place t → Contains S.line w → t < m.next_ticket
        earlier w t waiting there =
            let old = seated_waits m.agents 0 S.line w stood.seated there in
            let other : w.agent ≢ a = λ e. free_waits m.agents a g w.place old.0 turn.agent_is free
            (subst (λ n. WaitsAt m.agents n w.place old.0) e old.1) in
            stood.tickets w.agent w.place t
            (waiting.0, sym (slice_get-set_other m.agents a w.agent h other) ∙ waiting.1, waiting.2)

        seated : IsSeated agents 0 (S.line ++ newest ∷ [])
        seated = seated_push agents 0 m.next_ticket a p S.line
            (seated_set m.agents a g h 0 S.line turn.agent_is free stood.seated) earlier (omega arith) (h, here, refl)

        stands_more : (b : ℕ) (c : Bool) → (a == b) ≡ c → stands (joined p a S) b ≡ (stands S b || c)
        stands_more b c e = list_any-append (λ (w : Waiter). w.agent == b) S.line (newest ∷ [])
            ∙ (rw (e, or-false c) refl)

        differs : DiffersAt a h.phase S (joined p a S)
        differs = record {
          own_notified = stood.notified_is a ∙ (rw turn.agent_is (ap woken_phase begun));
          other_notified = λ b n. refl;
          own_stands = stands_more a true (eq-eqb a a refl) ∙ or-true (stands S a);
          other_stands = λ b n. stands_more b false (ne_eqb a b (λ r. n (sym r))) ∙ or-false (stands S b);
        }

-- ---- leaving the line

-- an agent that waits stands at its own place only, so the pair of both is all that there is of it
taken_off-without : (agents : List Agent) (low a : ℕ) (p : Place) (t : ℕ) (line : List Waiter)
    → IsSeated agents low line → WaitsAt agents a p t
    → filter (λ (w : Waiter). not (is_at p w && (w.agent == a))) line ≡ without a line
taken_off-without agents low a p t [] s waits = refl
taken_off-without agents low a p t (w ∷ line) s waits =
    grind (
      arith,
      common_steps,
      filter,
      not,
      is_at,
      without,
      cond,
      one_ticket,
      eqb-true,
      same_place,
      same_place-same,
      and-false,
      taken_off-without agents (suc s.0) a p t line s.3 waits,
    )

-- who waits, and stands in the line, stands there at its place
stands_at : (agents : List Agent) (low a : ℕ) (p : Place) (t : ℕ) (line : List Waiter) → IsSeated agents low line
    → WaitsAt agents a p t → stands_in a line ≡ true → Contains line (record { place = p; agent = a })
stands_at agents low a p t [] s waits e = absurd (false≢true e)
stands_at agents low a p t (w ∷ line) s waits e =
    go (stands_at agents (suc s.0) a p t line s.3 waits) (w.agent == a) refl e
  where
    go : (stands_in a line ≡ true → Contains line (record { place = p; agent = a })) → (b : Bool)
        → (w.agent == a) ≡ b → (b || stands_in a line) ≡ true → Contains (w ∷ line) (record { place = p; agent = a })
    go rest true f e' =
        let own : w.agent ≡ a = eqb-true w.agent a f in
        let places = one_ticket agents a w.place s.0 p t (subst (λ n. WaitsAt agents n w.place s.0) own s.2) waits in (
          0,
          omega arith,
          ap (λ (q : Place). record { place = q; agent = w.agent }) places.0
              ∙ ap (λ (n : ℕ). record { place = p; agent = n }) own,
        )
    go rest false f e' = let there = rest e' in (suc there.0, omega (arith, there.1), there.2)

-- the timeout of a wait is one of the object's
timed_does : (plan : PlanParts) (can_block : Bool) (a : ℕ) (p : Place) (call : Call) (S : State)
    → WaitsOn plan p call → is_timed (Some call) ≡ true → Contains S.line (record { place = p; agent = a })
    → (v : PlanView) × (slice_get plan.views (view_of call) ≡ Some v)
    × DoesCall can_block a v call S (Left A.TimedOut) (taken_off p a S)
timed_does plan can_block a p (C.Wait n index x (Some timeout)) S waits timed there =
    (waits.0, waits.1, (p, waits.2, there, refl))
timed_does plan can_block a p (C.Wait n index x None) S waits timed there = absurd (false≢true timed)
timed_does plan can_block a p (C.Access n access) S waits timed there = absurd waits
timed_does plan can_block a p (C.Notify n index count) S waits timed there = absurd waits

-- a phase of waiting has a place and a ticket
pub waiting_is : (phase : Phase) → waiting_phase phase ≡ true → (p : Place) × (t : ℕ) × (phase ≡ P.Waiting p t)
waiting_is (P.Waiting p t) e = (p, t, refl)
waiting_is P.Ready e = absurd (false≢true e)
waiting_is P.Begun e = absurd (false≢true e)
waiting_is P.Woken e = absurd (false≢true e)
waiting_is (P.Answered x) e = absurd (false≢true e)

-- a wait ends by its timeout
pub timed_turn : {plan : PlanParts} {m : MachineParts} {a : ℕ} (turn : HasTurn plan m a) (p : Place) (t : ℕ)
    → (agent_at m.agents a).phase ≡ P.Waiting p t → is_timed (call_of plan a (agent_at m.agents a).returned) ≡ true
    → Turns plan m (entry_of m a (Left A.TimedOut)) (with_phase m a (P.Answered A.TimedOut))
timed_turn {plan} {m} {a} turn p t waits timed =
    own_turn turn (Left A.TimedOut) h m.blocks refl (subst IsInLine (sym waits) tt, refl) (has.0, has.1, tt)
    (λ S stood.
    let there = stands_at m.agents 0 a p t S.line stood.seated its_wait
    (its_stands turn true (ap waiting_phase waits) S stood) in
    let does = timed_does plan turn.script.can_block a p has.0 S has.2 timed' there in
    let acts = does_call turn has.0 does.0 (Left A.TimedOut) S (taken_off p a S) has.1 does.1 does.2 in
    (taken_off p a S, record { acts = acts; justified = tt }, stands_after S stood))
  where
    g : Agent
    g = agent_at m.agents a

    h : Agent
    h = record { returned = g.returned; phase = P.Answered A.TimedOut }

    its_wait : WaitsAt m.agents a p t
    its_wait = (g, turn.agent_is, waits)

    has : HasCall plan (calls_of plan a) g.returned (P.Waiting p t)
    has = subst (IsAtCall plan (calls_of plan a) g.returned) waits turn.at_call

    timed' : is_timed (Some has.0) ≡ true
    timed' = rw has.1 at timed

    stands_after : (S : State) → Represents m S → Represents (record m { agents = set m.agents a h }) (taken_off p a S)
    stands_after S stood =
        stands_set stood turn.agent_is h m.next_ticket (taken_off p a S) stood.mem_is differs
        (subst (IsSeated (set m.agents a h) 0) (sym line_is) (seated_without m.agents a h 0 S.line stood.seated))
        (omega arith)
        (λ q u answered. free_ticket h.phase q u m.next_ticket refl answered)
      where
        line_is : (taken_off p a S).line ≡ without a S.line
        line_is = taken_off-without m.agents 0 a p t S.line stood.seated its_wait

        differs : DiffersAt a h.phase S (taken_off p a S)
        differs = record {
          own_notified = stood.notified_is a ∙ (rw turn.agent_is (ap woken_phase waits));
          other_notified = λ b n. refl;
          own_stands = rw line_is (stands_without_own a S.line);
          other_stands = λ b n. rw line_is (stands_without a b S.line n);
        }

-- ---- those who were woken

-- the leaving of a woken wait is one of the object's
departed_does : (plan : PlanParts) (can_block : Bool) (a : ℕ) (p : Place) (call : Call) (S : State)
    → WaitsOn plan p call → S.notified a ≡ true
    → (v : PlanView) × (slice_get plan.views (view_of call) ≡ Some v)
    × DoesCall can_block a v call S (Left A.Woken) (departed a S)
departed_does plan can_block a p (C.Wait n index x timeout) S waits notified = (waits.0, waits.1, (notified, refl))
departed_does plan can_block a p (C.Access n access) S waits notified = absurd waits
departed_does plan can_block a p (C.Notify n index count) S waits notified = absurd waits

-- a woken agent leaves its wait
pub woken_turn : {plan : PlanParts} {m : MachineParts} {a : ℕ} (turn : HasTurn plan m a)
    → (agent_at m.agents a).phase ≡ P.Woken
    → Turns plan m (entry_of m a (Left A.Woken)) (with_phase m a (P.Answered A.Woken))
woken_turn {plan} {m} {a} turn phase_is =
    own_turn turn (Left A.Woken) h m.blocks refl (subst IsInLine (sym phase_is) tt, refl) (has.0, has.1, tt)
    (λ S stood.
    let notified_now : S.notified a ≡ true = stood.notified_is a ∙ (rw turn.agent_is (ap woken_phase phase_is)) in
    let does = departed_does plan turn.script.can_block a has.2.0 has.0 S has.2.1 notified_now in
    let acts = does_call turn has.0 does.0 (Left A.Woken) S (departed a S) has.1 does.1 does.2 in
    (departed a S, record { acts = acts; justified = tt }, stands_after S stood))
  where
    g : Agent
    g = agent_at m.agents a

    h : Agent
    h = record { returned = g.returned; phase = P.Answered A.Woken }

    has : HasCall plan (calls_of plan a) g.returned P.Woken
    has = subst (IsAtCall plan (calls_of plan a) g.returned) phase_is turn.at_call

    stands_after : (S : State) → Represents m S → Represents (record m { agents = set m.agents a h }) (departed a S)
    stands_after S stood =
        stands_set stood turn.agent_is h m.next_ticket (departed a S) stood.mem_is differs
        (seated_set m.agents a g h 0 S.line turn.agent_is (ap waiting_phase phase_is) stood.seated) (omega arith)
        (λ q u answered. free_ticket h.phase q u m.next_ticket refl answered)
      where
        own : (a == a) ≡ true
        own = eq-eqb a a refl

        other : (b : ℕ) → b ≢ a → (b == a) ≡ false
        other b n = ne_eqb b a n

        differs : DiffersAt a h.phase S (departed a S)
        differs = record {
          own_notified = rw (own, and-false (S.notified a)) refl;
          other_notified = λ b n. rw (other b n, and-true (S.notified b)) refl;
          own_stands = its_stands turn false (ap waiting_phase phase_is) S stood;
          other_stands = λ b n. refl;
        }
