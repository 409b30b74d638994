-- The acts of calls that have begun.
use Rattle.std.proofs.Common.{◌≡◌, inl, inr, ℕ, ℤ, ◌<◌, Bool, List, length, map, set, slice_get, slice_set, Option, Some, None, Ok, Err, refl, ap, sym, ◌∙◌, subst, arith}
use Rattle.std.proofs.lemmas.Grind.{common_steps}
use Rattle.std.specs.Prelude.{option_map}
use Rattle.std.proofs.Math.ListN.{length-set}
use Rattle.std.proofs.lemmas.Option.{slice_get-get_or, slice_get_within}
use Rattle.sab_block.specs.declared.thrown.Thrown.{Thrown}
use Rattle.sab_block.specs.declared.access.Access.{Access}
use Rattle.sab_block.specs.declared.operand.Operand.{Operand}
use Rattle.sab_plan.specs.declared.place.Place.{Place}
use Rattle.sab_plan.specs.declared.plan_view.PlanView.{PlanView}
use Rattle.sab_plan.specs.declared.call.Call.{Call}
use Rattle.sab_plan.specs.declared.call.Call.TheVariants as C
use Rattle.sab_plan.specs.declared.answer.Answer.{Answer}
use Rattle.sab_plan.specs.declared.answer.Answer.TheVariants as A
use Rattle.sab_plan.specs.declared.entry.What.{What}
use Rattle.sab_plan.specs.declared.entry.What.TheVariants.{Acted, Enlisted}
use Rattle.sab_sim.specs.declared.agent.Agent.{Agent}
use Rattle.sab_sim.specs.declared.agent.Phase.TheVariants as P
use Rattle.sab_plan.specs.Call.{view_of}
use Rattle.sab_plan.specs.Script.{ScriptParts}
use Rattle.sab_plan.specs.Plan.{PlanParts, calls_of, call_of}
use Rattle.sab_object.specs.Object.{State, DoesCall, Does, bytes_of, joined, woken}
use Rattle.sab_sim.specs.Agent.{newcomer, agent_at, Advances, IsLike, IsAtCall}
use Rattle.sab_sim.specs.Machine.{MachineParts, with_phase, enlisted, IsReady, IsBegun}
use Rattle.sab_sim.specs.Line.{Wakes}
use Rattle.sab_object.specs.Finding.{AnswersAccess, FindsWait, FindsNotify}
use Rattle.sab_sim.specs.Turn.{Turns, entry_of}
use Rattle.sab_sim.proofs.ChangedLists.{slice_get-set, slice_get-set_other}
use Rattle.sab_sim.proofs.SeatedLine.{some_one}
use Rattle.sab_sim.proofs.OwnMoves.{HasTurn, has_turn, does_call, IsFree, begun_free, answered_free, stands_still, acted_turn}
use Rattle.sab_sim.proofs.LineMoves.{enlisted_turn}
use Rattle.sab_sim.proofs.WokenLine.{woken_like, woken_represents}

-- an agent is to make the act of this call on this view
pub record IsActing (plan : PlanParts) (m : MachineParts) (a : ℕ) (call : Call) (v : PlanView) : Type 0 where
  pub turn : HasTurn plan m a
  pub begun : IsBegun m a
  pub call_is : call_of plan a (agent_at m.agents a).returned ≡ Some call
  pub view_is : slice_get plan.views (view_of call) ≡ Some v

-- as the code finds it
pub is_acting : {plan : PlanParts} {m : MachineParts} {a : ℕ} {g : Agent} {o : Option Call} {call : Call} {v : PlanView}
    → IsReady plan m a → IsBegun m a → g ≡ agent_at m.agents a → o ≡ call_of plan a g.returned → o ≡ Some call
    → slice_get plan.views (view_of call) ≡ Some v → IsActing plan m a call v
is_acting {plan} {m} {a} {g} {o} {call} {v} ready begun same o_is is view_is = record {
  turn = has_turn plan m a ready;
  begun = begun;
  call_is = ap (λ (h : Agent). call_of plan a h.returned) (sym same) ∙ (sym o_is ∙ is);
  view_is = view_is;
}

-- what the act of its call does, is one of the object
its_act : {plan : PlanParts} {m : MachineParts} {a : ℕ} {call : Call} {v : PlanView} (acting : IsActing plan m a call v)
    (what : What) (S T : State) → DoesCall acting.turn.script.can_block a v call S what T
    → Does plan S (entry_of m a what) T
its_act {plan} {m} {a} {call} {v} acting what S T does =
    does_call acting.turn call v what S T acting.call_is acting.view_is does

-- a call returns, and the object stays
answered_turn : {plan : PlanParts} {m : MachineParts} {a : ℕ} {call : Call} {v : PlanView}
    (acting : IsActing plan m a call v) (x : Answer)
    → ((S : State) → S.mem ≡ m.blocks → DoesCall acting.turn.script.can_block a v call S (Acted x) S)
    → Turns plan m (entry_of m a (Acted x)) (with_phase m a (P.Answered x))
answered_turn {plan} {m} {a} {call} {v} acting x does =
    acted_turn acting.turn call x m.blocks refl acting.begun acting.call_is (λ S e.
    subst (λ (blocks : List (List ℕ)). Does plan S (entry_of m a (Acted x)) (record S { mem = blocks })) e
    (its_act acting (Acted x) S S (does S e)))

-- ---- accesses

-- what an access returns is what its act does
access_does : (can_block : Bool) (a : ℕ) (v : PlanView) (n : ℕ) (access : Access) (x : Answer)
    (mem mem' : List (List ℕ)) (S : State) → S.mem ≡ mem → AnswersAccess v access mem x mem'
    → DoesCall can_block a v (C.Access n access) S (Acted x) (record S { mem = mem' })
access_does can_block a v n access (A.Value x) mem mem' S e h = grind (arith, common_steps, bytes_of, slice_set)
access_does can_block a v n access (A.Threw t) mem mem' S e h =
    (h.0, ap (λ (m : List (List ℕ)). record S { mem = m }) (h.1 ∙ sym e))
access_does can_block a v n access A.Woken mem mem' S e h = absurd h
access_does can_block a v n access A.NotEqual mem mem' S e h = absurd h
access_does can_block a v n access A.TimedOut mem mem' S e h = absurd h
access_does can_block a v n access (A.Count k) mem mem' S e h = absurd h

access_turn : {plan : PlanParts} {m : MachineParts} {a n : ℕ} {access : Access} {v : PlanView}
    (acting : IsActing plan m a (C.Access n access) v) (x : Answer) (blocks : List (List ℕ))
    → map length blocks ≡ map length m.blocks → AnswersAccess v access m.blocks x blocks
    → Turns plan m (entry_of m a (Acted x)) (with_phase (record m { blocks = blocks }) a (P.Answered x))
access_turn {plan} {m} {a} {n} {access} {v} acting x blocks lens answers =
    acted_turn acting.turn (C.Access n access) x blocks lens acting.begun acting.call_is (λ S e.
    its_act acting (Acted x) S (record S { mem = blocks })
    (access_does acting.turn.script.can_block a v n access x m.blocks blocks S e answers))

-- the same, where the code passes the bytes of the machine's fields, and puts them back
pub access_made : {plan : PlanParts} {m : MachineParts} {a n : ℕ} {access : Access} {v : PlanView}
    (acting : IsActing plan m a (C.Access n access) v) (x : Answer) (fields : MachineParts)
    (mem blocks back : List (List ℕ))
    → fields ≡ m → mem ≡ fields.blocks → back ≡ blocks → map length blocks ≡ map length mem
    → AnswersAccess v access mem x blocks
    → Turns plan m (entry_of m a (Acted x)) (with_phase (record fields { blocks = back }) a (P.Answered x))
access_made {plan} {m} {a} {n} {access} {v} acting x fields mem blocks back same mem_is back_is lens answers =
    let mem_of : mem ≡ m.blocks = mem_is ∙ ap (λ (k : MachineParts). k.blocks) same in
    let lens' = ap (map (length {A = ℕ})) back_is ∙ (lens ∙ ap (map (length {A = ℕ})) mem_of) in
    let answers' = subst (λ ms. AnswersAccess v access m.blocks x ms) (sym back_is)
    (subst (λ ms. AnswersAccess v access ms x blocks) mem_of answers) in
    subst (λ (k : MachineParts). Turns plan m (entry_of m a (Acted x))
    (with_phase (record k { blocks = back }) a (P.Answered x)))
    (sym same) (access_turn acting x back lens' answers')

-- ---- waits

-- whether an agent can block
abbrev pub CanBlock : PlanParts → ℕ → Bool → Type 0
CanBlock plan a b = option_map (λ (s : ScriptParts). s.can_block) (slice_get plan.scripts a) ≡ Some b

its_block : {plan : PlanParts} {m : MachineParts} {a : ℕ} (turn : HasTurn plan m a) (b : Bool) → CanBlock plan a b
    → turn.script.can_block ≡ b
its_block turn b e = let f = rw turn.script_is at e in cc

pub wait_threw : {plan : PlanParts} {m : MachineParts} {a n : ℕ} {index : ℤ} {x : Operand} {timeout : Option ℤ}
    {v : PlanView}
    (acting : IsActing plan m a (C.Wait n index x timeout) v) (b : Bool) (t : Thrown)
    → CanBlock plan a b → FindsWait b v index x m.blocks (Err t)
    → Turns plan m (entry_of m a (Acted (A.Threw t))) (with_phase m a (P.Answered (A.Threw t)))
wait_threw acting b t b_is found =
    answered_turn acting (A.Threw t) (λ S e. (rw (its_block acting.turn b b_is) found, refl))

pub wait_differs : {plan : PlanParts} {m : MachineParts} {a n : ℕ} {index : ℤ} {x : Operand} {timeout : Option ℤ}
    {v : PlanView}
    (acting : IsActing plan m a (C.Wait n index x timeout) v) (b : Bool)
    → CanBlock plan a b → FindsWait b v index x m.blocks (Ok None)
    → Turns plan m (entry_of m a (Acted A.NotEqual)) (with_phase m a (P.Answered A.NotEqual))
wait_differs acting b b_is found = answered_turn acting A.NotEqual (λ S e. (
  rw (its_block acting.turn b b_is) found.0,
  (found.1.0, found.1.1, rw e found.1.2, refl),
))

pub wait_joins : {plan : PlanParts} {m : MachineParts} {a n : ℕ} {index : ℤ} {x : Operand} {timeout : Option ℤ}
    {v : PlanView}
    (acting : IsActing plan m a (C.Wait n index x timeout) v) (b : Bool) (p : Place)
    → CanBlock plan a b → FindsWait b v index x m.blocks (Ok (Some p))
    → Turns plan m (entry_of m a Enlisted) (enlisted m a p)
wait_joins {plan} {m} {a} {n} {index} {x} {timeout} {v} acting b p b_is found =
    enlisted_turn acting.turn (C.Wait n index x timeout) p acting.begun acting.call_is (v, acting.view_is, found.1)
    (λ S e.
    its_act acting Enlisted S (joined p a S)
    (rw (its_block acting.turn b b_is) found.0, (p, found.1, rw e found.2, refl)))

-- ---- notifies

pub notify_threw : {plan : PlanParts} {m : MachineParts} {a n : ℕ} {index : ℤ} {count : Option ℤ} {v : PlanView}
    (acting : IsActing plan m a (C.Notify n index count) v) (t : Thrown)
    → FindsNotify v index (Err t)
    → Turns plan m (entry_of m a (Acted (A.Threw t))) (with_phase m a (P.Answered (A.Threw t)))
notify_threw acting t found = answered_turn acting (A.Threw t) (λ S e. (found, refl))

-- an agent that has begun its call isn't woken
begun_still : (g h : Agent) → g.phase ≡ P.Begun → IsLike g h → h ≡ g
begun_still g h begun (inl same) = same
begun_still g h begun (inr w) = absurd (let e : P.Begun ≡ P.Waiting w.0 w.1 = sym begun ∙ w.2 in cc)

-- a notify wakes, and has its answer
notify_wakes : {plan : PlanParts} {m : MachineParts} {a n : ℕ} {index : ℤ} {count : Option ℤ} {v : PlanView}
    (acting : IsActing plan m a (C.Notify n index count) v) (p : Place) (k : ℕ) (agents : List Agent)
    → FindsNotify v index (Ok p) → length agents ≡ length m.agents → Wakes m.agents p count k agents
    → Turns plan m (entry_of m a (Acted (A.Count k)))
    (with_phase (record m { agents = agents }) a (P.Answered (A.Count k)))
notify_wakes {plan} {m} {a} {n} {index} {count} {v} acting p k agents found size wakes = record {
  call = λ g' g_is. ap (λ (j : Agent). j.returned) (mine g' g_is);
  own = λ g' h' g_is h_is.
      let hs : after ≡ h' = some_one (set agents a after) a after h' (slice_get-set agents a after within) h_is in (
        subst (λ (j : Agent). Advances g' (Acted (A.Count k)) j) hs
            (subst (λ (j : Agent). Advances j (Acted (A.Count k)) after) (mine g' g_is) (acting.begun, after_is)),
        subst (λ (j : Agent). IsAtCall plan (calls_of plan a) j.returned j.phase) (sym after_is ∙ hs)
            (C.Notify n index count, acting.call_is, tt),
      );
  others = λ b h' other h_is. alike b h' (sym (slice_get-set_other agents a b after other) ∙ h_is);
  object = λ S stood.
      let w = woken_represents stood wakes in
      let acts = its_act acting (Acted (A.Count k)) S (woken k p S) (found.0, (p, found.1, w.0, refl)) in
      let free = subst IsFree (sym acting.begun) begun_free in (
        woken k p S,
        record { acts = acts; justified = tt },
        stands_still a w.1 still free after (answered_free (A.Count k)),
      );
  size = length-set agents a after ∙ size;
  lens = refl;
  ticket = refl;
}
  where
    g : Agent
    g = agent_at m.agents a

    mine : (g' : Agent) → slice_get m.agents a ≡ Some g' → g ≡ g'
    mine g' g_is = some_one m.agents a g g' acting.turn.agent_is g_is

    alike : (b : ℕ) (h : Agent) → slice_get agents b ≡ Some h → (j : Agent) × (slice_get m.agents b ≡ Some j)
        × IsLike j h
    alike = woken_like m.agents agents p k wakes.line wakes.is_line wakes.woken

    within : a < length agents
    within = let own = slice_get_within m.agents a g acting.turn.agent_is in omega (arith, own, size)

    there : slice_get agents a ≡ Some (agent_at agents a)
    there = slice_get-get_or agents a newcomer within

    same : agent_at agents a ≡ g
    same =
        let old = alike a (agent_at agents a) there in
        let own : g ≡ old.0 = mine old.0 old.1 in
        begun_still old.0 (agent_at agents a) (subst (λ (j : Agent). j.phase ≡ P.Begun) own acting.begun) old.2
        ∙ sym own

    after : Agent
    after = record { returned = (agent_at agents a).returned; phase = P.Answered (A.Count k) }

    still : slice_get agents a ≡ Some g
    still = there ∙ ap (λ (j : Agent). Some j) same

    after_is : after ≡ record g { phase = P.Answered (A.Count k) }
    after_is = ap (λ (j : Agent). record { returned = j.returned; phase = P.Answered (A.Count k) }) same

-- the same, where the code passes the agents of the machine's fields, and puts them back
pub notify_made : {plan : PlanParts} {m : MachineParts} {a n : ℕ} {index : ℤ} {count : Option ℤ} {v : PlanView}
    (acting : IsActing plan m a (C.Notify n index count) v) (p : Place) (k : ℕ)
    (fields : MachineParts) (old agents back : List Agent)
    → FindsNotify v index (Ok p) → fields ≡ m → old ≡ fields.agents → back ≡ agents → length agents ≡ length old
    → Wakes old p count k agents
    → Turns plan m (entry_of m a (Acted (A.Count k)))
    (with_phase (record fields { agents = back }) a (P.Answered (A.Count k)))
notify_made {plan} {m} {a} {n} {index} {count}
    {v} acting p k fields old agents back found same old_is back_is size wakes =
    let old_of : old ≡ m.agents = old_is ∙ ap (λ (j : MachineParts). j.agents) same in
    let size' = ap (λ (gs : List Agent). length gs) back_is ∙ (size ∙ ap (λ (gs : List Agent). length gs) old_of) in
    let wakes' = subst (λ gs. Wakes m.agents p count k gs) (sym back_is)
    (subst (λ gs. Wakes gs p count k agents) old_of wakes) in
    subst (λ (j : MachineParts). Turns plan m (entry_of m a (Acted (A.Count k)))
    (with_phase (record j { agents = back }) a (P.Answered (A.Count k))))
    (sym same) (notify_wakes acting p k back found size' wakes')
