-- What a move does to an agent that isn't in the line.
use Rattle.std.proofs.Common.{◌≡◌, ◌≢◌, inl, inr, ℕ, suc, ◌<◌, ◌≤◌, Bool, true, false, List, [], ◌∷◌, length, map, set, slice_get, Option, Some, None, refl, ap, sym, ◌∙◌, subst, arith}
use Rattle.std.proofs.lemmas.Grind.{common_steps}
use Rattle.std.specs.Prelude.{is_some}
use Rattle.std.proofs.Math.ListN.{length-set}
use Rattle.std.proofs.lemmas.Option.{slice_get_within, slice_get-get_or, slice_get_cases}
use Rattle.std.proofs.lemmas.Bool.{cases_eq}
use Rattle.sab_plan.specs.declared.plan_view.PlanView.{PlanView}
use Rattle.sab_plan.specs.declared.call.Call.{Call}
use Rattle.sab_plan.specs.declared.answer.Answer.{Answer}
use Rattle.sab_plan.specs.declared.entry.Why.{Why}
use Rattle.sab_plan.specs.declared.entry.What.{What}
use Rattle.sab_plan.specs.declared.entry.What.TheVariants.{Began, Acted, Returned, Stuck}
use Rattle.sab_sim.specs.declared.agent.Agent.{Agent}
use Rattle.sab_sim.specs.declared.agent.Phase.{Phase}
use Rattle.sab_sim.specs.declared.agent.Phase.TheVariants as P
use Rattle.sab_plan.specs.declared.place.Place.{Place}
use Rattle.sab_plan.specs.Call.{view_of}
use Rattle.sab_plan.specs.Script.{ScriptParts}
use Rattle.sab_plan.specs.Plan.{PlanParts, calls_in, calls_of, call_of}
use Rattle.sab_plan.specs.declared.waiter.Waiter.{Waiter}
use Rattle.sab_object.specs.Object.{State, stands, Does, DoesCall}
use Rattle.sab_sim.specs.Run.{Justifies}
use Rattle.sab_sim.specs.Agent.{woken_phase, waiting_phase, is_woken, is_waiting, newcomer, agent_at, HasCall, IsAtCall, Advances}
use Rattle.sab_sim.specs.Line.{WaitsAt}
use Rattle.sab_sim.specs.Machine.{MachineParts, with_phase, IsReady, IsSeated, Represents}
use Rattle.sab_sim.specs.Turn.{ObjectGoes, Turns, ticket_after, entry_of}
use Rattle.sab_sim.proofs.ChangedLists.{slice_get-set, slice_get-set_other}
use Rattle.sab_sim.proofs.SeatedLine.{some_one, free_waits}

-- ---- whose turn it is

-- an agent has a script, and is at one of its calls or between them
pub record HasTurn (plan : PlanParts) (m : MachineParts) (a : ℕ) : Type 0 where
  pub agent_is : slice_get m.agents a ≡ Some (agent_at m.agents a)
  pub at_call : IsAtCall plan (calls_of plan a) (agent_at m.agents a).returned (agent_at m.agents a).phase
  pub script : ScriptParts
  pub script_is : slice_get plan.scripts a ≡ Some script

pub has_turn : (plan : PlanParts) (m : MachineParts) (a : ℕ) → IsReady plan m a → HasTurn plan m a
has_turn plan m a ready =
    record {
      agent_is = here;
      at_call = ready.at_calls a (agent_at m.agents a) here;
      script = script.0;
      script_is =
          script.1;
    }
  where
    here : slice_get m.agents a ≡ Some (agent_at m.agents a)
    here = slice_get-get_or m.agents a newcomer (omega (arith, ready.named, ready.size))

    script : (s : ScriptParts) × (slice_get plan.scripts a ≡ Some s)
    script = elim (slice_get_cases plan.scripts a).1 [
      | inl h ↦ (h.0, h.2)
      | inr h ↦ absurd (omega (arith, ready.named, h.0))
    ]

-- the act of an agent's call on its view is one of the object
pub does_call : {plan : PlanParts} {m : MachineParts} {a : ℕ} (turn : HasTurn plan m a) (call : Call) (v : PlanView)
    (what : What) (S T : State)
    → call_of plan a (agent_at m.agents a).returned ≡ Some call → slice_get plan.views (view_of call) ≡ Some v
    → DoesCall turn.script.can_block a v call S what T
    → Does plan S (entry_of m a what) T
does_call {plan} {m} {a} turn call v what S T call_is view_is does = record {
  script = turn.script;
  script_is = turn.script_is;
  call = call;
  call_is = its_call;
  view = v;
  view_is = view_is;
  does = does;
}
  where
    n : ℕ
    n = (agent_at m.agents a).returned

    its_call : slice_get turn.script.calls n ≡ Some call
    its_call = subst (λ (o : Option ScriptParts). slice_get (calls_in o) n ≡ Some call) turn.script_is call_is

-- ---- moves that leave the other agents

-- the machine after a move that changes one agent, and bytes
abbrev pub moved : MachineParts → ℕ → What → Agent → List (List ℕ) → MachineParts
moved m a what h blocks =
    record { blocks = blocks; agents = set m.agents a h; next_ticket = ticket_after what m.next_ticket }

-- a move that changes one agent
pub own_turn : {plan : PlanParts} {m : MachineParts} {a : ℕ} (turn : HasTurn plan m a) (what : What) (h : Agent)
    (blocks : List (List ℕ))
    → map length blocks ≡ map length m.blocks
    → Advances (agent_at m.agents a) what h → IsAtCall plan (calls_of plan a) h.returned h.phase
    → ObjectGoes plan m (entry_of m a what) (moved m a what h blocks)
    → Turns plan m (entry_of m a what) (moved m a what h blocks)
own_turn {plan} {m} {a} turn what h blocks lens advances at_call goes =
    grind (
      arith,
      common_steps,
      some_one,
      set,
      agent_at,
      calls_of,
      slice_get-set_other,
      length-set,
      slice_get,
      slice_get-set,
      slice_get_within,
    )

-- of two states the second differs at one agent only, which has this phase there
pub record DiffersAt (a : ℕ) (phase : Phase) (S T : State) : Type 0 where
  pub own_notified : T.notified a ≡ woken_phase phase
  pub other_notified : (b : ℕ) → b ≢ a → T.notified b ≡ S.notified b
  pub own_stands : stands T a ≡ waiting_phase phase
  pub other_stands : (b : ℕ) → b ≢ a → stands T b ≡ stands S b

-- the object goes with the change of one agent
pub stands_set : {m : MachineParts} {S : State} {a : ℕ} {g : Agent} {blocks : List (List ℕ)} (stood : Represents m S)
    → slice_get m.agents a ≡ Some g
    → (h : Agent) (later : ℕ) (T : State) → T.mem ≡ blocks → DiffersAt a h.phase S T
    → IsSeated (set m.agents a h) 0 T.line
    → m.next_ticket ≤ later → ((p : Place) (t : ℕ) → h.phase ≡ P.Waiting p t → t < later)
    → Represents (record { blocks = blocks; agents = set m.agents a h; next_ticket = later }) T
stands_set {m} {S} {a} {g} stood g_is h later T mem_is differs seated rises own_ticket = record {
  mem_is = mem_is;
  notified_is = λ b. elim (cases_eq b a) [
    | inl e ↦ rw (e, here) differs.own_notified
    | inr n ↦ differs.other_notified b n ∙ (stood.notified_is b ∙ ap is_woken (as_before b n))
  ];
  stands_is = λ b. elim (cases_eq b a) [
    | inl e ↦ rw (e, here) differs.own_stands
    | inr n ↦ differs.other_stands b n ∙ (stood.stands_is b ∙ ap is_waiting (as_before b n))
  ];
  seated = seated;
  tickets = λ b p t w. elim (cases_eq b a) [
    | inl e ↦
        let own : WaitsAt (set m.agents a h) a p t = subst (λ n. WaitsAt (set m.agents a h) n p t) e w in
        let same : h ≡ own.0 = some_one (set m.agents a h) a h own.0 here own.1 in
        own_ticket p t (ap (λ (k : Agent). k.phase) same ∙ own.2)
    | inr n ↦
        let before : t < m.next_ticket = stood.tickets b p t (w.0, as_before b n ∙ w.1, w.2) in
        omega (arith, before, rises)
  ];
}
  where
    here : slice_get (set m.agents a h) a ≡ Some h
    here = slice_get-set m.agents a h (slice_get_within m.agents a g g_is)

    as_before : (b : ℕ) → b ≢ a → slice_get m.agents b ≡ slice_get (set m.agents a h) b
    as_before b n = sym (slice_get-set_other m.agents a b h n)

-- a phase that isn't that of a waiter has no ticket
pub free_ticket : (phase : Phase) (p : Place) (t n : ℕ) → waiting_phase phase ≡ false → phase ≡ P.Waiting p t → t < n
free_ticket phase p t n free waits = absurd (let e : true ≡ false = sym (ap waiting_phase waits) ∙ free in cc)

-- ---- agents that are neither in the line nor woken

pub record IsFree (phase : Phase) : Type 0 where
  pub waiting : waiting_phase phase ≡ false
  pub woken : woken_phase phase ≡ false

pub ready_free : IsFree P.Ready
ready_free = record { waiting = refl; woken = refl }

pub begun_free : IsFree P.Begun
begun_free = record { waiting = refl; woken = refl }

pub answered_free : (x : Answer) → IsFree (P.Answered x)
answered_free x = record { waiting = refl; woken = refl }

-- a write to an agent that isn't in the line leaves those who are
pub seated_set : (agents : List Agent) (a : ℕ) (g h : Agent) (low : ℕ) (line : List Waiter)
    → slice_get agents a ≡ Some g → waiting_phase g.phase ≡ false → IsSeated agents low line
    → IsSeated (set agents a h) low line
seated_set agents a g h low [] g_is free s = tt
seated_set agents a g h low (w ∷ line) g_is free s =
    let other : w.agent ≢ a =
    λ e. free_waits agents a g w.place s.0 g_is free (subst (λ n. WaitsAt agents n w.place s.0) e s.2) in (
      s.0,
      s.1,
      (s.2.0, slice_get-set_other agents a w.agent h other ∙ s.2.1, s.2.2),
      seated_set agents a g h (suc s.0) line g_is free s.3,
    )

-- a free agent stays free, and the bytes may change
pub stands_free : {m : MachineParts} {S : State} {g : Agent} (a : ℕ) (stood : Represents m S)
    → slice_get m.agents a ≡ Some g → IsFree g.phase → (h : Agent) → IsFree h.phase → (blocks : List (List ℕ))
    → Represents (record m { blocks = blocks; agents = set m.agents a h }) (record S { mem = blocks })
stands_free {m} {S} {g} a stood g_is free h free' blocks =
    stands_set stood g_is h m.next_ticket (record S { mem = blocks }) refl
    (record {
      own_notified = stood.notified_is a ∙ (rw g_is (free.woken ∙ sym free'.woken));
      other_notified = λ b n. refl;
      own_stands = stood.stands_is a ∙ (rw g_is (free.waiting ∙ sym free'.waiting));
      other_stands = λ b n. refl;
    })
    (seated_set m.agents a g h 0 S.line g_is free.waiting stood.seated) (omega arith)
    (λ p t waits. free_ticket h.phase p t m.next_ticket free'.waiting waits)

-- the object stays where it is
pub stands_still : {m : MachineParts} {S : State} {g : Agent} (a : ℕ) (stood : Represents m S)
    → slice_get m.agents a ≡ Some g → IsFree g.phase → (h : Agent) → IsFree h.phase
    → Represents (record m { agents = set m.agents a h }) S
stands_still {m} {S} a stood g_is free h free' =
    subst (λ (blocks : List (List ℕ)). Represents (record m { blocks = blocks; agents = set m.agents a h }) S)
    stood.mem_is
    (stands_free a stood g_is free h free' S.mem)

-- ---- the moves

some_call : (o : Option Call) → is_some o ≡ true → (call : Call) × (o ≡ Some call)
some_call (Some call) e = (call, refl)
some_call None e = absurd (let f : false ≡ true = e in cc)

-- a call begins
pub began_turn : {plan : PlanParts} {m : MachineParts} {a : ℕ} (turn : HasTurn plan m a)
    → (agent_at m.agents a).phase ≡ P.Ready → is_some (call_of plan a (agent_at m.agents a).returned) ≡ true
    → Turns plan m (entry_of m a Began) (with_phase m a P.Begun)
began_turn {plan} {m} {a} turn ready some =
    let call = some_call (call_of plan a (agent_at m.agents a).returned) some in
    let free = subst IsFree (sym ready) ready_free in
    own_turn turn Began _ m.blocks refl (ready, refl) (call.0, call.1, tt)
    (λ S stood. (S, record { acts = refl; justified = tt }, stands_still a stood turn.agent_is free _ begun_free))

-- a call acts and has its answer, and leaves the line and those who were woken
pub acted_turn : {plan : PlanParts} {m : MachineParts} {a : ℕ} (turn : HasTurn plan m a) (call : Call) (x : Answer)
    (blocks : List (List ℕ)) → map length blocks ≡ map length m.blocks
    → (agent_at m.agents a).phase ≡ P.Begun → call_of plan a (agent_at m.agents a).returned ≡ Some call
    → ((S : State) → S.mem ≡ m.blocks → Does plan S (entry_of m a (Acted x)) (record S { mem = blocks }))
    → Turns plan m (entry_of m a (Acted x)) (with_phase (record m { blocks = blocks }) a (P.Answered x))
acted_turn {plan} {m} {a} turn call x blocks lens begun call_is does =
    let free = subst IsFree (sym begun) begun_free in
    own_turn turn (Acted x) _ blocks lens (begun, refl) (call, call_is, tt)
    (λ S stood. (
      record S { mem = blocks },
      record { acts = does S stood.mem_is; justified = tt },
      stands_free a stood turn.agent_is free _ (answered_free x) blocks,
    ))

-- a call returns
pub returned_turn : {plan : PlanParts} {m : MachineParts} {a : ℕ} (turn : HasTurn plan m a) (x : Answer)
    → (agent_at m.agents a).phase ≡ P.Answered x
    → Turns plan m (entry_of m a (Returned x))
    (moved m a (Returned x) (record { returned = suc (agent_at m.agents a).returned; phase = P.Ready }) m.blocks)
returned_turn {plan} {m} {a} turn x answered =
    let n = (agent_at m.agents a).returned in
    let has : HasCall plan (calls_of plan a) n (P.Answered x) =
    subst (IsAtCall plan (calls_of plan a) n) answered turn.at_call in
    let free = subst IsFree (sym answered) (answered_free x) in
    own_turn turn (Returned x) _ m.blocks refl (answered, refl) (slice_get_within (calls_of plan a) n has.0 has.1)
    (λ S stood. (S, record { acts = refl; justified = tt }, stands_still a stood turn.agent_is free _ ready_free))

-- a move without effect
pub stuck_turn : {plan : PlanParts} {m : MachineParts} {a : ℕ} (turn : HasTurn plan m a) (why : Why)
    → ((S : State) → Represents m S → Justifies plan S (entry_of m a (Stuck why)) (Stuck why))
    → Turns plan m (entry_of m a (Stuck why)) m
stuck_turn {plan} {m} {a} turn why justified = grind (arith, common_steps, calls_of, slice_get, agent_at, some_one)

-- whether an agent stands in the line of the object
pub its_stands : {plan : PlanParts} {m : MachineParts} {a : ℕ} (turn : HasTurn plan m a) (b : Bool)
    → waiting_phase (agent_at m.agents a).phase ≡ b → (S : State) → Represents m S → stands S a ≡ b
its_stands {plan} {m} {a} turn b waits S stood = stood.stands_is a ∙ (rw turn.agent_is waits)
