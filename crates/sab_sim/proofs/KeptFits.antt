-- What a simulator keeps.
use Rattle.std.proofs.Common.{◌≡◌, inl, inr, ℕ, zero, suc, ◌+◌, ◌-◌, ◌^◌, ◌<◌, ◌≤◌, true, false, List, [], ◌∷◌, ◌++◌, length, map, take, replicate, slice_get, Some, refl, ap, sym, ◌∙◌, subst, arith, length-append, append_assoc, flat_map, add-zero}
use Rattle.std.proofs.lemmas.Grind.{common_steps}
use Rattle.std.proofs.lemmas.Option.{slice_get_within, slice_get-get_or}
use Rattle.std.proofs.lemmas.List.{take-append-le, length-replicate, take_all}
use Rattle.std.proofs.lemmas.Grind.{flat_map-append}
use Rattle.std.proofs.lemmas.Bool.{cases_lt}
use Rattle.sab_plan.specs.declared.call.Call.{Call}
use Rattle.sab_plan.specs.declared.answer.Answer.TheVariants as A
use Rattle.sab_plan.specs.declared.entry.What.{What}
use Rattle.sab_plan.specs.declared.entry.What.TheVariants.{Began, Acted, Enlisted, Left, Returned, Stuck}
use Rattle.sab_plan.specs.declared.entry.Entry.{Entry}
use Rattle.sab_plan.specs.declared.schedule.Move.{Move}
use Rattle.sab_sim.specs.declared.agent.Agent.{Agent}
use Rattle.sab_sim.specs.declared.agent.Phase.{Phase}
use Rattle.sab_sim.specs.declared.agent.Phase.TheVariants as P
use Rattle.sab_plan.specs.Schedule.{agent_of}
use Rattle.sab_plan.specs.Script.{ScriptParts}
use Rattle.sab_plan.specs.Plan.{PlanParts, IsPlan, calls_of}
use Rattle.sab_object.specs.Object.{opening}
use Rattle.sab_plan.specs.Journal.{Course, AtOnce, InLine, course, IsTrack, returned_of, answers_move}
use Rattle.sab_sim.specs.Agent.{newcomer, agent_at, is_woken, is_waiting, IsPart, IsAtCall, IsWhere}
use Rattle.sab_sim.specs.Machine.{MachineParts, opening_machine, IsReady}
use Rattle.sab_sim.specs.Turn.{Turns, ticket_after}
use Rattle.sab_sim.specs.Kept.{Kept}
use Rattle.sab_plan.specs.Report.{ReportParts, progress_from}
use Rattle.sab_sim.specs.Fits.{FitsMoves, Fits}
use Rattle.sab_sim.specs.Sim.{IsKept, standing_from}
use Rattle.sab_sim.proofs.OneMoveMore.{Kept-push}

-- a move of an agent can be made
pub IsKept-ready : (plan : PlanParts) (moves : List Move) (journal : List Entry) (machine : MachineParts) (a : ℕ)
    → IsKept plan moves journal machine → a < length plan.scripts → IsReady plan machine a
IsKept-ready plan moves journal machine a k named = record {
  is_plan = k.is_plan;
  named = named;
  size = k.kept.size;
  lens = k.lens;
  at_calls = λ b g g_is. (k.kept.agents_are b g g_is).at_call;
  few_tickets = omega (arith, k.few_tickets, k.few);
}

-- a call that is to come
abbrev filler : Course
filler = AtOnce A.NotEqual

-- calls that are done and a part of those that follow are a track
parts_of_calls : (n : ℕ) (courses extra : List Course) (part tail : List What) → part ++ tail ≡ flat_map course extra
    → length courses + length extra ≡ n → IsTrack n (flat_map course courses ++ part)
parts_of_calls n courses extra part tail e l = (
  courses ++ extra,
  tail,
  length-append courses extra ∙ l,
  append_assoc (flat_map course courses) part tail
      ∙ (rw e (sym (flat_map-append course courses extra))),
)

-- so are those that are done and the front of one more, where k others are to come
front_of_call : (n : ℕ) (courses : List Course) (k : ℕ) (c : Course) (part tail : List What)
    → part ++ tail ≡ course c → suc (length courses + k) ≡ n → IsTrack n (flat_map course courses ++ part)
front_of_call n courses k c part tail e l =
    parts_of_calls n courses (c ∷ replicate k filler) part (tail ++ flat_map course (replicate k filler))
    (sym (append_assoc part tail (flat_map course (replicate k filler)))
    ∙ ap (λ (w : List What). w ++ flat_map course (replicate k filler)) e)
    (let r : length (replicate k filler) ≡ k = length-replicate k filler in omega (arith, r, l))

in_a_call : (n : ℕ) (courses : List Course) (ph : Phase) (part : List What) → length courses < n → IsPart ph part
    → (ph ≡ P.Ready → ⊥) → IsTrack n (flat_map course courses ++ part)
in_a_call n courses P.Ready part l e not_ready = absurd (not_ready refl)
in_a_call n courses P.Begun part l e not_ready =
    rw e (front_of_call n courses (n - suc (length courses)) filler (Began ∷ [])
    (Acted A.NotEqual ∷ Returned A.NotEqual ∷ []) refl (omega (arith, l)))
in_a_call n courses (P.Waiting p t) part l e not_ready =
    rw e (front_of_call n courses (n - suc (length courses)) (InLine A.Woken) (Began ∷ Enlisted ∷ [])
    (Left A.Woken ∷ Returned A.Woken ∷ []) refl (omega (arith, l)))
in_a_call n courses P.Woken part l e not_ready =
    rw e (front_of_call n courses (n - suc (length courses)) (InLine A.Woken) (Began ∷ Enlisted ∷ [])
    (Left A.Woken ∷ Returned A.Woken ∷ []) refl (omega (arith, l)))
in_a_call n courses (P.Answered x) part l (inl e) not_ready =
    rw e (front_of_call n courses (n - suc (length courses)) (AtOnce x) (Began ∷ Acted x ∷ []) (Returned x ∷ []) refl
    (omega (arith, l)))
in_a_call n courses (P.Answered x) part l (inr e) not_ready =
    rw e (front_of_call n courses (n - suc (length courses)) (InLine x) (Began ∷ Enlisted ∷ Left x ∷ [])
    (Returned x ∷ []) refl (omega (arith, l)))

between_calls : (n : ℕ) (courses : List Course) (part : List What) → length courses ≤ n → part ≡ []
    → IsTrack n (flat_map course courses ++ part)
between_calls n courses part l e =
    rw e (parts_of_calls n courses (replicate (n - length courses) filler) []
    (flat_map course (replicate (n - length courses) filler)) refl
    (let r : length (replicate (n - length courses) filler) ≡ n - length courses =
    length-replicate (n - length courses) filler in omega (arith, r, l)))

IsTrack-at_call : (plan : PlanParts) (calls : List Call) (courses : List Course) (k : ℕ) (ph : Phase)
    (part : List What) → length courses ≡ k → IsPart ph part → IsAtCall plan calls k ph
    → IsTrack (length calls) (flat_map course courses ++ part)
IsTrack-at_call plan calls courses k P.Ready part l e at =
    between_calls (length calls) courses part (omega (arith, l, at)) e
IsTrack-at_call plan calls courses k P.Begun part l e at = let w = slice_get_within calls k at.0 at.1 in
    in_a_call (length calls) courses P.Begun part (omega (arith, l, w)) e (λ q. cc)
IsTrack-at_call plan calls courses k (P.Waiting p t) part l e at = let w = slice_get_within calls k at.0 at.1 in
    in_a_call (length calls) courses (P.Waiting p t) part (omega (arith, l, w)) e (λ q. cc)
IsTrack-at_call plan calls courses k P.Woken part l e at = let w = slice_get_within calls k at.0 at.1 in
    in_a_call (length calls) courses P.Woken part (omega (arith, l, w)) e (λ q. cc)
IsTrack-at_call plan calls courses k (P.Answered x) part l e at = let w = slice_get_within calls k at.0 at.1 in
    in_a_call (length calls) courses (P.Answered x) part (omega (arith, l, w)) e (λ q. cc)

-- where an agent of the plan is
pub IsWhere-agent_at : (plan : PlanParts) (moves : List Move) (journal : List Entry) (machine : MachineParts) (a : ℕ)
    → Kept plan moves journal machine → a < length plan.scripts
    → (slice_get machine.agents a ≡ Some (agent_at machine.agents a))
    × IsWhere plan journal a (agent_at machine.agents a)
IsWhere-agent_at plan moves journal machine a kept within =
    grind (arith, common_steps, slice_get, agent_at, slice_get-get_or, newcomer)

-- what is kept fits
pub FitsMoves-kept : (plan : PlanParts) (moves : List Move) (journal : List Entry) (machine : MachineParts)
    → IsKept plan moves journal machine → FitsMoves plan moves journal machine.blocks
FitsMoves-kept plan moves journal machine k = record {
  few = omega (arith, k.few, k.kept.one_each);
  named = λ i d within. k.kept.named i _ (slice_get-get_or moves i d within);
  one_each = k.kept.one_each;
  tracks = λ a within.
      let g = agent_at machine.agents a in
      let w = (IsWhere-agent_at plan moves journal machine a k.kept within).1 in
      rw w.track_is (IsTrack-at_call plan
      (calls_of plan a) w.courses g.returned g.phase w.part w.count w.is_part w.at_call);
  answers = k.kept.answers;
  justified = k.kept.justified;
  run = (k.kept.object.0, k.kept.object.1, k.kept.object.2.mem_is);
}

-- all agents of the opening are newcomers
all_newcomers : (n a : ℕ) (g : Agent) → slice_get (replicate n newcomer) a ≡ Some g → newcomer ≡ g
all_newcomers zero a g e = absurd (cc)
all_newcomers (suc n) zero g e = cc
all_newcomers (suc n) (suc a) g e = all_newcomers n a g e

newcomers_free : (n a : ℕ) → (is_woken (slice_get (replicate n newcomer) a) ≡ false)
    × (is_waiting (slice_get (replicate n newcomer) a) ≡ false)
newcomers_free zero a = (refl, refl)
newcomers_free (suc n) zero = (refl, refl)
newcomers_free (suc n) (suc a) = newcomers_free n a

Kept-opening : (plan : PlanParts) → Kept plan [] [] (opening_machine plan)
Kept-opening plan =
    grind (arith, common_steps, opening, newcomers_free, all_newcomers, length-replicate, newcomer, length)

length-zero_blocks : (lens : List ℕ) → map (length {A = ℕ}) (map (λ len. replicate len 0) lens) ≡ lens
length-zero_blocks [] = refl
length-zero_blocks (len ∷ lens) = let here : length {A = ℕ} (replicate len 0) ≡ len = length-replicate len 0 in
    rw (here, length-zero_blocks lens) refl

pub IsKept-opening : (plan : PlanParts) (machine : MachineParts) → IsPlan plan → machine ≡ opening_machine plan
    → IsKept plan [] [] machine
IsKept-opening plan machine is_plan same = subst (λ (m : MachineParts). IsKept plan [] [] m) (sym same) (record {
  is_plan = is_plan;
  kept = Kept-opening plan;
  few = omega arith;
  few_tickets = omega arith;
  lens = length-zero_blocks plan.lens;
  history = λ k h. record {
    machine = opening_machine plan;
    kept = let z : k ≡ 0 = omega arith in rw z (Kept-opening plan);
  };
})

-- a move raises the next ticket by at most one
ticket_after-le : (what : What) (t : ℕ) → ticket_after what t ≤ suc t
ticket_after-le Enlisted t = omega arith
ticket_after-le Began t = omega arith
ticket_after-le (Acted x) t = omega arith
ticket_after-le (Left x) t = omega arith
ticket_after-le (Returned x) t = omega arith
ticket_after-le (Stuck why) t = omega arith

-- one move more
pub IsKept-push : (plan : PlanParts) (moves : List Move) (journal : List Entry) (machine : MachineParts) (m : Move)
    (e : Entry)
    (machine' : MachineParts)
    → IsKept plan moves journal machine → agent_of m < length plan.scripts → length journal < 2 ^ 20
    → e.agent ≡ agent_of m → answers_move m e.what ≡ true → Turns plan machine e machine'
    → IsKept plan (moves ++ m ∷ []) (journal ++ e ∷ []) machine'
IsKept-push plan moves journal machine m e machine' k named room of_m kind turns = record {
  is_plan = k.is_plan;
  kept = kept';
  few = rw longer (omega (arith, room));
  few_tickets = rw (longer, turns.ticket) (omega (arith, k.few_tickets, ticket_after-le e.what machine.next_ticket));
  lens = turns.lens ∙ k.lens;
  history = λ n h. elim (cases_lt (length journal) n) [
    | inl above ↦
        let js : take n (journal ++ e ∷ []) ≡ journal ++ e ∷ [] =
        take_all n (journal ++ e ∷ []) (omega (arith, above, longer)) in
        let ms : take n (moves ++ m ∷ []) ≡ moves ++ m ∷ [] =
        take_all n (moves ++ m ∷ []) (omega (arith, above, k.kept.one_each, length-append moves (m ∷ []))) in
        record { machine = machine'; kept = rw (js, ms) kept' }
    | inr below ↦
        let js = take-append-le n journal (e ∷ []) below in
        let ms = take-append-le n moves (m ∷ []) (omega (arith, below, k.kept.one_each)) in
        let old = k.history n below in
        record { machine = old.machine; kept = rw (js, ms) old.kept }
  ];
}
  where
    longer : length (journal ++ e ∷ []) ≡ length journal + 1
    longer = length-append journal (e ∷ [])

    g_is : slice_get machine.agents (agent_of m) ≡ Some (agent_at machine.agents (agent_of m))
    g_is = slice_get-get_or machine.agents (agent_of m) newcomer (omega (arith, named, k.kept.size))

    kept' : Kept plan (moves ++ m ∷ []) (journal ++ e ∷ []) machine'
    kept' = Kept-push plan moves journal machine m e machine'
        (agent_at machine.agents (agent_of m)) k.kept g_is of_m kind turns

-- the agents stand as the journal says
standing_from-kept : (journal : List Entry) (agents : List Agent) (a : ℕ) (scripts : List ScriptParts)
    → ((k : ℕ) → k < length scripts → (agent_at agents (a + k)).returned ≡ returned_of journal (a + k))
    → standing_from agents a scripts ≡ progress_from journal a scripts
standing_from-kept journal agents a [] h = refl
standing_from-kept journal agents a (s ∷ scripts) h =
    let here : (agent_at agents a).returned ≡ returned_of journal a =
    subst (λ (n : ℕ). (agent_at agents n).returned ≡ returned_of journal n) (add-zero a) (h 0 (omega arith)) in
    let rest = standing_from-kept journal agents (suc a) scripts
    (λ k l. subst (λ (n : ℕ). (agent_at agents n).returned ≡ returned_of journal n)
    (let e : a + suc k ≡ suc a + k = omega arith in e) (h (suc k) (omega (arith, l)))) in
    rw (here, rest) refl

-- the report fits
pub Fits-kept : (plan : PlanParts) (report : ReportParts) (moves : List Move) (journal : List Entry)
    (machine : MachineParts)
    → IsKept plan moves journal machine
    → report.schedule ≡ moves → report.journal ≡ journal → report.blocks ≡ machine.blocks
    → report.agents ≡ standing_from machine.agents 0 plan.scripts → Fits plan report
Fits-kept plan report moves journal machine k m j b t = record {
  moves = rw (m, j, b) (FitsMoves-kept plan moves journal machine k);
  agents = rw j (t ∙ standing_from-kept journal machine.agents 0 plan.scripts (λ a l.
      let z : 0 + a ≡ a = omega arith in
      rw z (sym (IsWhere-agent_at plan moves journal machine a k.kept l).1.returned)));
}
