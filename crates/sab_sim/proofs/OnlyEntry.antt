-- After a kept journal each move has one entry.
use Rattle.std.proofs.Common.{◌≡◌, ◌⊎◌, inl, inr, ℕ, zero, suc, ◌+◌, ◌<◌, ◌==◌, Bool, true, false, cond, List, [], ◌∷◌, ◌++◌, length, slice_get, Some, None, refl, ap, sym, ◌∙◌, subst, arith, length-append, flat_map, MatchBool}
use Rattle.std.proofs.lemmas.Grind.{common_steps}
use Rattle.std.specs.Prelude.{Contains}
use Rattle.std.specs.List.{list_any}
use Rattle.std.proofs.lemmas.Option.{slice_get_within}
use Rattle.std.proofs.lemmas.Bool.{eq-eqb, false≢true}
use Rattle.sab_plan.specs.declared.plan_view.PlanView.{PlanView}
use Rattle.sab_plan.specs.declared.call.Call.{Call}
use Rattle.sab_plan.specs.declared.call.Call.TheVariants as C
use Rattle.sab_plan.specs.declared.answer.Answer.{Answer}
use Rattle.sab_plan.specs.declared.answer.Answer.TheVariants as A
use Rattle.sab_plan.specs.declared.entry.Why.{Why}
use Rattle.sab_plan.specs.declared.entry.Why.TheVariants as Y
use Rattle.sab_plan.specs.declared.entry.What.{What}
use Rattle.sab_plan.specs.declared.entry.What.TheVariants.{Began, Acted, Enlisted, Left, Returned, Stuck}
use Rattle.sab_plan.specs.declared.entry.Entry.{Entry}
use Rattle.sab_plan.specs.declared.schedule.Move.{Move}
use Rattle.sab_plan.specs.declared.schedule.Move.TheVariants.{Step, TimeUp}
use Rattle.sab_sim.specs.declared.agent.Agent.{Agent}
use Rattle.sab_sim.specs.declared.agent.Phase.{Phase}
use Rattle.sab_sim.specs.declared.agent.Phase.TheVariants as P
use Rattle.sab_plan.specs.declared.place.Place.{Place}
use Rattle.sab_plan.specs.Entry.{is_act, is_stuck}
use Rattle.sab_plan.specs.Plan.{PlanParts, calls_of, call_of, is_timed}
use Rattle.sab_plan.specs.declared.waiter.Waiter.{Waiter}
use Rattle.sab_object.specs.Object.{State, stands, DoesCall, Does}
use Rattle.sab_plan.specs.Journal.{Course, AtOnce, InLine, course, track, IsTrack, answers_move, WaitsForever}
use Rattle.sab_sim.specs.Agent.{waiting_phase, IsPart, IsAtCall, IsWhere}
use Rattle.sab_sim.specs.Machine.{MachineParts, Represents}
use Rattle.sab_sim.specs.Turn.{Goes}
use Rattle.sab_sim.proofs.OneMoveMore.{track-push, its_entry}
use Rattle.sab_object.specs.Kept.{IsOutcome}
use Rattle.sab_object.proofs.OnlyAct.{Does-one_outcome}

-- what an agent may do next, where it has an effect
abbrev pub MayFollow : Phase → What → Type 0
MayFollow P.Ready w = w ≡ Began
MayFollow P.Begun w = (w ≡ Enlisted) ⊎ ((x : Answer) × (w ≡ Acted x))
MayFollow (P.Waiting p t) w = (x : Answer) × (w ≡ Left x)
MayFollow P.Woken w = (x : Answer) × (w ≡ Left x)
MayFollow (P.Answered x) w = w ≡ Returned x

-- a track goes on as a track of the calls that are left
track_left : (n : ℕ) (courses : List Course) (ws : List What) → IsTrack n (flat_map course courses ++ ws)
    → (k : ℕ) × IsTrack k ws × (length courses + k ≡ n)
track_left n [] ws t = (n, t, (omega arith))
track_left n (AtOnce x ∷ courses) ws ([], rest, len, e) = absurd (cc)
track_left n (InLine x ∷ courses) ws ([], rest, len, e) = absurd (cc)
track_left n (AtOnce x ∷ courses) ws (InLine y ∷ cs, rest, len, e) = absurd (cc)
track_left n (InLine x ∷ courses) ws (AtOnce y ∷ cs, rest, len, e) = absurd (cc)
track_left n (AtOnce x ∷ courses) ws (AtOnce y ∷ cs, rest, len, e) =
    let e' : (flat_map course courses ++ ws) ++ rest ≡ flat_map course cs = cc in
    let r = track_left (length cs) courses ws (cs, rest, refl, e') in
    (r.0, r.1, omega (arith, r.2, len))
track_left n (InLine x ∷ courses) ws (InLine y ∷ cs, rest, len, e) =
    let e' : (flat_map course courses ++ ws) ++ rest ≡ flat_map course cs = cc in
    let r = track_left (length cs) courses ws (cs, rest, refl, e') in
    (r.0, r.1, omega (arith, r.2, len))

begins : (n : ℕ) (w : What) → IsTrack n (w ∷ []) → w ≡ Began
begins n w ([], rest, len, e) = absurd (cc)
begins n w (AtOnce x ∷ cs, rest, len, e) = cc
begins n w (InLine x ∷ cs, rest, len, e) = cc

acts_next : (n : ℕ) (w : What) → IsTrack n (Began ∷ w ∷ []) → MayFollow P.Begun w
acts_next n w ([], rest, len, e) = absurd (cc)
acts_next n w (AtOnce x ∷ cs, rest, len, e) = inr (x, cc)
acts_next n w (InLine x ∷ cs, rest, len, e) = inl (cc)

leaves : (n : ℕ) (w : What) → IsTrack n (Began ∷ Enlisted ∷ w ∷ []) → (x : Answer) × (w ≡ Left x)
leaves n w ([], rest, len, e) = absurd (cc)
leaves n w (AtOnce x ∷ cs, rest, len, e) = absurd (cc)
leaves n w (InLine x ∷ cs, rest, len, e) = (x, cc)

returns_at_once : (n : ℕ) (x : Answer) (w : What) → IsTrack n (Began ∷ Acted x ∷ w ∷ []) → w ≡ Returned x
returns_at_once n x w ([], rest, len, e) = absurd (cc)
returns_at_once n x w (AtOnce y ∷ cs, rest, len, e) =
    let same : x ≡ y = cc in let this : w ≡ Returned y = cc in this ∙ ap (λ (z : Answer). Returned z) (sym same)
returns_at_once n x w (InLine y ∷ cs, rest, len, e) = absurd (cc)

returns_in_line : (n : ℕ) (x : Answer) (w : What) → IsTrack n (Began ∷ Enlisted ∷ Left x ∷ w ∷ []) → w ≡ Returned x
returns_in_line n x w ([], rest, len, e) = absurd (cc)
returns_in_line n x w (AtOnce y ∷ cs, rest, len, e) = absurd (cc)
returns_in_line n x w (InLine y ∷ cs, rest, len, e) =
    let same : x ≡ y = cc in let this : w ≡ Returned y = cc in this ∙ ap (λ (z : Answer). Returned z) (sym same)

-- what follows a part of a call
part_next : (n : ℕ) (ph : Phase) (part : List What) (w : What) → IsPart ph part → IsTrack n (part ++ w ∷ [])
    → MayFollow ph w
part_next n P.Ready part w p t = begins n w (subst (λ (ws : List What). IsTrack n (ws ++ w ∷ [])) p t)
part_next n P.Begun part w p t = acts_next n w (subst (λ (ws : List What). IsTrack n (ws ++ w ∷ [])) p t)
part_next n (P.Waiting q u) part w p t = leaves n w (subst (λ (ws : List What). IsTrack n (ws ++ w ∷ [])) p t)
part_next n P.Woken part w p t = leaves n w (subst (λ (ws : List What). IsTrack n (ws ++ w ∷ [])) p t)
part_next n (P.Answered x) part w (inl p) t =
    returns_at_once n x w (subst (λ (ws : List What). IsTrack n (ws ++ w ∷ [])) p t)
part_next n (P.Answered x) part w (inr p) t =
    returns_in_line n x w (subst (λ (ws : List What). IsTrack n (ws ++ w ∷ [])) p t)

-- no call, no track
no_track : (xs : List What) (w : What) → IsTrack 0 (xs ++ w ∷ []) → ⊥
no_track xs w ([], rest, len, e) =
    let l : length ((xs ++ w ∷ []) ++ rest) ≡ 0 = ap length e in
    absurd (omega (arith, l, length-append (xs ++ w ∷ []) rest, length-append xs (w ∷ [])))
no_track xs w (c ∷ cs, rest, len, e) = absurd (omega (arith, len))

-- what an agent does next follows on its part, in a call that is there
pub IsWhere-next : (plan : PlanParts) (journal : List Entry) (a : ℕ) (g : Agent) (w : What) → IsWhere plan journal a g
    → IsTrack (length (calls_of plan a)) (track (journal ++ its_entry a g w ∷ []) a) → is_stuck w ≡ false
    → MayFollow g.phase w × (g.returned < length (calls_of plan a))
IsWhere-next plan journal a g w i t n =
    let same = track-push journal (its_entry a g w) (flat_map course i.courses) i.part i.part i.track_is refl n in
    let t' : IsTrack (length (calls_of plan a)) (flat_map course i.courses ++ (i.part ++ w ∷ [])) =
    subst (IsTrack (length (calls_of plan a))) same t in
    let r = track_left (length (calls_of plan a)) i.courses (i.part ++ w ∷ []) t' in
    (part_next r.0 g.phase i.part w i.is_part r.1, go r.0 r.1 r.2)
  where
    go : (k : ℕ) → IsTrack k (i.part ++ w ∷ []) → length i.courses + k ≡ length (calls_of plan a)
        → g.returned < length (calls_of plan a)
    go zero t e = absurd (no_track i.part w t)
    go (suc k) t e = omega (arith, e, i.count)

-- what is known of what agent a, which is g, does in the state S by a move
pub record CanDo (plan : PlanParts) (m : Move) (a : ℕ) (g : Agent) (S : State) (w : What) : Type 0 where
  pub kind : answers_move m w ≡ true
  pub next : is_stuck w ≡ false → MayFollow g.phase w × (g.returned < length (calls_of plan a))
  pub target : State
  pub goes : Goes plan S (its_entry a g w) target

-- one that doesn't wait stands nowhere
Represents-not_waiting : (machine : MachineParts) (a : ℕ) (g : Agent) (S : State) → Represents machine S
    → slice_get machine.agents a ≡ Some g → waiting_phase g.phase ≡ false → stands S a ≡ false
Represents-not_waiting machine a g S l g_is n = l.stands_is a ∙ (rw g_is n)

-- the agent of a waiter of the line stands in it
stands-contained : (line : List Waiter) (w : Waiter) → Contains line w
    → list_any (λ (q : Waiter). q.agent == w.agent) line ≡ true
stands-contained [] w (k, l, e) = absurd (omega (arith, l))
stands-contained (q ∷ line) w (zero, l, e) =
    let own : (q.agent == w.agent) ≡ true = eq-eqb q.agent w.agent (ap (λ (x : Waiter). x.agent) e) in rw own refl
stands-contained (q ∷ line) w (suc k, l, e) =
    grind (arith, common_steps, stands-contained line w (k, omega (arith, l), e))

-- to time out is to stand in the line
timed_out_stands : (cb : Bool) (a : ℕ) (v : PlanView) (call : Call) (S T : State)
    → DoesCall cb a v call S (Left A.TimedOut) T → stands S a ≡ true
timed_out_stands cb a v (C.Wait n index x (Some t)) S T d =
    stands-contained S.line (record { place = d.0; agent = a }) d.2
timed_out_stands cb a v (C.Wait n index x None) S T d = absurd d
timed_out_stands cb a v (C.Access n access) S T d = absurd d
timed_out_stands cb a v (C.Notify n index k) S T d = absurd d

-- a timeout of one that doesn't wait finds that
time_not_waiting : (plan : PlanParts) (i a : ℕ) (g : Agent) (S : State) (w : What) → stands S a ≡ false
    → CanDo plan (TimeUp i) a g S w → w ≡ Stuck Y.NotWaiting
time_not_waiting plan i a g S (Stuck Y.NotWaiting) n f = refl
time_not_waiting plan i a g S (Stuck Y.Endless) n f = absurd (false≢true (sym n ∙ f.goes.justified.0))
time_not_waiting plan i a g S (Stuck Y.Done) n f = absurd (false≢true f.kind)
time_not_waiting plan i a g S (Stuck Y.Waiting) n f = absurd (false≢true f.kind)
time_not_waiting plan i a g S (Left A.TimedOut) n f =
    absurd (false≢true (sym n ∙ timed_out_stands f.goes.acts.script.can_block a f.goes.acts.view f.goes.acts.call S
    f.target f.goes.acts.does))
time_not_waiting plan i a g S w n f = absurd (false≢true f.kind)

-- an act that leaves is by a notify or by a timeout
left_answers : (cb : Bool) (a : ℕ) (v : PlanView) (call : Call) (S T : State) (x : Answer)
    → DoesCall cb a v call S (Left x) T → ((x ≡ A.Woken) × (S.notified a ≡ true)) ⊎ (x ≡ A.TimedOut)
left_answers cb a v (C.Wait n index y t) S T A.Woken d = inl (refl, d.0)
left_answers cb a v (C.Wait n index y t) S T A.TimedOut d = inr refl
left_answers cb a v call S T x d = absurd (first_of (assumption, cc))

-- by a step it is by a notify
step_left : (plan : PlanParts) (i a : ℕ) (g : Agent) (S : State) (x : Answer) → CanDo plan (Step i) a g S (Left x)
    → (x ≡ A.Woken) × (S.notified a ≡ true)
step_left plan i a g S x f = grind (arith, common_steps, left_answers, false≢true, answers_move)

-- whether it is stuck
stuck_cases : (w : What) → (is_stuck w ≡ false) ⊎ ((why : Why) × (w ≡ Stuck why))
stuck_cases (Stuck why) = inr (why, refl)
stuck_cases Began = inl refl
stuck_cases (Acted x) = inl refl
stuck_cases Enlisted = inl refl
stuck_cases (Left x) = inl refl
stuck_cases (Returned x) = inl refl

-- a step is stuck only where nothing is left to do, or the agent waits
step_stuck : (plan : PlanParts) (i a : ℕ) (g : Agent) (S : State) (why : Why) → CanDo plan (Step i) a g S (Stuck why)
    → ((why ≡ Y.Done) × (g.returned ≡ length (calls_of plan a))) ⊎ ((why ≡ Y.Waiting) × (stands S a ≡ true))
step_stuck plan i a g S Y.Done f = inl (refl, f.goes.justified)
step_stuck plan i a g S Y.Waiting f = inr (refl, f.goes.justified)
step_stuck plan i a g S Y.NotWaiting f = absurd (false≢true f.kind)
step_stuck plan i a g S Y.Endless f = absurd (false≢true f.kind)

-- a step of one that has a call and doesn't wait isn't stuck
step_unstuck : (plan : PlanParts) (i a : ℕ) (g : Agent) (S : State) (w : What) → stands S a ≡ false
    → g.returned < length (calls_of plan a) → CanDo plan (Step i) a g S w → is_stuck w ≡ false
step_unstuck plan i a g S w n c f = grind (arith, common_steps, stuck_cases, step_stuck, false≢true)

-- a step of one that was woken leaves
step_woken : (plan : PlanParts) (i a : ℕ) (g : Agent) (S : State) (w : What) → g.phase ≡ P.Woken → stands S a ≡ false
    → g.returned < length (calls_of plan a) → CanDo plan (Step i) a g S w → w ≡ Left A.Woken
step_woken plan i a g S w e n c f = grind (arith, common_steps, step_unstuck, step_left)

-- a step of one that waits is stuck
step_waiting : (plan : PlanParts) (i a : ℕ) (p : Place) (t : ℕ) (g : Agent) (S : State) (w : What)
    → g.phase ≡ P.Waiting p t → S.notified a ≡ false → g.returned < length (calls_of plan a)
    → CanDo plan (Step i) a g S w → w ≡ Stuck Y.Waiting
step_waiting plan i a p t g S w e n c f = grind (arith, common_steps, stuck_cases, step_left, false≢true, step_stuck)

-- a step of one that has its answer returns it
step_answered : (plan : PlanParts) (i a : ℕ) (x : Answer) (g : Agent) (S : State) (w : What) → g.phase ≡ P.Answered x
    → stands S a ≡ false → g.returned < length (calls_of plan a) → CanDo plan (Step i) a g S w → w ≡ Returned x
step_answered plan i a x g S w e n c f =
    subst (λ (ph : Phase). MayFollow ph w) e (f.next (step_unstuck plan i a g S w n c f)).0

-- a step of one between two calls begins the next, or is stuck where there is none
step_ready : (plan : PlanParts) (i a : ℕ) (g : Agent) (S : State) (w : What) → g.phase ≡ P.Ready → stands S a ≡ false
    → CanDo plan (Step i) a g S w
    → ((w ≡ Began) × (g.returned < length (calls_of plan a)))
    ⊎ ((w ≡ Stuck Y.Done) × (g.returned ≡ length (calls_of plan a)))
step_ready plan i a g S w e n f = grind (arith, common_steps, stuck_cases, step_stuck, false≢true)

timed_out_is_timed : (cb : Bool) (a : ℕ) (v : PlanView) (call : Call) (S T : State)
    → DoesCall cb a v call S (Left A.TimedOut) T → is_timed (Some call) ≡ true
timed_out_is_timed cb a v (C.Wait n index x (Some t)) S T d = refl
timed_out_is_timed cb a v (C.Wait n index x None) S T d = absurd d
timed_out_is_timed cb a v (C.Access n access) S T d = absurd d
timed_out_is_timed cb a v (C.Notify n index k) S T d = absurd d

forever_not_timed : (call : Call) → WaitsForever call → is_timed (Some call) ≡ false
forever_not_timed (C.Wait n index x None) h = refl
forever_not_timed (C.Wait n index x (Some t)) h = absurd h
forever_not_timed (C.Access n access) h = absurd h
forever_not_timed (C.Notify n index k) h = absurd h

-- the call of an act is the agent's
call_of-does : (plan : PlanParts) (S T : State) (e : Entry) (d : Does plan S e T)
    → call_of plan e.agent e.call ≡ Some d.call
call_of-does plan S T e d = rw d.script_is d.call_is

-- a timeout of one that waits ends the wait, if it may end so
time_waiting : (plan : PlanParts) (i a : ℕ) (g : Agent) (S : State) (w : What) → stands S a ≡ true
    → CanDo plan (TimeUp i) a g S w
    → w ≡ cond (is_timed (call_of plan a g.returned)) (Left A.TimedOut) (Stuck Y.Endless)
time_waiting plan i a g S (Stuck Y.NotWaiting) n f = absurd (false≢true (sym f.goes.justified ∙ n))
time_waiting plan i a g S (Stuck Y.Endless) n f = grind (arith, common_steps, is_timed, call_of, forever_not_timed)
time_waiting plan i a g S (Stuck Y.Done) n f = absurd (false≢true f.kind)
time_waiting plan i a g S (Stuck Y.Waiting) n f = absurd (false≢true f.kind)
time_waiting plan i a g S (Left A.TimedOut) n f =
    grind (arith, common_steps, is_timed, call_of, call_of-does, its_entry, timed_out_is_timed)
time_waiting plan i a g S w n f = absurd (false≢true f.kind)

begun_outcome : (plan : PlanParts) (a : ℕ) (g : Agent) (S T : State) (w : What) → MayFollow P.Begun w
    → MatchBool (is_act w) (Does plan S (its_entry a g w) T) (T ≡ S) → IsOutcome w × Does plan S (its_entry a g w) T
begun_outcome plan a g S T (Acted x) may d = (tt, d)
begun_outcome plan a g S T Enlisted may d = (tt, d)
begun_outcome plan a g S T w (inl e) d = absurd (cc)
begun_outcome plan a g S T w (inr e) d = absurd (let f = e.1 in cc)

-- a step of one that has begun its call is an outcome of it
step_begun : (plan : PlanParts) (i a : ℕ) (g : Agent) (S : State) (w : What) → g.phase ≡ P.Begun → stands S a ≡ false
    → g.returned < length (calls_of plan a) → CanDo plan (Step i) a g S w
    → (T : State) × IsOutcome w × Does plan S (its_entry a g w) T
step_begun plan i a g S w e n c f = grind (arith, common_steps, begun_outcome, step_unstuck)

-- one that is at a call has it
IsAtCall-within : (plan : PlanParts) (calls : List Call) (n : ℕ) (ph : Phase) → IsAtCall plan calls n ph
    → (ph ≡ P.Ready → ⊥) → n < length calls
IsAtCall-within plan calls n P.Ready at busy = absurd (busy refl)
IsAtCall-within plan calls n P.Begun at busy = slice_get_within calls n at.0 at.1
IsAtCall-within plan calls n (P.Waiting p t) at busy = slice_get_within calls n at.0 at.1
IsAtCall-within plan calls n P.Woken at busy = slice_get_within calls n at.0 at.1
IsAtCall-within plan calls n (P.Answered x) at busy = slice_get_within calls n at.0 at.1

-- two that an agent can do by one move are one
pub CanDo-one : (plan : PlanParts) (m : Move) (machine : MachineParts) (a : ℕ) (g : Agent) (S : State) (w w' : What)
    (ph : Phase)
    → g.phase ≡ ph → slice_get machine.agents a ≡ Some g → IsAtCall plan (calls_of plan a) g.returned ph
    → Represents machine S → CanDo plan m a g S w → CanDo plan m a g S w' → w ≡ w'
CanDo-one plan (TimeUp i) machine a g S w w' (P.Waiting p t) e g_is at l f f' =
    let st : stands S a ≡ true = l.stands_is a ∙ (rw (g_is, e) refl) in
    time_waiting plan i a g S w st f ∙ sym (time_waiting plan i a g S w' st f')
CanDo-one plan (Step i) machine a g S w w' (P.Waiting p t) e g_is at l f f' =
    let ca : S.notified a ≡ false = l.notified_is a ∙ (rw (g_is, e) refl) in
    let there = IsAtCall-within plan (calls_of plan a) g.returned (P.Waiting p t) at (λ q. cc) in
    step_waiting plan i a p t g S w e ca there f ∙ sym (step_waiting plan i a p t g S w' e ca there f')
CanDo-one plan (Step i) machine a g S w w' P.Ready e g_is at l f f' = grind (arith, common_steps, step_ready)
CanDo-one plan (Step i) machine a g S w w' P.Begun e g_is at l f f' =
    let st = Represents-not_waiting machine a g S l g_is (rw e refl) in
    let there = IsAtCall-within plan (calls_of plan a) g.returned P.Begun at (λ q. cc) in
    let d = step_begun plan i a g S w e st there f in
    let d' = step_begun plan i a g S w' e st there f' in
    (Does-one_outcome plan a g.returned S d.0 d'.0 w w' d.1 d'.1 d.2 d'.2).0
CanDo-one plan (Step i) machine a g S w w' P.Woken e g_is at l f f' =
    grind (arith, common_steps, calls_of, step_woken)
CanDo-one plan (Step i) machine a g S w w' (P.Answered x) e g_is at l f f' =
    grind (arith, common_steps, calls_of, step_answered)
CanDo-one plan (TimeUp i) machine a g S w w' ph e g_is at l f f' =
    let st : stands S a ≡ false = Represents-not_waiting machine a g S l g_is (rw e refl) in
    time_not_waiting plan i a g S w st f ∙ sym (time_not_waiting plan i a g S w' st f')
