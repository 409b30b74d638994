-- A journal and its fronts lead to one state each, and what the agents show of it.
use Rattle.std.proofs.Common.{◌≡◌, ℕ, zero, suc, ◌<◌, true, false, List, [], ◌∷◌, ◌++◌, length, take, drop, slice_get, Option, Some, None, refl, ap, sym, ◌∙◌, subst, arith}
use Rattle.std.proofs.lemmas.Grind.{common_steps}
use Rattle.std.specs.Prelude.{slice_index_or}
use Rattle.std.proofs.lemmas.Bool.{false≢true}
use Rattle.std.proofs.lemmas.List.{take-append-drop}
use Rattle.std.proofs.lemmas.List.Elements.{filter-append}
use Rattle.sab_plan.specs.declared.place.Place.{Place}
use Rattle.sab_plan.specs.declared.entry.Entry.{Entry}
use Rattle.sab_plan.specs.declared.schedule.Move.{Move}
use Rattle.sab_sim.specs.declared.agent.Agent.{Agent}
use Rattle.sab_sim.specs.declared.agent.Phase.{Phase}
use Rattle.sab_sim.specs.declared.agent.Phase.TheVariants as P
use Rattle.sab_plan.specs.Entry.{is_act}
use Rattle.sab_plan.specs.Plan.{PlanParts, calls_of, call_of}
use Rattle.sab_plan.specs.declared.waiter.Waiter.{Waiter}
use Rattle.sab_object.specs.Object.{State, opening, stands}
use Rattle.sab_plan.specs.Journal.{acts_of, returned_of}
use Rattle.sab_sim.specs.Run.{Run, Reaches}
use Rattle.sab_sim.specs.Agent.{is_woken, is_waiting, waiting_phase, woken_phase, IsAtCall}
use Rattle.sab_sim.specs.Line.{WaitsAt}
use Rattle.sab_sim.specs.Machine.{MachineParts, IsSeated}
use Rattle.sab_sim.specs.Kept.{Kept}
use Rattle.sab_sim.specs.Shown.{AtEnd}
use Rattle.sab_sim.specs.States.{HasStates, IsWaitAt, IsOfWaits}
use Rattle.sab_sim.proofs.OnlyRun.{Run-append}
use Rattle.sab_sim.proofs.PlaceLine.{Reaches-one}

-- a journal's front leads to a state too
pub Reaches-front : (plan : PlanParts) (journal : List Entry) (k : ℕ) (S : State) → Reaches plan journal S
    → (U : State) × Reaches plan (take k journal) U
Reaches-front plan journal k S r =
    let whole : acts_of (take k journal) ++ acts_of (drop k journal) ≡ acts_of journal = sym
    (filter-append (λ (f : Entry). is_act f.what) (take k journal) (drop k journal)) ∙ ap acts_of
    (take-append-drop k journal) in
    let split = Run-append plan (opening plan.lens) (acts_of (take k journal)) (acts_of (drop k journal)) S
    (subst (λ (es : List Entry). Run plan (opening plan.lens) es S) (sym whole) r) in
    (split.0, split.1)

-- so each front leads to one
pub HasStates-kept : (plan : PlanParts) (moves : List Move) (journal : List Entry) (m : MachineParts)
    → Kept plan moves journal m → HasStates plan journal
HasStates-kept plan moves journal m kept k =
    let front = Reaches-front plan journal k kept.object.0 kept.object.1 in
    (front.0, front.1, λ T r. Reaches-one plan (take k journal) T front.0 r front.1)

-- ---- the line

-- who is in a line waits there
waits_in : (agents : List Agent) (low : ℕ) (line : List Waiter) → IsSeated agents low line → (k : ℕ) (w : Waiter)
    → k < length line → slice_index_or line k w ≡ w → (t : ℕ) × WaitsAt agents w.agent w.place t
waits_in agents low [] s k w l e = absurd (omega (arith, l))
waits_in agents low (v ∷ line) s zero w l e = (s.0, subst (λ (x : Waiter). WaitsAt agents x.agent x.place s.0) e s.2)
waits_in agents low (v ∷ line) s (suc k) w l e = waits_in agents (suc s.0) line s.3 k w (omega (arith, l)) e

-- an agent that waits is at a wait at its place
at_wait : (plan : PlanParts) (journal : List Entry) (a : ℕ) (g : Agent) (ph : Phase) (p : Place) (t : ℕ)
    → IsAtCall plan (calls_of plan a) g.returned ph → ph ≡ P.Waiting p t → returned_of journal a ≡ g.returned
    → IsWaitAt plan journal a p
at_wait plan journal a g ph p t at e returned =
    let here = subst (λ (x : Phase). IsAtCall plan (calls_of plan a) g.returned x) e at in
    (here.0, ap (call_of plan a) returned ∙ here.1, here.2)

-- who waits wasn't woken
not_woken : (g : Option Agent) → is_waiting g ≡ true → is_woken g ≡ false
not_woken None e = refl
not_woken (Some g) e = grind (arith, common_steps, waiting_phase, woken_phase, false≢true)

pub IsOfWaits-kept : (plan : PlanParts) (moves : List Move) (journal : List Entry) (m : MachineParts)
    → Kept plan moves journal m → AtEnd plan journal (IsOfWaits plan journal)
IsOfWaits-kept plan moves journal m kept T r = subst (IsOfWaits plan journal) same (record {
  at_waits = λ p a c.
      let w = waits_in m.agents 0 S.line kept.object.2.seated c.0 (record { place = p; agent = a }) c.1 c.2 in
      let where_it_is = kept.agents_are a w.1.0 w.1.1 in
      at_wait plan journal a w.1.0 w.1.0.phase p w.0 where_it_is.at_call w.1.2 where_it_is.returned;
  unnotified =
      λ a e. kept.object.2.notified_is a ∙ not_woken (slice_get m.agents a) (sym (kept.object.2.stands_is a) ∙ e);
})
  where
    S : State
    S = kept.object.0

    same : S ≡ T
    same = Reaches-one plan journal S T kept.object.1 r

-- whether an agent was woken
pub notified-kept : (plan : PlanParts) (moves : List Move) (journal : List Entry) (m : MachineParts) (a : ℕ)
    → Kept plan moves journal m → AtEnd plan journal (λ S. is_woken (slice_get m.agents a) ≡ S.notified a)
notified-kept plan moves journal m a kept T r =
    subst (λ (U : State). is_woken (slice_get m.agents a) ≡ U.notified a)
    (Reaches-one plan journal kept.object.0 T kept.object.1 r) (sym (kept.object.2.notified_is a))

-- whether an agent stands in the line
pub stands-kept : (plan : PlanParts) (moves : List Move) (journal : List Entry) (m : MachineParts) (a : ℕ)
    → Kept plan moves journal m → AtEnd plan journal (λ S. is_waiting (slice_get m.agents a) ≡ stands S a)
stands-kept plan moves journal m a kept T r =
    subst (λ (U : State). is_waiting (slice_get m.agents a) ≡ stands U a)
    (Reaches-one plan journal kept.object.0 T kept.object.1 r) (sym (kept.object.2.stands_is a))

-- the call that an agent is at
pub next_call-kept : (plan : PlanParts) (moves : List Move) (journal : List Entry) (m : MachineParts) (a : ℕ)
    (g : Agent)
    → Kept plan moves journal m → slice_get m.agents a ≡ Some g
    → call_of plan a g.returned ≡ call_of plan a (returned_of journal a)
next_call-kept plan moves journal m a g kept g_is = ap (call_of plan a) (sym (kept.agents_are a g g_is).returned)
