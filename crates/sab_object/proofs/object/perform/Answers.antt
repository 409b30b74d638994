use Rattle.std.proofs.Common.{◌≡◌, ◌||◌, ℕ, ℤ, Bool, false, List, length, take, Option, Ok, sym, subst, ◌==◌, arith, rules}
use Rattle.std.specs.Prelude.{slice_index_or}
use Rattle.std.specs.List.{list_any}
use Rattle.std.proofs.lemmas.Int.{to_z-of_z}
use Rattle.std.specs.Int.{w64}
use Rattle.sab_plan.specs.declared.place.Place.{Place}
use Rattle.sab_plan.specs.declared.waiter.Waiter.{Waiter}
use Rattle.sab_plan.specs.declared.plan_view.PlanView.{PlanView}
use Rattle.sab_plan.specs.declared.call.Call.{Call}
use Rattle.sab_plan.specs.declared.call.Call.TheVariants as C
use Rattle.sab_plan.specs.declared.answer.Answer.TheVariants.{Count}
use Rattle.sab_plan.specs.declared.entry.What.TheVariants.{Acted}
use Rattle.sab_object.specs.Object.{DoesCall, waiters, without_first, woken_count}
use Rattle.sab_object.specs.Kept.{state_of, AreAgents}
use Rattle.sab_object.specs.Finding.{FindsNotify}
use Rattle.sab_object.proofs.LineAgents.{agents_push, agents_room}
use Rattle.sab_object.proofs.object.perform.Goals as goal

-- what a notify does, as the lists keep it
notify_does : (cb : Bool) (a : ℕ) (v : PlanView) (n k : ℕ) (index : ℤ) (count : Option ℤ) (p : Place) (mem : List (List ℕ)) (line line' : List Waiter) (was is : List Bool)
    → FindsNotify v index (Ok p) → k ≡ woken_count count (length (waiters p line)) → line' ≡ without_first k p line
    → ((b : ℕ) → slice_index_or is b false ≡ (slice_index_or was b false || list_any (λ c. c == b) (take k (waiters p line))))
    → DoesCall cb a v (C.Notify n index count) (state_of mem line was) (Acted (Count k)) (state_of mem line' is)
notify_does cb a v n k index count p mem line line' was is found many rest each =
    (found.0, (p, found.1, many, λ i. record { mem = mem; line = rest i; notified = λ b. each b i }))

-- the agent isn't in the line, so there is room for one more waiter
pub push_reserved-requires : goal.push_reserved-requires
push_reserved-requires c =
    let less = agents_room c.args.line.now.items (length c.args.woken.now)
    (record { place = c.in-Ok-Some.place; agent = c.args.agent }) c.requires.agents c.requires.agent c.requires.free in
    omega (arith, less, c.requires.few, c.requires.room, c.args.line.now.ok)

pub returns-in-Ok-Some-clause-agents : goal.returns-in-Ok-Some-clause-agents
returns-in-Ok-Some-clause-agents c =
    subst (AreAgents (length c.args.woken.now)) (sym c.push_reserved.ensures.items)
    (agents_push c.args.line.now.items (length c.args.woken.now) _ c.requires.agents c.requires.agent c.requires.free)

pub returns-in-Ok-clause-does : goal.returns-in-Ok-clause-does
returns-in-Ok-clause-does c =
    let found = subst (λ (z : ℤ). FindsNotify c.args.view.now z (Ok c.in-Ok.place)) (to_z-of_z w64 c.in-Notify.index (search rules)) c.in-Ok.ensures in
    subst (λ (call : Call). DoesCall c.args.can_block c.args.agent c.args.view.now call
    (state_of c.args.blocks.now c.args.line.now.items c.args.woken.now) (Acted (Count c.wake.result))
    (state_of c.args.blocks.now c.wake.new.line.items c.wake.new.woken)) (sym c.in-Notify.is)
    (notify_does c.args.can_block c.args.agent c.args.view.now c.in-Notify.view c.wake.result c.in-Notify.index c.in-Notify.count c.in-Ok.place _ _ _ _ _
    found c.wake.ensures.many c.wake.ensures.line c.wake.ensures.woken)
