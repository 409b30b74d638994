-- Each call has its act.
use Rattle.std.proofs.Common.{◌≡◌, ℤ, Bool, Result, Ok, Err, Option, Some, List, ℕ, ap, ◌∙◌, subst, rules}
use Rattle.std.proofs.lemmas.Int.{to_z-of_z}
use Rattle.std.specs.Int.{w64}
use Rattle.std.proofs.lemmas.List.{with_items_is}
use Rattle.sab_block.specs.declared.thrown.Thrown.{Thrown}
use Rattle.sab_block.specs.declared.operand.Operand.{Operand}
use Rattle.sab_plan.specs.declared.place.Place.{Place}
use Rattle.sab_plan.specs.declared.plan_view.PlanView.{PlanView}
use Rattle.sab_object.specs.Finding.{FindsWait, FindsNotify}
use Rattle.sab_sim.proofs.CallActs.{is_acting, access_made, wait_threw, wait_differs, wait_joins, notify_threw, notify_made}
use Rattle.sab_sim.proofs.machine.Machine.perform.Goals as goal

-- what was found by the index and the bytes that the code passed
found_wait : (b : Bool) (v : PlanView) {z index : ℤ} (x : Operand) {mem mem' : List (List ℕ)}
    {r r' : Result (Option Place) Thrown}
    → z ≡ index → mem ≡ mem' → r ≡ r' → FindsWait b v z x mem r → FindsWait b v index x mem' r'
found_wait b v {z} {index} x {mem} {mem'} {r} {r'} e f g h =
    subst (λ i. FindsWait b v i x mem' r') e (subst (λ m. FindsWait b v z x m r') f (subst (FindsWait b v z x mem) g h))

pub returns-in-Some-Access-clause-turns : goal.returns-in-Some-Access-clause-turns
returns-in-Some-Access-clause-turns c =
    let call = c.in-Some-Access in
    let acting = is_acting c.requires.ready c.requires.begun c.agent-returned.ensures c.call_at.ensures.call
    (call.is ∙ ap Some call.field-0-is) c.view_at.ensures.view in
    rw (c.answer.ensures.what, c.answer.ensures.machine)
    (access_made acting c.act_access-answer.result _ c.deref_mut.result.now _ _ c.self.view_is c.deref_mut.ensures.value
    (with_items_is c.self.inside.blocks _ (search rules)) c.act_access-answer.ensures.lens
    c.act_access-answer.ensures.answer)

pub returns-in-Ok-Some-clause-turns : goal.returns-in-Ok-Some-clause-turns
returns-in-Ok-Some-clause-turns c =
    let call = c.in-Some-Wait in
    let acting = is_acting c.requires.ready c.requires.begun c.agent-returned.ensures c.call_at.ensures.call
    (call.is ∙ ap Some call.field-0-is) c.view_at-in-Some-Wait.ensures.view in
    let found = found_wait c.can_block.result c.view_at-in-Some-Wait.result call.value
    (to_z-of_z w64 call.index (search rules))
    c.blocks-in-Some-Wait.ensures (c.in-Ok-Some.is ∙ ap Ok c.in-Ok-Some.field-0-is) c.find_wait.ensures in
    rw (c.enlist.ensures.what, c.enlist.ensures.machine)
    (wait_joins acting c.can_block.result c.in-Ok-Some.place c.can_block.ensures found)

pub returns-in-Ok-None-clause-turns : goal.returns-in-Ok-None-clause-turns
returns-in-Ok-None-clause-turns c =
    let call = c.in-Some-Wait in
    let acting = is_acting c.requires.ready c.requires.begun c.agent-returned.ensures c.call_at.ensures.call
    (call.is ∙ ap Some call.field-0-is) c.view_at-in-Some-Wait.ensures.view in
    let found = found_wait c.can_block.result c.view_at-in-Some-Wait.result call.value
    (to_z-of_z w64 call.index (search rules))
    c.blocks-in-Some-Wait.ensures (c.in-Ok-None.is ∙ ap Ok c.in-Ok-None.field-0-is) c.find_wait.ensures in
    rw (c.answer-in-Ok-None.ensures.what, c.answer-in-Ok-None.ensures.machine)
    (wait_differs acting c.can_block.result c.can_block.ensures found)

pub returns-in-Err-clause-turns : goal.returns-in-Err-clause-turns
returns-in-Err-clause-turns c =
    let call = c.in-Some-Wait in
    let acting = is_acting c.requires.ready c.requires.begun c.agent-returned.ensures c.call_at.ensures.call
    (call.is ∙ ap Some call.field-0-is) c.view_at-in-Some-Wait.ensures.view in
    let found = found_wait c.can_block.result c.view_at-in-Some-Wait.result call.value
    (to_z-of_z w64 call.index (search rules))
    c.blocks-in-Some-Wait.ensures c.in-Err.is c.find_wait.ensures in
    rw (c.answer-in-Err.ensures.what, c.answer-in-Err.ensures.machine)
    (wait_threw acting c.can_block.result c.in-Err.thrown c.can_block.ensures found)

pub returns-in-Ok-clause-turns : goal.returns-in-Ok-clause-turns
returns-in-Ok-clause-turns c =
    let call = c.in-Some-Notify in
    let acting = is_acting c.requires.ready c.requires.begun c.agent-returned.ensures c.call_at.ensures.call
    (call.is ∙ ap Some call.field-0-is) c.view_at-in-Some-Notify.ensures.view in
    let found = subst (λ (z : ℤ). FindsNotify c.view_at-in-Some-Notify.result z (Ok c.in-Ok.place))
    (to_z-of_z w64 call.index (search rules)) c.in-Ok.ensures in
    rw (c.answer-in-Ok.ensures.what, c.answer-in-Ok.ensures.machine)
    (notify_made acting c.in-Ok.place c.wake-woken.result _ c.deref_mut-in-Ok.result.now _ _ found c.self.view_is
    c.deref_mut-in-Ok.ensures.value
    (with_items_is c.self.inside.agents _ (search rules)) c.wake-woken.auto.agents c.wake-woken.ensures)

pub returns-in-Err-find_notify-clause-turns : goal.returns-in-Err-find_notify-clause-turns
returns-in-Err-find_notify-clause-turns c =
    let call = c.in-Some-Notify in
    let acting = is_acting c.requires.ready c.requires.begun c.agent-returned.ensures c.call_at.ensures.call
    (call.is ∙ ap Some call.field-0-is) c.view_at-in-Some-Notify.ensures.view in
    let thrown = c.in-Err-find_notify.thrown in
    let found = subst (λ (z : ℤ). FindsNotify c.view_at-in-Some-Notify.result z (Err thrown))
    (to_z-of_z w64 call.index (search rules)) c.in-Err-find_notify.ensures in
    rw (c.answer-in-Err-find_notify.ensures.what, c.answer-in-Err-find_notify.ensures.machine)
    (notify_threw acting thrown found)
