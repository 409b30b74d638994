-- Each phase has its step.
use Rattle.std.proofs.Common.{ap, sym, ◌∙◌, add-one}
use Rattle.std.specs.Prelude.{is_some}
use Rattle.sab_sim.specs.Agent.{waiting_phase}
use Rattle.sab_plan.specs.declared.entry.Why.TheVariants.{Waiting}
use Rattle.sab_sim.proofs.OwnMoves.{has_turn, began_turn, returned_turn, stuck_turn, its_stands}
use Rattle.sab_sim.proofs.LineMoves.{woken_turn}
use Rattle.sab_sim.proofs.machine.Machine.step.Goals as goal

pub returns-else-is_none-clause-turns : goal.returns-else-is_none-clause-turns
returns-else-is_none-clause-turns c =
    let turn = has_turn c.args.plan.now c.args.self.now c.args.a c.requires in
    let ready = rw c.agent-returned.ensures at c.in-Ready.is in
    let call = rw c.agent-returned.ensures at c.call_at.ensures.call in
    rw (c.put.ensures, c.agent-returned.ensures) (began_turn turn ready (ap is_some (sym call) ∙ c.if-is_none.ensures))

pub returns-in-Waiting-clause-turns : goal.returns-in-Waiting-clause-turns
returns-in-Waiting-clause-turns c =
    let turn = has_turn c.args.plan.now c.args.self.now c.args.a c.requires in
    let waiting = rw c.agent-returned.ensures at c.in-Waiting.is in
    stuck_turn turn Waiting (its_stands turn _ (ap waiting_phase waiting))

pub returns-in-Woken-clause-turns : goal.returns-in-Woken-clause-turns
returns-in-Woken-clause-turns c =
    let turn = has_turn c.args.plan.now c.args.self.now c.args.a c.requires in
    let woken = rw c.agent-returned.ensures at c.in-Woken.is in
    rw (c.put-in-Woken.ensures, c.agent-returned.ensures) (woken_turn turn woken)

pub returns-in-Answered-clause-turns : goal.returns-in-Answered-clause-turns
returns-in-Answered-clause-turns c =
    let turn = has_turn c.args.plan.now c.args.self.now c.args.a c.requires in
    let answered = rw c.agent-returned.ensures at c.in-Answered.is in
    rw (c.put-in-Answered.ensures, c.agent-returned.ensures, add-one) (returned_turn turn c.in-Answered.answer answered)
