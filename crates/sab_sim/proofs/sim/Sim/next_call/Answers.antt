-- As many calls of an agent have returned as the agent keeps.
use Rattle.std.proofs.Common.{rules, ◌≡◌, ◌∙◌, slice_get, Some, List, ap, sym, subst}
use Rattle.sab_sim.specs.declared.agent.Agent.{Agent}
use Rattle.sab_plan.specs.Plan.{call_of}
use Rattle.sab_plan.specs.Journal.{returned_of}
use Rattle.sab_sim.specs.Sim.{SimParts}
use Rattle.sab_sim.proofs.Fronts.{next_call-kept}
use Rattle.sab_sim.proofs.sim.Sim.next_call.Goals as goal

pub returns : goal.returns
returns c =
    let there : slice_get c.self.inside.machine.agents c.args.agent ≡ Some c.in_ok-returned.field-0 = ap
    (λ (agents : List Agent). slice_get agents c.args.agent) (sym c.agents.ensures) ∙
    (sym c.find_agent.ensures ∙ search rules) in
    subst (λ (t : SimParts). c.call_at.result ≡ call_of t.plan c.args.agent (returned_of t.journal c.args.agent))
    c.self.view_is
    (c.call_at.ensures.call ∙ next_call-kept c.self.inside.plan c.self.inside.moves.items c.self.inside.journal.items
    c.self.inside.machine c.args.agent c.in_ok-returned.field-0 c.self.invariant.0.kept there)
