-- The phase is the object's.
use Rattle.std.proofs.Common.{rules, ◌≡◌, ◌∙◌, slice_get, Some, None, false, List, ap, sym, subst}
use Rattle.sab_sim.specs.declared.agent.Agent.{Agent}
use Rattle.sab_sim.specs.Agent.{is_waiting}
use Rattle.sab_object.specs.Object.{stands}
use Rattle.sab_sim.specs.Shown.{AtEnd}
use Rattle.sab_sim.specs.Sim.{SimParts}
use Rattle.sab_sim.proofs.Fronts.{stands-kept}
use Rattle.sab_sim.proofs.sim.Sim.is_waiting.Goals as goal

pub returns-in-Some : goal.returns-in-Some
returns-in-Some c =
    let there : slice_get c.self.inside.machine.agents c.args.agent ≡ Some c.in-Some.agent = ap
    (λ (agents : List Agent). slice_get agents c.args.agent) (sym c.agents.ensures) ∙
    (sym c.find_agent.ensures ∙ search rules) in
    subst (λ (t : SimParts). AtEnd t.plan t.journal (λ S. c.is_waiting.result ≡ stands S c.args.agent)) c.self.view_is
    (λ S r. (c.is_waiting.ensures ∙ ap is_waiting (sym there)) ∙ stands-kept c.self.inside.plan
    c.self.inside.moves.items c.self.inside.journal.items c.self.inside.machine c.args.agent c.self.invariant.0.kept
    S r)

pub returns-in-None : goal.returns-in-None
returns-in-None c =
    let there : slice_get c.self.inside.machine.agents c.args.agent ≡ None = ap
    (λ (agents : List Agent). slice_get agents c.args.agent) (sym c.agents.ensures) ∙
    (sym c.find_agent.ensures ∙ search rules) in
    subst (λ (t : SimParts). AtEnd t.plan t.journal (λ S. false ≡ stands S c.args.agent)) c.self.view_is
    (λ S r. ap is_waiting (sym there) ∙ stands-kept c.self.inside.plan c.self.inside.moves.items
    c.self.inside.journal.items c.self.inside.machine c.args.agent c.self.invariant.0.kept S r)
