-- By the state that the journal leads to.
use Rattle.std.proofs.Common.{◌∙◌, sym, subst}
use Rattle.sab_sim.specs.Run.{Reaches}
use Rattle.sab_sim.specs.Sim.{SimParts}
use Rattle.sab_replay.proofs.OfExplain.OneStanding.{at_last}
use Rattle.sab_replay.proofs.explain.explainer.Explainer.at.Goals as goal

pub returns : goal.returns
returns c S r =
    let r' = subst (λ (t : SimParts). Reaches t.plan t.journal S) (sym c.self.view_is) r in
    at_last c.args.self.now.plan c.args.self.now.journal S c.args.agent c.args.place c.args.since c.args.last
    (sym (c.is_waiting.ensures S r') ∙ c.if-is_waiting.false) (sym (c.is_woken.ensures S r') ∙ c.if-is_woken.false)
    c.requires.last
