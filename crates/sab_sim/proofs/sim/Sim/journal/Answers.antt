-- What is kept fits.
use Rattle.std.proofs.Common.{subst}
use Rattle.sab_sim.specs.Fits.{FitsMoves}
use Rattle.sab_sim.specs.Shown.{AtEnd}
use Rattle.sab_sim.specs.States.{HasStates, IsOfWaits}
use Rattle.sab_sim.specs.Sim.{SimParts}
use Rattle.sab_sim.proofs.KeptFits.{FitsMoves-kept}
use Rattle.sab_sim.proofs.Fronts.{HasStates-kept, IsOfWaits-kept}
use Rattle.sab_sim.proofs.sim.Sim.journal.Goals as goal

pub returns-clause-fits : goal.returns-clause-fits
returns-clause-fits c =
    let sim = c.self.inside in
    subst (λ (t : SimParts). FitsMoves t.plan t.moves t.journal t.blocks) c.self.view_is
    (FitsMoves-kept sim.plan sim.moves.items sim.journal.items sim.machine c.self.invariant.0)

pub returns-clause-states : goal.returns-clause-states
returns-clause-states c =
    let sim = c.self.inside in
    subst (λ (t : SimParts). HasStates t.plan t.journal) c.self.view_is
    (HasStates-kept sim.plan sim.moves.items sim.journal.items sim.machine c.self.invariant.0.kept)

pub returns-clause-line : goal.returns-clause-line
returns-clause-line c =
    let sim = c.self.inside in
    subst (λ (t : SimParts). AtEnd t.plan t.journal (IsOfWaits t.plan t.journal)) c.self.view_is
    (IsOfWaits-kept sim.plan sim.moves.items sim.journal.items sim.machine c.self.invariant.0.kept)
