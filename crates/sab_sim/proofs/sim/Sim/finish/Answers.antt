-- What is kept is reported.
use Rattle.std.proofs.Common.{◌∙◌, refl, subst}
use Rattle.sab_plan.specs.Report.{ReportParts, items_of_each}
use Rattle.sab_sim.specs.Fits.{Fits, IsOnly}
use Rattle.sab_sim.specs.Sim.{SimParts}
use Rattle.sab_sim.proofs.KeptFits.{Fits-kept}
use Rattle.sab_sim.proofs.OnlyReport.{IsOnly-kept}
use Rattle.sab_sim.proofs.sim.Sim.finish.Goals as goal

-- what is reported
abbrev report : goal.After-drop-plan-inside-3 → ReportParts
report c = record {
  schedule = c.self.inside.moves.items;
  journal = c.self.inside.journal.items;
  blocks = items_of_each c.hand_over.new.room.items;
  agents = c.report_progress.new.room.items;
}

-- of the plan that is kept
fits : (c : goal.After-drop-plan-inside-3) → Fits c.self.inside.plan (report c)
fits c =
    let sim = c.self.inside in
    Fits-kept sim.plan (report c) sim.moves.items sim.journal.items sim.machine c.self.invariant.0
    refl refl (c.hand_over.ensures ∙ c.into_blocks.ensures)
    (c.report_progress.ensures ∙ (rw (c.agents.ensures, c.scripts.ensures.scripts) refl))

pub returns-clause-fits : goal.returns-clause-fits
returns-clause-fits c = subst (λ (t : SimParts). Fits t.plan (report c)) c.self.view_is (fits c)

pub returns-clause-one : goal.returns-clause-one
returns-clause-one c =
    let sim = c.self.inside in
    subst (λ (t : SimParts). IsOnly t.plan (report c)) c.self.view_is
    (IsOnly-kept sim.plan (report c) sim.moves.items sim.journal.items sim.machine c.self.invariant.0
    refl refl (c.hand_over.ensures ∙ c.into_blocks.ensures) (fits c))
