-- One move more is written.
use Rattle.std.proofs.Common.{rules, ◌≡◌, ◌∙◌, sym, subst, arith, length-append, ◌∷◌, [], ap}
use Rattle.std.proofs.lemmas.List.{take_more}
use Rattle.std.specs.Io.KnownBytes.{Appends, append_known}
use Rattle.sab_plan.specs.declared.schedule.Move.TheVariants.{Step}
use Rattle.sab_plan.specs.Plan.{PlanParts}
use Rattle.sab_sim.specs.Sim.{SimParts}
use Rattle.sab_report_text.specs.Words.FactFormat.{Texts}
use Rattle.sab_replay.specs.Report.Facts.{IsTheFact}
use Rattle.sab_replay.proofs.OfReport.Driving.{reported_more}
use Rattle.sab_replay.proofs.OfReport.LastNoted.{sinces_are}
use Rattle.sab_replay.proofs.report.driver.write_entries.Goals as goal

pub loop-k-preserved : goal.loop-k-preserved
loop-k-preserved g c =
    let plan : c.plan-plan.result.now ≡ c.args.explainer.now.plan = c.plan-plan.ensures
    ∙ (ap (λ (s : SimParts). s.plan) c.sim.ensures ∙ (c.step.ensures.plan ∙ c.loop-k.invariant.plan)) in
    let old = append_known (g.W.Write.contents c.loop-k.w) c.loop-k.chunk in
    let new = append_known (g.W.Write.contents c.write_entry.new.w) c.write_entry.new.chunk in
    let reported : Appends old new ((g.F.FactFormat.texts c.args.format.now).entry c.args.explainer.now.plan
    c.last_positions-sinces.result c.loop-k.k c.in-Ok.reported.entry c.in-Ok.reported.fact)
    = subst (λ (p : PlanParts). Appends old new ((g.F.FactFormat.texts c.args.format.now).entry p
    c.last_positions-sinces.result c.loop-k.k c.in-Ok.reported.entry c.in-Ok.reported.fact)) plan
    (subst (λ (t : Texts). Appends old new (t.entry c.plan-plan.result.now c.last_positions-sinces.result c.loop-k.k
    c.in-Ok.reported.entry c.in-Ok.reported.fact)) c.loop-k.invariant.same c.in_ok-write_entry.ensures.written) in
    record {
      plan = c.step.ensures.plan ∙ c.loop-k.invariant.plan;
      moves =
          rw (c.in-Ok.ensures.moves, c.loop-k.invariant.moves)
          (sym (take_more c.args.schedule.now c.loop-k.k (Step 0) c.loop-k-test.true));
      count =
          rw (
            c.in-Ok.ensures.journal,
            length-append c.loop-k.explainer.journal (c.in-Ok.reported.entry ∷ []),
            c.loop-k.invariant.count,
          ) (omega arith);
      reserved = omega (arith, c.step.ensures.reserved, c.loop-k.invariant.reserved);
      same = c.write_entry.ensures.same ∙ c.loop-k.invariant.same;
      reported =
          rw c.in-Ok.ensures.journal (reported_more (g.F.FactFormat.texts c.args.format.now) c.args.explainer.now.plan
          c.loop-k.explainer.journal _ old new c.last_positions-sinces.result c.loop-k.k c.in-Ok.reported.entry
          c.in-Ok.reported.fact c.loop-k.invariant.count (sinces_are c.loop-k.explainer.journal c.last_positions-sinces.result (search rules)
          c.last_positions-sinces.ensures) c.loop-k.invariant.reported
          (subst (λ (p : PlanParts). IsTheFact p c.loop-k.explainer.journal c.in-Ok.reported.entry c.in-Ok.reported.fact)
          c.loop-k.invariant.plan
          (record { fact_is = c.in-Ok.ensures.fact; only = c.in-Ok.ensures.only })) reported);
    }
