-- What was reported reads back.
use Rattle.std.proofs.lemmas.Result.{IfOk-weaker}
use Rattle.sab_replay.proofs.OfReport.LinesRead.{explains}
use Rattle.sab_replay.proofs.report.explaining.explain_as_json.Goals as goal

pub returns-clause-ok : goal.returns-clause-ok
returns-clause-ok g c =
    IfOk-weaker c.report_facts.result _ _
    (λ report h. explains c.args.names.now c.args.lines c.args.plan c.args.schedule.now
    (g.W.Write.contents c.args.w.now) (g.W.Write.contents c.report_facts.new.w) report h)
    c.report_facts.ensures.ok
