-- What was reported stands in its column.
use Rattle.std.proofs.lemmas.Result.{IfOk-weaker}
use Rattle.sab_replay.proofs.OfReport.Formats.{in_its_column}
use Rattle.sab_replay.proofs.report.explaining.explain.Goals as goal

pub returns-clause-ok : goal.returns-clause-ok
returns-clause-ok g c =
    IfOk-weaker c.report_facts.result _ _
    (λ report h. in_its_column _ c.args.names.now c.args.plan c.args.lines c.args.schedule.now
    (g.W.Write.contents c.args.w.now) (g.W.Write.contents c.report_facts.new.w) report c.in_ok-column.ensures h)
    c.report_facts.ensures.ok
