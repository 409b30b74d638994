-- What was reported is a picture.
use Rattle.std.proofs.Common.{subst, ap₂}
use Rattle.std.proofs.lemmas.Result.{IfOk-weaker}
use Rattle.sab_report_text.specs.Words.FactFormat.{Texts}
use Rattle.sab_replay.specs.Report.Facts.{ReportsFacts}
use Rattle.sab_svg.specs.Picture.{svg_texts}
use Rattle.sab_replay.proofs.OfReport.Pictures.{draws}
use Rattle.sab_replay.proofs.report.explaining.draw.Goals as goal

pub returns-clause-ok : goal.returns-clause-ok
returns-clause-ok g c =
    IfOk-weaker c.report_facts.result _ _
    (λ report h. draws c.args.names.now c.args.plan c.args.schedule.now
    (g.W.Write.contents c.args.w.now) (g.W.Write.contents c.report_facts.new.w) report
    (subst (λ (t : Texts). ReportsFacts t c.args.plan c.args.schedule.now (g.W.Write.contents c.args.w.now)
    (g.W.Write.contents c.report_facts.new.w) report)
    (ap₂ svg_texts c.new-picture.ensures.names c.new-picture.ensures.shape) h))
    c.report_facts.ensures.ok
