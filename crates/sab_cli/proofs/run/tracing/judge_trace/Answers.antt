-- The outcome is by whether there is a race.
use Rattle.sab_cli.proofs.OfRun.Traced.{clean_outcome, racy_outcome, judged}
use Rattle.sab_cli.proofs.run.tracing.judge_trace.Goals as goal

pub returns-then-has_no_race-clause-ok : goal.returns-then-has_no_race-clause-ok
returns-then-has_no_race-clause-ok g c =
    judged (g.R.Read.remaining c.args.input.now) (g.W.Write.contents c.args.output.now)
    (g.W.Write.contents c.report_verdict.new.output) c.args.format _ c.in-Ok.trace c.in-Ok-judge.verdict.races.items
    c.in-Ok-judge.verdict.rest c.in-Ok-judge.verdict.data_races c.in-Ok.ensures.ok c.in-Ok-judge.ensures
    c.in_ok-report_verdict.ensures.ok c.report_verdict.ensures.read_back
    (clean_outcome c.in-Ok.trace c.has_no_race.result
    (c.has_no_race.ensures c.in-Ok.trace _ c.in-Ok-judge.ensures) c.if-has_no_race.true)

pub returns-clause-ok : goal.returns-clause-ok
returns-clause-ok g c =
    judged (g.R.Read.remaining c.args.input.now) (g.W.Write.contents c.args.output.now)
    (g.W.Write.contents c.report_verdict.new.output) c.args.format _ c.in-Ok.trace c.in-Ok-judge.verdict.races.items
    c.in-Ok-judge.verdict.rest c.in-Ok-judge.verdict.data_races c.in-Ok.ensures.ok c.in-Ok-judge.ensures
    c.in_ok-report_verdict.ensures.ok c.report_verdict.ensures.read_back
    (racy_outcome c.in-Ok.trace c.has_no_race.result
    (c.has_no_race.ensures c.in-Ok.trace _ c.in-Ok-judge.ensures) c.if-has_no_race.false)
