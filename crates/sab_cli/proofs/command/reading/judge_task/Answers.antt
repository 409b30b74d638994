use Rattle.std.proofs.Common.{rules, codes, true, false, subst}
use Rattle.clap.specs.Words.{first_value, found_of}
use Rattle.sab_cli.specs.Command.Asked.{IsGiven, IsVerdictFormat}
use Rattle.sab_cli.proofs.OfCommand.Rows.{first_by_rows}
use Rattle.sab_cli.proofs.command.reading.judge_task.Goals as goal

pub returns-then-has_flag-clause-task : goal.returns-then-has_flag-clause-task
returns-then-has_flag-clause-task c =
    let f = found_of c.args.matches.now in
    let trace : IsGiven (first_value f (codes "trace")) c.has_flag.result = search rules in
    first_by_rows (λ v. IsGiven (v (codes "trace")) true × IsVerdictFormat (v (codes "format")) c.verdict_format_of-format.result)
    f (subst (IsGiven (first_value f (codes "trace"))) c.if-has_flag.true trace, c.verdict_format_of-format.ensures)

pub returns-clause-task : goal.returns-clause-task
returns-clause-task c =
    let f = found_of c.args.matches.now in
    let trace : IsGiven (first_value f (codes "trace")) c.has_flag.result = search rules in
    let finish : IsGiven (first_value f (codes "finish")) c.has_flag-finish.result = search rules in
    first_by_rows (λ v. IsGiven (v (codes "trace")) false × IsVerdictFormat (v (codes "format")) c.verdict_format_of-format.result
    × IsGiven (v (codes "finish")) c.has_flag-finish.result)
    f (subst (IsGiven (first_value f (codes "trace"))) c.if-has_flag.false trace, c.verdict_format_of-format.ensures, finish)
