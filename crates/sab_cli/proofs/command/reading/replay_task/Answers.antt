use Rattle.std.proofs.Common.{rules, codes}
use Rattle.clap.specs.Words.{first_value, found_of}
use Rattle.sab_cli.specs.Command.Asked.{IsForm, IsGiven}
use Rattle.sab_cli.proofs.OfCommand.Rows.{first_by_rows}
use Rattle.sab_cli.proofs.command.reading.replay_task.Goals as goal

pub returns-clause-task : goal.returns-clause-task
returns-clause-task c =
    let f = found_of c.args.matches.now in
    let finish : IsGiven (first_value f (codes "finish")) c.has_flag-finish.result = search rules in
    first_by_rows (λ v. IsForm (v (codes "format")) (v (codes "acts")) c.form_of-form.result × IsGiven (v (codes "finish")) c.has_flag-finish.result)
    f (c.form_of-form.ensures, finish)
