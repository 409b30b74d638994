use Rattle.std.proofs.Common.{ap, ◌∙◌}
use Rattle.std.proofs.lemmas.Result.{IfOk-weaker}
use Rattle.clap.specs.Words.{App}
use Rattle.sab_cli.specs.Command.CommandLine.{check_app, judge_app, with_command}
use Rattle.sab_cli.proofs.OfCommand.Added.{command_added}
use Rattle.sab_cli.proofs.command.command_line.with_checks.Goals as goal

pub returns-clause-app : goal.returns-clause-app
returns-clause-app c =
    let judge = command_added (judge_app c.args.formats) c.args.command c.in_ok-command.command c.judge_command.result
    c.judge_command.ensures c.in_ok-command.ensures in
    IfOk-weaker c.with_subcommand-2.result _ _ (λ it added.
    let check = command_added check_app c.in_ok-command.command it c.check_command.result c.check_command.ensures added in
    check.0 ∙ ap (λ (app : App). with_command app check_app) judge.0) c.with_subcommand-2.ensures

pub returns-clause-local : goal.returns-clause-local
returns-clause-local c =
    let judge = command_added (judge_app c.args.formats) c.args.command c.in_ok-command.command c.judge_command.result
    c.judge_command.ensures c.in_ok-command.ensures in
    IfOk-weaker c.with_subcommand-2.result _ _ (λ it added local.
    let check = command_added check_app c.in_ok-command.command it c.check_command.result c.check_command.ensures added in
    check.1 (judge.1 local)) c.with_subcommand-2.ensures
