use Rattle.std.proofs.lemmas.Result.{IfOk-weaker}
use Rattle.sab_cli.specs.Command.CommandLine.{search_app}
use Rattle.sab_cli.proofs.OfCommand.Added.{command_added}
use Rattle.sab_cli.proofs.command.command_line.with_search.Goals as goal

pub returns-clause-app : goal.returns-clause-app
returns-clause-app c =
    IfOk-weaker c.with_subcommand.result _ _ (λ it added.
    (command_added (search_app c.args.timeouts c.args.formats) c.args.command it c.search_command.result
    c.search_command.ensures added).0) c.with_subcommand.ensures

pub returns-clause-local : goal.returns-clause-local
returns-clause-local c =
    IfOk-weaker c.with_subcommand.result _ _ (λ it added.
    (command_added (search_app c.args.timeouts c.args.formats) c.args.command it c.search_command.result
    c.search_command.ensures added).1) c.with_subcommand.ensures
