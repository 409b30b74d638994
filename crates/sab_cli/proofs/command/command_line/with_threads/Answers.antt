use Rattle.std.proofs.lemmas.Result.{IfOk-weaker}
use Rattle.sab_cli.specs.Command.CommandLine.{thread_rules}
use Rattle.sab_cli.proofs.command.command_line.with_threads.Goals as goal

pub returns-clause-app : goal.returns-clause-app
returns-clause-app c = IfOk-weaker c.with_arguments.result _ _
    (λ it added. (added (thread_rules c.args.shares) c.in_ok-thread_arguments.ensures).0) c.with_arguments.ensures
