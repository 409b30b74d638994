use Rattle.std.proofs.lemmas.Result.{IfOk-weaker}
use Rattle.sab_cli.proofs.OfCommand.Added.{rules_added}
use Rattle.sab_cli.proofs.command.command_line.with_arguments.Goals as goal

pub returns : goal.returns
returns c = IfOk-weaker c.args-2.result _ _
    (λ it added rules have. rules_added c.args.arguments.items rules c.args.command it have added) c.args-2.ensures
