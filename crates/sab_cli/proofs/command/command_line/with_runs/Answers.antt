use Rattle.std.proofs.Common.{ap, ◌∙◌}
use Rattle.std.proofs.lemmas.Result.{IfOk-weaker}
use Rattle.clap.specs.Words.{App}
use Rattle.sab_cli.specs.Command.CommandLine.{race_app, replay_app, with_command}
use Rattle.sab_cli.proofs.OfCommand.Added.{command_added}
use Rattle.sab_cli.proofs.command.command_line.with_runs.Goals as goal

pub returns-clause-app : goal.returns-clause-app
returns-clause-app c =
    let replay = command_added (replay_app c.args.formats) c.args.command c.in_ok-command.command c.replay_command.result
    c.replay_command.ensures c.in_ok-command.ensures in
    IfOk-weaker c.with_subcommand-2.result _ _ (λ it added.
    let race = command_added (race_app c.args.formats c.args.shares) c.in_ok-command.command it c.race_command.result
    c.race_command.ensures added in
    race.0 ∙ ap (λ (app : App). with_command app (race_app c.args.formats c.args.shares)) replay.0) c.with_subcommand-2.ensures

pub returns-clause-local : goal.returns-clause-local
returns-clause-local c =
    let replay = command_added (replay_app c.args.formats) c.args.command c.in_ok-command.command c.replay_command.result
    c.replay_command.ensures c.in_ok-command.ensures in
    IfOk-weaker c.with_subcommand-2.result _ _ (λ it added local.
    let race = command_added (race_app c.args.formats c.args.shares) c.in_ok-command.command it c.race_command.result
    c.race_command.ensures added in
    race.1 (replay.1 local)) c.with_subcommand-2.ensures
