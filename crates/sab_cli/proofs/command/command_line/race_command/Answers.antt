use Rattle.std.proofs.Common.{rules, codes, ap, ◌≡◌, ◌∙◌}
use Rattle.std.proofs.lemmas.Result.{IfOk-weaker}
use Rattle.clap.specs.Words.{App, app_of, new_app}
use Rattle.sab_cli.specs.Command.CommandLine.{report_rules, thread_rules, with_rules}
use Rattle.sab_cli.proofs.command.command_line.race_command.Goals as goal

pub returns : goal.returns
returns c =
    let named : app_of c.described.result ≡ new_app (codes "race") = search rules in
    let threads = c.in_ok-race.ensures.app ∙ ap (λ (app : App). with_rules app (thread_rules c.args.shares)) named in
    IfOk-weaker c.with_arguments.result _ _ (λ it added.
    let got = added (report_rules c.args.formats) c.in_ok-report_arguments.ensures in (
      got.0 ∙ ap (λ (app : App). with_rules app (report_rules c.args.formats)) threads,
      got.1 (c.in_ok-race.ensures.local c.described.ensures.local),
    )) c.with_arguments.ensures
