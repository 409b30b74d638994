use Rattle.std.proofs.Common.{rules, codes, ap, false, ◌≡◌, ◌∙◌}
use Rattle.std.proofs.lemmas.Result.{IfOk-weaker}
use Rattle.clap.specs.Words.{Rule, rule_of}
use Rattle.sab_cli.specs.Command.CommandLine.{flag_rule}
use Rattle.sab_cli.proofs.OfCommand.Added.{conflict_added}
use Rattle.sab_cli.proofs.command.command_line.trace_flag.Goals as goal

pub returns : goal.returns
returns c =
    let named : rule_of c.flag.result ≡ flag_rule (codes "trace") = search rules in
    let first = conflict_added c.flag.result c.in_ok-trace.trace _ c.in_ok-trace.ensures in
    IfOk-weaker c.conflicts_with-2.result _ _ (λ trace added.
    let second = conflict_added c.in_ok-trace.trace trace _ added in (
      second.0 ∙ ap (λ (r : Rule). record r { is_free = false }) (first.0 ∙ ap (λ (r : Rule). record r { is_free = false }) named),
      second.1 ∙ (first.1 ∙ c.flag.ensures.local),
    )) c.conflicts_with-2.ensures
