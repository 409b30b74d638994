use Rattle.std.proofs.Common.{rules, codes, ap, ◌≡◌, ◌∙◌}
use Rattle.std.proofs.lemmas.Result.{IfOk-weaker}
use Rattle.clap.specs.Words.{App, app_of, new_app}
use Rattle.sab_cli.specs.Command.CommandLine.{AreNames, Lists, format_names, search_format_names, share_names, timeout_names}
use Rattle.sab_cli.specs.Command.CommandLine.{verdict_format_names, with_checks, with_runs, with_search}
use Rattle.sab_cli.proofs.OfCommand.Added.{both_if_ok, program_made}
use Rattle.sab_cli.proofs.command.command_line.command.Goals as goal

pub returns : goal.returns
returns c =
    let formats_are : AreNames c.as_slice.result format_names = search rules in
    let shares_are : AreNames c.as_slice-2.result share_names = search rules in
    let verdict_formats_are : AreNames c.as_slice-formats.result verdict_format_names = search rules in
    let timeouts_are : AreNames c.as_slice-3.result timeout_names = search rules in
    let search_formats_are : AreNames c.as_slice-4.result search_format_names = search rules in
    let lists : Lists = record {
      formats = c.as_slice.result;
      verdict_formats = c.as_slice-formats.result;
      search_formats = c.as_slice-4.result;
      shares = c.as_slice-2.result;
      timeouts = c.as_slice-3.result;
      formats_are = formats_are;
      verdict_formats_are = verdict_formats_are;
      search_formats_are = search_formats_are;
      shares_are = shares_are;
      timeouts_are = timeouts_are;
    } in
    let named : app_of c.described.result ≡ new_app (codes "sabsim") = search rules in
    let sabsim = program_made c.described.result c.version.result c.subcommand_required-sabsim.result _ c.version.ensures
    c.subcommand_required-sabsim.ensures named c.described.ensures.local in
    let runs = c.in_ok-sabsim.ensures.app ∙ ap (λ (app : App). with_runs app lists.formats lists.shares) sabsim.0 in
    let checks = c.in_ok-sabsim-2.ensures.app ∙ ap (λ (app : App). with_checks app lists.verdict_formats) runs in
    IfOk-weaker c.with_search.result _ _ (λ it both. (
      (lists, both.0 ∙ ap (λ (app : App). with_search app lists.timeouts lists.search_formats) checks),
      both.1 (c.in_ok-sabsim-2.ensures.local (c.in_ok-sabsim.ensures.local sabsim.1)),
    )) (both_if_ok _ _ c.with_search.result c.with_search.ensures.app c.with_search.ensures.local)
