use Rattle.std.proofs.Common.{rules, map, List, Some, ◌≡◌}
use Rattle.std.specs.Prelude.{option_map}
use Rattle.clap.specs.Words.{Row, Text, found_of, rows_of, subcommand_name_of, subcommand_rows_of}
use Rattle.sab_cli.specs.Command.Asked.{IsRefused}
use Rattle.sab_cli.proofs.OfCommand.Entered.{asked_by_words, refused_words, same_error}
use Rattle.sab_cli.proofs.command.reading.request_of.Goals as goal

pub returns-in_err-matches-clause-refused : goal.returns-in_err-matches-clause-refused
returns-in_err-matches-clause-refused g c =
    let words = map g.S.AsStr.text c.args.words.now in
    let made = c.in_ok-command.ensures.0 in
    let error = c.in_err-matches.field-0.0 in
    same_error (λ e. IsRefused words e) error c.from_residual-in_err-matches.result c.from_residual-in_err-matches.ensures.1
    (refused_words c.in_ok-command.command made.0 words error made.1 c.in_err-matches.ensures.passes)

pub returns-clause-asked : goal.returns-clause-asked
returns-clause-asked g c =
    let words = map g.S.AsStr.text c.args.words.now in
    let made = c.in_ok-command.ensures.0 in
    let m = c.in_ok-matches.matches in
    let rows = rows_of (found_of c.in-Some.matches.now) in
    let named : subcommand_name_of m ≡ Some c.in-Some.name.now = search rules in
    let rowed : option_map (λ (p : Text × List Row). p.1) (subcommand_rows_of m) ≡ Some rows = search rules in
    asked_by_words c.in_ok-command.command made.0 words m c.in-Some.name.now rows c.request_by.result made.1
    c.in_ok-matches.ensures.matches named rowed c.request_by.ensures.asked
