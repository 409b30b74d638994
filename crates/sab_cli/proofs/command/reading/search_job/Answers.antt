use Rattle.std.proofs.Common.{codes}
use Rattle.clap.specs.Words.{first_of, found_of, one_text, rows_of}
use Rattle.sab_cli.specs.Command.Asked.{AreTimeouts, IsLimit, IsSearchForm}
use Rattle.sab_cli.proofs.OfCommand.Rows.{first_by_rows, one_by_rows}
use Rattle.sab_cli.proofs.command.reading.search_job.Goals as goal

pub returns-clause-job : goal.returns-clause-job
returns-clause-job c =
    let f = found_of c.args.matches.now in
    let first = first_by_rows (λ v. AreTimeouts (v (codes "timeouts")) c.timeouts_of.result
    × IsSearchForm (v (codes "format")) (v (codes "states")) (one_text f (codes "failure")) c.search_form_of.result)
    f (c.timeouts_of.ensures, c.search_form_of.ensures) in
    let one = one_by_rows (λ v. IsLimit (v (codes "limit")) c.limit_of.result
    × IsSearchForm (first_of (codes "format") (rows_of f)) (first_of (codes "states") (rows_of f)) (v (codes "failure"))
    c.search_form_of.result) f (c.limit_of.ensures.number, first.1) in
    (first.0, one.0, one.1)
