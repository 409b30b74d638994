use Rattle.std.proofs.Common.{rules, codes}
use Rattle.clap.specs.Words.{first_value, found_of}
use Rattle.sab_cli.specs.Command.Asked.{IsForm, IsGiven, IsMix, IsShare, IsSpins}
use Rattle.sab_cli.proofs.OfCommand.Rows.{first_by_rows, one_by_rows}
use Rattle.sab_cli.proofs.command.reading.race_job.Goals as goal

pub returns-clause-job : goal.returns-clause-job
returns-clause-job c =
    let f = found_of c.args.matches.now in
    let finish : IsGiven (first_value f (codes "finish")) c.has_flag.result = search rules in
    let first = first_by_rows (λ v. IsShare (v (codes "share")) c.share_of.result
    × IsForm (v (codes "format")) (v (codes "acts")) c.form_of.result × IsGiven (v (codes "finish")) c.has_flag.result)
    f (c.share_of.ensures, c.form_of.ensures, finish) in
    let one = one_by_rows (λ v. IsSpins (v (codes "spins")) c.spins_of.result × IsMix (v (codes "mix")) c.mix_of.result)
    f (c.spins_of.ensures.number, c.mix_of.ensures) in
    (first.0, one.0, one.1, first.1, first.2)
