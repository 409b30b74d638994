-- What a search failed for, of the bytes that the reader had.
use Rattle.std.proofs.Common.{◌≤◌, length, arith}
use Rattle.sab_automata_reader.specs.declared.automata_text.limits.TheConstants.{MAX_FILE}
use Rattle.sab_cli.proofs.OfRun.Searched.{failed_by}
use Rattle.sab_cli.proofs.run.searching.run_search.Goals as goal

pub returns-clause-err : goal.returns-clause-err
returns-clause-err g c =
    let few : length c.in_ok-file.file.items ≤ MAX_FILE =
    omega (arith, c.in_ok-file.ensures.short, c.in_ok-file.file.ok) in
    failed_by c.search_file.result (g.R.Read.remaining c.args.input.now) (g.W.Write.contents c.args.output.now)
    (g.W.Write.contents c.search_file.new.output) c.args.job c.args.explain c.in_ok-file.file.items c.as_slice.result.now
    c.in_ok-file.ensures.all c.as_slice.ensures.value few c.search_file.ensures.err
