-- The lines of the verdict on a run read back, since its trace is within its limits.
use Rattle.sab_verdict.proofs.LinesRead.{run_lines_read_back}
use Rattle.sab_verdict.proofs.writing.write_run_verdict.Goals as goal

pub returns-clause-read_back : goal.returns-clause-read_back
returns-clause-read_back g c =
    run_lines_read_back c.args.names.now c.args.plan.now c.args.journal.now c.args.trace.now
    c.args.verdict.now.races.items c.args.verdict.now.rest c.args.verdict.now.data_races c.write_verdict.ensures.valid c.requires.reported
    c.write_verdict.ensures.few c.write_verdict.ensures.rest
    c.write_verdict.ensures.data_races
