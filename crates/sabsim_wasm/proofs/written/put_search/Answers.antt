-- What a search writes to an empty output, and what it fails for.
use Rattle.std.proofs.Common.{ap, ◌∙◌}
use Rattle.sab_cli.specs.Exit.Ending.{status_at}
use Rattle.sabsim_wasm.proofs.Replies.{puts_found, puts_failed}
use Rattle.sabsim_wasm.proofs.written.put_search.Goals as goal

pub returns-in-Ok : goal.returns-in-Ok
returns-in-Ok c =
    puts_found c.args.job c.args.source c.args.explain c.args.file.now c.in-Ok.outcome c.new-output.result.items
    c.run_search.new.output.items c.as_slice.result.now c.status-status.result c.args.room.now c.put_lines.new.room
    c.put_lines.result c.new-output.ensures.items c.in-Ok.ensures.ok c.as_slice.ensures.value
    (c.status-status.ensures ∙ ap status_at c.of_job.ensures) c.put_lines.ensures

pub returns : goal.returns
returns c =
    puts_failed c.args.job c.args.source c.args.explain c.args.file.now c.in-Err.failure c.new-output.result.items
    c.run_search.new.output.items c.failed.result c.args.room.now c.put_made.new.room c.put_made.result
    c.in-Err.ensures.err c.failed.ensures.ok c.failed.ensures.fault c.put_made.ensures
