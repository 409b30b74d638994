use Rattle.sabsim_wasm.proofs.Ends.{script_refused}
use Rattle.sabsim_wasm.proofs.written.perform_job.Goals as goal

pub returns-in-Err : goal.returns-in-Err
returns-in-Err c =
    script_refused c.args.job c.args.source c.args.explain c.args.script.now c.in-Err.failure c.new-output.result.items
    c.run.new.output.items c.failed.result c.in-Err.ensures.err c.in-Err.ensures.unwritten c.in-Err.ensures.why
    c.new-output.ensures.items c.failed.ensures.ok c.failed.ensures.fault
