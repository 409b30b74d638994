use Rattle.std.proofs.Common.{length, rules}
use Rattle.sab_trace.proofs.Faults.{exit_line_fault}
use Rattle.sab_trace.proofs.reading.append.Goals as goal

pub returns-in_err-event-clause-err : goal.returns-in_err-event-clause-err
returns-in_err-event-clause-err c =
    exit_line_fault (length c.args.trace.now) c.args.line.now c.from_residual.result c.in_err-event.field-0.0
    c.requires (search rules) c.from_residual.ensures.1 (search rules)
