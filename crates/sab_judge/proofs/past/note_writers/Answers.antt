-- An event that writes no byte changes no last writer.
use Rattle.sab_judge.specs.Event.{idle_event}
use Rattle.sab_judge.proofs.Written.{none_more_written, no_byte_written, only_read, no_access_written}
use Rattle.sab_judge.proofs.past.note_writers.Goals as goal

pub note_bytes-requires-clause-reach : goal.note_bytes-requires-clause-reach
note_bytes-requires-clause-reach c =
    ((c.requires.blocks c.args.j idle_event c.requires.within).access c.in-Some.access c.in-Some.is).1

pub returns-in_default : goal.returns-in_default
returns-in_default c = none_more_written c.args.trace.now c.args.j c.args.writers.now c.requires.writers
    (no_byte_written c.args.trace.now c.args.j c.in-Some.is c.if-access.true c.if-access-gt0.false)

pub returns-in_default-2 : goal.returns-in_default-2
returns-in_default-2 c = none_more_written c.args.trace.now c.args.j c.args.writers.now c.requires.writers
    (only_read c.args.trace.now c.args.j c.in-Some.is c.if-access.false)

pub returns-in_default-3 : goal.returns-in_default-3
returns-in_default-3 c = none_more_written c.args.trace.now c.args.j c.args.writers.now c.requires.writers
    (no_access_written c.args.trace.now c.args.j c.in_default.is)
