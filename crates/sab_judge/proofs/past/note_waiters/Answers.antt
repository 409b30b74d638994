-- The event is the last of its place's.
use Rattle.sab_judge.proofs.Noted.{waiters_noted}
use Rattle.sab_judge.proofs.past.note_waiters.Goals as goal

pub returns-in_ok-insert : goal.returns-in_ok-insert
returns-in_ok-insert c = waiters_noted c.args.trace.now c.args.j c.args.waiters.now c.in-Some.place c.insert.new.self
    c.requires.waiters c.in-Some.is c.in_ok-insert.ensures.updates.0
