-- What was known to the last in the critical section is learned.
use Rattle.std.proofs.Common.{arith}
use Rattle.sab_judge.proofs.LastSteps.{before_earlier}
use Rattle.sab_judge.proofs.Knowledge.{learned_only, waiters_last, waiters_known}
use Rattle.sab_judge.proofs.reads.learned_by_entering.Goals as goal

pub learned-requires : goal.learned-requires
learned-requires c x e = omega (
  arith,
  c.requires.clocks.count,
  before_earlier (waiters_last c.in-Some.place c.last_at_waiters.result c.requires.within c.in-Some.is
      (c.last_at_waiters.ensures c.args.trace.now c.args.j c.requires.past) x e),
)

pub returns-in-Some-clause-only : goal.returns-in-Some-clause-only
returns-in-Some-clause-only c = learned_only c.args.clock c.last_at_waiters.result c.learned.result c.requires.clocks
    (waiters_last c.in-Some.place c.last_at_waiters.result c.requires.within c.in-Some.is
    (c.last_at_waiters.ensures c.args.trace.now c.args.j c.requires.past)) c.requires.only c.learned.ensures

pub returns-in-Some-clause-entered : goal.returns-in-Some-clause-entered
returns-in-Some-clause-entered c = waiters_known c.in-Some.place c.args.clock c.last_at_waiters.result c.learned.result
    c.requires.clocks c.in-Some.is (c.last_at_waiters.ensures c.args.trace.now c.args.j c.requires.past) c.learned.ensures
