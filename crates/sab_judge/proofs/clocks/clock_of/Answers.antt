-- The clock knows each step to the event.
use Rattle.std.proofs.Common.{arith}
use Rattle.sab_judge.proofs.LastSteps.{before_earlier}
use Rattle.sab_judge.proofs.Knowledge.{nothing_only, learned_only, agents_last, agents_known, all_steps, whole_clock}
use Rattle.sab_judge.proofs.clocks.clock_of.Goals as goal

pub learned-own-requires : goal.learned-own-requires
learned-own-requires c x e = omega (
  arith,
  c.requires.clocks.count,
  before_earlier (agents_last c.last_of_agent.result c.requires.within
      (c.last_of_agent.ensures c.args.trace.now c.args.j c.requires.past) x e),
)

pub learned_by_entering-entered-requires-clause-only : goal.learned_by_entering-entered-requires-clause-only
learned_by_entering-entered-requires-clause-only c =
    learned_only c.new.result c.last_of_agent.result c.learned-own.result c.requires.clocks
    (agents_last c.last_of_agent.result c.requires.within (c.last_of_agent.ensures c.args.trace.now c.args.j c.requires.past))
    (nothing_only c.new.ensures) c.learned-own.ensures

pub returns : goal.returns
returns c = whole_clock c.learned_by_reading-all.result c.up_to.result c.requires.within
    (all_steps c.learned-own.result c.learned_by_entering-entered.result c.learned_by_reading-all.result
    (agents_known c.new.result c.last_of_agent.result c.learned-own.result c.requires.clocks
    (c.last_of_agent.ensures c.args.trace.now c.args.j c.requires.past) c.learned-own.ensures)
    c.learned_by_entering-entered.ensures.more c.learned_by_entering-entered.ensures.entered
    c.learned_by_reading-all.ensures.more c.learned_by_reading-all.ensures.only c.learned_by_reading-all.ensures.read)
    c.up_to.ensures.own c.up_to.ensures.others
