use Rattle.std.proofs.Common.{◌∙◌}
use Rattle.sab_verdict.proofs.Counting.{counted_agents}
use Rattle.sab_verdict.proofs.count.count_agents.Goals as goal

pub returns : goal.returns
returns c =
    c.count_true.ensures
    ∙ counted_agents c.loop-event.seen c.args.events.now c.loop-event.event-index c.loop-event-test.false
    c.loop-event.invariant.all c.loop-event.invariant.each
