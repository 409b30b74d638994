-- Its number is 0, or one more than the event's position.
use Rattle.std.proofs.Common.{sym, ap}
use Rattle.sab_judge.specs.Stretch.{one_less}
use Rattle.sab_judge.proofs.Stretching.{one_before}
use Rattle.sab_judge.proofs.stretch.Stretch.last_writer.Goals as goal

pub returns-then-self-eq0 : goal.returns-then-self-eq0
returns-then-self-eq0 c = sym (ap one_less c.if-self-eq0.true)

pub returns-else-self-eq0 : goal.returns-else-self-eq0
returns-else-self-eq0 c = one_before c.args.self.writer c.if-self-eq0.false
