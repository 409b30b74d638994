-- What is kept says it all; one new stretch says that nobody has written.
use Rattle.std.proofs.Common.{Option, subst}
use Rattle.sab_judge.specs.declared.stretch.Stretches.{Stretches}
use Rattle.sab_judge.specs.Past.{AreWritten}
use Rattle.sab_judge.proofs.Written.{new_stretched}
use Rattle.sab_judge.proofs.past.kept_or_new.Goals as goal

pub returns-in-Some : goal.returns-in-Some
returns-in-Some c trace n block kept = subst (λ (x : Option Stretches). AreWritten trace n block x) c.in-Some.is kept

pub returns-in-None : goal.returns-in-None
returns-in-None c = new_stretched c.new.result c.args.kept c.in-None.is c.new.ensures.order c.new.ensures.unwritten
