use Rattle.sab_judge.specs.Stretch.{IsOverwritten}
use Rattle.sab_judge.proofs.stretch.overwrite.Given as goal

-- the event is the writer of the stretches so far
abbrev pub invariant-loop-k : goal.invariant-loop-k
invariant-loop-k l = IsOverwritten l.fn.list.items l.list.items l.from l.k l.writer
