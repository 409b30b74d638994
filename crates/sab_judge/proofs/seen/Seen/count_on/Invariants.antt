use Rattle.sab_judge.proofs.Shelving.{AreCountedOn}
use Rattle.sab_judge.proofs.seen.Seen.count_on.Given as goal

-- the races with the accesses that begin in the cells so far
abbrev pub invariant-loop-k : goal.invariant-loop-k
invariant-loop-k l = AreCountedOn l.kind l.trace l.j l.first.block l.first.class l.first.index l.shelf l.k l.count
