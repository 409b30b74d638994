use Rattle.sab_judge.specs.Race.{Counts}
use Rattle.sab_judge.specs.RaceKind.{IsRaceOf}
use Rattle.sab_judge.proofs.Racing.{IsLikeOneOf}
use Rattle.sab_judge.proofs.latest.count_latest.Given as goal

-- the races with the events like one of the list so far
abbrev pub invariant-loop-latest : goal.invariant-loop-latest
invariant-loop-latest l = Counts (λ i. IsRaceOf l.kind l.trace i l.j × IsLikeOneOf l.trace l.list l.latest-index i) l.j l.count
