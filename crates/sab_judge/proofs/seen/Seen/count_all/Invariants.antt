use Rattle.sab_judge.specs.Race.{Counts}
use Rattle.sab_judge.specs.RaceKind.{IsRaceOf}
use Rattle.sab_judge.specs.Cell.{IsOfLowerClass}
use Rattle.sab_judge.proofs.seen.Seen.count_all.Given as goal

-- the races with the accesses of the classes so far
abbrev pub invariant-loop-class : goal.invariant-loop-class
invariant-loop-class l = Counts (λ i. IsRaceOf l.kind l.trace i l.j × IsOfLowerClass l.trace l.class i) l.j l.count
