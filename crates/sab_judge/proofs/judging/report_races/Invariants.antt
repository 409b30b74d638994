use Rattle.sab_judge.specs.RacesSoFar.{HasReported}
use Rattle.sab_judge.proofs.judging.report_races.Given as goal

-- the races with the events so far are listed
abbrev pub invariant-loop-i : goal.invariant-loop-i
invariant-loop-i l = HasReported l.trace l.j l.i l.most l.verdict.races.items l.verdict.rest
