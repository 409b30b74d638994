-- One event more races with the later one, or doesn't.
use Rattle.std.proofs.Common.{sym, ◌∙◌}
use Rattle.std.proofs.lemmas.Bool.{false≢true}
use Rattle.sab_judge.proofs.RacesSoFar.{passed_over}
use Rattle.sab_judge.proofs.judging.report_races.Goals as goal
use Rattle.sab_judge.proofs.judging.report_races.Goals.{then-is_race+in_ok-report_race, else-is_race}

pub loop-i-preserved : goal.loop-i-preserved
loop-i-preserved c = elim c.if-is_race.branch [
  | then-is_race+in_ok-report_race w ↦ rw w.verdict-is w.in_ok-report_race.ensures
  | else-is_race w ↦ rw w.verdict-is
      (passed_over c.loop-i.invariant (λ race. false≢true (sym w.if-is_race.false ∙ c.is_race.ensures.1 race)))
]
