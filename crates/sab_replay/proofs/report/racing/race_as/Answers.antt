-- The names that a script spells are short, of letters, digits and `_`, and its Numbers are safe integers.
use Rattle.sab_replay.proofs.OfReport.SpelledNumbers.{spelled_plan, spelled_safe}
use Rattle.sab_replay.proofs.OfReport.ViewNames.{spelled_short, spelled_plain}
use Rattle.sab_replay.proofs.report.racing.race_as.Goals as goal

pub names_of-requires : goal.names_of-requires
names_of-requires g c = spelled_short _ _ c.in_ok-setup.ensures.ok.spelled

pub report_race-requires-clause-names : goal.report_race-requires-clause-names
report_race-requires-clause-names g c = λ _ _.
    rw (c.deref.ensures.value, c.in_ok-names.ensures) (spelled_plain _ _ c.in_ok-setup.ensures.ok.spelled)

pub report_race-requires-clause-plan : goal.report_race-requires-clause-plan
report_race-requires-clause-plan g c = λ _ _.
    rw c.into_parts-plan.ensures.plan (spelled_plan _ _ c.in_ok-setup.ensures.ok.spelled)

pub report_race-requires-clause-numbers : goal.report_race-requires-clause-numbers
report_race-requires-clause-numbers g c = λ _ _.
    rw c.into_parts-plan.ensures.plan (spelled_safe _ _ c.in_ok-setup.ensures.ok.spelled)
