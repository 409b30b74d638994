-- The names that a script spells are short, of letters, digits and `_`, its Numbers are safe integers, and its moves are
-- its agents'.
use Rattle.sab_replay.proofs.OfScriptRunner.ReplaySteps.{spelled_moves}
use Rattle.sab_replay.proofs.OfReport.SpelledNumbers.{spelled_safe}
use Rattle.sab_replay.proofs.OfReport.ViewNames.{spelled_short, spelled_plain}
use Rattle.sab_replay.proofs.report.judging.judge_as.Goals as goal

pub names_of-requires : goal.names_of-requires
names_of-requires g c = spelled_short _ _ c.in_ok-setup.ensures.ok.spelled

pub replay_moves-requires-clause-named : goal.replay_moves-requires-clause-named
replay_moves-requires-clause-named g c =
    let spelled = c.in_ok-setup.ensures.ok.spelled in
    rw (c.as_slice.ensures.value, c.into_parts-plan.ensures.schedule, c.in_ok-copy.ensures, c.into_parts-plan.ensures.plan)
    (spelled_moves _ spelled.move_trees _ spelled.schedule.0)

pub judge_report-requires-clause-names : goal.judge_report-requires-clause-names
judge_report-requires-clause-names g c =
    rw (c.deref-2.ensures.value, c.in_ok-names.ensures) (spelled_plain _ _ c.in_ok-setup.ensures.ok.spelled)

pub judge_report-requires-clause-numbers : goal.judge_report-requires-clause-numbers
judge_report-requires-clause-numbers g c =
    rw c.into_parts-plan.ensures.plan (spelled_safe _ _ c.in_ok-setup.ensures.ok.spelled)
