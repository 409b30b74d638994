-- The names that a script spells are short, its Numbers are safe integers, and its moves are its agents'.
use Rattle.std.proofs.Common.{◌≤◌, length, arith}
use Rattle.sab_replay.proofs.OfScriptRunner.ReplaySteps.{spelled_moves}
use Rattle.sab_replay.proofs.OfReport.SpelledNumbers.{spelled_plan, spelled_safe}
use Rattle.sab_replay.proofs.OfReport.ViewNames.{spelled_short, spelled_plain}
use Rattle.sab_replay.proofs.report.replaying.replay_as.Goals as goal

pub names_of-requires : goal.names_of-requires
names_of-requires g c = spelled_short _ _ c.in_ok-setup.ensures.ok.spelled

pub report_moves-requires-clause-plan : goal.report_moves-requires-clause-plan
report_moves-requires-clause-plan g c =
    rw c.into_parts-plan.ensures.plan (spelled_plan _ _ c.in_ok-setup.ensures.ok.spelled)

pub report_moves-requires-clause-numbers : goal.report_moves-requires-clause-numbers
report_moves-requires-clause-numbers g c =
    rw c.into_parts-plan.ensures.plan (spelled_safe _ _ c.in_ok-setup.ensures.ok.spelled)

pub report_moves-requires-clause-names : goal.report_moves-requires-clause-names
report_moves-requires-clause-names g c =
    rw (c.deref.ensures.value, c.in_ok-names.ensures) (spelled_plain _ _ c.in_ok-setup.ensures.ok.spelled)

pub report_moves-requires-clause-moves : goal.report_moves-requires-clause-moves
report_moves-requires-clause-moves g c =
    let schedule = c.in_ok-setup.ensures.ok.spelled.schedule in
    let few : length c.in_ok-setup.setup.schedule ≤ 100000 = schedule.1 in
    rw (c.as_slice.ensures.value, c.into_parts-plan.ensures.schedule, c.into_parts-plan.ensures.plan)
    (record { few = omega (arith, few); named = spelled_moves _ c.in_ok-setup.ensures.ok.spelled.move_trees _ schedule.0 })
