-- The moves that a script spells are its agents'.
use Rattle.sab_replay.proofs.OfScriptRunner.ReplaySteps.{spelled_moves}
use Rattle.sab_replay.proofs.script_runner.replaying.replay_bytes.Goals as goal

pub replay_moves-requires-clause-named : goal.replay_moves-requires-clause-named
replay_moves-requires-clause-named g c =
    let spelled = c.in_ok-setup.ensures.ok.spelled in
    rw (c.as_slice.ensures.value, c.into_parts-plan.ensures.schedule, c.into_parts-plan.ensures.plan)
    (spelled_moves _ spelled.move_trees _ spelled.schedule.0)
