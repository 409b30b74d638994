-- No move is refused.
use Rattle.std.proofs.Common.{◌≡◌, inl, inr}
use Rattle.sab_sim.specs.declared.sim_fault.SimFault.TheVariants.{OutOfMemory}
use Rattle.sab_replay.proofs.OfScriptRunner.ReplaySteps.{refused_memory}
use Rattle.sab_replay.proofs.script_runner.replaying.replay_moves.Goals as goal

pub unreachable-requires : goal.unreachable-requires
unreachable-requires c =
    let memory : c.in-Err.fault ≡ OutOfMemory =
    refused_memory c.args.plan c.args.schedule.now c.in-Err.fault c.requires.named c.requires.few
    c.in-Err.ensures.refused in
    elim c.in-NoAgent.is [
      | inl e ↦ let f : c.in-Err.fault ≡ OutOfMemory = memory in cc
      | inr e ↦ let f : c.in-Err.fault ≡ OutOfMemory = memory in cc
    ]
