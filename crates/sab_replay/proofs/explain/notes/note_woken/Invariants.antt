use Rattle.std.proofs.Common.{◌≡◌, length, take}
use Rattle.sab_plan.specs.declared.plan.TheConstants.Plan.{MAX_AGENTS}
use Rattle.sab_replay.specs.Explain.Explainer.{IsNoted}
use Rattle.sab_replay.proofs.explain.notes.note_woken.Given as goal

abbrev pub invariant-loop-a : goal.invariant-loop-a
invariant-loop-a l = record {
  size : length l.wakers ≡ MAX_AGENTS;
  noted : IsNoted (take l.a-index l.agents) l.entry l.initial.wakers l.wakers;
}
