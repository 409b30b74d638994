use Rattle.std.proofs.Common.{◌≡◌, ◌<◌, ℕ, false, length, get_or, take}
use Rattle.sab_judge.specs.declared.trace.TheConstants.Trace.{MAX_AGENTS}
use Rattle.sab_verdict.specs.Events.{is_accessing}
use Rattle.sab_verdict.proofs.count.count_agents.Given as goal

abbrev pub invariant-loop-event : goal.invariant-loop-event
invariant-loop-event l = record {
  all : length l.seen ≡ MAX_AGENTS;
  each : (a : ℕ) → a < MAX_AGENTS → get_or l.seen a false ≡ is_accessing (take l.event-index l.events) a;
}
