use Rattle.std.proofs.Common.{◌≡◌, ℕ, ◌<◌, None, length, slice_index_or}
use Rattle.sab_plan.specs.declared.plan.TheConstants.Plan.{MAX_AGENTS}
use Rattle.sab_replay.specs.Report.Facts.{IsStandingOf}
use Rattle.sab_replay.proofs.report.standings.standings_of.Given as goal

abbrev pub invariant-loop-a : goal.invariant-loop-a
invariant-loop-a l = record {
  len : length l.standings ≡ MAX_AGENTS;
  each : (k : ℕ) → k < l.a → IsStandingOf l.explainer.plan l.explainer.journal k (slice_index_or l.standings k None);
}
