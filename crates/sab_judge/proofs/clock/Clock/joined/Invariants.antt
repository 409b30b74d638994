use Rattle.std.proofs.Common.{◌≡◌, ◌<◌, ◌≤◌, ℕ, max, length, slice_index}
use Rattle.sab_judge.specs.declared.trace.TheConstants.Trace.{MAX_AGENTS}
use Rattle.sab_judge.proofs.clock.Clock.joined.Given as goal

-- below the index both are joined, and from it on nothing has changed
abbrev pub invariant-loop-b : goal.invariant-loop-b
invariant-loop-b l = record {
  done : (k : ℕ) → k < l.b → slice_index l.both.bounds k ≡ max (slice_index l.self.bounds k) (slice_index l.other.bounds k);
  ahead : (k : ℕ) → l.b ≤ k → slice_index l.both.bounds k ≡ slice_index l.self.bounds k;
  len : length l.both.bounds ≡ MAX_AGENTS;
}
