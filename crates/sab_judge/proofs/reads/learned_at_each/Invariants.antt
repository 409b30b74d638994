use Rattle.std.proofs.Common.{◌≡◌, ℕ, ◌-◌, ◌<◌, ◌≤◌, true}
use Rattle.sab_judge.specs.Event.{event_at, are_alike}
use Rattle.sab_judge.specs.HappensBefore.{ReadsByteFrom}
use Rattle.sab_judge.specs.Clock.{KnowsMore, KnowsOnlyBefore, KnowsUpTo}
use Rattle.sab_judge.proofs.reads.learned_at_each.Given as goal

-- of the bytes so far
abbrev pub invariant-loop-byte : goal.invariant-loop-byte
invariant-loop-byte l = record {
  low : l.fn.access.place.byte ≤ l.byte;
  more : KnowsMore l.fn.clock l.known;
  only : KnowsOnlyBefore l.trace l.j l.known;
  read : (b : ℕ) → l.fn.access.place.byte ≤ b → b < l.byte → (m : ℕ)
      → are_alike (event_at l.trace m) (event_at l.trace l.j) ≡ true
      → ReadsByteFrom l.trace l.j m l.fn.access.place.block b → KnowsUpTo l.trace m l.known;
}

abbrev pub decreases-loop-byte : goal.decreases-loop-byte
decreases-loop-byte l = l.end - l.byte
