use Rattle.std.proofs.Common.{ℕ, ◌-◌, ◌<◌, ◌≤◌}
use Rattle.sab_judge.specs.HappensBefore.{ReadsByteFrom}
use Rattle.sab_judge.proofs.data_race.reads_byte_from.Given as goal

-- no byte so far is read from the i-th event
abbrev pub invariant-loop-byte : goal.invariant-loop-byte
invariant-loop-byte l = record {
  low : l.access.place.byte ≤ l.byte;
  unread : (b : ℕ) → l.access.place.byte ≤ b → b < l.byte → ReadsByteFrom l.trace l.j l.i l.access.place.block b → ⊥;
}

abbrev pub decreases-loop-byte : goal.decreases-loop-byte
decreases-loop-byte l = l.end - l.byte
