-- Which events are noted to be read from.
use Rattle.std.specs.Prelude.{◌≡◌, ℕ, ◌+◌, ◌<◌, ◌≤◌, ◌↔◌, Bool, false, IsTrue, List, length, slice_index, slice_set, Option, Some, None}
use Rattle.sab_judge.specs.declared.event.Event.{Event}
use Rattle.sab_judge.specs.declared.readers.Readers.{Readers}
use Rattle.sab_judge.specs.HappensBefore.{ReadsByteFrom}
use Rattle.sab_judge.specs.Race.{IsRace, Counts}
use Rattle.sab_judge.specs.Sought.{Writes, IsLastBelow}

-- the j-th event is noted as the last that reads from the i-th
abbrev pub IsNoted : Readers → ℕ → ℕ → Type 0
IsNoted readers j i = slice_index readers.last.items i ≡ j + 1

-- of n events none is noted to be read from by the j-th or a later one
pub record AreNoted (n j : ℕ) (readers : Readers) : Type 0 where
  pub count : length readers.last.items ≡ n
  pub before : (i : ℕ) → slice_index readers.last.items i ≤ j

-- the j-th event reads a byte of a range from the i-th
pub record ReadsWithin (trace : List Event) (j block start end i : ℕ) : Type 0 where
  pub byte : ℕ
  pub from_start : start ≤ byte
  pub before_end : byte < end
  pub reads : ReadsByteFrom trace j i block byte

-- those from which the bytes of a range are read are noted, and those of them that race are counted
pub record HaveNoted (trace : List Event) (j block start end : ℕ) (readers : Readers) (count : ℕ) : Type 0 where
  pub all : length readers.last.items ≡ length trace
  pub before : (i : ℕ) → slice_index readers.last.items i ≤ j + 1
  pub noted : (i : ℕ) → IsNoted readers j i ↔ ReadsWithin trace j block start end i
  pub counted : Counts (λ i. IsRace trace i j × ReadsWithin trace j block start end i) j count

-- bytes of a range have one last writer, or none
abbrev pub HaveWriter : List Event → ℕ → ℕ → ℕ → ℕ → Option ℕ → Type 0
HaveWriter trace j block from to writer =
    (byte : ℕ) → from ≤ byte → byte < to → IsLastBelow trace (Writes block byte) j writer

-- the event from which a byte is read is noted, if there is one; and it is said whether it is one more that races
abbrev pub Notes : List Event → ℕ → Option ℕ → Readers → Readers → Bool → Type 0
Notes trace j None old new is_more = (new ≡ old) × (is_more ≡ false)
Notes trace j (Some w) old new is_more =
    (new.last.items ≡ slice_set old.last.items w (j + 1))
    × (IsTrue is_more ↔ ((¬ IsNoted old j w) × IsRace trace w j))
