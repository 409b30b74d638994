-- Stretches of the bytes of a block: of each byte they give the last writer.
use Rattle.std.specs.Prelude.{◌≡◌, ◌⊎◌, ℕ, zero, suc, ◌+◌, ◌<◌, ◌≤◌, List, length, slice_index_or, Option, Some, None}
use Rattle.sab_judge.specs.declared.event.Event.{Event}
use Rattle.sab_judge.specs.declared.stretch.Stretch.{Stretch}
use Rattle.sab_judge.specs.Sought.{IsLastBelow, Writes}

-- one that begins at byte 0, and that nobody has written
abbrev pub no_stretch : Stretch
no_stretch = record { start = 0; writer = 0 }

-- the number before another one; before 0 there is none
abbrev pub one_less : ℕ → Option ℕ
one_less zero = None
one_less (suc k) = Some k

-- the last event that writes its bytes, if there is one
abbrev pub writer_of : Stretch → Option ℕ
writer_of stretch = one_less stretch.writer

abbrev pub stretch_at : List Stretch → ℕ → Stretch
stretch_at list k = slice_index_or list k no_stretch

-- the first one begins at byte 0, and each begins before those behind it
pub record AreInOrder (list : List Stretch) : Type 0 where
  pub some : 0 < length list
  pub first : (stretch_at list 0).start ≡ 0
  pub rising : (k m : ℕ) → k < m → m < length list → (stretch_at list k).start < (stretch_at list m).start

-- the k-th one has the byte: it begins at it or before it, and those behind it begin behind it
pub record HasByte (list : List Stretch) (k byte : ℕ) : Type 0 where
  pub within : k < length list
  pub from_start : (stretch_at list k).start ≤ byte
  pub behind : (m : ℕ) → k < m → m < length list → byte < (stretch_at list m).start

-- the byte has this last writer, by the stretch that has the byte
pub record Gives (list : List Stretch) (byte : ℕ) (writer : Option ℕ) : Type 0 where
  pub place : ℕ
  pub has : HasByte list place byte
  pub writer_is : writer_of (stretch_at list place) ≡ writer

-- so have those behind it, up to another
abbrev pub GivesUpTo : List Stretch → ℕ → ℕ → Option ℕ → Type 0
GivesUpTo list start end writer = (byte : ℕ) → start ≤ byte → byte < end → Gives list byte writer

-- the k-th of the new ones begins at the byte; each byte has the writer that it had, and those that begin before the byte
-- are where they were
pub record IsSplit (old new : List Stretch) (byte k : ℕ) : Type 0 where
  pub order : AreInOrder new
  pub within : k < length new
  pub begins : (stretch_at new k).start ≡ byte
  pub same : (other : ℕ) (writer : Option ℕ) → Gives new other writer → Gives old other writer
  pub kept : (m : ℕ) → m < length old → (stretch_at old m).start < byte → (m < k) × (stretch_at new m ≡ stretch_at old m)

-- the event is the writer of the stretches from one up to another, and all else is as it was
pub record IsOverwritten (old new : List Stretch) (from to event : ℕ) : Type 0 where
  pub count : length new ≡ length old
  pub starts : (k : ℕ) → (stretch_at new k).start ≡ (stretch_at old k).start
  pub inside : (k : ℕ) → from ≤ k → k < to → (stretch_at new k).writer ≡ event + 1
  pub outside : (k : ℕ) → (k < from) ⊎ (to ≤ k) → (stretch_at new k).writer ≡ (stretch_at old k).writer

-- the event is the last writer of the bytes from one up to another, and each other byte has the one that it had
pub record IsRewritten (old new : List Stretch) (start end event : ℕ) : Type 0 where
  pub order : AreInOrder new
  pub inside : (byte : ℕ) (writer : Option ℕ) → start ≤ byte → byte < end → Gives new byte writer → writer ≡ Some event
  pub outside : (byte : ℕ) (writer : Option ℕ) → (byte < start) ⊎ (end ≤ byte) → Gives new byte writer
      → Gives old byte writer

-- of each byte of the block they give the last of the first n events that writes it
pub record AreStretches (trace : List Event) (n block : ℕ) (list : List Stretch) : Type 0 where
  pub order : AreInOrder list
  pub writers : (byte : ℕ) (writer : Option ℕ) → Gives list byte writer → IsLastBelow trace (Writes block byte) n writer
