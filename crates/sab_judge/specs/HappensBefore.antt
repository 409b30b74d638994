-- The happens-before order of a trace (Relations of Candidate Executions).
use Rattle.std.specs.Prelude.{◌≡◌, ◌⊎◌, ℕ, ◌<◌, IsTrue, false, List, length}
use Rattle.sab_judge.specs.declared.event.Event.{Event}
use Rattle.sab_judge.specs.Event.{event_at, agent_at, writes_byte, reads_byte, are_alike, share_waiters}

-- reads-bytes-from: the j-th event reads the byte from the i-th: that writes it, and no event between the two does. A
-- byte that no event has written is read from no event: blocks begin with zeros, which happen before all
pub record ReadsByteFrom (trace : List Event) (j i block byte : ℕ) : Type 0 where
  pub earlier : i < j
  pub within : j < length trace
  pub writes : IsTrue (writes_byte (event_at trace i) block byte)
  pub reads : IsTrue (reads_byte (event_at trace j) block byte)
  pub latest : (k : ℕ) → i < k → k < j → writes_byte (event_at trace k) block byte ≡ false

-- reads-from: the j-th event reads some byte from the i-th
pub record ReadsFrom (trace : List Event) (j i : ℕ) : Type 0 where
  pub block : ℕ
  pub byte : ℕ
  pub reads : ReadsByteFrom trace j i block byte

-- both are SeqCst with equal ranges, and the j-th reads from the i-th
pub record IsRead (trace : List Event) (i j : ℕ) : Type 0 where
  pub alike : IsTrue (are_alike (event_at trace i) (event_at trace j))
  pub from : ReadsFrom trace j i

-- both are in the critical section of one place's waiters, which the i-th leaves before the j-th enters it
pub record IsHandedOn (trace : List Event) (i j : ℕ) : Type 0 where
  pub earlier : i < j
  pub within : j < length trace
  pub alike : IsTrue (share_waiters (event_at trace i).waiters (event_at trace j).waiters)

-- synchronizes-with
abbrev pub SynchronizesWith : List Event → ℕ → ℕ → Type 0
SynchronizesWith trace i j = IsRead trace i j ⊎ IsHandedOn trace i j

-- agent-order: the i-th event is of the same agent as the j-th, and before it
pub record IsAgentsEarlier (trace : List Event) (i j : ℕ) : Type 0 where
  pub earlier : i < j
  pub within : j < length trace
  pub same_agent : agent_at trace i ≡ agent_at trace j

-- happens-before: the least transitive relation that has both
pub data HappensBefore (trace : List Event) : ℕ → ℕ → Type 0 where
  in_agent : {i j : ℕ} → IsAgentsEarlier trace i j → HappensBefore trace i j
  by_sync : {i j : ℕ} → SynchronizesWith trace i j → HappensBefore trace i j
  through : {i m j : ℕ} → HappensBefore trace i m → HappensBefore trace m j → HappensBefore trace i j
