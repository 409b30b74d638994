-- What is kept of the events so far.
use Rattle.std.specs.Prelude.{◌≡◌, ℕ, ◌<◌, List, length, nat_eq, slice_index_or, Option, Some, None}
use Rattle.std.specs.HashMap.{get}
use Rattle.std.specs.Option.{ForSome}
use Rattle.sab_judge.specs.declared.place.Place.{Place}
use Rattle.sab_judge.specs.declared.event.Event.{Event}
use Rattle.sab_judge.specs.declared.past.Past.{Past}
use Rattle.sab_judge.specs.declared.trace.TheConstants.Trace.{MAX_AGENTS}
use Rattle.sab_judge.specs.Sought.{IsLastBelow, OfAgent, AtWaiters, Writes}
use Rattle.sab_judge.specs.declared.stretch.Stretches.{Stretches}
use Rattle.sab_judge.specs.Lookups.{ByPlace, ByBlock, same_pair}
use Rattle.sab_judge.specs.Stretch.{AreInOrder, AreStretches}

-- of each place there is the last of the first n events that are among its waiters
abbrev pub AreWaiters : List Event → ℕ → ByPlace ℕ → Type 0
AreWaiters trace n waiters = (p : Place) → IsLastBelow trace (AtWaiters p) n (get same_pair waiters (p.block, p.byte))

-- what is kept of a block: nothing, where none of the first n events writes a byte of it, or its stretches
abbrev pub AreWritten : List Event → ℕ → ℕ → Option Stretches → Type 0
AreWritten trace n block None = (byte : ℕ) → IsLastBelow trace (Writes block byte) n None
AreWritten trace n block (Some stretches) = AreStretches trace n block stretches.list.items

-- of each block there is what is kept of it
abbrev pub AreWriters : List Event → ℕ → ByBlock Stretches → Type 0
AreWriters trace n writers = (block : ℕ) → AreWritten trace n block (get nat_eq writers block)

-- the stretches of each block are in order
abbrev pub AreOrdered : ByBlock Stretches → Type 0
AreOrdered writers = (block : ℕ) → ForSome (get nat_eq writers block) (λ (s : Stretches). AreInOrder s.list.items)

-- what is kept is that of the first n events of the trace
pub record IsPast (trace : List Event) (n : ℕ) (past : Past) : Type 0 where
  pub count : length past.agents ≡ MAX_AGENTS
  pub agents : (a : ℕ) → a < MAX_AGENTS → IsLastBelow trace (OfAgent a) n (slice_index_or past.agents a None)
  pub waiters : AreWaiters trace n past.waiters
  pub writers : AreWriters trace n past.writers
