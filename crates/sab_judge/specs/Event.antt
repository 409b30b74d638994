-- Events (Agent Events Records): what an agent does at one moment of a run.
use Rattle.std.specs.Prelude.{ℕ, ◌&&◌, Bool, false, List, Option, Some, None, slice_index_or}
use Rattle.sab_judge.specs.declared.access.Access.{Access}
use Rattle.sab_judge.specs.declared.place.Place.{Place}
use Rattle.sab_judge.specs.declared.event.Event.{Event}
use Rattle.sab_judge.specs.Place.{same_place}
use Rattle.sab_judge.specs.Access as accesses

-- an event that accesses no byte, outside of all critical sections
abbrev pub idle_event : Event
idle_event = record { agent = 0; access = None; waiters = None }

-- the event at a position of the trace; past the end an idle one
abbrev pub event_at : List Event → ℕ → Event
event_at trace i = slice_index_or trace i idle_event

abbrev pub agent_at : List Event → ℕ → ℕ
agent_at trace i = (event_at trace i).agent

-- there is one, and it meets the test
abbrev pub some_is : {X : Type 0} → (X → Bool) → Option X → Bool
some_is test None = false
some_is test (Some x) = test x

-- there are both, and they meet the test
abbrev pub both_are : {X : Type 0} → (X → X → Bool) → Option X → Option X → Bool
both_are test x None = false
both_are test x (Some b) = some_is (λ a. test a b) x

abbrev pub writes_byte : Event → ℕ → ℕ → Bool
writes_byte e block byte = some_is (λ (a : Access). a.writes && accesses.covers a block byte) e.access

abbrev pub reads_byte : Event → ℕ → ℕ → Bool
reads_byte e block byte = some_is (λ (a : Access). a.reads && accesses.covers a block byte) e.access

-- both are SeqCst accesses with equal ranges
abbrev pub are_alike : Event → Event → Bool
are_alike e f = both_are accesses.are_atomic_alike e.access f.access

-- their ranges overlap, one of the two writes, and they aren't both SeqCst with equal ranges
abbrev pub do_conflict : Event → Event → Bool
do_conflict e f = both_are accesses.conflict e.access f.access

-- both write, and their ranges aren't disjoint
abbrev pub do_both_write : Event → Event → Bool
do_both_write e f = both_are accesses.both_write e.access f.access

-- both are in the critical section of the waiters of one place
abbrev pub share_waiters : Option Place → Option Place → Bool
share_waiters p q = both_are same_place p q
