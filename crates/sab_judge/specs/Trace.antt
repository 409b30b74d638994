-- Traces, and their limits.
use Rattle.std.specs.Prelude.{◌≡◌, ℕ, ◌+◌, ◌<◌, ◌≤◌, All, List, length}
use Rattle.std.specs.Option.{ForSome}
use Rattle.sab_judge.specs.declared.access.Access.{Access}
use Rattle.sab_judge.specs.declared.event.Event.{Event}
use Rattle.sab_judge.specs.declared.place.Place.{Place}
use Rattle.sab_judge.specs.declared.trace_fault.TraceFault.{TraceFault}
use Rattle.sab_judge.specs.declared.trace_fault.TraceFault.TheVariants.{Full, NoAgent, OutOfRange, OutOfMemory}
use Rattle.sab_judge.specs.declared.trace.TheConstants.Trace.{MAX_EVENTS, MAX_AGENTS}

-- there are so many bytes behind the place: there are 4 blocks of 65,536 bytes
abbrev pub HasBytes : Place → ℕ → Type 0
HasBytes p len = (p.block < 4) × (p.byte + len ≤ 65536)

-- what the event accesses and where it waits is there
pub record IsInBlocks (event : Event) : Type 0 where
  pub access : ForSome event.access (λ (a : Access). HasBytes a.place a.len)
  pub waiters : ForSome event.waiters (λ (p : Place). HasBytes p 1)

-- the event is one of 16 agents', at bytes that are there
pub record IsWithinLimits (event : Event) : Type 0 where
  pub agent : event.agent < MAX_AGENTS
  pub bytes : IsInBlocks event

-- at most 2^20 such events
pub record IsTrace (trace : List Event) : Type 0 where
  pub short : length trace ≤ MAX_EVENTS
  pub events : All IsWithinLimits trace

-- the event is refused so: the first of these that holds
abbrev pub Refuses : List Event → Event → TraceFault → Type 0
Refuses trace event Full = length trace ≡ MAX_EVENTS
Refuses trace event NoAgent = (length trace < MAX_EVENTS) × (MAX_AGENTS ≤ event.agent)
Refuses trace event OutOfRange = (length trace < MAX_EVENTS) × (event.agent < MAX_AGENTS) × (¬ IsInBlocks event)
Refuses trace event OutOfMemory = (length trace < MAX_EVENTS) × IsWithinLimits event
