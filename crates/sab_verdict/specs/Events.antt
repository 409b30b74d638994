-- What is written about events: calls and accesses, the bytes that two accesses share, and how many there are.
use Rattle.std.specs.Prelude.{ℕ, ◌+◌, ◌==◌, ◌&&◌, min, max, Bool, false, List, Option, Some, None, is_some, IsTrue, slice_get, count_by}
use Rattle.std.specs.List.{list_any, range_with_len}
use Rattle.sab_plan.specs.declared.call.Call.{Call}
use Rattle.sab_plan.specs.Plan.{PlanParts, call_of}
use Rattle.sab_plan.specs.declared.entry.Entry.{Entry}
use Rattle.sab_judge.specs.declared.order.Order.TheVariants.{Unordered}
use Rattle.sab_judge.specs.declared.access.Access.{Access}
use Rattle.sab_judge.specs.declared.event.Event.{Event}
use Rattle.sab_judge.specs.declared.race.Race.{Race}
use Rattle.sab_judge.specs.declared.trace.TheConstants.Trace.{MAX_AGENTS}
use Rattle.sab_judge.specs.Access.{overlap}
use Rattle.sab_judge.specs.Event.{event_at, agent_at}
use Rattle.sab_verdict.specs.declared.byte_range.ByteRange.{ByteRange}
use Rattle.sab_verdict.specs.declared.side.Side.{Side}

-- an access of no byte
abbrev pub no_access : Access
no_access =
    record { place = record { block = 0; byte = 0 }; len = 0; reads = false; writes = false; order = Unordered }

-- the access of an event, which an event of a race has
abbrev pub access_in : Option Access → Access
access_in None = no_access
access_in (Some a) = a

-- the event at a position, with its agent and its access
abbrev pub side_at : List Event → ℕ → Side
side_at trace k = record { at = k; agent = agent_at trace k; access = access_in (event_at trace k).access }

-- the call of an entry
abbrev pub call_in : PlanParts → Option Entry → Option Call
call_in plan None = None
call_in plan (Some e) = call_of plan e.agent e.call

abbrev pub call_at : PlanParts → List Entry → ℕ → Option Call
call_at plan journal k = call_in plan (slice_get journal k)

-- the bytes of an access
abbrev pub range_of : Access → ByteRange
range_of a = record { start = a.place.byte; end = a.place.byte + a.len }

-- the bytes of two accesses of one block that are in both ranges
abbrev pub overlap_of : Access → Access → ByteRange
overlap_of a b =
    record { start = max (range_of a).start (range_of b).start; end = min (range_of a).end (range_of b).end }

-- the ranges of two accesses overlap
abbrev pub Overlap : Side → Side → Type 0
Overlap first second = IsTrue (overlap first.access second.access)

-- ---- how many there are

abbrev pub has_access : Event → Bool
has_access e = is_some e.access

-- how many races of a list are data races
unfoldable pub data_races_in : List Race → ℕ
data_races_in races = count_by (λ (r : Race). r.is_data_race) races

-- how many events have an access
unfoldable pub accesses_of : List Event → ℕ
accesses_of trace = count_by has_access trace

-- an event of the agent has an access
abbrev pub is_accessing : List Event → ℕ → Bool
is_accessing trace agent = list_any (λ e. (e.agent == agent) && has_access e) trace

-- of how many of the agents one has
unfoldable pub agents_of : List Event → ℕ
agents_of trace = count_by (is_accessing trace) (range_with_len 0 MAX_AGENTS)
