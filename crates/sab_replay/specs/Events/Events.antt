-- The events of a journal (Agent Events Records).
use Rattle.std.specs.Prelude.{◌==◌, ◌&&◌, Bool, true, false, if◌then◌else◌, List, map, slice_get, Option, Some, None, option_map, option_and_then}
use Rattle.sab_block.specs.declared.access.Access as B
use Rattle.sab_block.specs.declared.access.Access.TheVariants as X
use Rattle.sab_block.specs.declared.operand.Operand.{Operand}
use Rattle.sab_block.specs.Kind.{element_size, is_atomic}
use Rattle.sab_block.specs.View.{kind_of, place}
use Rattle.sab_block.specs.Access.{raw_of}
use Rattle.sab_plan.specs.declared.call.Call.{Call}
use Rattle.sab_plan.specs.declared.call.Call.TheVariants as C
use Rattle.sab_plan.specs.declared.plan_view.PlanView.{PlanView}
use Rattle.sab_plan.specs.Call.{view_of, index_of}
use Rattle.sab_plan.specs.Plan.{PlanParts, call_of}
use Rattle.sab_plan.specs.declared.answer.Answer.TheVariants.{Value, NotEqual, Count}
use Rattle.sab_plan.specs.declared.entry.What.{What}
use Rattle.sab_plan.specs.declared.entry.What.TheVariants.{Acted, Enlisted, Left}
use Rattle.sab_plan.specs.declared.entry.Entry.{Entry}
use Rattle.sab_judge.specs.declared.access.Access.{Access}
use Rattle.sab_judge.specs.declared.event.Event.{Event}
use Rattle.sab_judge.specs.declared.order.Order.TheVariants.{SeqCst}
use Rattle.sab_judge.specs.declared.place.Place.{Place}
use Rattle.sab_replay.specs.declared.events.target.Target.{Target}

-- a call on its view, with the place of the element at its index (ValidateAtomicAccess)
abbrev pub target_on : Call → Option PlanView → Option Target
target_on call None = None
target_on call (Some v) =
    option_map (λ byte. record { call = call; view = v.view; place = record { block = v.block; byte = byte } })
    (place v.view (index_of call))

-- the call that an entry is of, on the view that it names; none where the plan has no such call or element
abbrev pub target_of : PlanParts → Entry → Option Target
target_of plan e =
    option_and_then (λ call. target_on call (slice_get plan.views (view_of call))) (call_of plan e.agent e.call)

-- a SeqCst access of the bytes of the element (Shared Data Block Events)
abbrev pub seq_cst : Target → Bool → Bool → Access
seq_cst t reads writes = record {
  place = t.place;
  len = element_size (kind_of t.view);
  reads = reads;
  writes = writes;
  order = SeqCst;
}

-- the access of a function of Atomics that returns x
abbrev pub access_of : B.Access → Operand → Target → Access
-- Atomics.load: ReadSharedMemory
access_of (X.Load index) x t = seq_cst t true false
-- Atomics.store: WriteSharedMemory
access_of (X.Store index y) x t = seq_cst t false true
-- AtomicReadModifyWrite: ReadModifyWriteSharedMemory
access_of (X.Rmw op index y) x t = seq_cst t true true
-- Atomics.compareExchange: ReadModifyWriteSharedMemory where the element, which is the answer, is the one expected
-- (ByteListEqual), and else ReadSharedMemory; it has an answer only of a kind that the functions of Atomics take
access_of (X.CompareExchange index y z) x t =
    seq_cst t true (is_atomic (kind_of t.view) && (raw_of t.view y == raw_of t.view x))

-- the access that a call makes where it does this
abbrev pub access_by : What → Call → Target → Option Access
access_by (Acted (Value x)) (C.Access n access) t = Some (access_of access x t)
-- Atomics.wait, which compares the element with its value: ReadSharedMemory
access_by (Acted NotEqual) (C.Wait n index y timeout) t = Some (seq_cst t true false)
access_by Enlisted (C.Wait n index y timeout) t = Some (seq_cst t true false)
access_by what call t = None

-- the call is then in the critical section of the waiters of its place (EnterCriticalSection)
abbrev pub enters : What → Call → Bool
-- Atomics.wait
enters (Acted NotEqual) (C.Wait n index y timeout) = true
enters Enlisted (C.Wait n index y timeout) = true
enters (Left x) (C.Wait n index y timeout) = true
-- Atomics.notify
enters (Acted (Count k)) (C.Notify n index count) = true
enters what call = false

-- the place whose waiters they are
abbrev pub waiters_by : What → Target → Option Place
waiters_by what t = if enters what t.call then Some t.place else None

-- the event of an entry: what doesn't act, and what throws, does nothing
abbrev pub event_of : PlanParts → Entry → Event
event_of plan e = record {
  agent = e.agent;
  access = option_and_then (λ t. access_by e.what t.call t) (target_of plan e);
  waiters = option_and_then (waiters_by e.what) (target_of plan e);
}

-- one event for each entry
abbrev pub events_of : PlanParts → List Entry → List Event
events_of plan journal = map (event_of plan) journal
