-- What calls do to bytes and waiters, and that their events report it.
use Rattle.std.specs.Prelude.{◌≡◌, ◌↔◌, ℕ, ◌+◌, ◌≤◌, ◌<◌, Bool, true, false, IsTrue, ⊤, List, Some}
use Rattle.sab_block.specs.declared.access.Access.TheVariants as X
use Rattle.sab_block.specs.Kind.{element_size}
use Rattle.sab_block.specs.View.{kind_of}
use Rattle.sab_block.specs.Access.{raw_of}
use Rattle.sab_plan.specs.declared.call.Call.{Call}
use Rattle.sab_plan.specs.declared.call.Call.TheVariants as C
use Rattle.sab_plan.specs.declared.answer.Answer.TheVariants.{Threw}
use Rattle.sab_plan.specs.declared.entry.What.{What}
use Rattle.sab_plan.specs.declared.entry.What.TheVariants.{Acted, Left}
use Rattle.sab_plan.specs.declared.entry.Entry.{Entry}
use Rattle.sab_plan.specs.declared.place.Place.{Place}
use Rattle.sab_plan.specs.declared.plan_view.PlanView.{PlanView}
use Rattle.sab_plan.specs.Call.{index_of}
use Rattle.sab_plan.specs.Entry.{is_act}
use Rattle.sab_plan.specs.Place.{place_of}
use Rattle.sab_plan.specs.Plan.{PlanParts}
use Rattle.sab_object.specs.Object.{State, element_at, Does}
use Rattle.sab_sim.specs.Run.{Reaches}
use Rattle.sab_judge.specs.declared.access.Access.{Access}
use Rattle.sab_judge.specs.declared.event.Event.{Event}
use Rattle.sab_judge.specs.declared.order.Order.TheVariants.{SeqCst}
use Rattle.sab_judge.specs.Event.{idle_event, writes_byte, reads_byte}
use Rattle.sab_replay.specs.Events.Events.{event_of}

-- the byte is one of the element that a call names on its view
pub record IsOfElement (v : PlanView) (call : Call) (block byte : ℕ) : Type 0 where
  pub place : Place
  pub place_is : place_of v (index_of call) ≡ Some place
  pub block_is : block ≡ place.block
  pub from : place.byte ≤ byte
  pub below : byte < place.byte + element_size (kind_of v.view)

-- the call, which does this, reads its element: each call except a store, a notify, a wait that leaves, and a call that
-- throws
abbrev pub reads_element : What → Call → Bool
reads_element (Acted (Threw t)) call = false
reads_element (Left x) call = false
reads_element what (C.Access n (X.Store index x)) = false
reads_element what (C.Notify n index count) = false
reads_element what call = true

-- the call, which does this from S, writes its element: a store, a read-modify-write, or a compareExchange that
-- exchanges, since the element is the one expected; none of them throws
abbrev pub WritesElement : What → Call → PlanView → State → Type 0
WritesElement (Acted (Threw t)) call v S = ⊥
WritesElement what (C.Access n (X.Store index x)) v S = ⊤
WritesElement what (C.Access n (X.Rmw op index x)) v S = ⊤
WritesElement what (C.Access n (X.CompareExchange index x y)) v S =
    (p : Place) × (place_of v index ≡ Some p) × (element_at v S.mem p ≡ raw_of v.view x)
WritesElement what call v S = ⊥

-- the call, which does this, is in the critical section of its place's waiters: a notify, or a wait that compares,
-- joins or leaves
abbrev pub is_in_section : What → Call → Bool
is_in_section (Acted (Threw t)) call = false
is_in_section what (C.Access n access) = false
is_in_section what call = true

-- the event reports what the call, which does this from S, does to bytes and waiters, and nothing else
pub record Reports (S : State) (what : What) (call : Call) (v : PlanView) (event : Event) : Type 0 where
  pub reads : (block byte : ℕ)
      → IsTrue (reads_byte event block byte) ↔ (IsOfElement v call block byte × IsTrue (reads_element what call))
  pub writes : (block byte : ℕ)
      → IsTrue (writes_byte event block byte) ↔ (IsOfElement v call block byte × WritesElement what call v S)
  pub section : (block byte : ℕ)
      → (event.waiters ≡ Some (record { block = block; byte = byte }))
      ↔ ((place_of v (index_of call) ≡ Some (record { block = block; byte = byte }))
      × IsTrue (is_in_section what call))
  pub order : (a : Access) → event.access ≡ Some a → a.order ≡ SeqCst

-- an act of a run has an event of its agent, which reports what its call does
abbrev pub ReportsItsCall : PlanParts → Entry → Type 0
ReportsItsCall plan e =
    (before : List Entry) (S T : State)
    → Reaches plan before S
    → (does : Does plan S e T)
    → Reports S e.what does.call does.view (event_of plan e)

-- an entry has an event of its agent; one that is no act accesses nothing
pub record IsOfItsAgent (plan : PlanParts) (e : Entry) : Type 0 where
  pub agent : (event_of plan e).agent ≡ e.agent
  pub idle : is_act e.what ≡ false → event_of plan e ≡ record idle_event { agent = e.agent }
