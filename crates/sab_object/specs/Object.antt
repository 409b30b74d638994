-- The sequential object: the bytes of all blocks, one line of waiters, and the agents notified.
use Rattle.std.specs.Prelude.{◌≡◌, ◌≢◌, ℕ, zero, suc, ◌==◌, ◌&&◌, ◌||◌, not, min, Bool, true, false, if◌then◌else◌, ℤ, pos, negsuc, List, [], ◌∷◌, ◌++◌, length, map, take, filter, replicate, slice_get, slice_set, slice_index_or, Contains, Option, Some, None}
use Rattle.std.specs.List.{list_any}
use Rattle.sab_block.specs.Access.{Acts, element, raw_of}
use Rattle.sab_plan.specs.declared.place.Place.{Place}
use Rattle.sab_plan.specs.declared.waiter.Waiter.{Waiter}
use Rattle.sab_plan.specs.declared.call.Call.{Call}
use Rattle.sab_plan.specs.declared.call.Call.TheVariants as C
use Rattle.sab_plan.specs.declared.answer.Answer.TheVariants.{Value, Woken, NotEqual, TimedOut, Count, Threw}
use Rattle.sab_plan.specs.declared.entry.What.{What}
use Rattle.sab_plan.specs.declared.entry.What.TheVariants.{Acted, Enlisted, Left}
use Rattle.sab_plan.specs.declared.entry.Entry.{Entry}
use Rattle.sab_plan.specs.declared.plan_view.PlanView.{PlanView}
use Rattle.sab_plan.specs.Call.{view_of}
use Rattle.sab_plan.specs.Script.{ScriptParts}
use Rattle.sab_plan.specs.Plan.{PlanParts}
use Rattle.sab_plan.specs.Place.{same_place, place_of}
use Rattle.sab_plan.specs.Check.{verdict}

-- a state of the object
pub record State : Type 0 where
  -- the bytes of each block (Shared Data Block)
  pub mem : List (List ℕ)
  -- the waiters of all places, in order of arrival (WaiterList)
  pub line : List Waiter
  -- the agents that were woken and haven't left
  pub notified : ℕ → Bool

-- blocks of these lengths, all of whose bytes are zero (CreateSharedByteDataBlock)
abbrev pub zero_blocks : List ℕ → List (List ℕ)
zero_blocks lens = map (λ len. replicate len 0) lens

-- zero blocks, nobody waits, nobody was notified
abbrev pub opening : List ℕ → State
opening lens = record { mem = zero_blocks lens; line = []; notified = λ a. false }

-- the bytes of a block
abbrev pub bytes_of : List (List ℕ) → ℕ → List ℕ
bytes_of mem b = slice_index_or mem b []

-- the raw element at a place of a view (GetValueFromBuffer)
abbrev pub element_at : PlanView → List (List ℕ) → Place → ℕ
element_at v mem p = element v.view (bytes_of mem v.block) p.byte

-- the waiter waits at this place
abbrev pub is_at : Place → Waiter → Bool
is_at p w = same_place w.place p

-- the agents that wait at a place, oldest first (the WaiterList of a place)
abbrev pub waiters : Place → List Waiter → List ℕ
waiters p line = map (λ (w : Waiter). w.agent) (filter (is_at p) line)

-- the line without the first n waiters at a place (RemoveWaiters)
abbrev pub without_first : ℕ → Place → List Waiter → List Waiter
without_first n p [] = []
without_first zero p (w ∷ line) = w ∷ line
without_first (suc n) p (w ∷ line) =
    if is_at p w then without_first n p line else w ∷ without_first (suc n) p line

-- the least of the count and how many wait; no count is no bound, and a negative one is 0 (Atomics.notify)
abbrev pub woken_count : Option ℤ → ℕ → ℕ
woken_count None there = there
woken_count (Some (pos n)) there = min n there
woken_count (Some (negsuc n)) there = 0

-- whether an agent stands in the line
abbrev pub stands : State → ℕ → Bool
stands S a = list_any (λ (w : Waiter). w.agent == a) S.line

-- the first n waiters at a place are woken (RemoveWaiters, NotifyWaiter)
abbrev pub woken : ℕ → Place → State → State
woken n p S = record {
  mem = S.mem;
  line = without_first n p S.line;
  notified = λ b. S.notified b || list_any (λ a. a == b) (take n (waiters p S.line));
}

-- a waiter joins the line at its end (AddWaiter)
abbrev pub joined : Place → ℕ → State → State
joined p a S = record S { line = S.line ++ record { place = p; agent = a } ∷ [] }

-- a waiter is taken off the line, the others keep their order (RemoveWaiter)
abbrev pub taken_off : Place → ℕ → State → State
taken_off p a S = record S { line = filter (λ (w : Waiter). not (is_at p w && (w.agent == a))) S.line }

-- an agent that was notified leaves
abbrev pub departed : ℕ → State → State
departed a S = record S { notified = λ b. S.notified b && not (b == a) }

-- from S, a call of agent a on its view does this, and leaves T
abbrev pub DoesCall : Bool → ℕ → PlanView → Call → State → What → State → Type 0
-- any call whose verdict is an error
DoesCall can_block a v call S (Acted (Threw e)) T = (verdict can_block v.view call ≡ Some e) × (T ≡ S)
-- an access, on the bytes of its block
DoesCall can_block a v (C.Access n access) S (Acted (Value x)) T =
    (verdict can_block v.view (C.Access n access) ≡ None)
    × ((bytes : List ℕ) × Acts v.view access (bytes_of S.mem v.block) x bytes
    × (T ≡ record S { mem = slice_set S.mem v.block bytes }))
-- Atomics.notify
DoesCall can_block a v (C.Notify n index count) S (Acted (Count k)) T =
    (verdict can_block v.view (C.Notify n index count) ≡ None)
    × ((p : Place) × (place_of v index ≡ Some p) × (k ≡ woken_count count (length (waiters p S.line)))
    × (T ≡ woken k p S))
-- Atomics.wait, where the value isn't the element
DoesCall can_block a v (C.Wait n index x timeout) S (Acted NotEqual) T =
    (verdict can_block v.view (C.Wait n index x timeout) ≡ None)
    × ((p : Place) × (place_of v index ≡ Some p) × (raw_of v.view x ≢ element_at v S.mem p) × (T ≡ S))
-- Atomics.wait, where it is
DoesCall can_block a v (C.Wait n index x timeout) S Enlisted T =
    (verdict can_block v.view (C.Wait n index x timeout) ≡ None)
    × ((p : Place) × (place_of v index ≡ Some p) × (raw_of v.view x ≡ element_at v S.mem p) × (T ≡ joined p a S))
-- a wait whose agent was notified
DoesCall can_block a v (C.Wait n index x timeout) S (Left Woken) T = (S.notified a ≡ true) × (T ≡ departed a S)
-- a wait with a timeout, whose agent stands in the line
DoesCall can_block a v (C.Wait n index x (Some timeout)) S (Left TimedOut) T =
    (p : Place) × (place_of v index ≡ Some p) × Contains S.line (record { place = p; agent = a })
    × (T ≡ taken_off p a S)
DoesCall can_block a v call S what T = ⊥

-- the entry is an act that leads from S to T
pub record Does (plan : PlanParts) (S : State) (e : Entry) (T : State) : Type 0 where
  pub script : ScriptParts
  pub script_is : slice_get plan.scripts e.agent ≡ Some script
  pub call : Call
  pub call_is : slice_get script.calls e.call ≡ Some call
  pub view : PlanView
  pub view_is : slice_get plan.views (view_of call) ≡ Some view
  pub does : DoesCall script.can_block e.agent view call S e.what T
