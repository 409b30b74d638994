-- The fact of an entry, by the plan, the journal before it, and the states of the object before and after it.
use Rattle.std.specs.Prelude.{◌≡◌, ℕ, ◌==◌, ◌<◌, ◌≤◌, ⊤, Bool, true, false, MatchBool, List, [], ◌∷◌, ◌++◌, length, take, slice_get, Contains, Option, Some, None}
use Rattle.std.specs.List.{list_any}
use Rattle.sab_block.specs.declared.check.Check.{Check}
use Rattle.sab_block.specs.declared.operand.Operand.{Operand}
use Rattle.sab_block.specs.declared.access.Access.TheVariants as X
use Rattle.sab_block.specs.Check.{first_failed}
use Rattle.sab_block.specs.Access.{raw_of, value_at}
use Rattle.sab_plan.specs.declared.place.Place.{Place}
use Rattle.sab_plan.specs.declared.plan_view.PlanView.{PlanView}
use Rattle.sab_plan.specs.declared.call.Call.{Call}
use Rattle.sab_plan.specs.declared.call.Call.TheVariants as C
use Rattle.sab_plan.specs.declared.answer.Answer.TheVariants as A
use Rattle.sab_plan.specs.declared.entry.Why.TheVariants as Y
use Rattle.sab_plan.specs.declared.entry.What.{What}
use Rattle.sab_plan.specs.declared.entry.What.TheVariants.{Acted, Enlisted, Left, Stuck}
use Rattle.sab_plan.specs.declared.entry.Entry.{Entry}
use Rattle.sab_plan.specs.Script.{ScriptParts}
use Rattle.sab_plan.specs.Entry.{is_stuck}
use Rattle.sab_plan.specs.Call.{view_of, index_of}
use Rattle.sab_plan.specs.Place.{place_of}
use Rattle.sab_plan.specs.Plan.{PlanParts, call_of}
use Rattle.sab_plan.specs.Check.{checks}
use Rattle.sab_plan.specs.Fact.{woken_in}
use Rattle.sab_object.specs.Object.{State, bytes_of, element_at, waiters}
use Rattle.sab_sim.specs.Run.{Reaches}
use Rattle.sab_sim.specs.Shown.{AtEnd}
use Rattle.sab_plan.specs.declared.fact.Found.{Found}
use Rattle.sab_plan.specs.declared.fact.Found.TheVariants as F
use Rattle.sab_plan.specs.declared.fact.Fact.{Fact}

-- ---- by the plan and the journal alone

-- the place of a call's index on its view
abbrev pub place_on : Option PlanView → Call → Option Place
place_on None call = None
place_on (Some view) call = place_of view (index_of call)

-- the place that a call names
abbrev pub place_named : PlanParts → Option Call → Option Place
place_named plan None = None
place_named plan (Some call) = place_on (slice_get plan.views (view_of call)) call

-- entry j is of the agent, and had an effect
abbrev pub HasEffect : List Entry → ℕ → ℕ → Type 0
HasEffect journal a j = (e : Entry) × (slice_get journal j ≡ Some e) × (e.agent ≡ a) × (is_stuck e.what ≡ false)

-- the last entry of the agent that had an effect
abbrev pub IsLast : List Entry → ℕ → Option ℕ → Type 0
IsLast journal a None = (j : ℕ) → HasEffect journal a j → ⊥
IsLast journal a (Some j) = HasEffect journal a j × ((k : ℕ) → HasEffect journal a k → k ≤ j)

-- ---- by the states before and after

-- the operand that the element of a view at a place is read as (GetValueFromBuffer)
abbrev pub value_in : State → PlanView → Place → Operand
value_in S v p = value_at v.view (bytes_of S.mem v.block) p.byte

-- a compare-exchange expects the element (Atomics.compareExchange, ByteListEqual)
abbrev pub expects : State → PlanView → Place → Call → Bool
expects S v p (C.Access n (X.CompareExchange index x y)) = raw_of v.view x == element_at v S.mem p
expects S v p call = false

-- what is found by a call that does this: of the element before and after, of whether it is expected, and of the line
-- at the place before
abbrev pub found_by : What → Call → Operand → Operand → Bool → List ℕ → Found
-- Atomics.load
found_by (Acted (A.Value x)) (C.Access n (X.Load index)) before after expected line = F.Read before
-- Atomics.compareExchange
found_by (Acted (A.Value x)) (C.Access n (X.CompareExchange index y z)) before after expected line =
    F.Compared before after expected
-- Atomics.store, AtomicReadModifyWrite
found_by (Acted (A.Value x)) (C.Access n access) before after expected line = F.Wrote before after
-- Atomics.notify, RemoveWaiters
found_by (Acted (A.Count k)) (C.Notify n index count) before after expected line =
    F.Notified (take k line) (length line)
-- Atomics.wait
found_by (Acted A.NotEqual) (C.Wait n index y timeout) before after expected line = F.Differs before
found_by Enlisted (C.Wait n index y timeout) before after expected line = F.Joined line
found_by what call before after expected line = F.Nothing

-- it is what the call found at its place, from S to T
pub record IsOfAct (plan : PlanParts) (S : State) (e : Entry) (T : State) (fact : Fact) : Type 0 where
  pub call : Call
  pub call_is : fact.call ≡ Some call
  pub view : PlanView
  pub view_is : slice_get plan.views (view_of call) ≡ Some view
  pub place : Place
  pub place_is : fact.place ≡ Some place
  pub found_is : fact.found ≡ found_by e.what call (value_in S view place) (value_in T view place)
      (expects S view place call) (waiters place S.line)

-- it is the first check of the call that fails
pub record IsOfThrow (plan : PlanParts) (e : Entry) (fact : Fact) : Type 0 where
  pub script : ScriptParts
  pub script_is : slice_get plan.scripts e.agent ≡ Some script
  pub call : Call
  pub call_is : fact.call ≡ Some call
  pub view : PlanView
  pub view_is : slice_get plan.views (view_of call) ≡ Some view
  pub check : Check
  pub check_is : first_failed (checks script.can_block view.view call) ≡ Some check
  pub found_is : fact.found ≡ F.Failed check

-- entry j is the one that woke the agent, as it is notified after the journal: before it the agent wasn't notified, and
-- ever since it is
pub record IsWaker (plan : PlanParts) (journal : List Entry) (a j : ℕ) : Type 0 where
  pub within : j < length journal
  pub before : AtEnd plan (take j journal) (λ S. S.notified a ≡ false)
  pub since : (m : ℕ) → j < m → m ≤ length journal → AtEnd plan (take m journal) (λ S. S.notified a ≡ true)

-- it is the entry that woke the agent
abbrev pub IsOfWoken : PlanParts → List Entry → Entry → Fact → Type 0
IsOfWoken plan journal e fact = (j : ℕ) × IsWaker plan journal e.agent j × (fact.found ≡ F.WokenBy j)

-- the agent stands in the line at the call's place
abbrev pub IsOfWaiting : State → Entry → Fact → Type 0
IsOfWaiting S e fact =
    (fact.found ≡ F.Waited)
    × ((p : Place) × (fact.place ≡ Some p) × Contains S.line (record { place = p; agent = e.agent }))

-- what is found by an entry that does this, from S to T
abbrev pub Finds : PlanParts → List Entry → State → Entry → State → Fact → What → Type 0
Finds plan journal S e T fact (Acted (A.Value x)) = IsOfAct plan S e T fact
Finds plan journal S e T fact (Acted (A.Count k)) = IsOfAct plan S e T fact
Finds plan journal S e T fact (Acted A.NotEqual) = IsOfAct plan S e T fact
Finds plan journal S e T fact (Acted (A.Threw t)) = IsOfThrow plan e fact
Finds plan journal S e T fact Enlisted = IsOfAct plan S e T fact
Finds plan journal S e T fact (Left A.Woken) = IsOfWoken plan journal e fact
Finds plan journal S e T fact (Left A.TimedOut) = IsOfWaiting S e fact
Finds plan journal S e T fact (Stuck Y.Waiting) = IsOfWaiting S e fact
Finds plan journal S e T fact (Stuck Y.Endless) = IsOfWaiting S e fact
Finds plan journal S e T fact (Stuck Y.NotWaiting) =
    MatchBool (S.notified e.agent) (IsOfWoken plan journal e fact) (fact.found ≡ F.Nothing)
Finds plan journal S e T fact what = fact.found ≡ F.Nothing

-- ---- the fact

-- the fact is that of an entry after a journal
pub record IsFact (plan : PlanParts) (journal : List Entry) (e : Entry) (fact : Fact) : Type 0 where
  pub call : fact.call ≡ call_of plan e.agent e.call
  pub place : fact.place ≡ place_named plan fact.call
  pub since : IsLast journal e.agent fact.since
  -- the states before and after the entry
  pub old : State
  pub old_is : Reaches plan journal old
  pub new : State
  pub new_is : Reaches plan (journal ++ e ∷ []) new
  pub finds : Finds plan journal old e new fact e.what

-- the entry has no other fact
abbrev pub IsOnlyFact : PlanParts → List Entry → Entry → Fact → Type 0
IsOnlyFact plan journal e fact = (other : Fact) → IsFact plan journal e other → other ≡ fact

-- the fact of entry j is that it woke the agent
pub record HasWoken (plan : PlanParts) (journal : List Entry) (a j : ℕ) : Type 0 where
  pub entry : Entry
  pub entry_is : slice_get journal j ≡ Some entry
  pub fact : Fact
  pub fact_is : IsFact plan (take j journal) entry fact
  pub among : list_any (λ b. b == a) (woken_in fact.found) ≡ true

-- an entry that is found to have woken the agent did so
abbrev pub NamesWaker : PlanParts → List Entry → Entry → Found → Type 0
NamesWaker plan journal e (F.WokenBy j) = HasWoken plan journal e.agent j
NamesWaker plan journal e found = ⊤
