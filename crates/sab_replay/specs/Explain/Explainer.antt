-- What an explainer sees before a move, and what it keeps.
use Rattle.std.specs.Prelude.{◌≡◌, ℕ, ◌==◌, ◌<◌, ◌≤◌, ◌+◌, ◌&&◌, Bool, true, false, List, length, slice_get, slice_index_or, Option, Some, None, IfSome, IfNone}
use Rattle.std.specs.List.{list_any}
use Rattle.sab_block.specs.declared.access.Access.TheVariants as X
use Rattle.sab_block.specs.declared.check.Check.{Check}
use Rattle.sab_block.specs.Kind.{is_atomic, element_size}
use Rattle.sab_block.specs.Operand.{agrees}
use Rattle.sab_block.specs.declared.view.View.{View}
use Rattle.sab_block.specs.View.{kind_of, block_len_of}
use Rattle.sab_block.specs.Check.{first_failed}
use Rattle.sab_block.specs.Access.{value_at, element, raw_of}
use Rattle.sab_plan.specs.declared.place.Place.{Place}
use Rattle.sab_plan.specs.declared.plan_view.PlanView.{PlanView}
use Rattle.sab_plan.specs.declared.call.Call.{Call}
use Rattle.sab_plan.specs.declared.call.Call.TheVariants as C
use Rattle.sab_plan.specs.declared.entry.Entry.{Entry}
use Rattle.sab_plan.specs.declared.plan.TheConstants.Plan.{MAX_AGENTS}
use Rattle.sab_plan.specs.Call.{view_of, index_of}
use Rattle.sab_plan.specs.Place.{place_of}
use Rattle.sab_plan.specs.Script.{ScriptParts}
use Rattle.sab_plan.specs.Plan.{PlanParts, call_of}
use Rattle.sab_plan.specs.Check.{checks}
use Rattle.sab_object.specs.Object.{bytes_of, waiters}
use Rattle.sab_plan.specs.Journal.{returned_of}
use Rattle.sab_sim.specs.Shown.{AtEnd}
use Rattle.sab_sim.specs.Sim.{SimParts}
use Rattle.sab_plan.specs.declared.answer.Answer.TheVariants as A
use Rattle.sab_plan.specs.declared.entry.Why.TheVariants as Y
use Rattle.sab_plan.specs.declared.entry.What.{What}
use Rattle.sab_plan.specs.declared.entry.What.TheVariants.{Acted, Enlisted, Left, Stuck}
use Rattle.sab_plan.specs.declared.fact.Found.{Found}
use Rattle.sab_plan.specs.declared.fact.Found.TheVariants as F
use Rattle.sab_replay.specs.declared.explain.sight.Sight.{Sight}
use Rattle.sab_replay.specs.declared.explain.before.Before.{Before}
use Rattle.sab_replay.specs.Explain.Fact.{place_named, found_by, IsWaker, IsLast}

-- an element at this byte is inside the view's block
abbrev pub IsInside : View → ℕ → Type 0
IsInside view byte = byte + element_size (kind_of view) ≤ block_len_of view

-- the view is of the length of its block, has elements that can be read, and one at the place
pub record IsReadable (plan : PlanParts) (view : PlanView) (place : Place) : Type 0 where
  pub atomic : is_atomic (kind_of view.view) ≡ true
  pub len : slice_get plan.lens view.block ≡ Some (block_len_of view.view)
  pub inside : IsInside view.view place.byte

-- the raw element is the one that a compare-exchange expects
abbrev pub is_expected : View → Call → ℕ → Bool
is_expected view (C.Access n (X.CompareExchange index x y)) r = agrees (kind_of view) x && (raw_of view x == r)
is_expected view call r = false

-- what the call would find
pub record IsSight (sim : SimParts) (call : Option Call) (s : Sight) : Type 0 where
  pub call_is : call ≡ Some s.call
  pub view_is : slice_get sim.plan.views (view_of s.call) ≡ Some s.view
  pub place_is : place_of s.view (index_of s.call) ≡ Some s.place
  pub readable : IsReadable sim.plan s.view s.place
  pub value_is : s.value ≡ value_at s.view.view (bytes_of sim.blocks s.view.block) s.place.byte
  pub expected_is : s.expected ≡ is_expected s.view.view s.call
      (element s.view.view (bytes_of sim.blocks s.view.block) s.place.byte)
  pub waiters_is : AtEnd sim.plan sim.journal (λ S. s.waiters ≡ waiters s.place S.line)
  pub named : (b : ℕ) → list_any (λ c. c == b) s.waiters ≡ true → b < length sim.plan.scripts

-- there is no call, or it has no element that can be read
abbrev pub IsBlind : SimParts → Option Call → Type 0
IsBlind sim next =
    (call : Call) (view : PlanView) (place : Place)
    → next ≡ Some call
    → slice_get sim.plan.views (view_of call) ≡ Some view
    → place_of view (index_of call) ≡ Some place
    → is_atomic (kind_of view.view) ≡ true
    → ⊥

-- the check that fails of a call of an agent
abbrev pub failed_on : Option PlanView → Option ScriptParts → Call → Option Check
failed_on (Some view) (Some script) call = first_failed (checks script.can_block view.view call)
failed_on view script call = None

abbrev pub failed_of : PlanParts → ℕ → Option Call → Option Check
failed_of plan a None = None
failed_of plan a (Some call) = failed_on (slice_get plan.views (view_of call)) (slice_get plan.scripts a) call

-- what is known of an agent
pub record IsBefore (sim : SimParts) (a : ℕ) (b : Before) : Type 0 where
  pub call_is : b.call ≡ call_of sim.plan a (returned_of sim.journal a)
  pub place_is : b.place ≡ place_named sim.plan b.call
  pub sight_is : IfSome b.sight (IsSight sim b.call)
  pub blind_is : IfNone b.sight (IsBlind sim b.call)
  pub failing_is : b.failing ≡ failed_of sim.plan a b.call
  pub woken_is : AtEnd sim.plan sim.journal (λ S. b.woken ≡ S.notified a)

-- for each agent that is notified, the entry that woke it
abbrev pub AreWakers : PlanParts → List Entry → List ℕ → Type 0
AreWakers plan journal wakers =
    AtEnd plan journal (λ S. (a : ℕ) → a < length plan.scripts → S.notified a ≡ true
    → IsWaker plan journal a (slice_index_or wakers a 0))

-- for each agent that a plan can have, its last entry that had an effect
abbrev pub AreLast : List Entry → List (Option ℕ) → Type 0
AreLast journal last = (a : ℕ) → a < MAX_AGENTS → IsLast journal a (slice_index_or last a None)

-- the entry was noted at these agents, and the rest is as before
pub record IsNoted (agents : List ℕ) (entry : ℕ) (old new : List ℕ) : Type 0 where
  pub noted : (a : ℕ) → list_any (λ c. c == a) agents ≡ true → slice_index_or new a 0 ≡ entry
  pub others : (a : ℕ) → list_any (λ c. c == a) agents ≡ false → slice_index_or new a 0 ≡ slice_index_or old a 0

abbrev pub failure : Option Check → Found
failure None = F.Nothing
failure (Some check) = F.Failed check

abbrev pub woken_by : Option ℕ → Found
woken_by None = F.Nothing
woken_by (Some entry) = F.WokenBy entry

-- what an act found, by what was seen before it, and the bytes after it
abbrev pub found : What → Option Sight → List (List ℕ) → Found
found what None blocks = F.Nothing
found what (Some s) blocks =
    found_by what s.call s.value (value_at s.view.view (bytes_of blocks s.view.block) s.place.byte) s.expected s.waiters

-- what an entry found, by what was seen before it, the agent's waker, the check that fails, and the bytes after it
abbrev pub concluded : What → Option Sight → Option ℕ → Option Check → List (List ℕ) → Found
concluded (Acted (A.Value x)) sight waker check blocks = found (Acted (A.Value x)) sight blocks
concluded (Acted (A.Count k)) sight waker check blocks = found (Acted (A.Count k)) sight blocks
concluded (Acted A.NotEqual) sight waker check blocks = found (Acted A.NotEqual) sight blocks
concluded (Acted (A.Threw t)) sight waker check blocks = failure check
concluded Enlisted sight waker check blocks = found Enlisted sight blocks
concluded (Left A.Woken) sight waker check blocks = woken_by waker
concluded (Left A.TimedOut) sight waker check blocks = F.Waited
concluded (Stuck Y.Waiting) sight waker check blocks = F.Waited
concluded (Stuck Y.Endless) sight waker check blocks = F.Waited
concluded (Stuck Y.NotWaiting) sight waker check blocks = woken_by waker
concluded what sight waker check blocks = F.Nothing
