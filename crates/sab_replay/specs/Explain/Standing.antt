-- Where an agent stands after a journal.
use Rattle.std.specs.Prelude.{◌≡◌, ℕ, suc, ◌&&◌, Bool, true, false, MatchBool, List, drop, slice_get, option_map, Option, Some, None}
use Rattle.std.specs.List.{list_any}
use Rattle.sab_plan.specs.declared.place.Place.{Place}
use Rattle.sab_plan.specs.declared.answer.Answer.TheVariants.{Count}
use Rattle.sab_plan.specs.declared.entry.What.{What}
use Rattle.sab_plan.specs.declared.entry.What.TheVariants.{Began, Acted, Left}
use Rattle.sab_plan.specs.declared.entry.Entry.{Entry}
use Rattle.sab_plan.specs.Place.{same_place}
use Rattle.sab_plan.specs.Plan.{PlanParts, call_of}
use Rattle.sab_object.specs.Object.{State, stands}
use Rattle.sab_plan.specs.Journal.{returned_of}
use Rattle.sab_sim.specs.Run.{Reaches}
use Rattle.sab_plan.specs.declared.standing.Standing.{Standing}
use Rattle.sab_plan.specs.declared.standing.At.{At}
use Rattle.sab_plan.specs.declared.standing.At.TheVariants as T
use Rattle.sab_replay.specs.Explain.Fact.{place_named, IsLast, IsWaker}

-- the two are one place
abbrev pub are_one : Option Place → Option Place → Bool
are_one (Some p) (Some q) = same_place p q
are_one p q = false

-- a notify acted
abbrev pub is_notify : What → Bool
is_notify (Acted (Count k)) = true
is_notify what = false

-- the entry is a notify's act at the place
abbrev pub notifies : PlanParts → Option Place → Entry → Bool
notifies plan place e = is_notify e.what && are_one (place_named plan (call_of plan e.agent e.call)) place

-- the entries after a position
abbrev pub entries_after : List Entry → Option ℕ → List Entry
entries_after journal None = journal
entries_after journal (Some j) = drop (suc j) journal

-- what the entry at a position did
abbrev pub what_at : List Entry → Option ℕ → Option What
what_at journal None = None
what_at journal (Some j) = option_map (λ (e : Entry). e.what) (slice_get journal j)

-- where an agent stands that neither waits nor was woken, by what it did last
abbrev pub by_last : Option What → At
by_last (Some Began) = T.Begun
by_last (Some (Acted x)) = T.Answered
by_last (Some (Left x)) = T.Answered
by_last what = T.Ready

-- where an agent stands
abbrev pub IsAt : PlanParts → List Entry → State → ℕ → Option Place → Option ℕ → At → Type 0
IsAt plan journal S a place since at =
    MatchBool (stands S a) (at ≡ T.Waits (list_any (notifies plan place) (entries_after journal since)))
    (MatchBool (S.notified a) ((j : ℕ) × IsWaker plan journal a j × (at ≡ T.Woken j))
    (at ≡ by_last (what_at journal since)))

-- the agent has a call that hasn't returned, and stands so
pub record IsStanding (plan : PlanParts) (journal : List Entry) (a : ℕ) (standing : Standing) : Type 0 where
  pub call : Some standing.call ≡ call_of plan a (returned_of journal a)
  pub place : standing.place ≡ place_named plan (Some standing.call)
  pub since : IsLast journal a standing.since
  -- the state after the journal
  pub state : State
  pub state_is : Reaches plan journal state
  pub at : IsAt plan journal state a standing.place standing.since standing.at

-- it stands in no other way
abbrev pub IsOnlyStanding : PlanParts → List Entry → ℕ → Standing → Type 0
IsOnlyStanding plan journal a standing = (other : Standing) → IsStanding plan journal a other → other ≡ standing
