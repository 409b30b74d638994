-- Journals: acts, tracks, and entries that answer moves.
use Rattle.std.specs.Prelude.{◌≡◌, ℕ, ◌==◌, ◌&&◌, not, Bool, true, false, List, [], ◌∷◌, ◌++◌, length, map, flat_map, take, filter, slice_get, Some, None, ⊤}
use Rattle.sab_plan.specs.declared.call.Call.{Call}
use Rattle.sab_plan.specs.declared.call.Call.TheVariants as C
use Rattle.sab_plan.specs.declared.answer.Answer.{Answer}
use Rattle.sab_plan.specs.declared.answer.Answer.TheVariants.{TimedOut}
use Rattle.sab_plan.specs.declared.entry.Why.TheVariants as Y
use Rattle.sab_plan.specs.declared.entry.What.{What}
use Rattle.sab_plan.specs.declared.entry.What.TheVariants.{Began, Acted, Enlisted, Left, Returned, Stuck}
use Rattle.sab_plan.specs.declared.entry.Entry.{Entry}
use Rattle.sab_plan.specs.declared.schedule.Move.{Move}
use Rattle.sab_plan.specs.declared.schedule.Move.TheVariants.{Step, TimeUp}
use Rattle.sab_plan.specs.Schedule.{agent_of}
use Rattle.sab_plan.specs.Entry.{is_act, is_stuck, is_return}
use Rattle.sab_plan.specs.Plan.{PlanParts, call_of}

-- the entries that act
abbrev pub acts_of : List Entry → List Entry
acts_of journal = filter (λ (e : Entry). is_act e.what) journal

-- an agent's track: what it did that had an effect
abbrev pub track : List Entry → ℕ → List What
track journal a =
    map (λ (e : Entry). e.what) (filter (λ (e : Entry). (e.agent == a) && not (is_stuck e.what)) journal)

-- how a call goes: it acts at once, or it is a wait that joins the line
pub data Course : Type 0 where
  AtOnce : Answer → Course
  InLine : Answer → Course

-- the entries of a call; it returns the answer of its last act
abbrev pub course : Course → List What
course (AtOnce x) = Began ∷ Acted x ∷ Returned x ∷ []
course (InLine x) = Began ∷ Enlisted ∷ Left x ∷ Returned x ∷ []

-- it is the front of a list that has n calls, one after the other
abbrev pub IsTrack : ℕ → List What → Type 0
IsTrack n whats =
    (courses : List Course) × (rest : List What) × (length courses ≡ n) × (whats ++ rest ≡ flat_map course courses)

-- how many calls of an agent returned
abbrev pub returned_of : List Entry → ℕ → ℕ
returned_of journal a = length (filter (λ (e : Entry). (e.agent == a) && is_return e.what) journal)

-- a TimeUp ends a wait or finds none that it can end, and a Step does neither
abbrev pub answers_move : Move → What → Bool
answers_move (TimeUp a) (Left TimedOut) = true
answers_move (TimeUp a) (Stuck Y.NotWaiting) = true
answers_move (TimeUp a) (Stuck Y.Endless) = true
answers_move (TimeUp a) _ = false
answers_move (Step a) (Left TimedOut) = false
answers_move (Step a) (Stuck Y.NotWaiting) = false
answers_move (Step a) (Stuck Y.Endless) = false
answers_move (Step a) _ = true

-- the entry answers the move, after the entries before it
pub record Answers (before : List Entry) (m : Move) (e : Entry) : Type 0 where
  pub agent : e.agent ≡ agent_of m
  pub call : e.call ≡ returned_of before e.agent
  pub kind : answers_move m e.what ≡ true

-- each entry answers the move at its position
abbrev pub EachAnswers : List Move → List Entry → Type 0
EachAnswers moves journal =
    (k : ℕ) (m : Move) (e : Entry) → slice_get moves k ≡ Some m → slice_get journal k ≡ Some e
    → Answers (take k journal) m e

abbrev pub WaitsForever : Call → Type 0
WaitsForever (C.Wait n index x None) = ⊤
WaitsForever _ = ⊥

-- the agent's call is a wait without a timeout
abbrev pub IsEndless : PlanParts → Entry → Type 0
IsEndless plan e = (call : Call) × (call_of plan e.agent e.call ≡ Some call) × WaitsForever call

-- a fact of each entry and of the entries before it
abbrev pub EachAfter : (List Entry → Entry → Type 0) → List Entry → Type 0
EachAfter P journal = (k : ℕ) (e : Entry) → slice_get journal k ≡ Some e → P (take k journal) e
