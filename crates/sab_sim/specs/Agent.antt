-- Where agents stand, and how they go on.
use Rattle.std.specs.Prelude.{◌≡◌, ◌⊎◌, ℕ, suc, ◌≤◌, Bool, true, false, List, [], ◌∷◌, ◌++◌, length, flat_map, slice_get, slice_index_or, Option, Some, None, ⊤}
use Rattle.sab_plan.specs.declared.place.Place.{Place}
use Rattle.sab_plan.specs.declared.plan_view.PlanView.{PlanView}
use Rattle.sab_plan.specs.declared.call.Call.{Call}
use Rattle.sab_plan.specs.declared.entry.What.{What}
use Rattle.sab_plan.specs.declared.entry.What.TheVariants.{Began, Acted, Enlisted, Left, Returned, Stuck}
use Rattle.sab_plan.specs.declared.entry.Entry.{Entry}
use Rattle.sab_sim.specs.declared.agent.Agent.{Agent}
use Rattle.sab_sim.specs.declared.agent.Phase.{Phase}
use Rattle.sab_plan.specs.Place.{place_of}
use Rattle.sab_plan.specs.Plan.{PlanParts, calls_of}
use Rattle.sab_plan.specs.Journal.{Course, course, track, returned_of}
use Rattle.sab_plan.specs.declared.call.Call.TheVariants as C
use Rattle.sab_sim.specs.declared.agent.Phase.TheVariants as P

abbrev pub woken_phase : Phase → Bool
woken_phase P.Woken = true
woken_phase _ = false

abbrev pub waiting_phase : Phase → Bool
waiting_phase (P.Waiting p t) = true
waiting_phase _ = false

abbrev pub is_woken : Option Agent → Bool
is_woken None = false
is_woken (Some g) = woken_phase g.phase

abbrev pub is_waiting : Option Agent → Bool
is_waiting None = false
is_waiting (Some g) = waiting_phase g.phase

-- the agent is woken
abbrev pub woken_agent : Agent → Agent
woken_agent g = record g { phase = P.Woken }

-- an agent that has begun nothing
abbrev pub newcomer : Agent
newcomer = record { returned = 0; phase = P.Ready }

abbrev pub agent_at : List Agent → ℕ → Agent
agent_at agents a = slice_index_or agents a newcomer

-- what an agent did of the call that it is at
abbrev pub IsPart : Phase → List What → Type 0
IsPart P.Ready whats = whats ≡ []
IsPart P.Begun whats = whats ≡ Began ∷ []
IsPart (P.Waiting p t) whats = whats ≡ Began ∷ Enlisted ∷ []
IsPart P.Woken whats = whats ≡ Began ∷ Enlisted ∷ []
IsPart (P.Answered x) whats = (whats ≡ Began ∷ Acted x ∷ []) ⊎ (whats ≡ Began ∷ Enlisted ∷ Left x ∷ [])

-- the call is a wait at this place
abbrev pub WaitsOn : PlanParts → Place → Call → Type 0
WaitsOn plan p (C.Wait n index x timeout) =
    (v : PlanView) × (slice_get plan.views n ≡ Some v) × (place_of v index ≡ Some p)
WaitsOn plan p _ = ⊥

-- what the phase says of the agent's call
abbrev pub CallFits : PlanParts → Call → Phase → Type 0
CallFits plan call (P.Waiting p t) = WaitsOn plan p call
CallFits plan call P.Woken = (p : Place) × WaitsOn plan p call
CallFits plan call _ = ⊤

abbrev pub HasCall : PlanParts → List Call → ℕ → Phase → Type 0
HasCall plan calls n phase = (call : Call) × (slice_get calls n ≡ Some call) × CallFits plan call phase

-- after n calls have returned, the agent is between two calls, or at its next
abbrev pub IsAtCall : PlanParts → List Call → ℕ → Phase → Type 0
IsAtCall plan calls n P.Ready = n ≤ length calls
IsAtCall plan calls n P.Begun = HasCall plan calls n P.Begun
IsAtCall plan calls n (P.Waiting p t) = HasCall plan calls n (P.Waiting p t)
IsAtCall plan calls n P.Woken = HasCall plan calls n P.Woken
IsAtCall plan calls n (P.Answered x) = HasCall plan calls n (P.Answered x)

-- the agent is where its track leaves it
pub record IsWhere (plan : PlanParts) (journal : List Entry) (a : ℕ) (g : Agent) : Type 0 where
  pub courses : List Course
  pub part : List What
  pub track_is : track journal a ≡ flat_map course courses ++ part
  pub is_part : IsPart g.phase part
  pub count : length courses ≡ g.returned
  pub returned : returned_of journal a ≡ g.returned
  pub at_call : IsAtCall plan (calls_of plan a) g.returned g.phase

abbrev pub IsInLine : Phase → Type 0
IsInLine (P.Waiting p t) = ⊤
IsInLine P.Woken = ⊤
IsInLine _ = ⊥

-- how an agent goes on by its own move
abbrev pub Advances : Agent → What → Agent → Type 0
Advances g Began h = (g.phase ≡ P.Ready) × (h ≡ record g { phase = P.Begun })
Advances g (Acted x) h = (g.phase ≡ P.Begun) × (h ≡ record g { phase = P.Answered x })
Advances g Enlisted h = (g.phase ≡ P.Begun) × ((p : Place) × (t : ℕ) × (h ≡ record g { phase = P.Waiting p t }))
Advances g (Left x) h = IsInLine g.phase × (h ≡ record g { phase = P.Answered x })
Advances g (Returned x) h = (g.phase ≡ P.Answered x) × (h ≡ record { returned = suc g.returned; phase = P.Ready })
Advances g (Stuck why) h = h ≡ g

-- another agent stays as it was, or is woken
abbrev pub IsLike : Agent → Agent → Type 0
IsLike g h = (h ≡ g) ⊎ ((p : Place) × (t : ℕ) × (g.phase ≡ P.Waiting p t) × (h ≡ record g { phase = P.Woken }))

-- each agent is at one of its calls, or between them
abbrev pub AllAtCalls : PlanParts → List Agent → Type 0
AllAtCalls plan agents = (a : ℕ) (g : Agent) → slice_get agents a ≡ Some g
    → IsAtCall plan (calls_of plan a) g.returned g.phase
