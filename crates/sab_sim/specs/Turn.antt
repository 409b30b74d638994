-- What one move does.
use Rattle.std.specs.Prelude.{◌≡◌, ◌≢◌, ℕ, suc, length, map, slice_get, Some, MatchBool}
use Rattle.sab_plan.specs.declared.entry.What.{What}
use Rattle.sab_plan.specs.declared.entry.What.TheVariants.{Enlisted}
use Rattle.sab_plan.specs.declared.entry.Entry.{Entry}
use Rattle.sab_sim.specs.declared.agent.Agent.{Agent}
use Rattle.sab_plan.specs.Entry.{is_act}
use Rattle.sab_plan.specs.Plan.{PlanParts, calls_of}
use Rattle.sab_object.specs.Object.{State, Does}
use Rattle.sab_sim.specs.Run.{Justifies}
use Rattle.sab_sim.specs.Agent.{agent_at, IsAtCall, Advances, IsLike}
use Rattle.sab_sim.specs.Machine.{MachineParts, Represents}

-- the entry leads from one state to the next, and where it is stuck the state allows it
pub record Goes (plan : PlanParts) (S : State) (e : Entry) (T : State) : Type 0 where
  pub acts : MatchBool (is_act e.what) (Does plan S e T) (T ≡ S)
  pub justified : Justifies plan S e e.what

-- the next ticket, which an agent that joins a line takes
abbrev pub ticket_after : What → ℕ → ℕ
ticket_after Enlisted t = suc t
ticket_after _ t = t

-- the entry of a move of agent a that does this
abbrev pub entry_of : MachineParts → ℕ → What → Entry
entry_of m a what = record { agent = a; call = (agent_at m.agents a).returned; what = what }

-- from each state that the first machine represents the entry leads to one that the second represents
abbrev pub ObjectGoes : PlanParts → MachineParts → Entry → MachineParts → Type 0
ObjectGoes plan m e n = (S : State) → Represents m S → (T : State) × Goes plan S e T × Represents n T

-- a move with this entry leads from one machine to the next
pub record Turns (plan : PlanParts) (m : MachineParts) (e : Entry) (n : MachineParts) : Type 0 where
  -- the entry has the number of the call that the agent is at
  pub call : (g : Agent) → slice_get m.agents e.agent ≡ Some g → e.call ≡ g.returned
  -- the agent goes on, and is at a call or between two
  pub own : (g h : Agent) → slice_get m.agents e.agent ≡ Some g → slice_get n.agents e.agent ≡ Some h
      → Advances g e.what h × IsAtCall plan (calls_of plan e.agent) h.returned h.phase
  -- the others stay as they were, or are woken
  pub others : (b : ℕ) (h : Agent) → b ≢ e.agent → slice_get n.agents b ≡ Some h
      → (g : Agent) × (slice_get m.agents b ≡ Some g) × IsLike g h
  -- the object goes the same way
  pub object : ObjectGoes plan m e n
  pub size : length n.agents ≡ length m.agents
  pub lens : map length n.blocks ≡ map length m.blocks
  pub ticket : n.next_ticket ≡ ticket_after e.what m.next_ticket
