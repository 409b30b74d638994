-- All that moves change, and the state of the object that it represents.
use Rattle.std.specs.Prelude.{◌≡◌, ℕ, suc, ◌<◌, ◌≤◌, List, [], ◌∷◌, length, map, replicate, slice_get, slice_set, ⊤}
use Rattle.sab_plan.specs.declared.place.Place.{Place}
use Rattle.sab_sim.specs.declared.agent.Agent.{Agent}
use Rattle.sab_sim.specs.declared.agent.Phase.{Phase}
use Rattle.sab_sim.specs.declared.agent.Phase.TheVariants as P
use Rattle.sab_plan.specs.Plan.{PlanParts, IsPlan}
use Rattle.sab_plan.specs.declared.waiter.Waiter.{Waiter}
use Rattle.sab_object.specs.Object.{State, zero_blocks, stands}
use Rattle.sab_sim.specs.Agent.{newcomer, agent_at, is_woken, is_waiting, AllAtCalls}
use Rattle.sab_sim.specs.Line.{WaitsAt}
use Rattle.sab_sim.specs.declared.sim.TheConstants.Sim.{MAX_ENTRIES}

pub record MachineParts : Type 0 where
  -- the bytes of each block
  pub blocks : List (List ℕ)
  -- where each agent stands
  pub agents : List Agent
  -- the ticket that the next agent to join a line takes
  pub next_ticket : ℕ

-- zero blocks, and the plan's agents have begun nothing
abbrev pub opening_machine : PlanParts → MachineParts
opening_machine plan = record {
  blocks = zero_blocks plan.lens;
  agents = replicate (length plan.scripts) newcomer;
  next_ticket = 0;
}

-- an agent stands here now
abbrev pub with_agent : MachineParts → ℕ → Agent → MachineParts
with_agent m a g = record m { agents = slice_set m.agents a g }

-- an agent is at this phase of its call
abbrev pub with_phase : MachineParts → ℕ → Phase → MachineParts
with_phase m a phase = with_agent m a (record (agent_at m.agents a) { phase = phase })

-- an agent joins the line, with the next ticket
abbrev pub enlisted : MachineParts → ℕ → Place → MachineParts
enlisted m a p = record (with_phase m a (P.Waiting p m.next_ticket)) { next_ticket = suc m.next_ticket }

-- the machine is one of the plan's, and agent a can move
pub record IsReady (plan : PlanParts) (m : MachineParts) (a : ℕ) : Type 0 where
  pub is_plan : IsPlan plan
  pub named : a < length plan.scripts
  pub size : length m.agents ≡ length plan.scripts
  pub lens : map length m.blocks ≡ plan.lens
  pub at_calls : AllAtCalls plan m.agents
  pub few_tickets : m.next_ticket ≤ MAX_ENTRIES

-- the agent has begun a call
abbrev pub IsBegun : MachineParts → ℕ → Type 0
IsBegun m a = (agent_at m.agents a).phase ≡ P.Begun

-- the line is of agents that wait, by rising tickets, none below the lowest
abbrev pub IsSeated : List Agent → ℕ → List Waiter → Type 0
IsSeated agents low [] = ⊤
IsSeated agents low (w ∷ line) =
    (t : ℕ) × (low ≤ t) × WaitsAt agents w.agent w.place t × IsSeated agents (suc t) line

-- the agents and the bytes stand as the object has them, and each ticket is below the next
pub record Represents (m : MachineParts) (S : State) : Type 0 where
  pub mem_is : S.mem ≡ m.blocks
  pub notified_is : (b : ℕ) → S.notified b ≡ is_woken (slice_get m.agents b)
  pub stands_is : (b : ℕ) → stands S b ≡ is_waiting (slice_get m.agents b)
  pub seated : IsSeated m.agents 0 S.line
  pub tickets : (b : ℕ) (p : Place) (t : ℕ) → WaitsAt m.agents b p t → t < m.next_ticket
