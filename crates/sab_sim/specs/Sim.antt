-- What a simulator reports, and what it keeps.
use Rattle.std.specs.Prelude.{◌≡◌, ℕ, suc, ◌≤◌, ◌-◌, List, [], ◌∷◌, length, map, take, Vec, vec_len, vec_capacity}
use Rattle.std.proofs.Common.{Global}
use Rattle.sab_plan.specs.declared.schedule.Move.{Move}
use Rattle.sab_plan.specs.declared.entry.Entry.{Entry}
use Rattle.sab_sim.specs.declared.agent.Agent.{Agent}
use Rattle.sab_plan.specs.declared.progress.Progress.{Progress}
use Rattle.sab_plan.specs.Plan.{PlanParts, IsPlan}
use Rattle.sab_plan.specs.Script.{ScriptParts}
use Rattle.sab_sim.specs.Agent.{agent_at}
use Rattle.sab_sim.specs.Machine.{MachineParts}
use Rattle.sab_sim.specs.Kept.{Kept}
use Rattle.sab_sim.specs.declared.sim.TheConstants.Sim.{MAX_ENTRIES}

-- a plan, the moves so far, what each did, the bytes of each block now, and how many steps have their room reserved
pub record SimParts : Type 0 where
  pub plan : PlanParts
  pub moves : List Move
  pub journal : List Entry
  pub blocks : List (List ℕ)
  pub reserved : ℕ

-- for how many more elements there is room
abbrev pub spare_of : {X : Type 0} → Vec X Global → ℕ
spare_of v = vec_capacity v - vec_len v

-- there is room for the bytes of each block and for the progress of each agent
pub record HasRoom (plan : PlanParts) (bytes : Vec (Vec ℕ Global) Global) (agents : Vec Progress Global) : Type 0 where
  pub no_bytes : bytes.items ≡ []
  pub bytes_room : length plan.lens ≤ vec_capacity bytes
  pub no_agents : agents.items ≡ []
  pub agents_room : length plan.scripts ≤ vec_capacity agents

-- what the simulator kept after the first k moves
pub record WasKept (plan : PlanParts) (moves : List Move) (journal : List Entry) (k : ℕ) : Type 0 where
  pub machine : MachineParts
  pub kept : Kept plan (take k moves) (take k journal) machine

-- what the simulator keeps
pub record IsKept (plan : PlanParts) (moves : List Move) (journal : List Entry) (m : MachineParts) : Type 0 where
  pub is_plan : IsPlan plan
  pub kept : Kept plan moves journal m
  pub few : length journal ≤ MAX_ENTRIES
  pub few_tickets : m.next_ticket ≤ length journal
  pub lens : map length m.blocks ≡ plan.lens
  pub history : (k : ℕ) → k ≤ length journal → WasKept plan moves journal k

-- for each agent from a on, how many of its calls returned by where it stands, and how many it has
abbrev pub standing_from : List Agent → ℕ → List ScriptParts → List Progress
standing_from agents a [] = []
standing_from agents a (s ∷ scripts) =
    record { returned = (agent_at agents a).returned; total = length s.calls } ∷ standing_from agents (suc a) scripts
