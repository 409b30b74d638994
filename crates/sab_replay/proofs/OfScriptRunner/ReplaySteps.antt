-- Scripts that are refused, and schedules that aren't.
use Rattle.std.proofs.Common.{◌≡◌, inl, inr, ℕ, suc, ◌+◌, ◌<◌, ◌≤◌, ◌^◌, List, [], ◌∷◌, length, All, Option, Some, None, nat_le, false, refl, arith}
use Rattle.std.proofs.lemmas.Bool.{lt-leb}
use Rattle.std.proofs.lemmas.List.Elements.{All-nil, All-cons, All-head, All-tail}
use Rattle.std.specs.Io.KnownBytes.{Keeps}
use Rattle.serde_json.specs.Data.{Data, Items, no_items, item}
use Rattle.sab_plan.specs.declared.schedule.Move.{Move}
use Rattle.sab_sim.specs.declared.sim_fault.SimFault.{SimFault}
use Rattle.sab_sim.specs.declared.sim_fault.SimFault.TheVariants as F
use Rattle.sab_plan.specs.Schedule.{agent_of}
use Rattle.sab_plan.specs.Plan.{PlanParts}
use Rattle.sab_sim.specs.Fits.{IsRefusal, first_refusal}
use Rattle.sab_refusal.specs.declared.read_fault.ReadFault.{ReadFault}
use Rattle.sab_refusal.specs.declared.read_fault.ReadFault.TheVariants.{TooMany, OutOfMemory, BadShape, BadName, BadNumber, BadCall, BadView, BadAgent, NoBlock}
use Rattle.sab_refusal.specs.declared.refusal.Refusal.{Refusal}
use Rattle.sab_refusal.specs.declared.refusal.Refusal.TheVariants.{NotJson, Tree}
use Rattle.sab_reader.specs.Script.Reading.{SpellsEach}
use Rattle.sab_reader.specs.Script.Schedule.{SpellsMove}
use Rattle.sab_reader.specs.Script.Script.{ReadsAs, SpellsNone, IsTreeFault, IsRefusedBy, IsTrueRefusal}
use Rattle.sab_reader.specs.Script.Truth.{IsTrueFault}
use Rattle.sab_refusal.specs.Reason.{fault_of}
use Rattle.sab_replay.specs.Faults.Conversions.{as_tool_fault, script_as_tool_fault}
use Rattle.sab_replay.specs.ScriptRunner.Replay.{IsRefused, IsRefusedFor}

pub keeps_same : (o : Option (List ℕ)) → Keeps o o
keeps_same None = tt
keeps_same (Some x) = refl

-- a tree that is refused
refused_for : (script : List ℕ) (e : ReadFault) → SpellsNone script
    → ((tree : Data) → ReadsAs script tree → IsTrueFault tree e) → IsRefusedFor e script
refused_for script e h t =
    record { tree = h.tree; reading = h.reading; unspelled = h.unspelled; is_true = t h.tree h.reading }

refused_tree : (script : List ℕ) (e : ReadFault) → IsTreeFault script e
    → ((tree : Data) → ReadsAs script tree → IsTrueFault tree e) → IsRefused script (as_tool_fault e)
refused_tree script OutOfMemory h t = tt
refused_tree script TooMany h t = refused_for script TooMany h t
refused_tree script BadShape h t = refused_for script BadShape h t
refused_tree script BadName h t = refused_for script BadName h t
refused_tree script BadNumber h t = refused_for script BadNumber h t
refused_tree script BadCall h t = refused_for script BadCall h t
refused_tree script BadView h t = refused_for script BadView h t
refused_tree script BadAgent h t = refused_for script BadAgent h t
refused_tree script NoBlock h t = refused_for script NoBlock h t

-- a script that is refused
pub refused_script : (script : List ℕ) (r : Refusal) → IsRefusedBy script r → IsTrueRefusal script r
    → IsRefused script (script_as_tool_fault r)
refused_script script (NotJson place) h t = h
refused_script script (Tree e) h t = refused_tree script (fault_of e.why) h (λ tree reading. (e, refl, t tree reading))

-- the moves that are spelled are the agents'
pub spelled_moves : (agents : ℕ) (ds : Items) (ms : List Move) → SpellsEach (SpellsMove agents) ds ms
    → All (λ m. agent_of m < agents) ms
spelled_moves agents no_items [] h = All-nil (λ (m : Move). agent_of m < agents)
spelled_moves agents no_items (m ∷ ms) h = absurd h
spelled_moves agents (item d ds) [] h = absurd h
spelled_moves agents (item d ds) (m ∷ ms) h =
    All-cons (λ (m : Move). agent_of m < agents) m ms h.0.1 (spelled_moves agents ds ms h.1)

-- few moves, each of an agent that is there, are all made
pub none_refused : (agents k : ℕ) (ms : List Move) → All (λ m. agent_of m < agents) ms → k + length ms ≤ 2 ^ 20
    → first_refusal agents k ms ≡ None
none_refused agents k [] h few = refl
none_refused agents k (m ∷ ms) h few =
    let a : nat_le agents (agent_of m) ≡ false =
    lt-leb agents (agent_of m) (All-head (λ (m : Move). agent_of m < agents) m ms h) in
    let b : nat_le (2 ^ 20) k ≡ false = lt-leb (2 ^ 20) k (omega arith) in
    rw (a, b) (none_refused agents (suc k) ms (All-tail (λ (m : Move). agent_of m < agents) m ms h) (omega arith))

-- few moves, each of an agent that is there, are refused for want of memory alone
pub refused_memory : (plan : PlanParts) (moves : List Move) (fault : SimFault)
    → All (λ m. agent_of m < length plan.scripts) moves → length moves ≤ 2 ^ 20 → IsRefusal plan moves fault
    → fault ≡ F.OutOfMemory
refused_memory plan moves fault h few (inl e) = e
refused_memory plan moves fault h few (inr e) =
    let n = none_refused (length plan.scripts) 0 moves h (omega (arith, few)) in
    cc
