-- Warnings that are put one after another.
use Rattle.std.proofs.Common.{◌≡◌, ℕ, ◌+◌, ◌<◌, Bool, List, ◌++◌, length, drop, get_or, append_assoc, append-nil, add-one, drop-cons}
use Rattle.std.proofs.Math.Seq.{drop-length}
use Rattle.sab_plan.specs.declared.call.Call.{Call}
use Rattle.sab_plan.specs.Script.{ScriptParts}
use Rattle.sab_reader.specs.Script.Setup.{SetupParts}
use Rattle.sab_reader.specs.Check.Text.{call_lines, calls_lines, agents_lines}

-- a call's warning was put
pub calls_after : (setup : SetupParts) (can_block : Bool) (agent i : ℕ) (cs : List Call) (c : Call)
    (old mid new : List ℕ)
    → i < length cs → c ≡ get_or cs i c
    → mid ++ calls_lines setup can_block agent i (drop i cs) ≡ old ++ calls_lines setup can_block agent 0 cs
    → new ≡ mid ++ call_lines setup can_block agent i c
    → new ++ calls_lines setup can_block agent (i + 1) (drop (i + 1) cs) ≡ old ++ calls_lines setup can_block agent 0 cs
calls_after setup can_block agent i cs c old mid new lt e appended put =
    rw (put, append_assoc, add-one) (let t = rw (drop-cons cs i c, ← e) at appended in t)

-- and all were
pub no_calls_left : (setup : SetupParts) (can_block : Bool) (agent i : ℕ) (cs : List Call) (old new : List ℕ)
    → i ≡ length cs
    → new ++ calls_lines setup can_block agent i (drop i cs) ≡ old ++ calls_lines setup can_block agent 0 cs
    → new ≡ old ++ calls_lines setup can_block agent 0 cs
no_calls_left setup can_block agent i cs old new e appended = rw (e, drop-length cs, append-nil) at appended

-- an agent's warnings were put
pub agents_after : (setup : SetupParts) (i : ℕ) (ss : List ScriptParts) (s : ScriptParts) (old mid new : List ℕ)
    → i < length ss → s ≡ get_or ss i s
    → mid ++ agents_lines setup i (drop i ss) ≡ old ++ agents_lines setup 0 ss
    → new ≡ mid ++ calls_lines setup s.can_block i 0 s.calls
    → new ++ agents_lines setup (i + 1) (drop (i + 1) ss) ≡ old ++ agents_lines setup 0 ss
agents_after setup i ss s old mid new lt e appended put =
    rw (put, append_assoc, add-one) (let t = rw (drop-cons ss i s, ← e) at appended in t)

-- and all were
pub no_agents_left : (setup : SetupParts) (i : ℕ) (ss : List ScriptParts) (old new : List ℕ) → i ≡ length ss
    → new ++ agents_lines setup i (drop i ss) ≡ old ++ agents_lines setup 0 ss
    → new ≡ old ++ agents_lines setup 0 ss
no_agents_left setup i ss old new e appended = rw (e, drop-length ss, append-nil) at appended
