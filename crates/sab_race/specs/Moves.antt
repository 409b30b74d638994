-- The moves that agents make for their scripts.
use Rattle.std.specs.Prelude.{ℕ, ◌==◌, List, [], ◌∷◌, ◌++◌, filter, flat_map, replicate, length, sum_by}
use Rattle.sab_plan.specs.declared.call.Call.{Call}
use Rattle.sab_plan.specs.declared.call.Call.TheVariants as C
use Rattle.sab_plan.specs.declared.schedule.Move.{Move}
use Rattle.sab_plan.specs.declared.schedule.Move.TheVariants.{Step, TimeUp}
use Rattle.sab_plan.specs.Schedule.{agent_of}
use Rattle.sab_plan.specs.Script.{ScriptParts}

-- the moves for one call: three steps; for a wait two steps, some more, the end of its time, and two steps
abbrev pub call_moves : Call → ℕ → ℕ → List Move
call_moves (C.Access view access) a spins = Step a ∷ Step a ∷ Step a ∷ []
call_moves (C.Notify view index count) a spins = Step a ∷ Step a ∷ Step a ∷ []
call_moves (C.Wait view index x timeout) a spins =
    ((Step a ∷ Step a ∷ []) ++ replicate spins (Step a)) ++ (TimeUp a ∷ Step a ∷ Step a ∷ [])

-- the moves for all calls of a script
abbrev pub moves_of : List Call → ℕ → ℕ → List Move
moves_of calls a spins = flat_map (λ call. call_moves call a spins) calls

-- the part of a schedule that names an agent
abbrev pub part : List Move → ℕ → List Move
part schedule a = filter (λ m. agent_of m == a) schedule

-- how many moves all agents make
abbrev pub count_of : List ScriptParts → ℕ → ℕ
count_of scripts spins = sum_by (λ (s : ScriptParts). length (moves_of s.calls 0 spins)) scripts
