-- Schedules.
use Rattle.std.specs.Prelude.{ℕ}
use Rattle.sab_plan.specs.declared.schedule.Move.{Move}
use Rattle.sab_plan.specs.declared.schedule.Move.TheVariants.{Step, TimeUp}

-- the agent that a move names
abbrev pub agent_of : Move → ℕ
agent_of (Step a) = a
agent_of (TimeUp a) = a
