-- How schedules are spelled.
use Rattle.std.specs.Prelude.{◌≡◌, ℕ, ◌<◌, pos, List, codes}
use Rattle.serde_json.specs.Data.{Data, object, Items, no_members, member}
use Rattle.sab_plan.specs.declared.schedule.Move.{Move}
use Rattle.sab_plan.specs.declared.schedule.Move.TheVariants.{Step, TimeUp}
use Rattle.sab_plan.specs.Schedule.{agent_of}
use Rattle.sab_reader.specs.declared.script.schedule.TheConstants.{MAX_MOVES}
use Rattle.sab_reader.specs.Script.Numbers.{whole}
use Rattle.sab_reader.specs.Script.Reading.{SpellsUpTo}

abbrev pub move_tree : Move → Data
move_tree (Step a) = whole (pos a)
move_tree (TimeUp a) = object (member (codes "timeout") (whole (pos a)) no_members)

-- a move of an agent, of which there are so many
abbrev pub SpellsMove : ℕ → Data → Move → Type 0
SpellsMove agents d m = (d ≡ move_tree m) × (agent_of m < agents)

abbrev pub SpellsSchedule : ℕ → Items → List Move → Type 0
SpellsSchedule agents = SpellsUpTo MAX_MOVES (SpellsMove agents)
