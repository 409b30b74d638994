-- Scripts with another schedule.
use Rattle.std.specs.Prelude.{List, map, codes}
use Rattle.serde_json.specs.Data.{Data, array, object, Items, put}
use Rattle.serde_json.specs.View.{items_of}
use Rattle.sab_plan.specs.declared.schedule.Move.{Move}
use Rattle.sab_reader.specs.Script.Schedule.{move_tree}
use Rattle.sab_reader.specs.Script.Setup.{SetupParts}

-- moves as the items of an array
abbrev pub move_items : List Move → Items
move_items moves = items_of (map move_tree moves)

-- the tree of a script with these moves for its schedule
abbrev pub rescheduled : Data → List Move → Data
rescheduled (object members) moves = object (put (codes "schedule") (array (move_items moves)) members)
rescheduled tree moves = tree

-- the setup with these moves for its schedule
abbrev pub with_schedule : SetupParts → List Move → SetupParts
with_schedule setup moves = record { plan = setup.plan; views = setup.views; schedule = moves }
