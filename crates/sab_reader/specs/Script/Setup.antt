-- How a script is spelled as JSON.
use Rattle.std.specs.Prelude.{◌≡◌, ℕ, List, length, codes}
use Rattle.serde_json.specs.Data.{Data, array, object, Items, no_members, member}
use Rattle.sab_plan.specs.declared.schedule.Move.{Move}
use Rattle.sab_plan.specs.Plan.{PlanParts}
use Rattle.sab_reader.specs.declared.script.view_spec.ViewSpec.{ViewSpec}
use Rattle.sab_reader.specs.declared.script.form.Form.{Form}
use Rattle.sab_reader.specs.Script.Blocks.{lens_name, SpellsLens}
use Rattle.sab_reader.specs.Script.Views.{SpellsViews, AreDescribed, view_names}
use Rattle.sab_reader.specs.Script.Agents.{SpellsScripts}
use Rattle.sab_reader.specs.Script.Schedule.{SpellsSchedule}

-- a plan, the names and descriptions of its views in order, and the moves
pub record SetupParts : Type 0 where
  pub plan : PlanParts
  pub views : List (List ℕ × ViewSpec)
  pub schedule : List Move

-- view i of the plan is the one that entry i describes
abbrev pub IsSetup : SetupParts → Type 0
IsSetup s = AreDescribed s.plan.lens s.views s.plan.views

-- the object of a script, by its members
abbrev pub script_object : Form → Data → Data → Data → Data → Data
script_object form agents lens schedule views =
    object (member (codes "agents") agents (member (lens_name form) lens
    (member (codes "schedule") schedule (member (codes "views") views no_members))))

-- a tree spells a setup
pub record Spells (d : Data) (s : SetupParts) : Type 0 where
  pub form : Form
  pub agent_trees : Items
  pub lens_tree : Data
  pub move_trees : Items
  pub view_trees : Items
  pub tree : d ≡ script_object form (array agent_trees) lens_tree (array move_trees) (array view_trees)
  pub lens : SpellsLens form lens_tree s.plan.lens
  pub views : SpellsViews form s.plan.lens view_trees s.views
  pub described : AreDescribed s.plan.lens s.views s.plan.views
  pub agents : SpellsScripts (view_names s.views) agent_trees s.plan.scripts
  pub schedule : SpellsSchedule (length s.plan.scripts) move_trees s.schedule

-- the tree spells no other setup
abbrev pub IsOnlySetup : Data → SetupParts → Type 0
IsOnlySetup d s = (t : SetupParts) → Spells d t → t ≡ s
