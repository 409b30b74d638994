-- How agents are spelled.
use Rattle.std.specs.Prelude.{◌≡◌, ℕ, List, codes}
use Rattle.serde_json.specs.Data.{Data, boolean, array, object, Items, no_members, member}
use Rattle.sab_plan.specs.declared.plan.TheConstants.Plan.{MAX_AGENTS}
use Rattle.sab_plan.specs.Script.{ScriptParts}
use Rattle.sab_reader.specs.Script.Calls.{SpellsCalls}
use Rattle.sab_reader.specs.Script.Reading.{SpellsUpTo}

-- the object of an agent, by its members
abbrev pub agent_object : Data → Data → Data
agent_object block calls = object (member (codes "block") block (member (codes "calls") calls no_members))

-- a tree spells whether an agent can block, and its calls
pub record SpellsScript (names : List (List ℕ)) (d : Data) (s : ScriptParts) : Type 0 where
  pub call_trees : Items
  pub tree : d ≡ agent_object (boolean s.can_block) (array call_trees)
  pub calls : SpellsCalls names call_trees s.calls

abbrev pub SpellsScripts : List (List ℕ) → Items → List ScriptParts → Type 0
SpellsScripts names = SpellsUpTo MAX_AGENTS (SpellsScript names)
