-- How calls are spelled.
use Rattle.std.specs.Prelude.{◌≡◌, ℕ, ℤ, List}
use Rattle.serde_json.specs.Data.{Data, string, array, Items, item}
use Rattle.sab_block.specs.Operand.{IsSafeInteger}
use Rattle.sab_plan.specs.declared.argument.Argument.{Argument}
use Rattle.sab_plan.specs.declared.argument.Argument.TheVariants.{Value, Limit}
use Rattle.sab_plan.specs.declared.call.Call.{Call}
use Rattle.sab_plan.specs.Call.{function_of, view_of, index_of, arguments_of}
use Rattle.sab_plan.specs.declared.plan.TheConstants.Plan.{MAX_CALLS}
use Rattle.sab_reader.specs.Script.Numbers.{whole, SpellsWhole, SpellsOperand}
use Rattle.sab_reader.specs.Script.Reading.{SpellsEach, SpellsUpTo}
use Rattle.sab_reader.specs.Script.Views.{SpellsName}

-- how a call is spelled: its name, the position of its view, its index, and what stands behind that
pub record Spelling : Type 0 where
  pub name : List ℕ
  pub view : ℕ
  pub index : ℤ
  pub arguments : List Argument

-- a spelling of these four parts
abbrev pub spelling : List ℕ → ℕ → ℤ → List Argument → Spelling
spelling name view index arguments = record { name = name; view = view; index = index; arguments = arguments }

abbrev pub spelling_of : Call → Spelling
spelling_of call = spelling (function_of call) (view_of call) (index_of call) (arguments_of call)

-- a tree spells an operand, or a whole number
abbrev pub SpellsArgument : Data → Argument → Type 0
SpellsArgument d (Value x) = SpellsOperand d x
SpellsArgument d (Limit z) = SpellsWhole d z

-- items spell the arguments, one by one
abbrev pub SpellsArguments : Items → List Argument → Type 0
SpellsArguments ds arguments = SpellsEach SpellsArgument ds arguments

-- a name, the position of a view, an index and the items behind them have this spelling
pub record SpellsParts (word : List ℕ) (v : ℕ) (i : ℤ) (ds : Items) (s : Spelling) : Type 0 where
  pub name : word ≡ s.name
  pub view : v ≡ s.view
  pub index : i ≡ s.index
  pub arguments : SpellsArguments ds s.arguments

-- the array of a call, by its items
abbrev pub call_tree : List ℕ → Data → ℤ → Items → Data
call_tree name view_tree index argument_trees =
    array (item (string name) (item view_tree (item (whole index) argument_trees)))

-- an array of the name, the view's name, the index and the arguments has this spelling
pub record HasSpelling (names : List (List ℕ)) (d : Data) (s : Spelling) : Type 0 where
  pub view_tree : Data
  pub argument_trees : Items
  pub tree : d ≡ call_tree s.name view_tree s.index argument_trees
  pub view : SpellsName names view_tree s.view
  pub index : IsSafeInteger s.index
  pub arguments : SpellsArguments argument_trees s.arguments

-- a tree has the spelling of a call
abbrev pub SpellsCall : List (List ℕ) → Data → Call → Type 0
SpellsCall names d c = HasSpelling names d (spelling_of c)

-- items spell calls, one by one, and not too many
abbrev pub SpellsCalls : List (List ℕ) → Items → List Call → Type 0
SpellsCalls names = SpellsUpTo MAX_CALLS (SpellsCall names)
