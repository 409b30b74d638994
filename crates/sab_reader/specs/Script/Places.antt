-- What stands at the places of a script, and what is called for there.
use Rattle.std.specs.Prelude.{◌≡◌, ℕ, zero, suc, List, [], ◌∷◌, Option, Some, None, option_and_then, slice_get, codes}
use Rattle.serde_json.specs.Data.{Data, string}
use Rattle.serde_json.specs.Find.{get, at as nth}
use Rattle.sab_plan.specs.declared.argument.Argument.{Argument}
use Rattle.sab_plan.specs.declared.argument.Argument.TheVariants.{Value, Limit}
use Rattle.sab_plan.specs.declared.call.Call.{Call}
use Rattle.sab_refusal.specs.declared.location.Location.{Location}
use Rattle.sab_refusal.specs.declared.location.Location.TheVariants as at
use Rattle.sab_refusal.specs.declared.member.Member.{Member}
use Rattle.sab_refusal.specs.declared.member.Member.TheVariants as M
use Rattle.sab_refusal.specs.declared.reason.Wanted.{Wanted}
use Rattle.sab_refusal.specs.declared.reason.Wanted.TheVariants as wanted
use Rattle.sab_refusal.specs.Location.{member_name}
use Rattle.sab_reader.specs.declared.script.form.Form.{Form}
use Rattle.sab_reader.specs.declared.script.form.Form.TheVariants.{Bytes, Blocks}
use Rattle.sab_reader.specs.Script.Calls.{spelling_of}

-- a member of a value, if it is an object that has it
abbrev pub part_of : Member → Option Data → Option Data
part_of m o = option_and_then (get (member_name m)) o

-- an item of a value, if it is an array that has it
abbrev pub item_of : ℕ → Option Data → Option Data
item_of i o = option_and_then (nth i) o

-- the value at a place of a script, if one stands there
abbrev pub value_at : Data → Location → Option Data
value_at root at.Script = Some root
value_at root (at.Member list) = part_of list (Some root)
value_at root (at.Item list i) = item_of i (part_of list (Some root))
value_at root (at.Part list i part) = part_of part (item_of i (part_of list (Some root)))
value_at root (at.Call list i part j) = item_of j (part_of part (item_of i (part_of list (Some root))))
value_at root (at.Element list i part j k) =
    item_of k (item_of j (part_of part (item_of i (part_of list (Some root)))))

-- a value stands at a place
abbrev pub Stands : Data → Location → Data → Type 0
Stands root place d = value_at root place ≡ Some d

-- a script that has bytes is of the older form
abbrev pub form_by : Option Data → Form
form_by None = Blocks
form_by (Some d) = Bytes

abbrev pub form_of : Data → Form
form_of root = form_by (get (codes "bytes") root)

-- the member about the blocks
abbrev pub lens_member : Form → Member
lens_member Bytes = M.Bytes
lens_member Blocks = M.Blocks

-- the members of a view
abbrev pub view_members : Form → List Member
view_members Bytes = M.Kind ∷ M.Length ∷ M.Name ∷ M.Offset ∷ []
view_members Blocks = M.Block ∷ M.Kind ∷ M.Length ∷ M.Name ∷ M.Offset ∷ []

-- the members of the items of a list
abbrev pub item_members : Form → Member → List Member
item_members form M.Agents = M.Block ∷ M.Calls ∷ []
item_members form M.Schedule = M.Timeout ∷ []
item_members form M.Views = view_members form
item_members form list = []

-- the members of an object at a place
abbrev pub members_at : Form → Location → List Member
members_at form at.Script = M.Agents ∷ lens_member form ∷ M.Schedule ∷ M.Views ∷ []
members_at form (at.Item list i) = item_members form list
members_at form place = []

-- what a member of the script is
abbrev pub member_type : Member → Option Wanted
member_type M.Agents = Some wanted.Array
member_type M.Blocks = Some wanted.Array
member_type M.Bytes = Some wanted.Whole
member_type M.Schedule = Some wanted.Array
member_type M.Views = Some wanted.Array
member_type list = None

-- what an item of such a member is
abbrev pub item_type : Member → Option Wanted
item_type M.Agents = Some wanted.Object
item_type M.Blocks = Some wanted.Whole
item_type M.Schedule = Some wanted.Move
item_type M.Views = Some wanted.Object
item_type list = None

-- what a member of a view is
abbrev pub view_part_type : Member → Option Wanted
view_part_type M.Block = Some wanted.Whole
view_part_type M.Kind = Some wanted.Text
view_part_type M.Length = Some wanted.WholeOrNull
view_part_type M.Name = Some wanted.Text
view_part_type M.Offset = Some wanted.Whole
view_part_type part = None

-- what a member of an agent is
abbrev pub agent_part_type : Member → Option Wanted
agent_part_type M.Block = Some wanted.Flag
agent_part_type M.Calls = Some wanted.Array
agent_part_type part = None

-- what a member of a move is
abbrev pub move_part_type : Member → Option Wanted
move_part_type M.Timeout = Some wanted.Whole
move_part_type part = None

-- what a member of an item of a list is
abbrev pub part_type : Member → Member → Option Wanted
part_type M.Agents part = agent_part_type part
part_type M.Schedule part = move_part_type part
part_type M.Views part = view_part_type part
part_type list part = None

-- what an argument of a call is
abbrev pub argument_type : Argument → Wanted
argument_type (Value x) = wanted.Operand
argument_type (Limit z) = wanted.Whole

-- the name of a call, which stands first in it
abbrev pub IsNamed : Data → ℕ → ℕ → List ℕ → Type 0
IsNamed root i j name = Stands root (at.Element M.Agents i M.Calls j 0) (string name)

-- a call of this name takes such an argument, so many behind the index
pub record TakesArgument (root : Data) (i j k : ℕ) (w : Wanted) : Type 0 where
  pub call : Call
  pub name : IsNamed root i j (spelling_of call).name
  pub argument : Argument
  pub there : slice_get (spelling_of call).arguments k ≡ Some argument
  pub of_type : argument_type argument ≡ w

-- an element of a call is a name, the name of a view, an index, or an argument
abbrev pub ElementIs : Data → ℕ → ℕ → ℕ → Wanted → Type 0
ElementIs root i j zero w = w ≡ wanted.Text
ElementIs root i j (suc zero) w = w ≡ wanted.Text
ElementIs root i j (suc (suc zero)) w = w ≡ wanted.Whole
ElementIs root i j (suc (suc (suc k))) w = TakesArgument root i j k w

-- a value of this type is called for at a place
abbrev pub CallsFor : Data → Location → Wanted → Type 0
CallsFor root at.Script w = w ≡ wanted.Object
CallsFor root (at.Member list) w = member_type list ≡ Some w
CallsFor root (at.Item list i) w = item_type list ≡ Some w
CallsFor root (at.Part list i part) w = part_type list part ≡ Some w
CallsFor root (at.Call list i part j) w = (list ≡ M.Agents) × (part ≡ M.Calls) × (w ≡ wanted.Array)
CallsFor root (at.Element list i part j k) w = (list ≡ M.Agents) × (part ≡ M.Calls) × ElementIs root i j k w
