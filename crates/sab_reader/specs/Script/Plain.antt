-- What the tokens of a text hold, if no tree is made of them.
use Rattle.std.specs.Prelude.{◌≡◌, ◌≤◌, ◌⊎◌, ℕ, pos, List, [], ◌∷◌, map, Some, codes}
use Rattle.json.specs.Token.{Token}
use Rattle.json.specs.Json as text
use Rattle.json.specs.Tree.{depth, items_depth}
use Rattle.json.specs.Find.{BeginsWith, InItems}
use Rattle.serde_json.specs.Data.{Data, string, Items}
use Rattle.serde_json.specs.Read.{of_json, of_items}
use Rattle.sab_block.specs.Kind.{kind_name}
use Rattle.sab_reader.specs.declared.script.form.Form.{Form}
use Rattle.sab_reader.specs.declared.script.form.Form.TheVariants.{Bytes, Blocks}
use Rattle.sab_reader.specs.declared.script.view_spec.ViewSpec.{ViewSpec}
use Rattle.sab_reader.specs.Script.Blocks.{lens_name}
use Rattle.sab_reader.specs.Script.Numbers.{whole, SpellsWhole, SpellsOptional}
use Rattle.sab_reader.specs.Script.Views.{IsName}

-- the value that the tokens begin with nests so deep at most, and reads as a tree of this kind
abbrev pub HoldsTree : ℕ → (Data → Type 0) → List Token → Type 0
HoldsTree deep Kind tokens =
    (j : text.Json) → BeginsWith tokens j → (d : Data) × ((of_json j ≡ Some d) × (depth j ≤ deep)) × Kind d

-- the items that they begin with do, and read as trees of this kind
abbrev pub HoldsItems : ℕ → (Items → Type 0) → List Token → Type 0
HoldsItems deep Kind tokens =
    (js : text.Items) → InItems tokens js → (ds : Items) × ((of_items js ≡ Some ds) × (items_depth js ≤ deep)) × Kind ds

-- the first of these items does, and `rest` begins with the others
abbrev pub HoldsNext : ℕ → (Data → Type 0) → List Token → List Token → Type 0
HoldsNext deep Kind tokens rest = (js : text.Items) → InItems tokens js → (j : text.Json) × (more : text.Items)
    × (js ≡ text.item j more) × ((d : Data) × ((of_json j ≡ Some d) × (depth j ≤ deep)) × Kind d) × InItems rest more

-- members of objects, in any order

-- a name is one of these
abbrev pub IsAmong : List ℕ → List (List ℕ) → Type 0
IsAmong name [] = ⊥
IsAmong name (other ∷ others) = (name ≡ other) ⊎ IsAmong name others

-- each member has one of these names
abbrev pub AreNamed : List (List ℕ) → text.Members → Type 0
AreNamed names text.no_members = Unit {0}
AreNamed names (text.member name j more) = IsAmong name names × AreNamed names more

-- no member has this name
abbrev pub HasNone : List ℕ → text.Members → Type 0
HasNone name text.no_members = Unit {0}
HasNone name (text.member other j more) = (other ≡ name → ⊥) × HasNone name more

-- just one member has this name, and it has this value
abbrev pub HasOnly : List ℕ → text.Json → text.Members → Type 0
HasOnly name value text.no_members = ⊥
HasOnly name value (text.member other j more) =
    ((other ≡ name) × (j ≡ value) × HasNone name more) ⊎ ((other ≡ name → ⊥) × HasOnly name value more)

-- each of these names has just one member, and that has its value
abbrev pub HasEach : List (List ℕ × text.Json) → text.Members → Type 0
HasEach [] ms = Unit {0}
HasEach (p ∷ ps) ms = HasOnly p.0 p.1 ms × HasEach ps ms

-- an object of just these members
abbrev pub IsObjectOf : List (List ℕ × text.Json) → text.Json → Type 0
IsObjectOf parts j = (ms : text.Members) × (j ≡ text.object ms) × AreNamed (map (λ p. p.0) parts) ms × HasEach parts ms

-- the members of objects of a script, in the order of their names

abbrev pub agent_members : text.Json → text.Json → List (List ℕ × text.Json)
agent_members block calls = (codes "block", block) ∷ (codes "calls", calls) ∷ []

abbrev pub description_members : text.Json → text.Json → text.Json → text.Json → List (List ℕ × text.Json)
description_members kind length name offset =
    (codes "kind", kind) ∷ (codes "length", length) ∷ (codes "name", name) ∷ (codes "offset", offset) ∷ []

abbrev pub script_members : Form → text.Json → text.Json → text.Json → text.Json → List (List ℕ × text.Json)
script_members form agents lens schedule views =
    (codes "agents", agents) ∷ (lens_name form, lens) ∷ (codes "schedule", schedule) ∷ (codes "views", views) ∷ []

-- the value that the tokens begin with is an object of just the members of a script of this form, whose values begin so
abbrev pub HasScriptParts : Form → List Token → List Token → List Token → List Token → List Token → Type 0
HasScriptParts form tokens agents lens schedule views = (j : text.Json) → BeginsWith tokens j
    → (a : text.Json) × (l : text.Json) × (s : text.Json) × (v : text.Json) × IsObjectOf (script_members form a l s v) j
    × BeginsWith agents a × BeginsWith lens l × BeginsWith schedule s × BeginsWith views v

-- the object that the tokens begin with has just one member of this name, which reads as a tree of this kind
abbrev pub HoldsMember : List ℕ → (Data → Type 0) → List Token → Type 0
HoldsMember name Kind tokens = (ms : text.Members) → BeginsWith tokens (text.object ms)
    → (j : text.Json) × HasOnly name j ms × ((d : Data) × ((of_json j ≡ Some d) × (depth j ≤ 0)) × Kind d)

-- its block is at this position: that of its member, if the form has one
abbrev pub HoldsBlock : Form → List Token → ℕ → Type 0
HoldsBlock Bytes tokens block = block ≡ 0
HoldsBlock Blocks tokens block = HoldsMember (codes "block") (λ d. d ≡ whole (pos block)) tokens

-- its other members are those of a view, by its name
pub record HoldsDescription (tokens : List Token) (v : List ℕ × ViewSpec) : Type 0 where
  pub kind : HoldsMember (codes "kind") (λ d. d ≡ string (kind_name v.1.kind)) tokens
  pub length : HoldsMember (codes "length") (λ d. SpellsOptional d v.1.length) tokens
  pub name : HoldsMember (codes "name") (λ d. d ≡ string v.0) tokens
  pub is_name : IsName v.0
  pub offset : HoldsMember (codes "offset") (λ d. SpellsWhole d v.1.offset) tokens
