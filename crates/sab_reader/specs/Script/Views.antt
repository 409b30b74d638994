-- How views are spelled, and which views are made.
use Rattle.std.specs.Prelude.{◌≡◌, ◌⊎◌, ℕ, ◌<◌, ◌≤◌, ◌||◌, ◌==◌, List, [], ◌∷◌, ◌++◌, length, map, Bool, Option, Some, codes, IsTrue, All, is_some, option_and_then, slice_get, String, string_bytes}
use Rattle.std.specs.Char.{is_ascii_alphanumeric, to_ascii_lowercase}
use Rattle.std.specs.List.{IsDistinct}
use Rattle.std.specs.Str.{bytes_eq}
use Rattle.std.specs.declared.alloc.Global.{Global}
use Rattle.indexmap.specs.IndexMap.{IndexMap}
use Rattle.serde_json.specs.Data.{Data, string, object, Items, Members, no_members, member}
use Rattle.sab_block.specs.declared.kind.Kind.{Kind}
use Rattle.sab_block.specs.Kind.{kind_name}
use Rattle.sab_block.specs.Operand.{IsSafeInteger}
use Rattle.sab_block.specs.View.{count, IsViewOf}
use Rattle.sab_plan.specs.declared.plan.TheConstants.Plan.{MAX_VIEWS}
use Rattle.sab_plan.specs.declared.plan_view.PlanView.{PlanView}
use Rattle.sab_reader.specs.declared.script.form.Form.{Form}
use Rattle.sab_reader.specs.declared.script.names.TheConstants.{MAX_NAME}
use Rattle.sab_reader.specs.declared.script.view_spec.ViewSpec.{ViewSpec}
use Rattle.sab_reader.specs.Script.Blocks.{with_block, IsBlockIn}
use Rattle.sab_reader.specs.Script.Numbers.{whole, whole_or_null, IsSafeOrNone}
use Rattle.sab_reader.specs.Script.Reading.{SpellsEach}

-- an ASCII letter, a digit or `_`
abbrev pub is_name_byte : ℕ → Bool
is_name_byte b = is_ascii_alphanumeric b || b == 95

-- one such byte at least, and not too many
pub record IsName (name : List ℕ) : Type 0 where
  pub nonempty : 0 < length name
  pub short : length name ≤ MAX_NAME
  pub bytes : All (λ b. IsTrue (is_name_byte b)) name

-- names that differ in the case of ASCII letters alone, if at all
abbrev pub IsAlike : List ℕ → List ℕ → Type 0
IsAlike a b = map to_ascii_lowercase a ≡ map to_ascii_lowercase b

-- a name is like that of a kind, or like that of its constructor
abbrev pub IsLike : List ℕ → Kind → Type 0
IsLike name kind = IsAlike name (kind_name kind) ⊎ IsAlike name (kind_name kind ++ codes "Array")

-- the members of a view except its block
abbrev pub description : Data → Data → Data → Data → Members
description kind length name offset =
    member (codes "kind") kind (member (codes "length") length
    (member (codes "name") name (member (codes "offset") offset no_members)))

abbrev pub description_of : List ℕ → ViewSpec → Members
description_of name v = description (string (kind_name v.kind)) (whole_or_null v.length) (string name) (whole v.offset)

-- how many elements the view has on its block, or none where it can't be made, or there is no such block
abbrev pub count_on : List ℕ → ViewSpec → Option ℕ
count_on lens v = option_and_then (λ len. count v.kind len v.offset v.length) (slice_get lens v.block)

-- members spell a view, by its name, except its block; and on its block it can be made
pub record SpellsDescription (lens : List ℕ) (rest : Members) (v : List ℕ × ViewSpec) : Type 0 where
  pub members : rest ≡ description_of v.0 v.1
  pub name : IsName v.0
  pub length : IsSafeOrNone v.1.length
  pub offset : IsSafeInteger v.1.offset
  pub made : IsTrue (is_some (count_on lens v.1))

-- a tree spells a view: its block, and what it is there
pub record SpellsView (form : Form) (lens : List ℕ) (d : Data) (v : List ℕ × ViewSpec) : Type 0 where
  pub rest : Members
  pub tree : d ≡ object (with_block form v.1.block rest)
  pub block : IsBlockIn form v.1.block
  pub description : SpellsDescription lens rest v

-- the entries of a map of views, in order
abbrev pub named_views : {S : Type 0} → IndexMap (String Global) ViewSpec S → List (List ℕ × ViewSpec)
named_views m = map (λ e. (string_bytes e.0, e.1)) m.entries

abbrev pub view_names : List (List ℕ × ViewSpec) → List (List ℕ)
view_names vs = map (λ v. v.0) vs

-- no more views than a plan can have, and no name twice
pub record AreViews (vs : List (List ℕ × ViewSpec)) : Type 0 where
  pub few : length vs ≤ MAX_VIEWS
  pub distinct : IsDistinct bytes_eq (view_names vs)

-- items spell views, one by one
pub record SpellsViews (form : Form) (lens : List ℕ) (ds : Items) (vs : List (List ℕ × ViewSpec)) : Type 0 where
  pub each : SpellsEach (SpellsView form lens) ds vs
  pub views : AreViews vs

-- a tree is the name of view v
pub record SpellsName (names : List (List ℕ)) (d : Data) (v : ℕ) : Type 0 where
  pub text : List ℕ
  pub tree : d ≡ string text
  pub there : slice_get names v ≡ Some text

-- the view of a plan lies on the block that was given, and is the one that was described
pub record IsDescribed (lens : List ℕ) (v : ViewSpec) (p : PlanView) : Type 0 where
  pub block : p.block ≡ v.block
  pub len : ℕ
  pub there : slice_get lens v.block ≡ Some len
  pub elements : ℕ
  pub counted : count v.kind len v.offset v.length ≡ Some elements
  pub view : IsViewOf v.kind len v.offset elements p.view

-- view i is the one that entry i describes
abbrev pub AreDescribed : List ℕ → List (List ℕ × ViewSpec) → List PlanView → Type 0
AreDescribed lens [] [] = Unit {0}
AreDescribed lens [] (p ∷ ps) = ⊥
AreDescribed lens (v ∷ vs) [] = ⊥
AreDescribed lens (v ∷ vs) (p ∷ ps) = IsDescribed lens v.1 p × AreDescribed lens vs ps
