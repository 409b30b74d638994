-- What is known of a script while its parts are read.
use Rattle.std.specs.Prelude.{◌≡◌, ◌↔◌, ℕ, ◌+◌, pos, List, [], ◌∷◌, length, Some, None, slice_get}
use Rattle.std.specs.Ordering.{nat_cmp}
use Rattle.std.specs.Cmp.Lexicographic.{slice_cmp}
use Rattle.std.specs.declared.cmp.Ordering.TheVariants.{Less}
use Rattle.serde_json.specs.Data.{Data, string, Items, Members, no_members, member}
use Rattle.serde_json.specs.Find.{get_member, get_item}
use Rattle.serde_json.specs.Events.{items_len}
use Rattle.sab_refusal.specs.declared.location.Location.{Location}
use Rattle.sab_refusal.specs.declared.location.Location.TheVariants as at
use Rattle.sab_refusal.specs.declared.member.Member.{Member}
use Rattle.sab_refusal.specs.declared.member.Member.TheVariants as M
use Rattle.sab_refusal.specs.declared.reason.Wanted.{Wanted}
use Rattle.sab_refusal.specs.declared.reason.Wanted.TheVariants as wanted
use Rattle.sab_refusal.specs.declared.reason.Reason.{Reason}
use Rattle.sab_refusal.specs.declared.reason.Reason.TheVariants as why
use Rattle.sab_refusal.specs.Location.{member_name}
use Rattle.sab_reader.specs.declared.script.form.Form.{Form}
use Rattle.sab_reader.specs.declared.script.form.Form.TheVariants.{Bytes, Blocks}
use Rattle.sab_reader.specs.Script.Numbers.{whole}
use Rattle.sab_reader.specs.Script.Places.{value_at, Stands, form_of, IsNamed}
use Rattle.sab_reader.specs.Script.Truth.{IsOf, IsStart, HasItems}

-- Objects: their members stand in the order of their names.

abbrev pub IsBefore : List ℕ → List ℕ → Type 0
IsBefore k l = slice_cmp nat_cmp k l ≡ Less

-- behind a name
abbrev pub FollowInOrder : List ℕ → Members → Type 0
FollowInOrder k no_members = Unit {0}
FollowInOrder k (member l d ms) = IsBefore k l × FollowInOrder l ms

abbrev pub AreInOrder : Members → Type 0
AreInOrder no_members = Unit {0}
AreInOrder (member k d ms) = FollowInOrder k ms

-- the first of these members has a name that is reported
abbrev pub IsFirst : Members → Reason → Type 0
IsFirst ms (why.Surplus reported) =
    (name : List ℕ) × (d : Data) × (rest : Members) × (ms ≡ member name d rest) × IsStart reported name
IsFirst ms reason = ⊥

-- these members have none of the name that is called for; or the first one's name is before that, and is reported
abbrev pub LackMember : Member → Members → Reason → Type 0
LackMember m ms (why.Missing n) = (n ≡ m) × (get_member (member_name m) ms ≡ None)
LackMember m ms (why.Surplus reported) =
    (name : List ℕ) × (d : Data) × (rest : Members) × (ms ≡ member name d rest) × IsStart reported name
    × IsBefore name (member_name m)
LackMember m ms reason = ⊥

-- What is known where a part is read.

-- a value is of a type just where it is a number
abbrev pub IsNumberAs : Wanted → Data → Type 0
IsNumberAs w d = IsOf w d ↔ IsOf wanted.Whole d

-- the names of the views are these
abbrev pub HasNames : Data → List (List ℕ) → Type 0
HasNames root names =
    (v : ℕ) (name : List ℕ) → Stands root (at.Part M.Views v M.Name) (string name) → slice_get names v ≡ Some name

-- the script is of this form, and the lengths of its blocks are these
abbrev pub HasLens : Data → Form → List ℕ → Type 0
HasLens root Bytes lens =
    (form_of root ≡ Bytes) × ((len : ℕ) × Stands root (at.Member M.Bytes) (whole (pos len)) × (lens ≡ len ∷ []))
HasLens root Blocks lens =
    (form_of root ≡ Blocks) × HasItems root (at.Member M.Blocks) (length lens)
    × ((b len : ℕ) → slice_get lens b ≡ Some len → Stands root (at.Item M.Blocks b) (whole (pos len)))

-- a call stands at a place, of this name, with these items behind its index
pub record HasArguments (root : Data) (place : Location) (name : List ℕ) (ds : Items) : Type 0 where
  pub i : ℕ
  pub j : ℕ
  pub is_place : place ≡ at.Call M.Agents i M.Calls j
  pub named : IsNamed root i j name
  pub count : HasItems root place (3 + items_len ds)
  pub each : (k : ℕ) → value_at root (at.Element M.Agents i M.Calls j (3 + k)) ≡ get_item k ds
