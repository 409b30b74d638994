-- Views where they stand in a script.
use Rattle.std.specs.Prelude.{◌≡◌, ℕ}
use Rattle.serde_json.specs.Data.{Data, object, Members}
use Rattle.sab_refusal.specs.declared.located.Located.{Located}
use Rattle.sab_refusal.specs.declared.location.Location.{Location}
use Rattle.sab_refusal.specs.declared.location.Location.TheVariants as at
use Rattle.sab_refusal.specs.declared.member.Member.TheVariants as M
use Rattle.sab_reader.specs.declared.script.form.Form.{Form}
use Rattle.sab_reader.specs.declared.script.form.Form.TheVariants.{Bytes, Blocks}
use Rattle.sab_reader.specs.declared.script.view_spec.ViewSpec.{ViewSpec}
use Rattle.sab_reader.specs.Script.Numbers.{whole, whole_or_null}
use Rattle.sab_reader.specs.Script.Places.{Stands, form_of}
use Rattle.sab_reader.specs.Script.Truth.{HasItems, HasKind, IsOnLen, IsTrueWhere}
use Rattle.sab_reader.specs.Script.Known.{AreInOrder}

-- the script is of this form, and has so many blocks if each view names its own
abbrev pub HasBlocks : Data → Form → ℕ → Type 0
HasBlocks root Bytes count = form_of root ≡ Bytes
HasBlocks root Blocks count = (form_of root ≡ Blocks) × HasItems root (at.Member M.Blocks) count

-- view i is described so, and is reported to be on a block of this length
pub record HasView (root : Data) (i len : ℕ) (v : ViewSpec) : Type 0 where
  pub kind : HasKind root i v.kind
  pub length : Stands root (at.Part M.Views i M.Length) (whole_or_null v.length)
  pub offset : Stands root (at.Part M.Views i M.Offset) (whole v.offset)
  pub on : IsOnLen root i len

-- it is true of each script in which a view stands at this place that has these members, and of which this is known
abbrev pub IsTrueOfView : Location → Members → (Data → Type 0) → Located → Type 0
IsTrueOfView place ms Known e =
    AreInOrder ms → IsTrueWhere place (object ms) (λ root. ((i : ℕ) × (place ≡ at.Item M.Views i)) × Known root) e
