-- The forms of a script, for the crates above, which can't name them.
use Rattle.sab_reader.specs.declared.script.form.Form.{Form}
use Rattle.sab_reader.specs.declared.script.form.Form.TheVariants.{Bytes, Blocks}

-- what holds of both forms holds of each
pub by_form : (P : Form → Type 0) → P Bytes → P Blocks → (form : Form) → P form
by_form P bytes blocks Bytes = bytes
by_form P bytes blocks Blocks = blocks
