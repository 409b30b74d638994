-- How blocks are spelled, in the two forms of a script.
use Rattle.std.specs.Prelude.{◌≡◌, ℕ, ◌≤◌, pos, List, [], ◌∷◌, length, codes}
use Rattle.serde_json.specs.Data.{Data, array, Items, Members, member}
use Rattle.sab_plan.specs.declared.plan.TheConstants.Plan.{MAX_BLOCKS, MAX_BLOCK_LEN}
use Rattle.sab_reader.specs.declared.script.form.Form.{Form}
use Rattle.sab_reader.specs.declared.script.form.Form.TheVariants.{Bytes, Blocks}
use Rattle.sab_reader.specs.Script.Numbers.{whole}
use Rattle.sab_reader.specs.Script.Reading.{SpellsUpTo}

-- the length of a block
abbrev pub SpellsLen : Data → ℕ → Type 0
SpellsLen d len = (d ≡ whole (pos len)) × (len ≤ MAX_BLOCK_LEN)

-- the length of the one block, or an array of the lengths of at least one
abbrev pub SpellsLens : Form → Data → List ℕ → Type 0
SpellsLens Bytes d lens = (len : ℕ) × SpellsLen d len × (lens ≡ len ∷ [])
SpellsLens Blocks d lens = (ds : Items) × (d ≡ array ds) × SpellsUpTo MAX_BLOCKS SpellsLen ds lens × (1 ≤ length lens)

-- the member of a script that has them
abbrev pub lens_name : Form → List ℕ
lens_name Bytes = codes "bytes"
lens_name Blocks = codes "blocks"

-- the members of a view: its block comes first, or isn't given
abbrev pub with_block : Form → ℕ → Members → Members
with_block Bytes block rest = rest
with_block Blocks block rest = member (codes "block") (whole (pos block)) rest

-- the blocks that a view can be on: the first alone, if none is given
abbrev pub IsBlockIn : Form → ℕ → Type 0
IsBlockIn Bytes block = block ≡ 0
IsBlockIn Blocks block = Unit {0}
