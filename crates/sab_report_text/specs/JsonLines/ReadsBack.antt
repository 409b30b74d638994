-- What a reader of JSON makes of a tree's text.
use Rattle.std.specs.Prelude.{◌≡◌, Some}
use Rattle.serde_json.specs.Data.{Data}
use Rattle.serde_json.specs.Read.{read}
use Rattle.serde_json.specs.Written.{compact_text}

-- the text of a tree is read as the tree
abbrev pub ReadsBack : Data → Type 0
ReadsBack d = read (compact_text d) ≡ Some d
