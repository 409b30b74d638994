-- Members of objects that are left out if there is nothing to report.
use Rattle.std.specs.Prelude.{ℕ, List, [], ◌++◌, Option, Some, None, codes}
use Rattle.serde_json.specs.Data.{Data, Members, member}
use Rattle.serde_json.specs.Written.{compact_text}

-- a member before others, if it has something to report
abbrev pub member_if : List ℕ → Option Data → Members → Members
member_if key None rest = rest
member_if key (Some d) rest = member key d rest

-- the text of a member that stands behind another, by a key of plain bytes
abbrev pub member_text : List ℕ → Data → List ℕ
member_text key d = codes ",\"" ++ (key ++ (codes "\":" ++ compact_text d))

abbrev pub member_text_if : List ℕ → Option Data → List ℕ
member_text_if key None = []
member_text_if key (Some d) = member_text key d
