-- The one text of a tree.
use Rattle.std.specs.Prelude.{ℕ, List, [], ◌∷◌, ◌++◌}
use Rattle.serde_json.specs.Data.{Data}
use Rattle.serde_json.specs.Written.{compact_text}

-- no space, and a line feed at the end
abbrev pub canonical_text : Data → List ℕ
canonical_text tree = compact_text tree ++ 10 ∷ []
