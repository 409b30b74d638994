-- The words that bytes spell.
use Rattle.std.specs.Prelude.{◌==◌, ℕ, List, [], ◌∷◌, if◌then◌else◌}
use Rattle.std.specs.List.{onto_first}

-- each word ends at a byte 0, and the last one also at the bytes' end: `a`, 0, 0, `b` are the words `a`, an empty one
-- and `b`, with a 0 after them or without
abbrev pub words_of : List ℕ → List (List ℕ)
words_of [] = []
words_of (b ∷ bs) = if b == 0 then [] ∷ words_of bs else onto_first b (words_of bs)
