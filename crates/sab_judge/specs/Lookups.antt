-- Maps by places.
use Rattle.std.specs.Prelude.{ℕ, ◌==◌, ◌&&◌, Bool}
use Rattle.std.specs.declared.hash.FoldHasher.{FoldHasher}
use Rattle.std.specs.declared.hash.BuildHasherDefault.{BuildHasherDefault}
use Rattle.std.specs.HashMap.{HashMap}

abbrev pub same_pair : ℕ × ℕ → ℕ × ℕ → Bool
same_pair p q = (p.0 == q.0) && (p.1 == q.1)

-- a map by the pairs of a block and a byte
abbrev pub ByPlace : Type 0 → Type 0
ByPlace X = HashMap (ℕ × ℕ) X (BuildHasherDefault FoldHasher)

-- a map by blocks
abbrev pub ByBlock : Type 0 → Type 0
ByBlock X = HashMap ℕ X (BuildHasherDefault FoldHasher)
