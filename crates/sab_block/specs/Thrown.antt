-- The errors that calls throw.
use Rattle.std.specs.Prelude.{ℕ, List, codes}
use Rattle.sab_block.specs.declared.thrown.Thrown.{Thrown}
use Rattle.sab_block.specs.declared.thrown.Thrown.TheVariants.{TypeError, RangeError}

-- the error's name (Native Error Types Used in This Standard)
abbrev pub name_of : Thrown → List ℕ
name_of TypeError = codes "TypeError"
name_of RangeError = codes "RangeError"
