-- Lines and columns.
use Rattle.std.specs.Prelude.{ℕ, suc, ◌==◌, ◌&&◌, ◌||◌, nat_lt, nat_le, Bool, List, ◌++◌, fold, codes, decimal, if◌then◌else◌}
use Rattle.sab_refusal.specs.declared.syntax.spot.Spot.{Spot}

abbrev pub spot : ℕ → ℕ → Spot
spot line column = record { line = line; column = column }

-- a line feed ends a line
abbrev pub spot_behind : Spot → ℕ → Spot
spot_behind s b = if b == 10 then spot (suc s.line) 1 else spot s.line (suc s.column)

-- that of the byte behind these
abbrev pub spot_after : List ℕ → Spot
spot_after bytes = fold spot_behind (spot 1 1) bytes

-- a spot is another one, or before it
abbrev pub is_by : Spot → Spot → Bool
is_by a b = nat_lt a.line b.line || (a.line == b.line && nat_le a.column b.column)

abbrev pub spot_text : Spot → List ℕ
spot_text s = codes "line " ++ (decimal s.line ++ (codes ", column " ++ decimal s.column))
