-- The parts of a number, byte by byte.
use Rattle.std.specs.Prelude.{ℕ, Bool, true, false, ◌==◌, ◌||◌, List, Option, Some, None, is_some, if◌then◌else◌}
use Rattle.serde_json.specs.Read.{number_of}
use Rattle.std.specs.Char.{is_ascii_digit}
use Rattle.sab_refusal.specs.declared.syntax.number_part.NumberPart.{NumberPart}
use Rattle.sab_refusal.specs.declared.syntax.number_part.NumberPart.TheVariants.{Minus, Zero, Whole, Point, Fraction, Power, Sign, Exponent}

abbrev pub digit_to : ℕ → NumberPart → Option NumberPart
digit_to b part = if is_ascii_digit b then Some part else None

abbrev pub power_to : ℕ → Option NumberPart
power_to b = if b == 101 || b == 69 then Some Power else None

abbrev pub point_or_power_to : ℕ → Option NumberPart
point_or_power_to b = if b == 46 then Some Point else power_to b

-- the part of the first byte
abbrev pub first_part : ℕ → Option NumberPart
first_part b = if b == 45 then Some Minus else if b == 48 then Some Zero else digit_to b Whole

-- the part of the byte behind one of this part, if the number goes on with it
abbrev pub part_behind : NumberPart → ℕ → Option NumberPart
part_behind Minus b = if b == 48 then Some Zero else digit_to b Whole
part_behind Zero b = point_or_power_to b
part_behind Whole b = if is_ascii_digit b then Some Whole else point_or_power_to b
part_behind Point b = digit_to b Fraction
part_behind Fraction b = if is_ascii_digit b then Some Fraction else power_to b
part_behind Power b = if b == 45 || b == 43 then Some Sign else digit_to b Exponent
part_behind Sign b = digit_to b Exponent
part_behind Exponent b = digit_to b Exponent

-- the number can end with it
abbrev pub is_complete : NumberPart → Bool
is_complete Minus = false
is_complete Zero = true
is_complete Whole = true
is_complete Point = false
is_complete Fraction = true
is_complete Power = false
is_complete Sign = false
is_complete Exponent = true

-- a number that is read
abbrev pub is_in_range : List ℕ → Bool
is_in_range number = is_some (number_of number)
