-- How whole numbers and operands are spelled.
use Rattle.std.specs.Prelude.{◌≡◌, ℕ, ◌<◌, ℤ, pos, List, Bool, true, false, Option, Some, None, FitsSigned}
use Rattle.std.specs.Int.{w128}
use Rattle.std.specs.Fmt.{signed_decimal}
use Rattle.serde_json.specs.Data.{Data, null, number, string}
use Rattle.serde_json.specs.Find.{of_integer}
use Rattle.sab_block.specs.declared.operand.Operand.{Operand}
use Rattle.sab_block.specs.Operand.{IsSafeInteger, operand_of, is_bigint, whole_of}

-- a JSON number that is whole
abbrev pub whole : ℤ → Data
whole z = number (of_integer z)

-- a whole number within ±(2^53 - 1)
abbrev pub SpellsWhole : Data → ℤ → Type 0
SpellsWhole d z = (d ≡ whole z) × IsSafeInteger z

-- a whole number, or null where there is none
abbrev pub whole_or_null : Option ℤ → Data
whole_or_null None = null
whole_or_null (Some z) = whole z

abbrev pub IsSafeOrNone : Option ℤ → Type 0
IsSafeOrNone None = Unit {0}
IsSafeOrNone (Some z) = IsSafeInteger z

abbrev pub SpellsOptional : Data → Option ℤ → Type 0
SpellsOptional d o = (d ≡ whole_or_null o) × IsSafeOrNone o

-- the decimal digits of a BigInt of 128 bits: one spelling for each
abbrev pub SpellsBig : List ℕ → ℤ → Type 0
SpellsBig digits z = (digits ≡ signed_decimal z) × FitsSigned w128 z

-- a Number as a whole number, a BigInt as a string
abbrev pub operand_data : Bool → ℤ → Data
operand_data false z = whole z
operand_data true z = string (signed_decimal z)

abbrev pub operand_tree : Operand → Data
operand_tree x = operand_data (is_bigint x) (whole_of x)

abbrev pub IsInRange : Bool → ℤ → Type 0
IsInRange false z = IsSafeInteger z
IsInRange true z = FitsSigned w128 z

-- the operand of its type and its whole number, which lies within the type's range
abbrev pub IsOperand : Operand → Type 0
IsOperand x = (x ≡ operand_of (is_bigint x) (whole_of x)) × IsInRange (is_bigint x) (whole_of x)

abbrev pub SpellsOperand : Data → Operand → Type 0
SpellsOperand d x = (d ≡ operand_tree x) × IsOperand x

-- a position, of which there are so many
abbrev pub SpellsPosition : ℕ → Data → ℕ → Type 0
SpellsPosition count d n = (d ≡ whole (pos n)) × (n < count)
