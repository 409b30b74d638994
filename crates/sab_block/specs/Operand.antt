-- Operands, raw elements, and the values that raw elements stand for.
use Rattle.std.specs.Prelude.{ℕ, List, ◌-◌, ◌*◌, ◌^◌, nat_le, ℤ, pos, neg_ℤ, ◌-ℤ◌, ◌≤ℤ◌, Bool, true, false, not, ◌&&◌, if◌then◌else◌}
use Rattle.std.specs.Int.{w128, cast_signed, cast_unsigned, to_le_bytes, from_le_bytes, int_rem_euclid}
use Rattle.std.specs.Int.RustNames.{unsigned_abs}
use Rattle.sab_block.specs.declared.kind.Kind.{Kind}
use Rattle.sab_block.specs.declared.operand.Operand.{Operand}
use Rattle.sab_block.specs.Kind.{element_size, is_signed, is_big, raw_count}

-- v lies within ±(2^53 - 1) (Number.MAX_SAFE_INTEGER, Number.MIN_SAFE_INTEGER)
abbrev pub IsSafeInteger : ℤ → Type 0
IsSafeInteger v = (neg_ℤ (pos (2 ^ 53 - 1)) ≤ℤ v) × (v ≤ℤ pos (2 ^ 53 - 1))

-- v modulo m, which is never negative (Notational Conventions, Mathematical Operations)
abbrev pub modulo : ℤ → ℕ → ℕ
modulo v m = unsigned_abs (int_rem_euclid v (pos m))

-- the bytes of a whole number of 128 bits, lowest first
unfoldable pub bytes_of : ℤ → List ℕ
bytes_of v = to_le_bytes w128 (cast_unsigned w128 v)

-- the BigInt v, or the Number v
abbrev pub operand_of : Bool → ℤ → Operand
operand_of big v = record { big = big; bytes = bytes_of v }

abbrev pub number_operand : ℤ → Operand
number_operand v = operand_of false v

abbrev pub bigint_operand : ℤ → Operand
bigint_operand v = operand_of true v

-- the operand is a BigInt, and not a Number (Numeric Types)
abbrev pub is_bigint : Operand → Bool
is_bigint x = x.big

-- the whole number that it is
unfoldable pub whole_of : Operand → ℤ
whole_of x = cast_signed w128 (from_le_bytes w128 x.bytes)

-- the raw element that v is written as (NumericToRawBytes)
unfoldable pub raw : Kind → ℤ → ℕ
raw kind v = modulo v (raw_count kind)

-- the whole number that a raw element is read as (RawBytesToNumeric)
unfoldable pub value : Kind → ℕ → ℤ
value kind r =
    if is_signed kind && nat_le (2 ^ (8 * element_size kind - 1)) r then pos r -ℤ pos (raw_count kind) else pos r

-- the Number or BigInt that a raw element is read as
abbrev pub operand : Kind → ℕ → Operand
operand kind r = operand_of (is_big kind) (value kind r)

-- the operand is a BigInt exactly if the kind's elements are (ToBigInt, ToIntegerOrInfinity)
abbrev pub agrees : Kind → Operand → Bool
agrees kind x = if is_big kind then is_bigint x else not (is_bigint x)
