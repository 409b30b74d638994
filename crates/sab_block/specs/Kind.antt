-- The kind table.
use Rattle.std.specs.Prelude.{ℕ, ◌*◌, ◌^◌, List, Bool, true, false, codes}
use Rattle.sab_block.specs.declared.kind.Kind.{Kind}
use Rattle.sab_block.specs.declared.kind.Kind.TheVariants.{Int8, Uint8, Uint8Clamped, Int16, Uint16, Int32, Uint32, Float32, Float64, BigInt64, BigUint64}

-- what the standard says of an element type
pub record Properties : Type 0 where
  -- bytes of an element (table "The TypedArray Constructors")
  pub size : ℕ
  -- IsUnsignedElementType is false; of a float it isn't used
  pub signed : Bool
  -- IsBigIntElementType
  pub big : Bool
  -- ValidateIntegerTypedArray takes it, where waitable is false (IsUnclampedIntegerElementType, IsBigIntElementType)
  pub atomic : Bool
  -- ValidateIntegerTypedArray takes it, where waitable is true
  pub waitable : Bool

abbrev pub columns : ℕ → Bool → Bool → Bool → Bool → Properties
columns size signed big atomic waitable =
    record { size = size; signed = signed; big = big; atomic = atomic; waitable = waitable }

-- the table: size, signed, BigInt, atomic, waitable
abbrev pub properties : Kind → Properties
properties Int8 = columns 1 true false true false
properties Uint8 = columns 1 false false true false
properties Uint8Clamped = columns 1 false false false false
properties Int16 = columns 2 true false true false
properties Uint16 = columns 2 false false true false
properties Int32 = columns 4 true false true true
properties Uint32 = columns 4 false false true false
properties Float32 = columns 4 false false false false
properties Float64 = columns 8 false false false false
properties BigInt64 = columns 8 true true true true
properties BigUint64 = columns 8 false true true false

abbrev pub element_size : Kind → ℕ
element_size kind = (properties kind).size

abbrev pub is_signed : Kind → Bool
is_signed kind = (properties kind).signed

abbrev pub is_big : Kind → Bool
is_big kind = (properties kind).big

abbrev pub is_atomic : Kind → Bool
is_atomic kind = (properties kind).atomic

abbrev pub is_waitable : Kind → Bool
is_waitable kind = (properties kind).waitable

-- the name of its constructor, without `Array` (table "The TypedArray Constructors")
abbrev pub kind_name : Kind → List ℕ
kind_name Int8 = codes "Int8"
kind_name Uint8 = codes "Uint8"
kind_name Uint8Clamped = codes "Uint8Clamped"
kind_name Int16 = codes "Int16"
kind_name Uint16 = codes "Uint16"
kind_name Int32 = codes "Int32"
kind_name Uint32 = codes "Uint32"
kind_name Float32 = codes "Float32"
kind_name Float64 = codes "Float64"
kind_name BigInt64 = codes "BigInt64"
kind_name BigUint64 = codes "BigUint64"

-- how many raw elements there are
abbrev pub raw_count : Kind → ℕ
raw_count kind = 2 ^ (8 * element_size kind)
