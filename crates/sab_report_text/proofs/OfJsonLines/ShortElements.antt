-- The value of an element of bytes fits 64 bits.
use Rattle.std.proofs.Common.{◌≡◌, ℕ, ◌+◌, ◌*◌, ◌-◌, ◌^◌, ◌<◌, ◌≤◌, Bool, true, false, ◌&&◌, nat_le, ℤ, pos, ◌-ℤ◌, cond, List, length, slice_index, All, refl, sym, subst, arith, rules}
use Rattle.std.proofs.lemmas.Grind.{common_steps}
use Rattle.std.specs.Prelude.{FitsSigned}
use Rattle.std.specs.Int.{w128}
use Rattle.std.proofs.lemmas.Bool.{cases_lt, and_parts}
use borrow.Author.Tests.{leb-true}
use Rattle.std.proofs.lemmas.Int.{ints}
use Rattle.std.proofs.lemmas.List.{get_or_past}
use Rattle.std.proofs.Math.Nat.{pow-le-pow_right}
use Rattle.sab_block.specs.declared.kind.Kind.{Kind}
use Rattle.sab_block.specs.declared.kind.Kind.TheVariants.{Int8, Uint8, Uint8Clamped, Int16, Uint16, Int32, Uint32, Float32, Float64, BigInt64, BigUint64}
use Rattle.sab_block.specs.declared.view.View.{View}
use Rattle.sab_block.specs.Block.{number}
use Rattle.sab_block.specs.Kind.{element_size, is_signed, is_big, raw_count}
use Rattle.sab_block.specs.Operand.{value, whole_of, operand_of}
use Rattle.sab_block.specs.View.{kind_of}
use Rattle.sab_block.specs.Access.{value_at}
use Rattle.sab_block.proofs.ElementBytes.{number-lt}
use Rattle.sab_block.proofs.RawElements.{element_bits}
use Rattle.sab_block.proofs.WholeNumbers.{kept}
use Rattle.sab_report_text.specs.JsonLines.CallData.{whole_data, operand_data}
use Rattle.sab_report_text.proofs.OfJsonLines.ShortNumbers.{HasShortNumbers, IsShortInteger, natural_short, difference_short}

-- a byte
abbrev pub IsByte : ℕ → Type 0
IsByte b = b < 256

byte_at : (mem : List ℕ) → All IsByte mem → (k : ℕ) → slice_index mem k < 256
byte_at mem bytes k = grind (arith, common_steps, cases_lt, length, get_or_past)

-- ---- the whole number of a raw element

-- twice the least raw element that can be read as negative is how many there are
twice : (kind : Kind) → raw_count kind ≤ 2 ^ (8 * element_size kind - 1) + 2 ^ 63
twice Int8 = omega arith
twice Uint8 = omega arith
twice Uint8Clamped = omega arith
twice Int16 = omega arith
twice Uint16 = omega arith
twice Int32 = omega arith
twice Uint32 = omega arith
twice Float32 = omega arith
twice Float64 = omega arith
twice BigInt64 = omega arith
twice BigUint64 = omega arith

few_raw : (kind : Kind) → raw_count kind ≤ 2 ^ 64
few_raw kind = pow-le-pow_right (omega arith) (element_bits kind)

value_short : (kind : Kind) (r : ℕ) → r < raw_count kind → IsShortInteger (value kind r)
unfolding value
value_short kind r below = go (is_signed kind && nat_le (2 ^ (8 * element_size kind - 1)) r) refl
  where
    go : (b : Bool) → (is_signed kind && nat_le (2 ^ (8 * element_size kind - 1)) r) ≡ b
        → IsShortInteger (cond b (pos r -ℤ pos (raw_count kind)) (pos r))
    go true e =
        let high = leb-true (2 ^ (8 * element_size kind - 1)) r
        (and_parts (is_signed kind) (nat_le (2 ^ (8 * element_size kind - 1)) r) e).1 in
        difference_short r (raw_count kind) below (omega (arith, high, twice kind))
    go false e = natural_short r (omega (arith, few_raw kind))

value_fits : (kind : Kind) (r : ℕ) → r < raw_count kind → FitsSigned w128 (value kind r)
unfolding value
value_fits kind r below =
    let most = few_raw kind in
    elim (is_signed kind && nat_le (2 ^ (8 * element_size kind - 1)) r)
    as (λ b. FitsSigned w128 (cond b (pos r -ℤ pos (raw_count kind)) (pos r))) [
      | true ↦ lower r (raw_count kind) below most
      | false ↦ upper r (raw_count kind) below most
    ]
  where
    upper : (r m : ℕ) → r < m → m ≤ 2 ^ 64 → FitsSigned w128 (pos r)
    upper r m below most = record { sfits = omega (arith, ints) }

    lower : (r m : ℕ) → r < m → m ≤ 2 ^ 64 → FitsSigned w128 (pos r -ℤ pos m)
    lower r m below most = search (ints, rules)

-- ---- the operand

read_short : (big : Bool) (z : ℤ) → FitsSigned w128 z → IsShortInteger z
    → HasShortNumbers (whole_data big (whole_of (operand_of big z)))
read_short false z fits short = subst IsShortInteger (sym (kept false z fits)) short
read_short true z fits short = tt

pub element_short : (view : View) (mem : List ℕ) (p : ℕ) → All IsByte mem
    → HasShortNumbers (operand_data (value_at view mem p))
unfolding operand_data
element_short view mem p bytes =
    let kind = kind_of view in
    let r = number mem p (element_size kind) in
    let below : r < raw_count kind = number-lt mem p (element_size kind) (byte_at mem bytes) in
    read_short (is_big kind) (value kind r) (value_fits kind r below) (value_short kind r below)
