-- Raw elements: numbers modulo the count of a kind's raw elements, and the values that these stand for.
use Rattle.std.proofs.Common.{◌≡◌, ℕ, suc, ◌+◌, ◌-◌, ◌*◌, ◌/◌, ◌%◌, ◌^◌, ◌<◌, ◌≤◌, ℤ, pos, negsuc, ◌+ℤ◌, ◌-ℤ◌, true, false, ◌&&◌, cond, nat_le, to_z, of_z, refl, ap, sym, ◌∙◌, arith}
use Rattle.std.proofs.lemmas.Grind.{common_steps}
use Rattle.std.proofs.lemmas.Nat.{and_mask, pow-add, pow_pos}
use Rattle.std.proofs.lemmas.Int.{ints, int_rem_euclid_is, to_z-of_z}
use Rattle.std.specs.Int.{w128, cast_unsigned}
use Rattle.std.specs.Prelude.{FitsSigned, bit_and}
use Rattle.std.specs.Int.RustNames.{unsigned_abs}
use Rattle.sab_block.specs.declared.kind.Kind.{Kind}
use Rattle.sab_block.specs.declared.kind.Kind.TheVariants.{Int8, Uint8, Uint8Clamped, Int16, Uint16, Int32, Uint32, Float32, Float64, BigInt64, BigUint64}
use Rattle.std.proofs.Math.Nat.{mod-lt}
use Rattle.std.proofs.lemmas.Bool.Decides.{nat_tests}
use Rattle.sab_block.specs.Kind.{element_size, is_signed, raw_count}
use Rattle.sab_block.specs.Operand.{modulo, raw, value}

-- z modulo 2 ^ n, where z and the natural m differ by 2 ^ (j + n)
pub modulo-pow : (z : ℤ) (j n m : ℕ) → z +ℤ pos (2 ^ (j + n)) ≡ pos m → modulo z (2 ^ n) ≡ m % 2 ^ n
modulo-pow z j n m e =
    let power : 2 ^ j * 2 ^ n ≡ 2 ^ (j + n) = sym (pow-add 2 j n) in
    ap unsigned_abs (int_rem_euclid_is z (pos (2 ^ n)) (2 ^ n) (2 ^ j) m (pow_pos n) refl (rw power e))

negsuc-plus : (a p m : ℕ) → suc a + m ≡ p → negsuc a +ℤ pos p ≡ pos m
negsuc-plus a p m e = omega (arith, ints)

-- an element has at most 64 bits
pub element_bits : (kind : Kind) → 8 * element_size kind ≤ 64
element_bits Int8 = omega arith
element_bits Uint8 = omega arith
element_bits Uint8Clamped = omega arith
element_bits Int16 = omega arith
element_bits Uint16 = omega arith
element_bits Int32 = omega arith
element_bits Uint32 = omega arith
element_bits Float32 = omega arith
element_bits Float64 = omega arith
element_bits BigInt64 = omega arith
element_bits BigUint64 = omega arith

-- the low n bits of a number's 128
modulo-bits : (v : ℤ) (n j : ℕ) → j + n ≡ 128 → FitsSigned w128 v → cast_unsigned w128 v % 2 ^ n ≡ modulo v (2 ^ n)
modulo-bits (pos a) n j e f = refl
modulo-bits (negsuc a) n j e f =
    let power : 2 ^ (j + n) ≡ 2 ^ 128 = ap (λ k. 2 ^ k) e in
    let fits : suc a ≤ 2 ^ 128 = omega (arith, ints) in
    sym (modulo-pow (negsuc a) j n (2 ^ 128 - suc a) (negsuc-plus a (2 ^ (j + n)) (2 ^ 128 - suc a) (omega arith)))

-- the last bits of a number, kept by the greatest raw element, are its raw element
pub masked : (kind : Kind) (v : ℤ) (m : ℕ) → FitsSigned w128 v → m + 1 ≡ raw_count kind
    → bit_and (cast_unsigned w128 v) m ≡ raw kind v
unfolding raw
masked kind v m f e =
    let n = 8 * element_size kind in
    let mask : m ≡ 2 ^ n - 1 = omega arith in
    let within : 128 - n + n ≡ 128 = omega (arith, element_bits kind) in
    rw mask (and_mask (cast_unsigned w128 v) n ∙ modulo-bits v n (128 - n) within f)

pub raw-lt : (kind : Kind) (v : ℤ) → raw kind v < raw_count kind
unfolding raw
raw-lt kind (pos a) = mod-lt a (pow_pos (8 * element_size kind))
raw-lt kind (negsuc a) = omega (arith, pow_pos (8 * element_size kind))

-- the greatest raw element's half is the greatest raw element that isn't read as negative
half : (kind : Kind) (m : ℕ) → m + 1 ≡ raw_count kind → m / 2 + 1 ≡ 2 ^ (8 * element_size kind - 1)
half Int8 m e = omega arith
half Uint8 m e = omega arith
half Uint8Clamped m e = omega arith
half Int16 m e = omega arith
half Uint16 m e = omega arith
half Int32 m e = omega arith
half Uint32 m e = omega arith
half Float32 m e = omega arith
half Float64 m e = omega arith
half BigInt64 m e = omega arith
half BigUint64 m e = omega arith

pub value-unsigned : (kind : Kind) (r : ℕ) → is_signed kind ≡ false → value kind r ≡ pos r
unfolding value
value-unsigned kind r e = rw e refl

pub value-low : (kind : Kind) (r m : ℕ) → m + 1 ≡ raw_count kind → r ≤ m / 2 → value kind r ≡ pos r
unfolding value
value-low kind r m e h =
    let below : r < 2 ^ (8 * element_size kind - 1) = omega (arith, half kind m e) in
    let low : nat_le (2 ^ (8 * element_size kind - 1)) r ≡ false = grind (arith, nat_tests) in
    rw (low, ◌&&◌) (elim (is_signed kind) as (λ b. cond (b && false) (pos r -ℤ pos (raw_count kind)) (pos r) ≡ pos r)
    [ true ↦ refl | false ↦ refl ])

pub value-high : (kind : Kind) (r m : ℕ) → m + 1 ≡ raw_count kind → m / 2 < r → is_signed kind ≡ true
    → value kind r ≡ pos r -ℤ pos m -ℤ pos 1
unfolding value
value-high kind r m e h s =
    let above : 2 ^ (8 * element_size kind - 1) ≤ r = omega (arith, half kind m e) in
    let high : nat_le (2 ^ (8 * element_size kind - 1)) r ≡ true = grind (arith, nat_tests) in
    rw (s, high) (omega (arith, ints))

-- whole numbers of 64 bits, taken from each other at 128
pub lowered : (w f : ℤ) (r m : ℕ) → w ≡ pos r → f ≡ pos m → r < 2 ^ 64 → m < 2 ^ 64
    → to_z w128 (of_z w128 (to_z w128 (of_z w128 (to_z w128 (of_z w128 w) -ℤ to_z w128 (of_z w128 f))) -ℤ pos 1))
    ≡ pos r -ℤ pos m -ℤ pos 1
lowered w f r m p q h g = grind (arith, common_steps, w128, pos, to_z-of_z)

pub ruleset wraps = (masked, raw-lt)
