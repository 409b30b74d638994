-- Read-modify-write: what is left of 64-bit words by the greatest raw element as a mask.
use Rattle.std.proofs.Common.{◌≡◌, ℕ, ◌+◌, ◌-◌, ◌*◌, ◌%◌, ◌^◌, ◌<◌, ◌≤◌, pos, ◌+ℤ◌, ◌-ℤ◌, bit_and, bit_or, bit_xor, sym, ap, ◌∙◌, arith}
use Rattle.std.proofs.Math.Pow.{mod-mod-pow}
use Rattle.std.proofs.Math.Nat.{mod-lt}
use Rattle.std.proofs.lemmas.Nat.{and_mask, or_lt, xor_lt, pow_pos}
use Rattle.std.proofs.lemmas.Int.{ints}
use Rattle.sab_block.specs.declared.kind.Kind.{Kind}
use Rattle.sab_block.specs.Kind.{element_size, raw_count}
use Rattle.sab_block.specs.Operand.{modulo}
use Rattle.sab_block.proofs.RawElements.{element_bits, modulo-pow}

-- the low bits of a word, which holds what is left of a number
pub masked_word : (kind : Kind) (a m : ℕ) → m + 1 ≡ raw_count kind → bit_and (a % 2 ^ 64) m ≡ a % raw_count kind
masked_word kind a m e =
    let n = 8 * element_size kind in
    let mask : m ≡ 2 ^ n - 1 = omega arith in
    let bits : 64 - n + n ≡ 64 = omega (arith, element_bits kind) in
    let split : 2 ^ (64 - n + n) ≡ 2 ^ 64 = ap (λ k. 2 ^ k) bits in
    rw (mask, and_mask, ← split) (mod-mod-pow a (64 - n) n)

-- the difference of two words, as a sum that doesn't go below 0
difference : (a b p : ℕ) → b ≤ p → (pos a -ℤ pos b) +ℤ pos p ≡ pos (a + (p - b))
difference a b p h = omega (arith, ints)

pub masked_difference : (kind : Kind) (a b m : ℕ) → b < 2 ^ 64 → m + 1 ≡ raw_count kind
    → bit_and ((a + (2 ^ 64 - b)) % 2 ^ 64) m ≡ modulo (pos a -ℤ pos b) (raw_count kind)
masked_difference kind a b m h e =
    let n = 8 * element_size kind in
    let bits : 64 - n + n ≡ 64 = omega (arith, element_bits kind) in
    let split : 2 ^ (64 - n + n) ≡ 2 ^ 64 = ap (λ k. 2 ^ k) bits in
    let sum = difference a b (2 ^ 64) (omega arith) in
    masked_word kind (a + (2 ^ 64 - b)) m e
    ∙ sym (modulo-pow (pos a -ℤ pos b) (64 - n) n (a + (2 ^ 64 - b)) (rw split sum))

pub masked-lt : (kind : Kind) (a m : ℕ) → m + 1 ≡ raw_count kind → bit_and (a % 2 ^ 64) m < raw_count kind
masked-lt kind a m e =
    let below : a % raw_count kind < raw_count kind = mod-lt a (pow_pos (8 * element_size kind)) in
    rw (masked_word kind a m e) below

pub either-lt : (kind : Kind) (a b : ℕ) → a < raw_count kind → b < raw_count kind → bit_or a b < raw_count kind
either-lt kind a b h g = or_lt (8 * element_size kind) a b h g

pub just_one-lt : (kind : Kind) (a b : ℕ) → a < raw_count kind → b < raw_count kind → bit_xor a b < raw_count kind
just_one-lt kind a b h g = xor_lt (8 * element_size kind) a b h g

pub ruleset combining = (masked_word, masked_difference, masked-lt, either-lt, just_one-lt)
