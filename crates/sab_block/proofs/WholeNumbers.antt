-- Whole numbers and the bytes that they are kept as.
use Rattle.std.proofs.Common.{◌≡◌, ℕ, zero, suc, ◌%◌, ◌^◌, ◌<◌, ℤ, Bool, refl, ap, ◌∙◌, arith}
use Rattle.std.proofs.lemmas.Grind.{common_steps}
use Rattle.std.proofs.lemmas.Int.{to_z-of_z}
use Rattle.std.proofs.Math.Nat.{add_comm, mod-eq_of_lt, pow-suc}
use Rattle.std.specs.Int.{w128, cast_signed, cast_unsigned, to_le_bytes, from_le_bytes, sum_through, byte_at, byte_worth}
use Rattle.std.specs.Prelude.{FitsSigned}
use lib.Arith.{mod-mul}
use mir.ValLaws.{of_z_fits}
use Rattle.sab_block.specs.Operand.{bytes_of, operand_of, whole_of}

positive : (k : ℕ) → 0 < 256 ^ k
positive zero = omega arith
positive (suc k) = omega (arith, positive k, pow-suc 256 k)

-- the sum of a number's lowest bytes, each by its worth
bytes_sum : (n k : ℕ) → sum_through (λ i. byte_worth i (byte_at i n)) k ≡ n % 256 ^ suc k
bytes_sum n zero = refl
bytes_sum n (suc k) = grind (arith, common_steps, pow-suc, add_comm, mod-mul, positive, bytes_sum n k)

-- a number of 128 bits is read from its bytes again
read_again : (n : ℕ) → n < 2 ^ 128 → from_le_bytes w128 (to_le_bytes w128 n) ≡ n
read_again n fits = bytes_sum n 15 ∙ mod-eq_of_lt fits

-- an operand is the whole number that it was made of
pub kept : (big : Bool) (v : ℤ) → FitsSigned w128 v → whole_of (operand_of big v) ≡ v
unfolding whole_of bytes_of
kept big v fits =
    ap (cast_signed w128) (read_again (cast_unsigned w128 v) (of_z_fits w128 v fits).fits) ∙ to_z-of_z w128 v fits
