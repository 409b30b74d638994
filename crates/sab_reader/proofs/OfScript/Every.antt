-- All kinds.
use Rattle.std.proofs.Common.{ℕ, zero, suc, ◌+◌, ◌<◌, List, [], ◌∷◌, get_or, arith}
use Rattle.sab_block.specs.declared.kind.Kind.{Kind}
use Rattle.sab_block.specs.declared.kind.Kind.TheVariants.{Int8, Uint8, Uint8Clamped, Int16, Uint16, Int32, Uint32, Float32, Float64, BigInt64, BigUint64}

-- the kinds, in the order of the table
abbrev pub kinds : List Kind
kinds =
    Int8 ∷ Uint8 ∷ Uint8Clamped ∷ Int16 ∷ Uint16 ∷ Int32 ∷ Uint32 ∷ Float32 ∷ Float64 ∷ BigInt64 ∷ BigUint64 ∷ []

-- what holds at each place of the list holds of each kind
pub every_kind : (P : Kind → Type 0) → ((k : ℕ) → k < 11 → P (get_or kinds k Int8)) → (kind : Kind) → P kind
every_kind P each Int8 = each 0 (omega arith)
every_kind P each Uint8 = each 1 (omega arith)
every_kind P each Uint8Clamped = each 2 (omega arith)
every_kind P each Int16 = each 3 (omega arith)
every_kind P each Uint16 = each 4 (omega arith)
every_kind P each Int32 = each 5 (omega arith)
every_kind P each Uint32 = each 6 (omega arith)
every_kind P each Float32 = each 7 (omega arith)
every_kind P each Float64 = each 8 (omega arith)
every_kind P each BigInt64 = each 9 (omega arith)
every_kind P each BigUint64 = each 10 (omega arith)

-- what holds below a number and at it holds up to it
pub one_more : (P : ℕ → Type 0) (n : ℕ) → ((k : ℕ) → k < n → P k) → P n → (k : ℕ) → k < n + 1 → P k
one_more P zero h last zero less = last
one_more P zero h last (suc k) less = absurd (omega (arith, less))
one_more P (suc n) h last zero less = h zero (omega arith)
one_more P (suc n) h last (suc k) less =
    one_more (λ j. P (suc j)) n (λ j below. h (suc j) (omega (arith, below))) last k (omega (arith, less))
