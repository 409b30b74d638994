-- Elements in a block's bytes: digits to the base 256, the lowest first, since elements are little-endian.
use Rattle.std.specs.Prelude.{◌≡◌, ℕ, zero, suc, ◌+◌, ◌*◌, ◌/◌, ◌%◌, ◌^◌, List, ◌++◌, ◌⊎◌, slice_index, take, drop, map}
use Rattle.std.specs.List.{range_with_len}

-- the sizes of elements (table "The TypedArray Constructors")
abbrev pub IsElementSize : ℕ → Type 0
IsElementSize size = (size ≡ 1) ⊎ (size ≡ 2) ⊎ (size ≡ 4) ⊎ (size ≡ 8)

-- the sum of mem(p + k) × 256^k for each k below the size (GetValueFromBuffer, RawBytesToNumeric)
unfoldable pub number : List ℕ → ℕ → ℕ → ℕ
number mem p zero = 0
number mem p (suc k) = number mem p k + slice_index mem (p + k) * 256 ^ k

-- the bytes of r: byte k is (r div 256^k) mod 256 (NumericToRawBytes)
unfoldable pub digits : ℕ → ℕ → List ℕ
digits size r = map (λ k. r / 256 ^ k % 256) (range_with_len 0 size)

-- the bytes of r from place p on, and every other byte as it was (SetValueInBuffer)
unfoldable pub put : List ℕ → ℕ → ℕ → ℕ → List ℕ
put mem p size r = take p mem ++ digits size r ++ drop (p + size) mem
