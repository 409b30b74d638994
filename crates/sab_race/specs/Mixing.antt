-- Numbers drawn from a seed, and what a mixed race does by them.
use Rattle.std.specs.Prelude.{◌≡◌, ℕ, ◌+◌, ◌*◌, ◌/◌, ◌%◌, ◌^◌, ◌==◌, ◌<◌, bit_xor, if◌then◌else◌}
use Rattle.std.specs.Prelude.{nat_lt, nat_le, Bool, not, ◌&&◌}

-- z with its high bits folded down by k places
abbrev pub folded : ℕ → ℕ → ℕ
folded z k = bit_xor z (z / 2 ^ k)

-- what SplitMix64 gives at a state: its bits stirred
abbrev pub stirred : ℕ → ℕ
stirred z = folded (folded (folded z 30 * 0xbf58476d1ce4e5b9 % 2 ^ 64) 27 * 0x94d049bb133111eb % 2 ^ 64) 31

-- the k-th number that SplitMix64 gives from a seed, from 1 on; at 0 what it gives at the seed
abbrev pub drawn : ℕ → ℕ → ℕ
drawn seed k = stirred ((seed + k * 0x9e3779b97f4a7c15 % 2 ^ 64) % 2 ^ 64)

-- the number that is drawn from a seed for an agent's move k
abbrev pub drawn_for : ℕ → ℕ → ℕ → ℕ
drawn_for seed agent k = drawn seed (agent * 2 ^ 32 + k)

-- how many of an agent's moves are its first ones, in which the threads of a short script meet
abbrev pub first_moves : ℕ
first_moves = 16

-- how often an agent's thread yields before its move k: 0 to 31 times if that is a first one; by the seed 0 never
abbrev pub yields_of : ℕ → ℕ → ℕ → ℕ
yields_of seed agent k = if (not (seed == 0)) && nat_lt k first_moves then (drawn_for seed agent k % 32) else 0

-- whether who made an agent's move k yields after it: at so many of 16 moves behind the first ones; by the seed 0 never
abbrev pub rests_of : ℕ → ℕ → ℕ → ℕ → Bool
rests_of seed rate agent k =
    not (seed == 0) && (nat_le first_moves k && nat_lt (drawn_for seed agent k % 16) rate)

-- where the owner of so many rings begins its k-th look: by the seed 0 behind the last ring that gave a move
abbrev pub first_of : ℕ → ℕ → ℕ → ℕ → ℕ
first_of seed k next rings = if seed == 0 then (next % rings) else (drawn seed k % rings)

-- the ring at a step of a look: from the first one on up, and round
abbrev pub ring_of : ℕ → ℕ → ℕ → ℕ
ring_of first step rings = (first + step) % rings

-- in as many steps as there are rings a look comes to each of them
abbrev pub ComesToEach : ℕ → ℕ → Type 0
ComesToEach first rings = (ring : ℕ) → ring < rings → (step : ℕ) × (step < rings) × (ring_of first step rings ≡ ring)
