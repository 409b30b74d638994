-- Accesses, and the bytes in their ranges (Shared Data Block Events).
use Rattle.std.specs.Prelude.{ℕ, ◌+◌, ◌==◌, ◌&&◌, ◌||◌, not, Bool, nat_le, nat_lt}
use Rattle.sab_judge.specs.declared.access.Access.{Access}
use Rattle.sab_judge.specs.Place.{same_place}
use Rattle.sab_judge.specs.Order.{is_seq_cst}

-- the byte is in the range of the access
abbrev pub covers : Access → ℕ → ℕ → Bool
covers a block byte = (a.place.block == block) && (nat_le a.place.byte byte && nat_lt byte (a.place.byte + a.len))

-- the two have equal ranges
abbrev pub same_range : Access → Access → Bool
same_range a b = same_place a.place b.place && (a.len == b.len)

-- the two have overlapping ranges
abbrev pub overlap : Access → Access → Bool
overlap a b =
    (a.place.block == b.place.block)
    && (nat_lt a.place.byte (b.place.byte + b.len) && nat_lt b.place.byte (a.place.byte + a.len))

-- both are SeqCst, and they have equal ranges
abbrev pub are_atomic_alike : Access → Access → Bool
are_atomic_alike a b = is_seq_cst a.order && (is_seq_cst b.order && same_range a b)

-- the ranges overlap, one of the two writes, and they aren't both SeqCst with equal ranges
abbrev pub conflict : Access → Access → Bool
conflict a b = overlap a b && ((a.writes || b.writes) && not (are_atomic_alike a b))

-- both write, and their ranges aren't disjoint
abbrev pub both_write : Access → Access → Bool
both_write a b = overlap a b && (a.writes && b.writes)
