-- One read after another.
use Rattle.std.proofs.Common.{◌≡◌, ℕ, ◌<◌, ◌+◌, List, [], ◌++◌, length, Option, Some, None, IfSome, append_assoc, append-nil, refl, arith, length-append}
use Rattle.std.specs.Io.KnownBytes.{Consumes, IsAtEnd}

pub consumes_none : (a : Option (List ℕ)) → Consumes a a []
consumes_none None = tt
consumes_none (Some xs) = refl

pub consumes_both : (a b c : Option (List ℕ)) (xs ys : List ℕ) → Consumes a b xs → Consumes b c ys
    → Consumes a c (xs ++ ys)
consumes_both None b c xs ys p q = tt
consumes_both (Some x) None c xs ys p q = absurd p
consumes_both (Some x) (Some y) None xs ys p q = absurd q
consumes_both (Some x) (Some y) (Some z) xs ys p q = rw (p, q, append_assoc) refl

-- all was read
pub consumed_all : (a b : Option (List ℕ)) (xs : List ℕ) → Consumes a b xs → IsAtEnd b → IfSome a (λ bytes. xs ≡ bytes)
consumed_all None b xs p q = tt
consumed_all (Some x) None xs p q = absurd p
consumed_all (Some x) (Some y) xs p q = rw (p, q, append-nil) refl

-- what was read and one more piece are no longer than what there was
pub consumed_long : (a b c : Option (List ℕ)) (n : ℕ) (xs ys : List ℕ) → Consumes a b xs → Consumes b c ys
    → n < length xs + length ys → IfSome a (λ bytes. n < length bytes)
consumed_long None b c n xs ys p q h = tt
consumed_long (Some x) None c n xs ys p q h = absurd p
consumed_long (Some x) (Some y) None n xs ys p q h = absurd q
consumed_long (Some x) (Some y) (Some z) n xs ys p q h =
    rw (p, q) (omega (arith, length-append xs (ys ++ z), length-append ys z))
