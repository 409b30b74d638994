-- Texts that are put one behind the other.
use Rattle.std.proofs.Common.{◌≡◌, ℕ, List, ◌++◌, append_assoc, refl}

-- a piece, and what comes behind it
pub behind : (a b c x y : List ℕ) → b ≡ a ++ x → c ≡ b ++ y → c ≡ a ++ (x ++ y)
behind a b c x y p q = rw (q, p, append_assoc) refl

-- a piece that is known to be this text, and what comes behind it
pub behind_as : (a b c x text y : List ℕ) → x ≡ text → b ≡ a ++ x → c ≡ b ++ y → c ≡ a ++ (text ++ y)
behind_as a b c x text y e p q = rw (q, p, e, append_assoc) refl
