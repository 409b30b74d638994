-- Texts that are put one behind the other.
use Rattle.std.proofs.Common.{◌≡◌, ℕ, List, ◌++◌, append_assoc, refl}

pub two : (a b c x y : List ℕ) → b ≡ a ++ x → c ≡ b ++ y → c ≡ a ++ (x ++ y)
two a b c x y p q = rw (q, p, append_assoc) refl

pub three : (a b c d x y z : List ℕ) → b ≡ a ++ x → c ≡ b ++ y → d ≡ c ++ z → d ≡ a ++ (x ++ y ++ z)
three a b c d x y z p q r = two a c d (x ++ y) z (two a b c x y p q) r

pub four : (a b c d e w x y z : List ℕ) → b ≡ a ++ w → c ≡ b ++ x → d ≡ c ++ y → e ≡ d ++ z
    → e ≡ a ++ (w ++ x ++ y ++ z)
four a b c d e w x y z p q r s = two a d e (w ++ x ++ y) z (three a b c d w x y p q r) s
