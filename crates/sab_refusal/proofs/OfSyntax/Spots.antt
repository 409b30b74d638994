-- Lines and columns, one byte after another.
use Rattle.std.proofs.Common.{◌≡◌, ℕ, ◌+◌, ◌<◌, List, [], ◌∷◌, ◌++◌, length, take, get_or, false, refl, arith, add-one}
use Rattle.std.proofs.lemmas.List.{take_more, take_all}
use Rattle.std.specs.Prelude.{fold, ◌==◌}
use Rattle.sab_refusal.specs.Syntax.Spot.{spot, spot_behind, spot_after}

fold_last : {A B : Type 0} (f : B → A → B) (b : B) (xs : List A) (x : A)
    → fold f b (xs ++ x ∷ []) ≡ f (fold f b xs) x
fold_last f b [] x = refl
fold_last f b (y ∷ ys) x = fold_last f (f b y) ys x

-- the spot behind a line feed, and behind another byte
pub next_line : (bytes : List ℕ) (i b line column : ℕ) → i < length bytes → b ≡ get_or bytes i b
    → spot line column ≡ spot_after (take i bytes) → b ≡ 10
    → spot (line + 1) 1 ≡ spot_after (take (i + 1) bytes)
next_line bytes i b line column lt e p feed =
    rw (take_more bytes i b lt, ← e, fold_last spot_behind _ (take i bytes) b, ← p, feed, add-one) refl

pub next_column : (bytes : List ℕ) (i b line column : ℕ) → i < length bytes → b ≡ get_or bytes i b
    → spot line column ≡ spot_after (take i bytes) → (b == 10) ≡ false
    → spot line (column + 1) ≡ spot_after (take (i + 1) bytes)
next_column bytes i b line column lt e p other =
    rw (take_more bytes i b lt, ← e, fold_last spot_behind _ (take i bytes) b, ← p, other, add-one) refl

-- and behind the last
pub last_spot : (bytes : List ℕ) (i line column : ℕ) → i ≡ length bytes
    → spot line column ≡ spot_after (take i bytes) → spot line column ≡ spot_after bytes
last_spot bytes i line column e p = rw (e, take_all (length bytes) bytes (omega arith)) at p
