-- Floats beside whole numbers.
use Rattle.std.proofs.Common.{◌≡◌, ℤ, pos, Bool, true, false, Float, refl, sym, ap, ◌∙◌, true≢false}
use Rattle.std.specs.Prelude.{not}
use Rattle.std.specs.Float.{binary64, nan, inf, fin, float_is_finite, NotNan}
use Rattle.std.specs.Float.Ieee.{eq, ne, is_nan, of_int}
use Rattle.serde_json.specs.Data.{Num, unsigned, negative, float, number}
use Rattle.serde_json.specs.Find.{is_float}
use Rattle.sab_block.specs.Operand.{IsSafeInteger}
use Rattle.sab_reader.specs.Script.Numbers.{SpellsWhole}
use Rattle.sab_reader.specs.Script.Truth.{whole_part, EqualsWhole, IsTooFar}

is_false : (b : Bool) → not b ≡ true → b ≡ false
is_false false h = refl
is_false true h = absurd (true≢false (sym h))

is_true : (b : Bool) → not b ≡ false → b ≡ true
is_true true h = refl
is_true false h = absurd (true≢false h)

-- a float that differs from that of a whole number, or doesn't
pub differs : (x y z : Float) → y ≡ z → ne x y ≡ true → eq x z ≡ false
unfolding ne
differs x y z e h = ap (λ (t : Float). eq x t) (sym e) ∙ is_false (eq x y) h

pub equals_whole : (x y : Float) (z : ℤ) → z ≡ whole_part x → IsSafeInteger z → y ≡ of_int binary64 z → ne x y ≡ false
    → EqualsWhole x z
unfolding ne
equals_whole x y z part safe near h = record {
  part = sym part;
  safe = safe;
  equal = ap (λ (t : Float). eq x t) (sym near) ∙ is_true (eq x y) h;
}

-- a finite float is no NaN
pub finite_not_nan : (x : Float) → float_is_finite x ≡ true → NotNan x
unfolding float_is_finite is_nan
finite_not_nan nan h = absurd (true≢false (sym h))
finite_not_nan (inf s) h = absurd (true≢false (sym h))
finite_not_nan (fin s m e) h = tt

-- what is no float and spells no whole number lies too far
pub far_unless_float : (n : Num) → is_float n ≡ false → ((z : ℤ) → SpellsWhole (number n) z → ⊥) → IsTooFar n
far_unless_float (unsigned k) e h = h
far_unless_float (negative k) e h = h
far_unless_float (float x) e h = absurd (true≢false e)
