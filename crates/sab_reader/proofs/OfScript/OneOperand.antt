-- A tree spells one operand at most.
use Rattle.std.proofs.Common.{◌≡◌, ℕ, ◌^◌, ◌<◌, ◌≤◌, ℤ, pos, negsuc, List, ◌∷◌, Bool, true, false, FitsSigned, refl, sym, ap, subst, ◌∙◌, arith, drop}
use Rattle.std.proofs.lemmas.Grind.{common_steps}
use Rattle.std.specs.Int.{w128}
use Rattle.std.specs.Fmt.{decimal, signed_decimal}
use Rattle.std.specs.Str.Parse.{AllDigits, digits_value}
use Rattle.std.proofs.lemmas.Fmt.{decimal_is_IsNumeral_wide}
use Rattle.std.proofs.lemmas.Str.Parse.{digit_from_value}
use Rattle.serde_json.specs.Data.{Data}
use Rattle.sab_block.specs.Operand.{operand_of, is_bigint, whole_of}
use Rattle.sab_block.specs.declared.operand.Operand.{Operand}
use Rattle.sab_reader.specs.Script.Numbers.{operand_data, IsInRange, SpellsOperand}
use Rattle.sab_reader.proofs.OfScript.WholeCall.{same_whole}

small : (n : ℕ) → n ≤ 2 ^ 127 → n < 10 ^ 64
small n h = omega arith

same_decimal : (m n : ℕ) → m ≤ 2 ^ 127 → n ≤ 2 ^ 127 → decimal m ≡ decimal n → m ≡ n
same_decimal m n p q e =
    sym (decimal_is_IsNumeral_wide m (small m p)).1 ∙ ap (digits_value 10) e
    ∙ (decimal_is_IsNumeral_wide n (small n q)).1

no_minus : (n : ℕ) (ds : List ℕ) → n ≤ 2 ^ 127 → decimal n ≡ 45 ∷ ds → ⊥
no_minus n ds h e =
    omega (arith, digit_from_value 45 (subst (AllDigits 10) e (decimal_is_IsNumeral_wide n (small n h)).0.1).0)

same_big : (y z : ℤ) → FitsSigned w128 y → FitsSigned w128 z → signed_decimal y ≡ signed_decimal z → y ≡ z
same_big (pos m) (pos n) p q e = ap pos (same_decimal m n (omega (arith, p.sfits)) (omega (arith, q.sfits)) e)
same_big (pos m) (negsuc n) p q e = absurd (no_minus m _ (omega (arith, p.sfits)) e)
same_big (negsuc m) (pos n) p q e = absurd (no_minus n _ (omega (arith, q.sfits)) (sym e))
same_big (negsuc m) (negsuc n) p q e = grind (arith, common_steps, same_decimal, drop, negsuc)

same_data : (b c : Bool) (y z : ℤ) → IsInRange b y → IsInRange c z → operand_data b y ≡ operand_data c z
    → (b ≡ c) × (y ≡ z)
same_data false false y z p q e = (refl, same_whole y z e)
same_data false true y z p q e = cc
same_data true false y z p q e = cc
same_data true true y z p q e = let text : signed_decimal y ≡ signed_decimal z = cc in (refl, same_big y z p q text)

pub same_operand : (d : Data) (x y : Operand) → SpellsOperand d x → SpellsOperand d y → x ≡ y
same_operand d x y p q =
    let h = same_data (is_bigint x) (is_bigint y) (whole_of x) (whole_of y) p.1.1 q.1.1 (sym p.0 ∙ q.0) in
    p.1.0 ∙ (λ i. operand_of (h.0 i) (h.1 i)) ∙ sym q.1.0
