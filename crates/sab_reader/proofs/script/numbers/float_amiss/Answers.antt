use Rattle.std.proofs.Common.{◌≡◌, ℕ, ℤ, pos, Float, FitsSigned, to_z, of_z, sym, ap, ◌∙◌, subst, rules}
use Rattle.std.proofs.lemmas.Int.{to_z-of_z}
use Rattle.std.specs.Float.{binary64}
use Rattle.std.specs.Float.Ieee.{of_int}
use Rattle.std.specs.Int.{w64}
use Rattle.sab_block.specs.Operand.{IsSafeInteger}
use Rattle.sab_reader.specs.Script.Truth.{whole_part}
use Rattle.sab_reader.proofs.OfScript.Floats.{differs, equals_whole, finite_not_nan}
use Rattle.sab_reader.proofs.script.numbers.float_amiss.Goals.{else-n-eq0-via-then-n-eq0+else-is_sign_negative, else-n-eq0-via-else-n-eq0}
use Rattle.sab_reader.proofs.script.numbers.float_amiss.Goals as goal

pub returns-then-x-nearest_i64_to_f64-clause-amiss : goal.returns-then-x-nearest_i64_to_f64-clause-amiss
returns-then-x-nearest_i64_to_f64-clause-amiss c =
    let x = c.args.x in
    let n = c.saturating_f64_to_i64-n.result in
    let fits : FitsSigned w64 n = search rules in
    let safe : IsSafeInteger (to_z w64 (of_z w64 n)) = search rules in
    let part : to_z w64 (of_z w64 n) ≡ whole_part x = to_z-of_z w64 n fits ∙ c.saturating_f64_to_i64-n.ensures in
    let near = c.nearest_i64_to_f64.ensures ∙ ap (λ (z : ℤ). of_int binary64 z) part in (
      subst IsSafeInteger part safe,
      differs x _ _ near c.if-x-nearest_i64_to_f64.true,
      c.spelled.ensures,
    )

pub is_sign_negative-requires : goal.is_sign_negative-requires
is_sign_negative-requires c = finite_not_nan c.args.x c.requires

pub returns-then-is_sign_negative-clause-amiss : goal.returns-then-is_sign_negative-clause-amiss
returns-then-is_sign_negative-clause-amiss c =
    let x = c.args.x in
    let n = c.saturating_f64_to_i64-n.result in
    let fits : FitsSigned w64 n = search rules in
    let safe : IsSafeInteger (to_z w64 (of_z w64 n)) = search rules in
    let part : to_z w64 (of_z w64 n) ≡ whole_part x = to_z-of_z w64 n fits ∙ c.saturating_f64_to_i64-n.ensures in
    let nought : to_z w64 (of_z w64 n) ≡ pos 0 = ap (λ (k : ℕ). to_z w64 k) c.if-n-eq0.true in
    let near = c.nearest_i64_to_f64.ensures ∙ ap (λ (z : ℤ). of_int binary64 z) nought in (
      equals_whole x _ (pos 0) (sym nought ∙ part) (subst IsSafeInteger nought safe) near
          c.if-x-nearest_i64_to_f64.false,
      sym c.is_sign_negative.ensures ∙ c.if-is_sign_negative.true,
    )

pub returns-clause-amiss : goal.returns-clause-amiss
returns-clause-amiss c =
    let x = c.args.x in
    let n = c.saturating_f64_to_i64-n.result in
    let fits : FitsSigned w64 n = search rules in
    let safe : IsSafeInteger (to_z w64 (of_z w64 n)) = search rules in
    let part : to_z w64 (of_z w64 n) ≡ whole_part x = to_z-of_z w64 n fits ∙ c.saturating_f64_to_i64-n.ensures in (
      equals_whole x _ (to_z w64 (of_z w64 n)) part safe c.nearest_i64_to_f64.ensures
          c.if-x-nearest_i64_to_f64.false,
      λ nought. elim c.else-n-eq0.branch [
        | else-n-eq0-via-then-n-eq0+else-is_sign_negative w ↦
            sym w.is_sign_negative.ensures ∙ w.if-is_sign_negative.false
        | else-n-eq0-via-else-n-eq0 w ↦
            let zero : of_z w64 n ≡ 0 = ap (λ (z : ℤ). of_z w64 z) (sym (to_z-of_z w64 n fits) ∙ nought) in
            absurd (w.if-n-eq0.false zero)
      ],
    )
