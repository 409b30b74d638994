use Rattle.std.proofs.Common.{◌≡◌, ℤ, true, false, ap, sym, ◌∙◌, to_z, of_z}
use Rattle.std.specs.Int.{w128}
use Rattle.std.specs.Fmt.{signed_decimal}
use Rattle.std.proofs.lemmas.Cmp.{nat_list_eq_equiv}
use Rattle.std.proofs.lemmas.Int.{to_z-of_z}
use Rattle.std.specs.Prelude.{nat_eq}
use Rattle.sab_reader.specs.Script.Numbers.{SpellsBig}
use lib.Pointwise.{pointwise}
use Rattle.sab_reader.proofs.OfScript.BigText.{parse-big}
use Rattle.sab_reader.proofs.script.operands.big.Goals as goal

pub returns-else-eq : goal.returns-else-eq
returns-else-eq c =
    let none : (z : ℤ) → SpellsBig c.args.digits.now z → ⊥ = λ z h.
    let read = parse-big z c.args.digits.now c.parse.result h.1 h.0 c.parse.ensures.value.0 in
    let same : c.in-Ok.n ≡ z = cc in
    let text : c.format.result.now ≡ c.args.digits.now = c.format.ensures.text
    ∙ ap (λ (y : ℤ). signed_decimal (to_z w128 (of_z w128 y))) same ∙ ap signed_decimal (to_z-of_z w128 z h.1)
    ∙ sym h.0 in
    let alike : pointwise nat_eq c.format.result.now c.args.digits.now ≡ true =
    rw text (nat_list_eq_equiv.refl c.args.digits.now) in
    let differs : false ≡ pointwise nat_eq c.format.result.now c.args.digits.now = c.if-eq.ensures in
    let bad : false ≡ true = differs ∙ alike in cc in
    record {
      found = rw c.no_big.ensures.fault none;
      reported = λ root stands called. c.no_big.ensures.reported root stands (called, none);
    }

pub returns-in-Err : goal.returns-in-Err
returns-in-Err c =
    let none : (z : ℤ) → SpellsBig c.args.digits.now z → ⊥ = λ z h.
    let read = parse-big z c.args.digits.now c.parse.result h.1 h.0 c.parse.ensures.value.0 in cc in
    record {
      found = rw c.no_big-in-Err.ensures.fault none;
      reported = λ root stands called. c.no_big-in-Err.ensures.reported root stands (called, none);
    }
