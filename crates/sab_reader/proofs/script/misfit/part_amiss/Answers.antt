use Rattle.std.proofs.lemmas.Grind.{common_steps}
use Rattle.std.proofs.Common.{◌≡◌, refl, rules, arith}
use Rattle.std.specs.Prelude.{FitsSigned}
use Rattle.std.specs.Int.{w64}
use Rattle.std.proofs.lemmas.Int.{ints, to_z-of_z}
use Rattle.sab_reader.proofs.OfScript.Misfits.{not_unsigned, unsigned, offset_below, uneven, behind, uneven_block, length_below, too_long}
use Rattle.sab_reader.proofs.script.misfit.part_amiss.Goals as goal

pub returns-in_default : goal.returns-in_default
returns-in_default c = grind (arith, common_steps, w64, to_z-of_z, offset_below, not_unsigned, c.in_default.ensures)

pub returns-then-offset-from-ne0 : goal.returns-then-offset-from-ne0
returns-then-offset-from-ne0 c =
    grind (arith, common_steps, w64, to_z-of_z, unsigned, uneven, c.in-Ok.ensures, c.size-size.ensures, c.from.ensures)

pub returns-then-from-offset : goal.returns-then-from-offset
returns-then-from-offset c =
    grind (arith, common_steps, w64, to_z-of_z, unsigned, behind, c.in-Ok.ensures, c.from-2.ensures)

pub returns-in-None : goal.returns-in-None
returns-in-None c = λ none root i there.
    let fits : FitsSigned w64 c.args.spec.offset = search rules in
    let found = rw (to_z-of_z w64 c.args.spec.offset fits) at c.in-Ok.ensures in
    let is = unsigned c.args.spec.offset c.in-Ok.offset found.0 found.1 in
    uneven_block root i c.args.block_len c.args.spec c.in-Ok.offset c.size-size.result is c.size-size.ensures
    (rw c.from.ensures at c.if-offset-from-ne0.false) (omega (arith, c.if-from-offset.false, c.from-2.ensures))
    c.in-None.is none there

pub returns-in-Some : goal.returns-in-Some
returns-in-Some c = grind (arith, common_steps, w64, to_z-of_z, length_below, c.in-Some.is)

pub returns-in-Some-2 : goal.returns-in-Some-2
returns-in-Some-2 c = λ none root i there.
    let fits : FitsSigned w64 c.args.spec.offset = search rules in
    let found = rw (to_z-of_z w64 c.args.spec.offset fits) at c.in-Ok.ensures in
    let is = unsigned c.args.spec.offset c.in-Ok.offset found.0 found.1 in
    let length_fits : FitsSigned w64 c.in-Some-2.length = search rules in
    let same = to_z-of_z w64 c.in-Some-2.length length_fits in
    let lengths : c.in-Some.length ≡ c.in-Some-2.length = cc in
    let not_below = rw lengths at c.if-length-lt0.false in
    too_long root i c.args.block_len c.args.spec c.in-Ok.offset c.size-size.result _ _ is c.size-size.ensures
    (rw c.from.ensures at c.if-offset-from-ne0.false) (omega (arith, c.if-from-offset.false, c.from-2.ensures))
    (rw same c.in-Some-2.is) (omega (arith, ints, not_below)) refl none there
