-- Equality of descriptions of views: those that the derived `==` finds equal are the same.
use Rattle.std.proofs.Common.{◌≡◌, ℤ, Option, Some, None, true, refl, ap, arith}
use Rattle.std.proofs.lemmas.Grind.{common_steps}
use Rattle.std.specs.Ordering.{int_eq}
use Rattle.std.specs.Option.{option_eq}
use Rattle.std.proofs.lemmas.Bool.{and_parts, false≢true}
use borrow.Author.Tests.{eqb-true}
use Rattle.sab_block.proofs.Equality.{same_int, same_kind}
use Rattle.sab_reader.specs.declared.script.view_spec.ViewSpec.{ViewSpec}
use Rattle.sab_reader.specs.contracts.script.view_spec.ViewSpecPartialEq.TheImpl as view_spec

same_length : (t u : Option ℤ) → option_eq int_eq t u ≡ true → t ≡ u
same_length None None e = refl
same_length None (Some y) e = absurd (false≢true e)
same_length (Some x) None e = absurd (false≢true e)
same_length (Some x) (Some y) e = ap Some (same_int x y e)

same_view_spec : (x y : ViewSpec) → (view_spec.ghosts).eq x y ≡ true → x ≡ y
same_view_spec x y e = grind (arith, common_steps, and_parts, same_kind, same_int, same_length, eqb-true)
