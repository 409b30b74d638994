use Rattle.std.proofs.lemmas.Grind.{common_steps}
use Rattle.std.proofs.Common.{arith, get_or}
use Rattle.std.proofs.lemmas.Bool.{false≢true}
use Rattle.sab_reader.specs.Script.Views.{IsLike}
use Rattle.sab_reader.proofs.OfScript.Every.{kinds, every_kind, one_more}
use Rattle.sab_reader.proofs.script.near.near_kind.Goals as goal

pub loop-kind-init : goal.loop-kind-init
loop-kind-init c = λ k less. absurd (omega (arith, less))

pub loop-kind-preserved : goal.loop-kind-preserved
loop-kind-preserved c =
    grind (arith, common_steps, get_or, kinds, false≢true, one_more, c.is_like.ensures.1, c.loop-kind.invariant)

pub returns : goal.returns
returns c =
    every_kind (λ kind. IsLike c.args.name.now kind → ⊥)
    (λ k less. c.loop-kind.invariant k (omega (arith, less, c.loop-kind-test.false)))
