use Rattle.std.proofs.Common.{◌≡◌, refl, to_z, of_z, FitsSigned, rules, Err, get_or}
use Rattle.std.specs.Prelude.{MatchOption, IsOkAnd}
use Rattle.std.specs.Int.{w64}
use Rattle.std.proofs.lemmas.Int.{to_z-of_z}
use Rattle.std.proofs.lemmas.Option.{slice_get-get_or}
use Rattle.sab_block.specs.declared.thrown.Thrown.TheVariants.{RangeError}
use Rattle.sab_block.specs.View.{count, IsViewOf}
use Rattle.sab_reader.proofs.OfScript.Described.{made_of}
use Rattle.sab_reader.proofs.script.view_entry.plan_view.Goals as goal

pub returns-in-Ok-clause-made : goal.returns-in-Ok-clause-made
returns-in-Ok-clause-made c =
    let v = c.args.spec in
    let len = get_or c.args.lens.now v.block 0 in
    let offset = to_z w64 (of_z w64 v.offset) in
    let fits : FitsSigned w64 v.offset = search rules in
    let given : MatchOption (count v.kind len offset v.length) (c.new.result ≡ Err RangeError)
    (λ n. IsOkAnd c.new.result (IsViewOf v.kind len offset n)) = c.new.ensures in
    made_of c.args.lens.now len v c.in-Ok.view c.new.result (count v.kind len v.offset v.length)
    (slice_get-get_or c.args.lens.now v.block 0 c.requires) refl (rw (to_z-of_z w64 v.offset fits) at given)
    c.in-Ok.is
