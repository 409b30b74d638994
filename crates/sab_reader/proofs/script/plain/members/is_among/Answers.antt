use Rattle.std.proofs.Common.{refl, sym, ◌∙◌}
use Rattle.sab_reader.proofs.OfScript.MemberTokens.{among_at, alike}
use Rattle.sab_reader.proofs.script.plain.members.is_among.Goals as goal

pub returns-then-eq : goal.returns-then-eq
returns-then-eq c = λ _.
    among_at c.args.names.now c.loop-it.it-index _ c.args.name.now c.loop-it-test.true
    (sym (alike c.name.result.now c.args.name.now c.args.name.now c.if-eq.ensures refl) ∙ c.name.ensures)
