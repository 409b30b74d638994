use Rattle.std.proofs.Common.{[], ◌<◌, ◌^◌, length, refl, arith, rules}
use Rattle.serde_json.proofs.Views.{items_len-items_view}
use Rattle.sab_reader.proofs.script.operands.no_operand.Goals as goal

pub returns-in_default-clause-reported : goal.returns-in_default-clause-reported
returns-in_default-clause-reported c = λ root name h takes.
    let trees = c.args.trees.now in
    let fits : length trees < 2 ^ 63 = search rules in
    let some = c.in_default.len_at_least in
    c.wrong_count.ensures.reported root name _ [] h takes (items_len-items_view trees) refl (λ _. omega (arith, some))
    (omega (arith, fits))
