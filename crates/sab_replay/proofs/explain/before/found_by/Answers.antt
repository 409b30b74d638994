-- An access that answered a value.
use Rattle.std.proofs.Common.{◌≡◌, ap, ◌∙◌}
use Rattle.sab_plan.specs.declared.entry.What.TheVariants.{Acted}
use Rattle.sab_plan.specs.declared.answer.Answer.TheVariants.{Value}
use Rattle.sab_replay.proofs.explain.before.found_by.Goals as goal

pub returns-in-Acted-Value : goal.returns-in-Acted-Value
returns-in-Acted-Value c =
    let act = c.in-Acted-Value in
    let is : c.args.what ≡ Acted (Value act.field-0-0) = act.is ∙ ap Acted (rw act.is at act.field-0-is) in
    rw (c.in-Access.is, is) (c.found_by_access.ensures c.in-Access.view act.field-0-0 c.args.sight.waiters)
