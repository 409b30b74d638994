use Rattle.std.proofs.Common.{None, Some, ap, ◌∙◌}
use Rattle.sab_reader.specs.Check.Text.{name_in}
use Rattle.sab_reader.proofs.OfCheck.Names.{named_at}
use Rattle.sab_reader.proofs.check.warnings.view_name.Goals as goal

pub returns-in-Some : goal.returns-in-Some
returns-in-Some c =
    let e = c.in-Some.ensures.entry in
    let there = named_at c.views.result.now c.args.position (Some (c.in-Some.name.now, c.in-Some.field-0-1.now)) e in
    c.as_str.ensures.value ∙ ap name_in (rw c.views.ensures.views at there)

pub returns-in-None : goal.returns-in-None
returns-in-None c =
    let there = named_at c.views.result.now c.args.position None c.in-None.ensures.entry in
    ap name_in (rw c.views.ensures.views at there)
