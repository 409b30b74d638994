use Rattle.std.proofs.Common.{sym, subst}
use Rattle.sab_reader.specs.Script.Plain.{HoldsBlock}
use Rattle.sab_reader.proofs.OfScript.ObjectTokens.{view_reported}
use Rattle.sab_reader.proofs.script.plain.views.scan_view.Goals as goal

pub returns-clause-read : goal.returns-clause-read
returns-clause-read c =
    let spec = c.in_ok-name.spec in
    view_reported c.args.form c.args.lens.now c.args.element.now (c.in_ok-name.name.now, spec)
    c.in_ok-plan_view.plan_view (rw c.view_members.ensures at c.in_ok-are_named.ensures)
    (subst (HoldsBlock c.args.form c.args.element.now) (sym c.in_ok-name.ensures.block) c.in_ok-block.ensures.reported)
    c.in_ok-name.ensures.reported c.in_ok-plan_view.ensures
