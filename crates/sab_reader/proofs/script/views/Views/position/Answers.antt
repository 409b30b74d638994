use Rattle.std.proofs.Common.{sym}
use Rattle.sab_reader.proofs.OfScript.Places.{name_found, name_missing, none_from}
use Rattle.sab_reader.proofs.script.views.Views.position.Goals as goal

pub returns-in_err-position-clause-none : goal.returns-in_err-position-clause-none
returns-in_err-position-clause-none c =
    rw c.from_residual.ensures (λ v g. name_missing c.self.inside.by_name.entries c.args.name.now v
    (none_from _ c.in_err-position.ensures.found) (rw (← c.self.view_is) at g))

pub returns-clause-some : goal.returns-clause-some
returns-clause-some c =
    rw (← c.self.view_is) (name_found c.self.inside.by_name.entries c.args.name.now c.in_ok-position.position
    (sym c.in_ok-position.ensures.index))
