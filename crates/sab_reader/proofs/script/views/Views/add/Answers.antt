use Rattle.sab_reader.proofs.OfScript.ViewNames.{added, more_views}
use Rattle.sab_reader.proofs.script.views.Views.add.Goals as goal

pub invariant_of-self-2 : goal.invariant_of-self-2
invariant_of-self-2 c =
    let old = c.self.inside.by_name in
    let is = added old c.insert.new.self.entries c.in_ok-name.name c.args.name.now c.args.spec c.in_ok-name.ensures.ok
    (rw (← c.self.view_is) at c.requires.new) c.in_ok-insert.ensures.entries in
    more_views old.entries c.insert.new.self.entries (c.args.name.now, c.args.spec) is
    (rw (← c.self.view_is) at c.requires.room) c.in_ok-insert.ensures.unique

pub returns-clause-added : goal.returns-clause-added
returns-clause-added c =
    rw (← c.self.view_is) (added c.self.inside.by_name c.insert.new.self.entries c.in_ok-name.name c.args.name.now
    c.args.spec c.in_ok-name.ensures.ok (rw (← c.self.view_is) at c.requires.new) c.in_ok-insert.ensures.entries)

pub returns-clause-views : goal.returns-clause-views
returns-clause-views c =
    let old = c.self.inside.by_name in
    let is = added old c.insert.new.self.entries c.in_ok-name.name c.args.name.now c.args.spec c.in_ok-name.ensures.ok
    (rw (← c.self.view_is) at c.requires.new) c.in_ok-insert.ensures.entries in
    more_views old.entries c.insert.new.self.entries (c.args.name.now, c.args.spec) is
    (rw (← c.self.view_is) at c.requires.room) c.in_ok-insert.ensures.unique
