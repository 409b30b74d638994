-- The shelf is taken out, gets the cell, and is put back.
use Rattle.std.proofs.Common.{◌∙◌, ℕ, Bool, cond, Option, Some, sym, subst, ap}
use Rattle.std.specs.HashMap.{get}
use Rattle.std.specs.declared.vec.Vec.{Vec}
use Rattle.std.specs.declared.alloc.Global.{Global}
use Rattle.sab_judge.specs.Lookups.{same_pair}
use Rattle.sab_judge.specs.Shelf.{IsShelf, IsShelvedAt}
use Rattle.sab_judge.proofs.Shelving.{shelf_started, cell_shelved}
use Rattle.sab_judge.proofs.shelf.put.Goals as goal

pub put_in_order-requires : goal.put_in_order-requires
put_in_order-requires c =
    let found : IsShelvedAt c.args.trace.now c.args.j c.args.cell.block c.args.cell.class c.remove.result =
    subst (λ (x : Option (Vec ℕ Global)). IsShelvedAt c.args.trace.now c.args.j c.args.cell.block c.args.cell.class x)
    (sym c.remove.ensures.value) (c.requires.shelves c.args.cell.block c.args.cell.class) in
    let shelf : IsShelf c.args.trace.now c.args.j c.args.cell.block c.args.cell.class c.unwrap_or-shelf.result.items =
    shelf_started c.remove.result c.unwrap_or-shelf.result c.new.result found c.new.ensures.items
    c.unwrap_or-shelf.ensures in
    shelf.rising

pub returns : goal.returns
returns c =
    let found : IsShelvedAt c.args.trace.now c.args.j c.args.cell.block c.args.cell.class c.remove.result =
    subst (λ (x : Option (Vec ℕ Global)). IsShelvedAt c.args.trace.now c.args.j c.args.cell.block c.args.cell.class x)
    (sym c.remove.ensures.value) (c.requires.shelves c.args.cell.block c.args.cell.class) in
    let shelf : IsShelf c.args.trace.now c.args.j c.args.cell.block c.args.cell.class c.unwrap_or-shelf.result.items =
    shelf_started c.remove.result c.unwrap_or-shelf.result c.new.result found c.new.ensures.items
    c.unwrap_or-shelf.ensures in
    cell_shelved c.args.trace.now c.args.j c.args.cell c.args.shelves.now c.insert.new.self
    c.unwrap_or-shelf.result.items c.put_in_order.new.shelf c.requires.shelves c.requires.begins shelf
    c.in_ok-put_in_order.ensures
    (λ p e. c.in_ok-insert.ensures.updates.0 p
    ∙ ap (λ (b : Bool). cond b (Some c.put_in_order.new.shelf) (get same_pair c.remove.new.self p)) e)
    (λ p e. c.in_ok-insert.ensures.updates.2 p e ∙ c.remove.ensures.updates.2 p e)
