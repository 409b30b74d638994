-- The cell's list is taken out, renewed, and put back.
use Rattle.std.proofs.Common.{◌≡◌, ℕ, Bool, cond, Option, Some, sym, subst, ap, ◌∙◌}
use Rattle.std.specs.HashMap.{get}
use Rattle.std.specs.declared.vec.Vec.{Vec}
use Rattle.std.specs.declared.alloc.Global.{Global}
use Rattle.sab_judge.specs.declared.latest.Latest.{Latest}
use Rattle.sab_judge.specs.Lookups.{same_pair}
use Rattle.sab_judge.specs.Cell.{key_of, IsKeptAt}
use Rattle.sab_judge.proofs.Cells.{started, one_renewed}
use Rattle.sab_judge.proofs.seen.note.Goals as goal

pub note_latest-requires-clause-latest : goal.note_latest-requires-clause-latest
note_latest-requires-clause-latest c =
    let found : IsKeptAt c.args.trace.now c.args.j c.args.cell c.remove.result =
    subst (λ (x : Option (Vec Latest Global)). IsKeptAt c.args.trace.now c.args.j c.args.cell x)
    (sym (c.remove.ensures.value ∙ ap (λ (p : ℕ × ℕ). get same_pair c.args.cells.now p) c.key-key.ensures))
    (c.requires.cells c.args.cell c.requires.few) in
    started c.args.cell c.remove.result c.unwrap_or-list.result c.new.result found c.new.ensures.items
    c.unwrap_or-list.ensures

pub returns-clause-cells : goal.returns-clause-cells
returns-clause-cells c =
    let test : (p : ℕ × ℕ) → same_pair c.key-key.result p ≡ same_pair (key_of c.args.cell) p =
    λ p. ap (λ (q : ℕ × ℕ). same_pair q p) c.key-key.ensures in
    one_renewed c.args.trace.now c.args.j c.args.cell c.args.cells.now c.insert.new.self c.note_latest.new.list
    c.requires.cells c.requires.few c.requires.begins c.in_ok-link.ensures.latest
    (λ p e. c.in_ok-insert.ensures.updates.0 p
    ∙ ap (λ (b : Bool). cond b (Some c.note_latest.new.list) (get same_pair c.remove.new.self p)) (test p ∙ e))
    (λ p e. c.in_ok-insert.ensures.updates.2 p (test p ∙ e) ∙ c.remove.ensures.updates.2 p (test p ∙ e))
