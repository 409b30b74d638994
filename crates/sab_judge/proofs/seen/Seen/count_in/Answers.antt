-- What is kept of the cell, if anything is.
use Rattle.std.proofs.Common.{◌∙◌, ℕ, List, Option, Some, None, sym, subst, ap}
use Rattle.std.specs.HashMap.{get}
use Rattle.std.specs.declared.vec.Vec.{Vec}
use Rattle.std.specs.declared.alloc.Global.{Global}
use Rattle.sab_judge.specs.declared.latest.Latest.{Latest}
use Rattle.sab_judge.specs.Lookups.{same_pair}
use Rattle.sab_judge.specs.Cell.{AreLatest, IsKeptAt}
use Rattle.sab_judge.proofs.Counting.{counts_none}
use Rattle.sab_judge.proofs.seen.Seen.count_in.Goals as goal

pub count_latest-requires-clause-latest : goal.count_latest-requires-clause-latest
count_latest-requires-clause-latest c =
    let kept : IsKeptAt c.args.trace.now c.args.j c.args.cell (Some c.in-Some.list.now) =
    subst (λ (x : Option (Vec Latest Global)). IsKeptAt c.args.trace.now c.args.j c.args.cell x)
    (sym (c.in-Some.ensures.value ∙ ap (λ (p : ℕ × ℕ). get same_pair c.args.self.now.cells p) c.key.ensures))
    (c.requires.seen.cells c.args.cell c.requires.few) in
    subst (λ (xs : List Latest). AreLatest c.args.trace.now c.args.j c.args.cell xs) (sym c.deref.ensures.value) kept

pub returns-in-None : goal.returns-in-None
returns-in-None c =
    let none : IsKeptAt c.args.trace.now c.args.j c.args.cell None =
    subst (λ (x : Option (Vec Latest Global)). IsKeptAt c.args.trace.now c.args.j c.args.cell x)
    (sym (c.in-None.ensures.value ∙ ap (λ (p : ℕ × ℕ). get same_pair c.args.self.now.cells p) c.key.ensures))
    (c.requires.seen.cells c.args.cell c.requires.few) in
    counts_none c.args.j (λ i lt p. none i lt p.1)
