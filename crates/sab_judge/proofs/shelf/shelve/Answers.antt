-- A cell of which there is a last event is on its shelf.
use Rattle.std.proofs.Common.{◌≡◌, ◌<◌, ℕ, length, vec_len, inl, inr, Option, Some, sym, subst, ap, ◌∙◌, arith}
use Rattle.std.specs.HashMap.{get}
use Rattle.std.specs.declared.vec.Vec.{Vec}
use Rattle.std.specs.declared.alloc.Global.{Global}
use Rattle.std.proofs.lemmas.Bool.{false≢true, cases_lt, eq-eqb}
use Rattle.sab_judge.specs.declared.latest.Latest.{Latest}
use Rattle.sab_judge.specs.Lookups.{same_pair}
use Rattle.sab_judge.specs.Cell.{IsKeptAt}
use Rattle.sab_judge.proofs.Shelving.{known_shelved}
use Rattle.sab_judge.proofs.shelf.shelve.Goals as goal

pub returns-in-Some : goal.returns-in-Some
returns-in-Some c =
    let kept : IsKeptAt c.args.trace.now c.args.j c.args.cell (Some c.in-Some.list.now) =
    subst (λ (x : Option (Vec Latest Global)). IsKeptAt c.args.trace.now c.args.j c.args.cell x)
    (sym (c.in-Some.ensures.value ∙ ap (λ (p : ℕ × ℕ). get same_pair c.args.cells.now p) c.key.ensures))
    (c.requires.cells c.args.cell c.requires.few) in
    let some : 0 < length c.in-Some.list.now.items = elim (cases_lt 0 (length c.in-Some.list.now.items)) [
      | inl more ↦ more
      | inr none ↦ (let empty : vec_len c.in-Some.list.now ≡ 0 = omega (arith, none) in
          absurd (false≢true (sym c.if-not-is_empty.true ∙ c.is_empty.ensures ∙ eq-eqb _ _ empty)))
    ] in
    known_shelved c.args.trace.now c.args.j c.args.shelves.now c.in-Some.list.now.items c.requires.shelves
    c.requires.begins kept some
