-- The races with the accesses that begin on the shelf of the block and the class.
use Rattle.std.proofs.Common.{◌≡◌, ◌+◌, ◌-◌, ◌/◌, ◌^◌, ◌∙◌, ℕ, List, Option, Some, None, sym, subst, ap, arith}
use Rattle.std.specs.declared.vec.Vec.{Vec}
use Rattle.std.specs.declared.alloc.Global.{Global}
use Rattle.sab_judge.specs.Shelf.{IsShelf, IsShelvedAt}
use Rattle.sab_judge.proofs.Cells.{all_between}
use Rattle.sab_judge.proofs.Shelving.{forward, none_between}
use Rattle.sab_judge.proofs.seen.Seen.count_of_class.Goals as goal

pub count_on-requires-clause-shelf : goal.count_on-requires-clause-shelf
count_on-requires-clause-shelf c =
    let kept : IsShelvedAt c.args.trace.now c.args.j c.args.access.place.block c.args.class (Some c.in-Some.shelf.now) =
    subst (λ (x : Option (Vec ℕ Global)). IsShelvedAt c.args.trace.now c.args.j c.args.access.place.block c.args.class x)
    (sym c.in-Some.ensures.value) (c.requires.seen.shelves c.args.access.place.block c.args.class) in
    subst (λ (xs : List ℕ). IsShelf c.args.trace.now c.args.j c.args.access.place.block c.args.class xs)
    (sym c.deref.ensures.value) kept

pub count_on-requires-clause-forward : goal.count_on-requires-clause-forward
count_on-requires-clause-forward c =
    let low : c.saturating_sub-low.result ≡ c.args.access.place.byte / 2 ^ c.args.class - 2 =
    c.saturating_sub-low.ensures ∙ ap (λ (x : ℕ). x / 2 ^ c.args.class - 2) c.start.ensures in
    let last : c.saturating_sub.result / 2 ^ c.args.class
    ≡ (c.args.access.place.byte + c.args.access.len - 1) / 2 ^ c.args.class =
    ap (λ (x : ℕ). x / 2 ^ c.args.class) (c.saturating_sub.ensures ∙ ap (λ (x : ℕ). x - 1) c.end.ensures) in
    omega (arith, low, last, forward c.args.class c.args.access.place.byte c.args.access.len)

pub returns-in-Some : goal.returns-in-Some
returns-in-Some c = all_between {last = c.saturating_sub.result / 2 ^ c.args.class} c.requires.seen.short c.requires.makes
    (c.saturating_sub-low.ensures ∙ ap (λ (x : ℕ). x / 2 ^ c.args.class - 2) c.start.ensures)
    (ap (λ (x : ℕ). x / 2 ^ c.args.class) (c.saturating_sub.ensures ∙ ap (λ (x : ℕ). x - 1) c.end.ensures))
    (omega arith) c.count_on.ensures

pub returns-in-None : goal.returns-in-None
returns-in-None c =
    let none : IsShelvedAt c.args.trace.now c.args.j c.args.access.place.block c.args.class None =
    subst (λ (x : Option (Vec ℕ Global)). IsShelvedAt c.args.trace.now c.args.j c.args.access.place.block c.args.class x)
    (sym c.in-None.ensures.value) (c.requires.seen.shelves c.args.access.place.block c.args.class) in
    all_between {last = c.saturating_sub.result / 2 ^ c.args.class} {high = c.saturating_sub.result / 2 ^ c.args.class + 1}
    c.requires.seen.short c.requires.makes
    (c.saturating_sub-low.ensures ∙ ap (λ (x : ℕ). x / 2 ^ c.args.class - 2) c.start.ensures)
    (ap (λ (x : ℕ). x / 2 ^ c.args.class) (c.saturating_sub.ensures ∙ ap (λ (x : ℕ). x - 1) c.end.ensures))
    (omega arith) (none_between none)
