-- The races with the accesses that begin in one cell of the shelf more.
use Rattle.std.proofs.Common.{◌≡◌, ◌+◌, ◌<◌, ◌≤◌, length, inl, inr, arith}
use Rattle.std.proofs.lemmas.Bool.{cases_lt}
use Rattle.sab_judge.proofs.Counting.{few_below}
use Rattle.sab_judge.proofs.Shelving.{none_on, cell_on, one_more_on}
use Rattle.sab_judge.proofs.seen.Seen.count_on.Goals as goal

pub loop-k-init : goal.loop-k-init
loop-k-init c = none_on c.requires.shelf c.count_below-from.ensures

pub count_in-count-requires-clause-small : goal.count_in-count-requires-clause-small
count_in-count-requires-clause-small c =
    omega (arith, c.count_below-to.ensures.below c.loop-k.k c.loop-k-test.true, c.requires.small)

pub loop-k-preserved : goal.loop-k-preserved
loop-k-preserved c =
    let inside : c.loop-k.k < length c.args.shelf.now = omega (arith, c.loop-k-test.true, c.count_below-to.ensures.few) in
    one_more_on c.loop-k.k c.requires.shelf inside (c.count_below-from.ensures.behind c.loop-k.k c.loop-k.auto.k inside)
    c.loop-k.invariant c.count_in-count.ensures

pub overflow_add-count : goal.overflow_add-count
overflow_add-count c =
    let inside : c.loop-k.k < length c.args.shelf.now = omega (arith, c.loop-k-test.true, c.count_below-to.ensures.few) in
    let few : c.loop-k.count + c.count_in-count.result ≤ c.args.j = few_below (cell_on c.loop-k.k c.requires.shelf inside
    (c.count_below-from.ensures.behind c.loop-k.k c.loop-k.auto.k inside) c.loop-k.invariant c.count_in-count.ensures) in
    omega (arith, few, c.requires.event_clock.within, c.requires.event_clock.short)

pub returns : goal.returns
returns c =
    let from = c.count_below-from.ensures in
    let to = c.count_below-to.ensures in
    let forward : c.count_below-from.result ≤ c.count_below-to.result =
    elim (cases_lt c.count_below-to.result c.count_below-from.result) [
      | inl less ↦ absurd (omega (
        arith,
        from.below c.count_below-to.result less,
        to.behind c.count_below-to.result (omega arith) (omega (arith, less, from.few)),
        c.requires.forward,
      ))
      | inr ge ↦ ge
    ] in
    let end : c.loop-k.k ≡ c.count_below-to.result = omega (arith, c.loop-k-test.false, c.loop-k.auto.k-end, forward) in
    c.loop-k.invariant (c.args.last + 1)
    (λ p less. to.below p (omega (arith, less, end)))
    (λ p at lt. to.behind p (omega (arith, at, end)) lt)
