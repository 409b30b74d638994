-- The races with the accesses of one class more.
use Rattle.std.proofs.Common.{◌≡◌, ◌+◌, ◌≤◌, arith}
use Rattle.sab_judge.proofs.Counting.{few_below, counts_none}
use Rattle.sab_judge.proofs.Cells.{class_added, class_unused, all_classes, of_some_class}
use Rattle.sab_judge.proofs.seen.Seen.count_all.Goals as goal
use Rattle.sab_judge.proofs.seen.Seen.count_all.Goals.{then-self-class, else-self-class}

pub loop-class-init : goal.loop-class-init
loop-class-init c = counts_none c.args.j (λ i lt p. absurd (omega (arith, p.1.below)))

pub overflow_add-count : goal.overflow_add-count
overflow_add-count c =
    let few : c.loop-class.count + c.count_of_class-count.result ≤ c.args.j =
    few_below (class_added c.loop-class.class c.loop-class.invariant c.count_of_class-count.ensures) in
    omega (arith, few, c.requires.event_clock.within, c.requires.event_clock.short)

pub loop-class-preserved : goal.loop-class-preserved
loop-class-preserved c = elim c.if-self-class.branch [
  | then-self-class w ↦ rw w.count-is
      (class_added c.loop-class.class c.loop-class.invariant w.count_of_class-count.ensures)
  | else-self-class w ↦ rw w.count-is
      (class_unused c.args.self.now.used c.requires.seen.used w.if-self-class.false c.loop-class.invariant)
]

pub returns : goal.returns
returns c =
    let end : c.loop-class.class ≡ 32 = omega (arith, c.loop-class-test.false, c.loop-class.auto.class-end) in
    all_classes (λ i race. of_some_class race) (rw end at c.loop-class.invariant)
