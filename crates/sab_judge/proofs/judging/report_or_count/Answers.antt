-- The races are counted if no more are to be reported, or there are none.
use Rattle.std.proofs.Common.{◌<◌, ◌≤◌, length, arith}
use Rattle.sab_judge.proofs.Counting.{few_below}
use Rattle.sab_judge.proofs.RacesSoFar.{all_left}
use Rattle.sab_judge.proofs.judging.report_or_count.Goals as goal
use Rattle.sab_judge.proofs.judging.report_or_count.Goals.{else-count-gt0-via-then-count-gt0+else-len-most, else-count-gt0-via-else-count-gt0}

pub overflow_add-verdict : goal.overflow_add-verdict
overflow_add-verdict c =
    let few : c.args.count ≤ c.args.j = few_below c.requires.count in
    let small : c.args.j < 1048576 = omega (arith, c.requires.event_clock.within, c.requires.event_clock.short) in
    omega (arith, few, small, c.requires.reported.small)

pub returns : goal.returns
returns c =
    let enough : 0 < c.args.count → c.args.most ≤ length c.args.verdict.now.races.items =
    λ some. elim c.else-count-gt0.branch [
      | else-count-gt0-via-then-count-gt0+else-len-most w ↦ omega (arith, w.if-len-most.false, w.len.ensures)
      | else-count-gt0-via-else-count-gt0 w ↦ absurd (omega (arith, w.if-count-gt0.false, some))
    ] in
    all_left c.args.count c.requires.reported c.requires.count enough
