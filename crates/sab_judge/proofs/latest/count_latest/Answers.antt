-- The races with the events like one more of the list.
use Rattle.std.proofs.Common.{◌+◌, ◌≤◌, length, arith}
use Rattle.sab_judge.specs.Race.{Counts}
use Rattle.sab_judge.specs.RaceKind.{IsRaceOf}
use Rattle.sab_judge.proofs.Counting.{few_below, counts_none}
use Rattle.sab_judge.proofs.Lists.{slice_get-index}
use Rattle.sab_judge.proofs.Racing.{IsLikeOneOf, one_added, all_of_cell}
use Rattle.sab_judge.proofs.latest.count_latest.Goals as goal

pub loop-latest-init : goal.loop-latest-init
loop-latest-init c = counts_none c.args.j (λ i lt p. absurd (omega (arith, p.1.before)))

pub count_races-count-requires-clause-latest : goal.count_races-count-requires-clause-latest
count_races-count-requires-clause-latest c = c.requires.latest.each c.loop-latest.latest-index _
    (slice_get-index c.args.list.now c.loop-latest.latest-index (record { agent = 0; position = 0 }) c.loop-latest-test.true)

pub loop-latest-preserved : goal.loop-latest-preserved
loop-latest-preserved c = one_added _ c.requires.latest
    (slice_get-index c.args.list.now c.loop-latest.latest-index (record { agent = 0; position = 0 }) c.loop-latest-test.true)
    c.loop-latest.invariant c.count_races-count.ensures

pub overflow_add-count : goal.overflow_add-count
overflow_add-count c =
    let more : Counts (λ i. IsRaceOf c.args.kind c.args.trace.now i c.args.j
    × IsLikeOneOf c.args.trace.now c.args.list.now (c.loop-latest.latest-index + 1) i) c.args.j
    (c.loop-latest.count + c.count_races-count.result) = one_added _ c.requires.latest
    (slice_get-index c.args.list.now c.loop-latest.latest-index (record { agent = 0; position = 0 }) c.loop-latest-test.true)
    c.loop-latest.invariant c.count_races-count.ensures in
    let few : c.loop-latest.count + c.count_races-count.result ≤ c.args.j = few_below more in
    omega (arith, few, c.requires.event_clock.within, c.requires.event_clock.short)

pub returns : goal.returns
returns c = all_of_cell c.requires.latest
    (let all : length c.args.list.now ≤ c.loop-latest.latest-index = omega (arith, c.loop-latest-test.false) in all)
    c.loop-latest.invariant
