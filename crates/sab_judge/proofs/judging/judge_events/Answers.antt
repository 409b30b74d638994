-- One event more has its clock, is kept, and its races are listed.
use Rattle.std.proofs.Common.{◌≡◌, ◌<◌, ◌^◌, length, arith}
use Rattle.sab_judge.proofs.Knowledge.{no_clocks, one_clock_more}
use Rattle.sab_judge.specs.Race.{of_none, and_of}
use Rattle.sab_judge.proofs.Counting.{few_below}
use Rattle.sab_judge.proofs.DataRaces.{few_pairs}
use Rattle.sab_judge.proofs.Racing.{any_race}
use Rattle.sab_judge.proofs.RacesSoFar.{nothing_reported, next_event, all_reported}
use Rattle.sab_judge.proofs.judging.judge_events.Goals as goal

pub loop-j-init : goal.loop-j-init
loop-j-init c = record {
  room = c.in_ok-clocks.ensures.capacity;
  clocked = no_clocks c.args.trace.now c.in_ok-clocks.clocks.items c.in_ok-clocks.ensures.items;
  past = c.new-past.ensures c.args.trace.now;
  seen = c.in_ok-seen.ensures c.args.trace.now;
  readers = c.in_ok-readers.ensures;
  data_count = of_none;
  reported = nothing_reported c.args.trace.now c.args.most c.new-3.result.items c.new-3.ensures.items;
}

pub loop-j-preserved : goal.loop-j-preserved
loop-j-preserved c =
    let few : c.loop-j.j < 2 ^ 20 = omega (arith, c.loop-j-test.true, c.requires.short) in
    record {
      room = rw c.push_reserved.ensures.capacity c.loop-j.invariant.room;
      clocked = one_clock_more c.clock_of-clock.result c.loop-j.invariant.clocked c.clock_of-clock.ensures
          c.push_reserved.ensures.items;
      past = c.in_ok-note.ensures;
      seen = c.in_ok-keep.ensures;
      readers = c.data_races_of-data_races.ensures.readers;
      data_count = and_of c.loop-j.invariant.data_count c.data_races_of-data_races.ensures.counted;
      reported = next_event few c.in_ok-report_or_count.ensures;
    }

pub returns : goal.returns
returns c =
    let end : c.loop-j.j ≡ length c.args.trace.now = omega (arith, c.loop-j-test.false, c.loop-j.auto.j-end) in
    all_reported (rw end at c.loop-j.invariant.reported) (rw end at c.loop-j.invariant.data_count)

pub report_or_count-requires-clause-count : goal.report_or_count-requires-clause-count
report_or_count-requires-clause-count c = any_race c.count_races-count.ensures

pub overflow_add-data_races : goal.overflow_add-data_races
overflow_add-data_races c =
    let before = few_pairs c.loop-j.invariant.data_count (omega (arith, c.loop-j-test.true, c.requires.short)) in
    let here = few_below c.data_races_of-data_races.ensures.counted in
    omega (arith, before, here, c.loop-j-test.true, c.requires.short)
