-- Of the bytes of one last writer more it is known from whom they are read.
use Rattle.std.proofs.lemmas.Grind.{common_steps}
use Rattle.std.proofs.Common.{◌≡◌, ◌+◌, true, arith}
use Rattle.sab_judge.specs.Event.{event_at, reads_byte}
use Rattle.sab_judge.specs.Readers.{HaveWriter}
use Rattle.sab_judge.specs.Sought.{Writes}
use Rattle.sab_judge.proofs.Counting.{few_below}
use Rattle.sab_judge.proofs.DataRaces.{data_races_of_read}
use Rattle.sab_judge.proofs.ReadersNoted.{none_noted, one_more_noted, no_more_noted, last_below, reads_between}
use Rattle.sab_judge.proofs.Written.{past_ordered}
use Rattle.sab_judge.proofs.data_race.count_read_from.Goals as goal

pub loop-byte-init : goal.loop-byte-init
loop-byte-init c = grind (arith, common_steps, none_noted, c.start-byte.ensures, c.requires.readers)

pub last_writer-held-requires-clause-order : goal.last_writer-held-requires-clause-order
last_writer-held-requires-clause-order c =
    past_ordered c.args.trace.now c.args.j c.args.past.now.writers c.requires.past.writers

pub is_one_more-requires-clause-writer : goal.is_one_more-requires-clause-writer
is_one_more-requires-clause-writer c = last_below c.args.trace.now
    (Writes c.args.access.place.block c.loop-byte.byte) c.args.j c.last_writer-held.result.writer
    (c.last_writer-held.ensures.writer c.args.trace.now c.args.j c.requires.past c.loop-byte.byte (omega arith)
    c.last_writer-held.ensures.more)

pub overflow_add-count : goal.overflow_add-count
overflow_add-count c =
    omega (arith, few_below c.loop-byte.invariant.noted.counted, c.requires.event_clock.within, c.requires.event_clock.short)

pub loop-byte-preserved-then-is_one_more : goal.loop-byte-preserved-then-is_one_more
loop-byte-preserved-then-is_one_more c =
    let more = c.last_writer-held.ensures.more in
    let reads : reads_byte (event_at c.args.trace.now c.args.j) c.args.access.place.block c.loop-byte.byte ≡ true =
    reads_between c.args.trace.now c.args.j c.args.access c.requires.access c.requires.reads c.loop-byte.byte
    c.loop-byte.invariant.low (omega (arith, c.loop-byte-test.true, c.end-end.ensures)) in
    let lasts : HaveWriter c.args.trace.now c.args.j c.args.access.place.block c.loop-byte.byte
    c.last_writer-held.result.end c.last_writer-held.result.writer =
    c.last_writer-held.ensures.writer c.args.trace.now c.args.j c.requires.past in
    record {
      low = omega (arith, c.loop-byte.invariant.low, more);
      high = omega (arith, c.last_writer-held.ensures.within, c.end-end.ensures);
      noted = one_more_noted c.last_writer-held.result.writer c.loop-byte.readers c.is_one_more.new.readers
          c.is_one_more.result c.requires.event_clock.within c.loop-byte.invariant.low more reads lasts
          c.loop-byte.invariant.noted c.is_one_more.ensures c.if-is_one_more.true;
    }

pub loop-byte-preserved : goal.loop-byte-preserved
loop-byte-preserved c =
    let more = c.last_writer-held.ensures.more in
    let reads : reads_byte (event_at c.args.trace.now c.args.j) c.args.access.place.block c.loop-byte.byte ≡ true =
    reads_between c.args.trace.now c.args.j c.args.access c.requires.access c.requires.reads c.loop-byte.byte
    c.loop-byte.invariant.low (omega (arith, c.loop-byte-test.true, c.end-end.ensures)) in
    let lasts : HaveWriter c.args.trace.now c.args.j c.args.access.place.block c.loop-byte.byte
    c.last_writer-held.result.end c.last_writer-held.result.writer =
    c.last_writer-held.ensures.writer c.args.trace.now c.args.j c.requires.past in
    record {
      low = omega (arith, c.loop-byte.invariant.low, more);
      high = omega (arith, c.last_writer-held.ensures.within, c.end-end.ensures);
      noted = no_more_noted c.last_writer-held.result.writer c.loop-byte.readers c.is_one_more.new.readers
          c.is_one_more.result c.requires.event_clock.within c.loop-byte.invariant.low more reads lasts
          c.loop-byte.invariant.noted c.is_one_more.ensures c.if-is_one_more.false;
    }

pub returns-clause-readers : goal.returns-clause-readers
returns-clause-readers c =
    grind (arith, common_steps, c.loop-byte.invariant.noted.all, c.loop-byte.invariant.noted.before)

pub returns-clause-counted : goal.returns-clause-counted
returns-clause-counted c =
    let all : c.loop-byte.byte ≡ c.args.access.place.byte + c.args.access.len =
    omega (arith, c.loop-byte-test.false, c.end-end.ensures, c.loop-byte.invariant.high) in
    data_races_of_read c.args.access c.requires.access c.requires.writes (rw all at c.loop-byte.invariant.noted)
