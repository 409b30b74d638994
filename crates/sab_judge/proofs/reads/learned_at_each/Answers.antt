-- The bytes of one last writer more are known.
use Rattle.std.proofs.lemmas.Grind.{common_steps}
use Rattle.std.proofs.Common.{◌+◌, inl, inr, arith}
use Rattle.std.proofs.lemmas.Bool.{cases_lt}
use Rattle.sab_judge.specs.Clock.{KnowsMore}
use Rattle.sab_judge.specs.Readers.{HaveWriter}
use Rattle.sab_judge.proofs.Knowledge.{learned_more, learned_only, more_up_to, byte_known, byte_before, read_known}
use Rattle.sab_judge.proofs.Reading.{read_as_first}
use Rattle.sab_judge.proofs.Written.{past_ordered}
use Rattle.sab_judge.proofs.reads.learned_at_each.Goals as goal

pub loop-byte-init : goal.loop-byte-init
loop-byte-init c = grind (arith, common_steps, c.start-byte.ensures, c.requires.only)

pub last_writer-held-requires-clause-order : goal.last_writer-held-requires-clause-order
last_writer-held-requires-clause-order c =
    past_ordered c.args.trace.now c.args.j c.args.past.now.writers c.requires.past.writers

pub read_from-from-requires-clause-last : goal.read_from-from-requires-clause-last
read_from-from-requires-clause-last c =
    c.last_writer-held.ensures.writer c.args.trace.now c.args.j c.requires.past c.loop-byte.byte (omega arith)
    c.last_writer-held.ensures.more

pub loop-byte-preserved : goal.loop-byte-preserved
loop-byte-preserved c =
    let more : KnowsMore c.loop-byte.known c.learned-known.result =
    learned_more c.loop-byte.known c.args.clocks.now c.read_from-from.result c.learned-known.result c.learned-known.ensures in
    let lasts : HaveWriter c.args.trace.now c.args.j c.args.access.place.block c.loop-byte.byte
    c.last_writer-held.result.end c.last_writer-held.result.writer =
    c.last_writer-held.ensures.writer c.args.trace.now c.args.j c.requires.past in
    record {
      low = omega (arith, c.loop-byte.invariant.low, c.last_writer-held.ensures.more);
      more = λ b. omega (arith, c.loop-byte.invariant.more b, more b);
      only = learned_only c.loop-byte.known c.read_from-from.result c.learned-known.result c.requires.clocks
          (byte_before _ _ c.read_from-from.result c.read_from-from.ensures) c.loop-byte.invariant.only
          c.learned-known.ensures;
      read = λ b low high m alike reads. elim (cases_lt b c.loop-byte.byte) [
        | inl less ↦ more_up_to (c.loop-byte.invariant.read b low less m alike reads) more
        | inr ge ↦ byte_known c.args.access.place.block c.loop-byte.byte c.loop-byte.known c.read_from-from.result
            c.learned-known.result c.requires.clocks c.read_from-from.ensures c.learned-known.ensures m alike
            (read_as_first c.args.access c.last_writer-held.result.writer c.requires.within c.requires.access
            c.loop-byte.invariant.low lasts ge high reads)
      ];
    }

pub returns-clause-read : goal.returns-clause-read
returns-clause-read c = read_known c.args.access c.requires.access (λ k h. c.loop-byte.invariant.read
    (c.args.access.place.byte + k) (omega arith) (omega (arith, h, c.loop-byte-test.false, c.end-end.ensures)))
