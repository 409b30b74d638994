-- A byte is read from its last writer.
use Rattle.std.proofs.lemmas.Grind.{common_steps}
use Rattle.std.proofs.Common.{◌≡◌, ◌+◌, ◌-◌, ◌<◌, ℕ, Option, Some, inl, inr, refl, sym, subst, ◌∙◌, arith}
use Rattle.std.proofs.lemmas.Bool.{false≢true, cases_lt}
use Rattle.sab_judge.specs.Readers.{HaveWriter}
use Rattle.sab_judge.specs.Sought.{Writes, IsLastBelow}
use Rattle.sab_judge.proofs.Reading.{writer_found, same_some, some_same, reads_at, no_byte_read}
use Rattle.sab_judge.proofs.Written.{past_ordered}
use Rattle.sab_judge.proofs.data_race.reads_byte_from.Goals as goal

pub loop-byte-init : goal.loop-byte-init
loop-byte-init c = grind (arith, common_steps, c.start-byte.ensures)

pub last_writer-held-requires-clause-order : goal.last_writer-held-requires-clause-order
last_writer-held-requires-clause-order c =
    past_ordered c.args.trace.now c.args.j c.args.past.now.writers c.requires.past.writers

pub returns-then-eq : goal.returns-then-eq
returns-then-eq c =
    let found : c.last_writer-held.result.writer ≡ Some c.args.i =
    same_some c.last_writer-held.result.writer c.args.i (sym c.eq.ensures ∙ c.if-eq.true) in
    let at : c.loop-byte.byte ≡ c.args.access.place.byte + (c.loop-byte.byte - c.args.access.place.byte) =
    omega (arith, c.loop-byte.invariant.low) in
    let inside : c.loop-byte.byte - c.args.access.place.byte < c.args.access.len =
    omega (arith, c.loop-byte.invariant.low, c.loop-byte-test.true, c.end-end.ensures) in
    let last : IsLastBelow c.args.trace.now (Writes c.args.access.place.block c.loop-byte.byte) c.args.j
    c.last_writer-held.result.writer =
    c.last_writer-held.ensures.writer c.args.trace.now c.args.j c.requires.past c.loop-byte.byte (omega arith)
    c.last_writer-held.ensures.more in (
      λ e. reads_at c.args.access c.requires.within c.requires.access c.requires.reads inside
          (subst (λ (b : ℕ). IsLastBelow c.args.trace.now (Writes c.args.access.place.block b) c.args.j (Some c.args.i)) at
          (subst (λ (x : Option ℕ). IsLastBelow c.args.trace.now
          (Writes c.args.access.place.block c.loop-byte.byte) c.args.j x) found last)),
      λ r. refl,
    )

pub loop-byte-preserved : goal.loop-byte-preserved
loop-byte-preserved c =
    let lasts : HaveWriter c.args.trace.now c.args.j c.args.access.place.block c.loop-byte.byte
    c.last_writer-held.result.end c.last_writer-held.result.writer =
    c.last_writer-held.ensures.writer c.args.trace.now c.args.j c.requires.past in
    record {
      low = omega (arith, c.loop-byte.invariant.low, c.last_writer-held.ensures.more);
      unread = λ b low high reads. elim (cases_lt b c.loop-byte.byte) [
        | inl less ↦ c.loop-byte.invariant.unread b low less reads
        | inr ge ↦ false≢true (sym (sym c.eq.ensures ∙ c.if-eq.false)
            ∙ some_same c.last_writer-held.result.writer c.args.i
            (writer_found c.args.i c.last_writer-held.result.writer (lasts b ge high) reads))
      ];
    }

pub returns : goal.returns
returns c = (
  λ e. absurd (false≢true e),
  λ r. absurd (no_byte_read c.args.access c.requires.access (λ k h. c.loop-byte.invariant.unread
      (c.args.access.place.byte + k) (omega arith) (omega (arith, h, c.loop-byte-test.false, c.end-end.ensures))) r),
)
