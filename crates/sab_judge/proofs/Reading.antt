-- From which event a byte is read.
use Rattle.std.proofs.Common.{◌≡◌, ◌&&◌, ℕ, ◌+◌, ◌-◌, ◌<◌, ◌≤◌, arith, true, List, length, Option, Some, None, sym, subst, ap, ◌∙◌}
use Rattle.std.proofs.lemmas.Grind.{common_steps}
use Rattle.std.specs.Option.{option_eq}
use Rattle.std.specs.Prelude.{nat_eq}
use Rattle.std.proofs.lemmas.Bool.{false≢true, cases_order, eqb-true, eq-eqb, and_parts, and_from}
use Rattle.sab_judge.specs.declared.access.Access.{Access}
use Rattle.sab_judge.specs.declared.event.Event.{Event}
use Rattle.sab_judge.specs.Access.{covers}
use Rattle.sab_judge.specs.Event.{event_at, some_is, reads_byte}
use Rattle.sab_judge.specs.HappensBefore.{ReadsByteFrom, ReadsFrom}
use Rattle.sab_judge.specs.Sought.{Writes, IsLastBelow, IsReadFrom}
use Rattle.sab_judge.specs.Readers.{HaveWriter}
use Rattle.sab_judge.proofs.Cases.{IsByteOf, covered_byte, byte_covered}

-- a byte that nobody wrote is read from nobody
pub none_read_from : {trace : List Event} {j block byte : ℕ} → IsLastBelow trace (Writes block byte) j None
    → IsReadFrom trace j block byte None
none_read_from none m alike reads = false≢true (sym (none m reads.earlier) ∙ reads.writes)

-- a byte is read from its last writer
pub writer_is : {trace : List Event} {j block byte : ℕ} (m w : ℕ) → IsLastBelow trace (Writes block byte) j (Some w)
    → ReadsByteFrom trace j m block byte → m ≡ w
writer_is m w last reads = grind (arith, common_steps, cases_order, false≢true)

pub writer_found : {trace : List Event} {j block byte : ℕ} (m : ℕ) (from : Option ℕ)
    → IsLastBelow trace (Writes block byte) j from → ReadsByteFrom trace j m block byte → from ≡ Some m
writer_found m None none reads = absurd (false≢true (sym (none m reads.earlier) ∙ reads.writes))
writer_found m (Some w) last reads = ap Some (sym (writer_is m w last reads))

-- the last writer is who is read from
pub reads_last : {trace : List Event} {j w block byte : ℕ} → j < length trace
    → IsLastBelow trace (Writes block byte) j (Some w) → reads_byte (event_at trace j) block byte ≡ true
    → ReadsByteFrom trace j w block byte
reads_last within last reads = grind (arith, common_steps)

pub same_some : (x : Option ℕ) (i : ℕ) → option_eq nat_eq x (Some i) ≡ true → x ≡ Some i
same_some None i e = absurd (false≢true e)
same_some (Some k) i e = ap Some (eqb-true k i e)

pub some_same : (x : Option ℕ) (i : ℕ) → x ≡ Some i → option_eq nat_eq x (Some i) ≡ true
some_same x i e = grind (arith, common_steps, option_eq, nat_eq, eq-eqb)

-- a byte of an access that reads
pub reads_at : {trace : List Event} {j i k : ℕ} (a : Access) → j < length trace → (event_at trace j).access ≡ Some a
    → a.reads ≡ true → k < a.len → IsLastBelow trace (Writes a.place.block (a.place.byte + k)) j (Some i)
    → ReadsFrom trace j i
reads_at {trace} {j} {i} {k} a within is reads inside last =
    grind (arith, common_steps, reads_last, some_is, covers, and_from, byte_covered)

-- where no byte of an access is read from the event, the access isn't
pub no_byte_read : {trace : List Event} {j i : ℕ} (a : Access) → (event_at trace j).access ≡ Some a
    → ((k : ℕ) → k < a.len → ReadsByteFrom trace j i a.place.block (a.place.byte + k) → ⊥) → ReadsFrom trace j i → ⊥
no_byte_read {trace} {j} {i} a is none r = none its.offset its.inside moved
  where
    reads : (a.reads && covers a r.block r.byte) ≡ true
    reads = subst (λ (x : Option Access). some_is (λ (b : Access). b.reads && covers b r.block r.byte) x ≡ true) is
        r.reads.reads

    its : IsByteOf a r.block r.byte
    its = let both = and_parts a.reads (covers a r.block r.byte) reads in covered_byte a r.block r.byte both.1

    moved : ReadsByteFrom trace j i a.place.block (a.place.byte + its.offset)
    moved = subst (λ (x : ℕ). ReadsByteFrom trace j i a.place.block x) its.byte_is
        (subst (λ (x : ℕ). ReadsByteFrom trace j i x r.byte) its.block_is r.reads)

-- of bytes with one last writer, each is read from whom the first is read from
pub read_as_first : {trace : List Event} {j m block at next byte : ℕ} (a : Access) (writer : Option ℕ)
    → j < length trace → (event_at trace j).access ≡ Some a → a.place.byte ≤ at → HaveWriter trace j block at next writer
    → at ≤ byte → byte < next → ReadsByteFrom trace j m block byte → ReadsByteFrom trace j m block at
read_as_first {byte = byte} a None within makes low lasts from before reads =
    absurd (false≢true (sym (lasts byte from before _ reads.earlier) ∙ reads.writes))
read_as_first {trace} {j} {m} {block} {at} {next} {byte} a (Some w) within makes low lasts from before reads =
    subst (λ (x : ℕ). ReadsByteFrom trace j x block at) (sym (writer_is m w (lasts byte from before) reads))
    (reads_last within (lasts at (omega arith) (omega (arith, from, before))) read_too)
  where
    both : (a.reads && covers a block byte) ≡ true
    both = subst (λ (x : Option Access). some_is (λ (b : Access). b.reads && covers b block byte) x ≡ true) makes
        reads.reads

    read_too : reads_byte (event_at trace j) block at ≡ true
    read_too = ap (λ (x : Option Access). some_is (λ (b : Access). b.reads && covers b block at) x) makes
        ∙ (let parts = and_parts a.reads (covers a block byte) both in
        let its = covered_byte a block byte parts.1 in
        and_from a.reads (covers a block at) parts.0 (byte_covered a block at (record {
          offset = at - a.place.byte;
          inside = omega (arith, its.inside, its.byte_is, from);
          block_is = its.block_is;
          byte_is = omega (arith, low);
        })))
