-- The last writers of the bytes of a block, with one event more.
use Rattle.std.proofs.Common.{◌≡◌, ℕ, ◌+◌, ◌-◌, ◌≤◌, ◌&&◌, true, false, List, length, Option, Some, None, Result, Ok, Err, IfOk, subst, ap, ◌∙◌, arith}
use Rattle.std.proofs.lemmas.Grind.{common_steps}
use Rattle.std.specs.Prelude.{nat_eq, nat_le, nat_lt}
use Rattle.std.specs.HashMap.{get}
use Rattle.std.proofs.lemmas.Bool.{cases_Bool, cases_lt, false≢true, eqb-true, and_left, and_from}
use Rattle.sab_judge.specs.declared.access.Access.{Access}
use Rattle.sab_judge.specs.declared.event.Event.{Event}
use Rattle.sab_judge.specs.declared.stretch.Stretch.{Stretch}
use Rattle.sab_judge.specs.declared.stretch.Stretches.{Stretches}
use Rattle.sab_judge.specs.Access.{covers}
use Rattle.sab_judge.specs.Event.{event_at, writes_byte, some_is}
use Rattle.sab_judge.specs.Sought.{Writes}
use Rattle.sab_judge.specs.Lookups.{ByBlock}
use Rattle.sab_judge.specs.Past.{AreOrdered, AreWritten, AreWriters}
use Rattle.sab_judge.specs.Readers.{HaveWriter}
use Rattle.sab_judge.specs.Stretch.{no_stretch, stretch_at, writer_of, AreInOrder, GivesUpTo, IsRewritten, AreStretches}
use Rattle.sab_judge.proofs.Cases.{covered_byte, byte_covered}
use Rattle.sab_judge.proofs.Lasts.{last_miss, last_hit}

-- what an event with this access writes
writes_its : (trace : List Event) (j : ℕ) {a : Access} (block byte : ℕ) → (event_at trace j).access ≡ Some a
    → writes_byte (event_at trace j) block byte ≡ (a.writes && covers a block byte)
writes_its trace j block byte makes =
    ap (λ (x : Option Access). some_is (λ (b : Access). b.writes && covers b block byte) x) makes

-- of an event that writes no byte of a block, nothing is noted there
block_skipped : (trace : List Event) (j block : ℕ) (kept : Option Stretches) → AreWritten trace j block kept
    → ((byte : ℕ) → writes_byte (event_at trace j) block byte ≡ false) → AreWritten trace (j + 1) block kept
block_skipped trace j block None none away = λ byte. last_miss trace (Writes block byte) j None (none byte) (away byte)
block_skipped trace j block (Some s) kept away = grind (arith, common_steps, last_miss)

-- an event that writes no byte, or no access, is no byte's last writer
pub none_more_written : (trace : List Event) (j : ℕ) (writers : ByBlock Stretches) → AreWriters trace j writers
    → ((block byte : ℕ) → writes_byte (event_at trace j) block byte ≡ false) → AreWriters trace (j + 1) writers
none_more_written trace j writers lasts none block =
    block_skipped trace j block (get nat_eq writers block) (lasts block) (λ byte. none block byte)

-- no byte is written by an event without an access, by one that doesn't write, and by one of no byte
pub no_access_written : (trace : List Event) (j : ℕ) → (event_at trace j).access ≡ None
    → (block byte : ℕ) → writes_byte (event_at trace j) block byte ≡ false
no_access_written trace j none block byte =
    ap (λ (x : Option Access). some_is (λ (b : Access). b.writes && covers b block byte) x) none

pub only_read : (trace : List Event) (j : ℕ) {a : Access} → (event_at trace j).access ≡ Some a → a.writes ≡ false
    → (block byte : ℕ) → writes_byte (event_at trace j) block byte ≡ false
only_read trace j {a} makes reads block byte =
    writes_its trace j block byte makes ∙ and_left a.writes (covers a block byte) reads

pub no_byte_written : (trace : List Event) (j : ℕ) {a : Access} → (event_at trace j).access ≡ Some a
    → a.writes ≡ true → a.len ≤ 0 → (block byte : ℕ) → writes_byte (event_at trace j) block byte ≡ false
no_byte_written trace j {a} makes writes empty block byte =
    grind (arith, common_steps, writes_its, covers, cases_Bool, covered_byte)

-- where nobody has written, one stretch says so
pub none_stretched : {trace : List Event} {n block : ℕ} (list : List Stretch) → AreInOrder list → length list ≡ 1
    → stretch_at list 0 ≡ no_stretch → AreWritten trace n block None → AreStretches trace n block list
none_stretched {trace} {n} {block} list order one is none = grind (arith, common_steps, writer_of, stretch_at)

-- the bytes of an access that writes have it as their last writer, and the others theirs
pub stretches_written : {trace : List Event} {j : ℕ} {a : Access} {old new : List Stretch}
    → (event_at trace j).access ≡ Some a → a.writes ≡ true → AreStretches trace j a.place.block old
    → IsRewritten old new a.place.byte (a.place.byte + a.len) j → AreStretches trace (j + 1) a.place.block new
stretches_written {trace} {j} {a} {old} {new} makes writes before changed =
    grind (
      arith,
      common_steps,
      cases_Bool,
      covers,
      covered_byte,
      last_hit,
      writes_its,
      and_from,
      last_miss,
      cases_lt,
      false≢true,
      byte_covered,
    )

-- its block has its new stretches, and all others keep theirs
pub block_renewed : (trace : List Event) (j : ℕ) {a : Access} (old new : ByBlock Stretches) {s : Stretches}
    → (event_at trace j).access ≡ Some a → AreWriters trace j old → AreStretches trace (j + 1) a.place.block s.list.items
    → ((p : ℕ) → nat_eq a.place.block p ≡ true → get nat_eq new p ≡ Some s)
    → ((p : ℕ) → nat_eq a.place.block p ≡ false → get nat_eq new p ≡ get nat_eq old p) → AreWriters trace (j + 1) new
block_renewed trace j {a} old new {s} makes before renewed here others block =
    grind (
      arith,
      common_steps,
      nat_eq,
      get,
      eqb-true,
      block_skipped,
      writes_its,
      covers,
      and_left,
      nat_le,
      nat_lt,
      cases_Bool,
    )

-- the writer that the stretches give is the last
pub given_writer : {trace : List Event} {n block start end : ℕ} {list : List Stretch} (writer : Option ℕ)
    → AreStretches trace n block list → GivesUpTo list start end writer → HaveWriter trace n block start end writer
given_writer writer kept gives byte low high = kept.writers byte writer (gives byte low high)

-- what is kept of events is in order
pub past_ordered : (trace : List Event) (n : ℕ) (writers : ByBlock Stretches) → AreWriters trace n writers
    → AreOrdered writers
past_ordered trace n writers kept block = grind (arith, common_steps, get, nat_eq)

-- of a block that nobody has written, new stretches say so
pub new_stretched : {E : Type 0} (made : Result Stretches E) (kept : Option Stretches) → kept ≡ None
    → IfOk made (λ (s : Stretches). AreInOrder s.list.items)
    → IfOk made (λ (s : Stretches). (length s.list.items ≡ 1) × (stretch_at s.list.items 0 ≡ no_stretch))
    → IfOk made (λ (s : Stretches). (trace : List Event) (n block : ℕ) → AreWritten trace n block kept
    → AreStretches trace n block s.list.items)
new_stretched (Ok s) kept none order unwritten = λ trace n block all. none_stretched s.list.items order unwritten.0
    unwritten.1 (subst (λ (x : Option Stretches). AreWritten trace n block x) none all)
new_stretched (Err e) kept none order unwritten = tt
