-- From which events one reads, byte by byte, and how many of them race with it.
use Rattle.std.proofs.Common.{◌≡◌, ◌≢◌, ◌⊎◌, ◌↔◌, inl, inr, ℕ, ◌+◌, ◌-◌, ◌<◌, ◌≤◌, Bool, true, false, List, length, slice_index, slice_set, Option, Some, None, refl, sym, subst, ap, ◌∙◌, arith, get_or-set_other, get_or-set_same, length-set}
use Rattle.std.proofs.lemmas.Grind.{common_steps}
use Rattle.std.proofs.lemmas.Bool.{false≢true, cases_lt, cases_eq, and_from}
use Rattle.sab_judge.specs.declared.event.Event.{Event}
use Rattle.sab_judge.specs.declared.readers.Readers.{Readers}
use Rattle.sab_judge.specs.declared.access.Access.{Access}
use Rattle.sab_judge.specs.Access.{covers}
use Rattle.sab_judge.specs.Event.{event_at, reads_byte, some_is}
use Rattle.sab_judge.specs.Race.{Counts, one_more, IsRace}
use Rattle.sab_judge.specs.Readers.{IsNoted, AreNoted, ReadsWithin, HaveNoted, HaveWriter, Notes}
use Rattle.sab_judge.specs.Sought.{Sought, Writes, IsLastBelow}
use Rattle.std.specs.Option.{ForSome}
use Rattle.sab_judge.proofs.Cases.{byte_covered}
use Rattle.sab_judge.proofs.Counting.{counts_none, counts_longer, counts_same, counts_both}
use Rattle.sab_judge.proofs.Reading.{writer_is, reads_last}

pub none_noted : (trace : List Event) {j block start end : ℕ} (readers : Readers) → AreNoted (length trace) j readers
    → end ≤ start → HaveNoted trace j block start end readers 0
none_noted trace {j} readers h empty = grind (arith, common_steps, counts_none)

-- the one number that it is
counts_at : (w j : ℕ) → w < j → Counts (λ i. i ≡ w) j 1
counts_at w j lt =
    counts_longer j (one_more {n = w} (counts_none w (λ i less e. absurd (omega (arith, less, e)))) refl)
    (omega (arith, lt)) (λ k from below e. absurd (omega (arith, from, e)))

wider : {trace : List Event} {j block start at next i : ℕ} → at < next → ReadsWithin trace j block start at i
    → ReadsWithin trace j block start next i
wider lt r =
    record { byte = r.byte; from_start = r.from_start; before_end = omega (arith, r.before_end, lt); reads = r.reads }

-- a byte that is read is one of those before, or it is read from the one writer of those behind
narrow : {trace : List Event} {j block start at next : ℕ} (w i : ℕ) → HaveWriter trace j block at next (Some w)
    → ReadsWithin trace j block start next i → ReadsWithin trace j block start at i ⊎ (i ≡ w)
narrow {trace} {j} {block} {start} {at} w i lasts r = elim (cases_lt r.byte at) [
  | inl less ↦ inl (record { byte = r.byte; from_start = r.from_start; before_end = less; reads = r.reads })
  | inr ge ↦ inr (writer_is i w (lasts r.byte ge r.before_end) r.reads)
]

-- nobody reads from bytes that nobody wrote
unread : {trace : List Event} {j block start at next i : ℕ} → HaveWriter trace j block at next None
    → ReadsWithin trace j block start next i → ReadsWithin trace j block start at i
unread {trace} {j} {block} {start} {at} {next} {i} lasts r = grind (arith, common_steps, cases_lt, false≢true)

-- bytes that nobody wrote add none
pub none_more : {trace : List Event} {j block start at next count : ℕ} (readers : Readers) → at < next
    → HaveWriter trace j block at next None
    → HaveNoted trace j block start at readers count → HaveNoted trace j block start next readers count
none_more {trace} {j} {block} {start} {at} {next} readers lt lasts h =
    grind (arith, common_steps, wider, unread, counts_same)

-- bytes with one writer note it, and it is counted if it is new and races
record HasMarked (trace : List Event) (j block start next w : ℕ) (new : Readers) : Type 0 where
  all : length new.last.items ≡ length trace
  before : (i : ℕ) → slice_index new.last.items i ≤ j + 1
  noted : (i : ℕ) → IsNoted new j i ↔ ReadsWithin trace j block start next i

marked : {trace : List Event} {j block start at next count : ℕ} (w : ℕ) (old new : Readers) → j < length trace → start ≤ at → at < next
    → reads_byte (event_at trace j) block at ≡ true
    → HaveWriter trace j block at next (Some w)
    → HaveNoted trace j block start at old count → new.last.items ≡ slice_set old.last.items w (j + 1)
    → HasMarked trace j block start next w new
marked {trace} {j} {block} {start} {at} {next} w old new within from_start lt reads lasts h set = record {
  all = ap length set ∙ length-set old.last.items w (j + 1) ∙ h.all;
  before = λ i. elim (cases_eq i w) [
    | inl same ↦ omega (arith, here i same)
    | inr other ↦ omega (arith, there i other, h.before i)
  ];
  noted = λ i. elim (cases_eq i w) [
    | inl same ↦ (
      λ e. subst (λ (x : ℕ). ReadsWithin trace j block start next x) (sym same) read,
      λ r. here i same,
    )
    | inr other ↦ (
      λ e. wider lt ((h.noted i).0 (sym (there i other) ∙ e)),
      λ r. elim (narrow w i lasts r) [
        | inl before ↦ there i other ∙ (h.noted i).1 before
        | inr same ↦ absurd (other same)
      ],
    )
  ];
}
  where
    last : IsLastBelow trace (Writes block at) j (Some w)
    last = lasts at (omega arith) lt

    inside : w < length old.last.items
    inside = omega (arith, last.0, within, h.all)

    here : (i : ℕ) → i ≡ w → slice_index new.last.items i ≡ j + 1
    here i same = ap (λ (xs : List ℕ). slice_index xs i) set
        ∙ ap (λ (x : ℕ). slice_index (slice_set old.last.items w (j + 1)) x) same
        ∙ get_or-set_same old.last.items w (j + 1) 0 inside

    there : (i : ℕ) → i ≢ w → slice_index new.last.items i ≡ slice_index old.last.items i
    there i other = ap (λ (xs : List ℕ). slice_index xs i) set
        ∙ get_or-set_other old.last.items w i (j + 1) 0 other

    read : ReadsWithin trace j block start next w
    read = record { byte = at; from_start = from_start; before_end = lt; reads = reads_last within last reads }

pub one_more_noted : {trace : List Event} {j block start at next count : ℕ} (writer : Option ℕ) (old new : Readers)
    (is_more : Bool)
    → j < length trace → start ≤ at → at < next → reads_byte (event_at trace j) block at ≡ true
    → HaveWriter trace j block at next writer
    → HaveNoted trace j block start at old count → Notes trace j writer old new is_more → is_more ≡ true
    → HaveNoted trace j block start next new (count + 1)
one_more_noted None old new is_more within from_start lt reads lasts h notes is = absurd (false≢true (sym notes.1 ∙ is))
one_more_noted {trace} {j} {block} {start} {at} {next} {count} (Some w) old new is_more within from_start lt reads lasts h notes is =
    let m = marked w old new within from_start lt reads lasts h notes.0 in
    record {
      all = m.all;
      before = m.before;
      noted = m.noted;
      counted = counts_same to from (counts_both h.counted (counts_at w j (lasts at (omega arith) lt).0) apart);
    }
  where
    is_new : (¬ IsNoted old j w) × IsRace trace w j
    is_new = notes.1.0 is

    apart : (i : ℕ) → IsRace trace i j × ReadsWithin trace j block start at i → i ≡ w → ⊥
    apart i p same = is_new.0 ((h.noted w).1 (subst (λ (x : ℕ). ReadsWithin trace j block start at x) same p.1))

    to : (i : ℕ) → i < j → (IsRace trace i j × ReadsWithin trace j block start at i) ⊎ (i ≡ w)
        → IsRace trace i j × ReadsWithin trace j block start next i
    to i less (inl p) = (p.0, wider lt p.1)
    to i less (inr same) = (
      subst (λ (x : ℕ). IsRace trace x j) (sym same) is_new.1,
      subst (λ (x : ℕ). ReadsWithin trace j block start next x) (sym same)
          (record { byte = at; from_start = from_start; before_end = lt; reads = reads_last within (lasts at (omega arith) lt) reads }),
    )

    from : (i : ℕ) → i < j → IsRace trace i j × ReadsWithin trace j block start next i
        → (IsRace trace i j × ReadsWithin trace j block start at i) ⊎ (i ≡ w)
    from i less p = elim (narrow w i lasts p.1) [
      | inl before ↦ inl (p.0, before)
      | inr same ↦ inr same
    ]

pub no_more_noted : {trace : List Event} {j block start at next count : ℕ} (writer : Option ℕ) (old new : Readers)
    (is_more : Bool)
    → j < length trace → start ≤ at → at < next → reads_byte (event_at trace j) block at ≡ true
    → HaveWriter trace j block at next writer
    → HaveNoted trace j block start at old count → Notes trace j writer old new is_more → is_more ≡ false
    → HaveNoted trace j block start next new count
no_more_noted {trace} {j} {block} {start} {at} {next} {count} None old new is_more within from_start lt reads lasts h notes is =
    subst (λ (r : Readers). HaveNoted trace j block start next r count) (sym notes.0) (none_more old lt lasts h)
no_more_noted {trace} {j} {block} {start} {at} {next} {count} (Some w) old new is_more within from_start lt reads lasts h notes is =
    let m = marked w old new within from_start lt reads lasts h notes.0 in
    record {
      all = m.all;
      before = m.before;
      noted = m.noted;
      counted = counts_same (λ i less p. (p.0, wider lt p.1)) from h.counted;
    }
  where
    from : (i : ℕ) → i < j → IsRace trace i j × ReadsWithin trace j block start next i
        → IsRace trace i j × ReadsWithin trace j block start at i
    from i less p = elim (narrow w i lasts p.1) [
      | inl before ↦ (p.0, before)
      | inr same ↦ elim (cases_eq (slice_index old.last.items w) (j + 1)) [
        | inl noted ↦ (p.0, subst (λ (x : ℕ). ReadsWithin trace j block start at x) (sym same) ((h.noted w).0 noted))
        | inr other ↦ absurd (false≢true (sym is
            ∙ notes.1.1 (other, subst (λ (x : ℕ). IsRace trace x j) same p.0)))
      ]
    ]

-- the last one is an earlier one
pub last_below : (trace : List Event) (sought : Sought) (j : ℕ) (from : Option ℕ) → IsLastBelow trace sought j from
    → ForSome from (λ m. m < j)
last_below trace sought j None h m e = absurd (cc)
last_below trace sought j (Some w) h m e = subst (λ (x : ℕ). x < j) (let same : w ≡ m = cc in same) h.0

-- a byte of an access that reads is read
reads_its_byte : (trace : List Event) (j : ℕ) (a : Access) → (event_at trace j).access ≡ Some a → a.reads ≡ true
    → (k : ℕ) → k < a.len → reads_byte (event_at trace j) a.place.block (a.place.byte + k) ≡ true
reads_its_byte trace j a makes reads k lt = grind (arith, common_steps, some_is, covers, and_from, byte_covered)

pub reads_between : (trace : List Event) (j : ℕ) (a : Access) → (event_at trace j).access ≡ Some a → a.reads ≡ true
    → (byte : ℕ) → a.place.byte ≤ byte → byte < a.place.byte + a.len
    → reads_byte (event_at trace j) a.place.block byte ≡ true
reads_between trace j a makes reads byte low high = grind (arith, common_steps, reads_byte, event_at, reads_its_byte)
