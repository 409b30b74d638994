-- Data races of the standard are races, and which races are data races.
use Rattle.std.proofs.Common.{◌≡◌, inl, inr, ℕ, ◌+◌, ◌*◌, ◌<◌, ◌≤◌, ◌&&◌, ◌||◌, not, Bool, true, false, List, Option, Some, None, refl, sym, subst, ◌∙◌, arith}
use Rattle.std.proofs.lemmas.Grind.{common_steps}
use Rattle.std.specs.Prelude.{nat_le, nat_lt}
use Rattle.std.proofs.lemmas.Bool.{false≢true, eqb-true, eq-eqb, and_parts, and_from, or_left, not_from_false, leb-true, ltb-true, lt-ltb}
use Rattle.sab_judge.specs.declared.access.Access.{Access}
use Rattle.sab_judge.specs.declared.event.Event.{Event}
use Rattle.sab_judge.specs.declared.race_kind.RaceKind.TheVariants.{Any, BothWrite}
use Rattle.sab_judge.specs.declared.readers.Readers.{Readers}
use Rattle.sab_judge.specs.Access.{covers, overlap, are_atomic_alike, conflict, both_write}
use Rattle.sab_judge.specs.Event.{event_at, both_are, some_is, do_conflict, do_both_write}
use Rattle.sab_judge.specs.HappensBefore.{in_agent, ReadsByteFrom, ReadsFrom}
use Rattle.sab_judge.specs.Race.{IsRace, Meet, IsDataRace, Counts, CountsPairs, of_none, and_of}
use Rattle.sab_judge.specs.RaceKind.{IsRaceOf}
use Rattle.sab_judge.specs.Readers.{ReadsWithin, HaveNoted}
use Rattle.sab_judge.proofs.Cases.{covered_byte}
use Rattle.sab_judge.proofs.Counting.{counts_same, counts_none, few_below, some_counted}

-- where the bytes of an access lie
record IsInside (a : Access) (block byte : ℕ) : Type 0 where
  block_is : a.place.block ≡ block
  low : a.place.byte ≤ byte
  high : byte < a.place.byte + a.len

inside : (a : Access) (block byte : ℕ) → covers a block byte ≡ true → IsInside a block byte
inside a block byte e = grind (arith, common_steps, and_parts, nat_le, nat_lt, eqb-true, leb-true, ltb-true)

-- ranges with a byte in common overlap
overlap-common : (a b : Access) (block byte : ℕ) → covers a block byte ≡ true → covers b block byte ≡ true
    → overlap a b ≡ true
overlap-common a b block byte e f = grind (arith, common_steps, inside, and_from, nat_lt, eq-eqb, lt-ltb)

conflicts : (a b : Access) → overlap a b ≡ true → a.writes ≡ true → are_atomic_alike a b ≡ false
    → conflict a b ≡ true
conflicts a b meets writes unlike = and_from (overlap a b) ((a.writes || b.writes) && not (are_atomic_alike a b)) meets
    (and_from (a.writes || b.writes) (not (are_atomic_alike a b)) (or_left a.writes b.writes writes)
    (not_from_false (are_atomic_alike a b) unlike))

writes_conflict : (x y : Option Access) → both_are both_write x y ≡ true → both_are are_atomic_alike x y ≡ false
    → both_are conflict x y ≡ true
writes_conflict x None e unlike = absurd (false≢true e)
writes_conflict None (Some b) e unlike = absurd (false≢true e)
writes_conflict (Some a) (Some b) e unlike =
    let p = and_parts (overlap a b) (a.writes && b.writes) e in
    let q = and_parts a.writes b.writes p.1 in conflicts a b p.0 q.0 unlike

read_conflicts : (x y : Option Access) (block byte : ℕ)
    → some_is (λ (a : Access). a.writes && covers a block byte) x ≡ true
    → some_is (λ (b : Access). b.reads && covers b block byte) y ≡ true
    → both_are are_atomic_alike x y ≡ false → both_are conflict x y ≡ true
read_conflicts x None block byte w r unlike = absurd (false≢true r)
read_conflicts None (Some b) block byte w r unlike = absurd (false≢true w)
read_conflicts (Some a) (Some b) block byte w r unlike =
    grind (arith, common_steps, and_parts, covers, conflicts, overlap-common)

pub data_race_races : (trace : List Event) (i j : ℕ) → IsDataRace trace i j → IsRace trace i j
data_race_races trace i j race =
    grind (arith, common_steps, in_agent, conflict, writes_conflict, event_at, read_conflicts)

not_true : (b : Bool) → not b ≡ true → b ≡ false
not_true true e = absurd (false≢true e)
not_true false e = refl

-- accesses that conflict aren't both SeqCst with equal ranges
unlike_from_conflict : (x y : Option Access) → both_are conflict x y ≡ true → both_are are_atomic_alike x y ≡ false
unlike_from_conflict x None e = absurd (false≢true e)
unlike_from_conflict None (Some b) e = absurd (false≢true e)
unlike_from_conflict (Some a) (Some b) e =
    let p = and_parts (overlap a b) ((a.writes || b.writes) && not (are_atomic_alike a b)) e in
    let q = and_parts (a.writes || b.writes) (not (are_atomic_alike a b)) p.1 in not_true (are_atomic_alike a b) q.1

-- a race whose events meet is a data race
pub meeting_race : {trace : List Event} {i j : ℕ} → IsRace trace i j → Meet trace i j → IsDataRace trace i j
meeting_race {trace} {i} {j} race meet = grind (arith, common_steps, unlike_from_conflict, event_at, conflict)

-- ---- how many there are

both_from_read : (x : Option Access) (b : Access) (block byte : ℕ) → b.writes ≡ true
    → some_is (λ (a : Access). a.writes && covers a block byte) x ≡ true → (b.reads && covers b block byte) ≡ true
    → both_are both_write x (Some b) ≡ true
both_from_read None b block byte writes w r = absurd (false≢true w)
both_from_read (Some a) b block byte writes w r =
    grind (arith, common_steps, and_parts, covers, and_from, overlap, overlap-common)

both_writes : (x : Option Access) (b : Access) → both_are both_write x (Some b) ≡ true → b.writes ≡ true
both_writes None b e = absurd (false≢true e)
both_writes (Some a) b e =
    let p = and_parts (overlap a b) (a.writes && b.writes) e in (and_parts a.writes b.writes p.1).1

-- where the later event writes, the data races are the races with those that write
pub data_races_of_write : {trace : List Event} {j count : ℕ} (b : Access) → (event_at trace j).access ≡ Some b
    → b.writes ≡ true → Counts (λ i. IsRaceOf BothWrite trace i j) j count
    → Counts (λ i. IsDataRace trace i j) j count
data_races_of_write {trace} {j} b makes writes counted = counts_same to from counted
  where
    to : (i : ℕ) → i < j → IsRaceOf BothWrite trace i j → IsDataRace trace i j
    to i lt p = meeting_race p.race
        (inl (and_parts (do_conflict (event_at trace i) (event_at trace j))
        (do_both_write (event_at trace i) (event_at trace j)) p.kind_is).1)

    both : (i : ℕ) → Meet trace i j → do_both_write (event_at trace i) (event_at trace j) ≡ true
    both i (inl e) = e
    both i (inr r) = subst (λ (y : Option Access). both_are both_write (event_at trace i).access y ≡ true) (sym makes)
        (both_from_read (event_at trace i).access b r.block r.byte writes r.reads.writes
        (subst (λ (y : Option Access). some_is (λ (a : Access). a.reads && covers a r.block r.byte) y ≡ true) makes
        r.reads.reads))

    from : (i : ℕ) → i < j → IsDataRace trace i j → IsRaceOf BothWrite trace i j
    from i lt d =
        let race = data_race_races trace i j d in
        record {
          race = race;
          kind_is = and_from (do_conflict (event_at trace i) (event_at trace j))
              (do_both_write (event_at trace i) (event_at trace j)) race.conflict (both i d.meet);
        }

-- where it only reads, they are the races with those that it reads from
pub data_races_of_read : {trace : List Event} {j count : ℕ} {readers : Readers} (b : Access)
    → (event_at trace j).access ≡ Some b → b.writes ≡ false
    → HaveNoted trace j b.place.block b.place.byte (b.place.byte + b.len) readers count → Counts (λ i. IsDataRace trace i j) j count
data_races_of_read {trace} {j} b makes reads_only h = counts_same to from h.counted
  where
    to : (i : ℕ) → i < j → IsRace trace i j × ReadsWithin trace j b.place.block b.place.byte (b.place.byte + b.len) i
        → IsDataRace trace i j
    to i lt p = meeting_race p.0
        (inr (record { block = b.place.block; byte = p.1.byte; reads = p.1.reads }))

    below : (i : ℕ) → ReadsFrom trace j i → ReadsWithin trace j b.place.block b.place.byte (b.place.byte + b.len) i
    below i r =
        let reads = subst (λ (y : Option Access). some_is (λ (a : Access). a.reads && covers a r.block r.byte) y ≡ true)
        makes r.reads.reads in
        let its = covered_byte b r.block r.byte (and_parts b.reads (covers b r.block r.byte) reads).1 in
        record {
          byte = r.byte;
          from_start = omega (arith, its.byte_is);
          before_end = omega (arith, its.byte_is, its.inside);
          reads = subst (λ (x : ℕ). ReadsByteFrom trace j i x r.byte) its.block_is r.reads;
        }

    met : (i : ℕ) → Meet trace i j → ReadsWithin trace j b.place.block b.place.byte (b.place.byte + b.len) i
    met i (inl e) = absurd (false≢true (sym reads_only ∙ both_writes (event_at trace i).access b
        (subst (λ (y : Option Access). both_are both_write (event_at trace i).access y ≡ true) makes e)))
    met i (inr r) = below i r

    from : (i : ℕ) → i < j → IsDataRace trace i j
        → IsRace trace i j × ReadsWithin trace j b.place.block b.place.byte (b.place.byte + b.len) i
    from i lt d = (data_race_races trace i j d, met i d.meet)

-- where it neither reads nor writes, there is none
pub no_data_races : {trace : List Event} {j : ℕ} → ((b : Access) → (event_at trace j).access ≡ Some b
    → (b.writes ≡ false) × (b.reads ≡ false)) → Counts (λ i. IsDataRace trace i j) j 0
no_data_races {trace} {j} idle = counts_none j (λ i lt d. go (event_at trace j).access refl i d.meet)
  where
    go : (y : Option Access) → (event_at trace j).access ≡ y → (i : ℕ) → Meet trace i j → ⊥
    go None e i (inl both) = false≢true
        (subst (λ (x : Option Access). both_are both_write (event_at trace i).access x ≡ true) e both)
    go None e i (inr r) = false≢true
        (subst (λ (x : Option Access). some_is (λ (a : Access). a.reads && covers a r.block r.byte) x ≡ true) e r.reads.reads)
    go (Some b) e i (inl both) = false≢true (sym (idle b e).0 ∙ both_writes (event_at trace i).access b
        (subst (λ (x : Option Access). both_are both_write (event_at trace i).access x ≡ true) e both))
    go (Some b) e i (inr r) = false≢true (sym (idle b e).1 ∙ (and_parts b.reads (covers b r.block r.byte)
        (subst (λ (x : Option Access). some_is (λ (a : Access). a.reads && covers a r.block r.byte) x ≡ true) e
        r.reads.reads)).0)

-- where no event races with it, there is none
pub no_race_no_data_race : {trace : List Event} {j : ℕ} → Counts (λ i. IsRaceOf Any trace i j) j 0
    → Counts (λ i. IsDataRace trace i j) j 0
no_race_no_data_race {trace} {j} none = counts_none j (λ i lt d. let race = data_race_races trace i j d in
    let some = some_counted none i lt (record { race = race; kind_is = race.conflict }) in absurd (omega (arith, some)))

-- there are fewer than pairs
pub few_pairs : {R : ℕ → ℕ → Type 0} {n total : ℕ} → CountsPairs R n total → n ≤ 1048576 → total ≤ n * 1048576
few_pairs of_none few = omega arith
few_pairs (and_of {j = j} before here) few =
    let less = few_pairs before (omega (arith, few)) in omega (arith, less, few_below here, few)
