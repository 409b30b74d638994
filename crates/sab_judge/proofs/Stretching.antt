-- Stretches, and how a write changes them.
use Rattle.std.proofs.Common.{◌≡◌, ◌≢◌, ◌⊎◌, inl, inr, ℕ, zero, suc, ◌+◌, ◌-◌, ◌<◌, ◌≤◌, leb, true, false, List, length, slice_set, Option, Some, refl, sym, subst, ap, ◌∙◌, arith, leb-true, get_or-set_other, get_or-set_same, length-set}
use Rattle.std.proofs.lemmas.Grind.{common_steps}
use Rattle.std.specs.List.{insert}
use Rattle.std.specs.List.Sorted.{IsPartitionedBy, IsPartitionPoint, IsNonDecreasingBy}
use Rattle.std.proofs.lemmas.Bool.{false≢true, cases_lt, cases_eq, cases_order, le-leb}
use Rattle.std.proofs.lemmas.List.Edits.{length-insert, get_or-insert_below, get_or-insert_at, get_or-insert_above}
use Rattle.std.proofs.lemmas.List.Sorted.{IsPartitionedBy-leb, IsNonDecreasingBy-from_default}
use Rattle.sab_judge.specs.declared.stretch.Stretch.{Stretch}
use Rattle.sab_judge.specs.Stretch.{no_stretch, one_less, stretch_at, writer_of, AreInOrder, HasByte, Gives, IsSplit, IsOverwritten, IsRewritten}

-- ---- their writers

before_next : (k : ℕ) → one_less (k + 1) ≡ Some k
before_next k = subst (λ (n : ℕ). one_less n ≡ Some k) (let next : suc k ≡ k + 1 = omega arith in next) refl

-- a number that isn't 0 has one before it
pub one_before : (n : ℕ) → n ≢ 0 → Some (n - 1) ≡ one_less n
one_before zero some = absurd (some refl)
one_before (suc k) some = ap Some (let same : suc k - 1 ≡ k = omega arith in same)

-- ---- which one has a byte

rising_by : {list : List Stretch} → AreInOrder list → IsNonDecreasingBy (λ s. s.start) list
rising_by {list} order = IsNonDecreasingBy-from_default (λ s. s.start) list no_stretch (λ i j le lt. elim (cases_lt i j) [
  | inl less ↦ omega (arith, order.rising i j less lt)
  | inr ge ↦ (let same : i ≡ j = omega (arith, le, ge) in
      let equal : (stretch_at list i).start ≡ (stretch_at list j).start = ap (λ (k : ℕ). (stretch_at list k).start) same in
      omega (arith, equal))
])

pub parted : {list : List Stretch} (byte : ℕ) → AreInOrder list → IsPartitionedBy (λ (s : Stretch). leb s.start byte) list
parted {list} byte order = IsPartitionedBy-leb (λ s. s.start) list byte (rising_by order)

-- the first one begins at byte 0
pub some_begin : {list : List Stretch} (byte p : ℕ) → AreInOrder list
    → IsPartitionPoint (λ (s : Stretch). leb s.start byte ≡ true) (λ s. leb s.start byte ≡ false) list p → 1 ≤ p
some_begin {list} byte p order point =
    grind (arith, common_steps, cases_lt, false≢true, no_stretch, le-leb, stretch_at)

-- the last of those that begin at the byte or before it has it
pub last_has : {list : List Stretch} (byte p : ℕ) → AreInOrder list → p ≤ length list
    → IsPartitionPoint (λ (s : Stretch). leb s.start byte ≡ true) (λ s. leb s.start byte ≡ false) list p
    → HasByte list (p - 1) byte
last_has {list} byte p order few point =
    grind (arith, common_steps, some_begin, leb-true, no_stretch, cases_lt, stretch_at, false≢true, le-leb)

-- ---- an overwrite

pub none_overwritten : (list : List Stretch) (from event : ℕ) → IsOverwritten list list from from event
none_overwritten list from event = grind (arith, common_steps)

pub one_more_overwritten : {old list : List Stretch} {from k event : ℕ} (new : Stretch) → IsOverwritten old list from k event
    → from ≤ k → k < length list → new.start ≡ (stretch_at list k).start → new.writer ≡ event + 1
    → IsOverwritten old (slice_set list k new) from (k + 1) event
one_more_overwritten {old} {list} {from} {k} {event} new h low inside start writer =
    grind (
      arith,
      common_steps,
      length-set,
      cases_eq,
      stretch_at,
      slice_set,
      get_or-set_same,
      no_stretch,
      get_or-set_other,
    )

-- ---- a split

-- what stands in a list after an insert
inserted : (list : List Stretch) (p m : ℕ) (new : Stretch) → p ≤ length list → m < p
    → stretch_at (insert list p new) m ≡ stretch_at list m
inserted list p m new within less = get_or-insert_below list p new no_stretch m less within

behind_insert : (list : List Stretch) (p m : ℕ) (new : Stretch) → p ≤ length list → p < m
    → stretch_at (insert list p new) m ≡ stretch_at list (m - 1)
behind_insert list p m new within more =
    grind (arith, common_steps, stretch_at, insert, get_or-insert_above, no_stretch)

pub split_before : {list : List Stretch} {k byte : ℕ} (new : Stretch) → AreInOrder list → HasByte list k byte
    → (stretch_at list k).start ≢ byte → new.start ≡ byte → new.writer ≡ (stretch_at list k).writer
    → IsSplit list (insert list (k + 1) new) byte (k + 1)
split_before {list} {k} {byte} new order has other start writer = record {
  order = record {
    some = omega (arith, count);
    first = ap (λ (s : Stretch). s.start) (inserted list (k + 1) 0 new small (omega arith)) ∙ order.first;
    rising = rising;
  };
  within = omega (arith, count, has.within);
  begins = ap (λ (s : Stretch). s.start) middle ∙ start;
  same = same;
  kept = λ m lt before. (
    below m lt before,
    inserted list (k + 1) m new small (below m lt before),
  );
}
  where
    small : k + 1 ≤ length list
    small = omega (arith, has.within)

    count : length (insert list (k + 1) new) ≡ length list + 1
    count = length-insert list (k + 1) new small

    middle : stretch_at (insert list (k + 1) new) (k + 1) ≡ new
    middle = get_or-insert_at list (k + 1) new no_stretch small

    starts : (m : ℕ) → m < k + 1 → (stretch_at (insert list (k + 1) new) m).start ≡ (stretch_at list m).start
    starts m less = ap (λ (s : Stretch). s.start) (inserted list (k + 1) m new small less)

    starts_behind : (m : ℕ) → k + 1 < m
        → (stretch_at (insert list (k + 1) new) m).start ≡ (stretch_at list (m - 1)).start
    starts_behind m more = ap (λ (s : Stretch). s.start) (behind_insert list (k + 1) m new small more)

    starts_here : (m : ℕ) → m ≡ k + 1 → (stretch_at (insert list (k + 1) new) m).start ≡ byte
    starts_here m at = ap (λ (x : ℕ). (stretch_at (insert list (k + 1) new) x).start) at
        ∙ ap (λ (s : Stretch). s.start) middle ∙ start

    -- those up to the k-th begin before the byte
    early : (m : ℕ) → m < k + 1 → (stretch_at list m).start < byte
    early m less = elim (cases_eq m k) [
      | inl same ↦ (let e : (stretch_at list m).start ≡ (stretch_at list k).start =
          ap (λ (x : ℕ). (stretch_at list x).start) same in omega (arith, e, has.from_start, other))
      | inr unlike ↦ (let lt : m < k = omega (arith, less, unlike) in
          omega (arith, order.rising m k lt has.within, has.from_start))
    ]

    below : (m : ℕ) → m < length list → (stretch_at list m).start < byte → m < k + 1
    below m lt before = elim (cases_lt k m) [
      | inl more ↦ absurd (omega (arith, has.behind m more lt, before))
      | inr le ↦ omega (arith, le)
    ]

    rising : (a b : ℕ) → a < b → b < length (insert list (k + 1) new)
        → (stretch_at (insert list (k + 1) new) a).start < (stretch_at (insert list (k + 1) new) b).start
    rising a b less lt = elim (cases_order b (k + 1)) [
      | inl at ↦ omega (arith, starts_here b at, starts a (omega (arith, less, at)), early a (omega (arith, less, at)))
      | inr (inl under) ↦ omega (
        arith,
        starts a (omega (arith, less, under)),
        starts b under,
        order.rising a b less (omega (arith, under, has.within)),
      )
      | inr (inr over) ↦ elim (cases_order a (k + 1)) [
        | inl at ↦ omega (
          arith,
          starts_here a at,
          starts_behind b over,
          has.behind (b - 1) (omega (arith, over)) (omega (arith, lt, count, over)),
        )
        | inr (inl under) ↦ omega (
          arith,
          starts a under,
          starts_behind b over,
          order.rising a (b - 1) (omega (arith, under, over)) (omega (arith, lt, count, over)),
        )
        | inr (inr above) ↦ omega (
          arith,
          starts_behind a above,
          starts_behind b over,
          order.rising (a - 1) (b - 1) (omega (arith, above, less)) (omega (arith, lt, count, over)),
        )
      ]
    ]

    same : (at : ℕ) (w : Option ℕ) → Gives (insert list (k + 1) new) at w → Gives list at w
    same at w g = elim (cases_order g.place (k + 1)) [
      | inl here ↦ record {
        place = k;
        has = record {
          within = has.within;
          from_start = omega (arith, starts_here g.place here, g.has.from_start, has.from_start);
          behind = λ m from inside. (
              let e = starts_behind (m + 1) (omega (arith, from)) in
              let back : (stretch_at list (m + 1 - 1)).start ≡ (stretch_at list m).start =
              ap (λ (x : ℕ). (stretch_at list x).start) (omega arith) in
              omega (arith, e, back, g.has.behind (m + 1) (omega (arith, here, from)) (omega (arith, inside, count))));
        };
        writer_is = ap one_less (sym writer) ∙ sym (ap writer_of middle)
            ∙ ap (λ (x : ℕ). writer_of (stretch_at (insert list (k + 1) new) x)) (sym here) ∙ g.writer_is;
      }
      | inr (inl under) ↦ record {
        place = g.place;
        has = record {
          within = omega (arith, under, has.within);
          from_start = omega (arith, starts g.place under, g.has.from_start);
          behind = λ m from inside. elim (cases_lt m (k + 1)) [
            | inl less ↦ omega (arith, starts m less, g.has.behind m from (omega (arith, inside, count)))
            | inr ge ↦ (let e = starts_behind (m + 1) (omega (arith, ge)) in
                let back : (stretch_at list (m + 1 - 1)).start ≡ (stretch_at list m).start =
                ap (λ (x : ℕ). (stretch_at list x).start) (omega arith) in
                omega (arith, e, back, g.has.behind (m + 1) (omega (arith, from)) (omega (arith, inside, count))))
          ];
        };
        writer_is = sym (ap writer_of (inserted list (k + 1) g.place new small under)) ∙ g.writer_is;
      }
      | inr (inr over) ↦ record {
        place = g.place - 1;
        has = record {
          within = omega (arith, over, g.has.within, count);
          from_start = omega (arith, starts_behind g.place over, g.has.from_start);
          behind = λ m from inside. (
              let e = starts_behind (m + 1) (omega (arith, from, over)) in
              let back : (stretch_at list (m + 1 - 1)).start ≡ (stretch_at list m).start =
              ap (λ (x : ℕ). (stretch_at list x).start) (omega arith) in
              omega (arith, e, back, g.has.behind (m + 1) (omega (arith, from, over)) (omega (arith, inside, count))));
        };
        writer_is = sym (ap writer_of (behind_insert list (k + 1) g.place new small over)) ∙ g.writer_is;
      }
    ]

-- a stretch that begins at the byte is there
pub split_there : {list : List Stretch} {k byte : ℕ} → AreInOrder list → HasByte list k byte
    → (stretch_at list k).start ≡ byte → IsSplit list list byte k
split_there {list} {k} {byte} order has at = grind (arith, common_steps, cases_order, stretch_at)

-- ---- a write

-- the stretch where the write begins is before the one where it ends
pub split_apart : {old one two : List Stretch} {start end from to : ℕ} → start < end → IsSplit old one start from
    → IsSplit one two end to → from < to
split_apart {old} {one} {two} {start} {end} {from} {to} some first second =
    (second.kept from first.within (omega (arith, first.begins, some))).0

pub rewritten : {old one two new : List Stretch} {start end from to event : ℕ} → start < end → IsSplit old one start from
    → IsSplit one two end to → IsOverwritten two new from to event → IsRewritten old new start end event
rewritten {old} {one} {two} {new} {start} {end} {from} {to} {event} some first second over = record {
  order = record {
    some = omega (arith, over.count, second.order.some);
    first = over.starts 0 ∙ second.order.first;
    rising = λ k m less lt.
        omega (arith, over.starts k, over.starts m, second.order.rising k m less (omega (arith, over.count, lt)));
  };
  inside = λ byte w low high g. (
      let has = had g.has in
      let behind : from ≤ g.place = elim (cases_lt g.place from) [
        | inl less ↦ absurd (omega (arith, has.behind from less inside, at_start, low))
        | inr ge ↦ ge
      ] in
      let before : g.place < to = elim (cases_order g.place to) [
        | inl same ↦ (let e : (stretch_at two g.place).start ≡ end =
            ap (λ (x : ℕ). (stretch_at two x).start) same ∙ second.begins in absurd (omega (arith, e, has.from_start, high)))
        | inr (inl less) ↦ less
        | inr (inr more) ↦ absurd (omega (arith, second.order.rising to g.place more has.within, second.begins, has.from_start, high))
      ] in
      sym g.writer_is ∙ ap one_less (over.inside g.place behind before) ∙ before_next event);
  outside = λ byte w out g. first.same byte w (second.same byte w (let has = had g.has in record {
    place = g.place;
    has = has;
    writer_is = ap one_less (sym (over.outside g.place (away byte g.place out has))) ∙ g.writer_is;
  }));
}
  where
    began : (stretch_at one from).start < end
    began = omega (arith, first.begins, some)

    stays : (from < to) × (stretch_at two from ≡ stretch_at one from)
    stays = second.kept from first.within began

    inside : from < length two
    inside = omega (arith, stays.0, second.within)

    at_start : (stretch_at two from).start ≡ start
    at_start = ap (λ (s : Stretch). s.start) stays.1 ∙ first.begins

    had : {k byte : ℕ} → HasByte new k byte → HasByte two k byte
    had {k} {byte} has = record {
      within = omega (arith, has.within, over.count);
      from_start = omega (arith, over.starts k, has.from_start);
      behind = λ m from lt. omega (arith, over.starts m, has.behind m from (omega (arith, lt, over.count)));
    }

    away : (byte k : ℕ) → (byte < start) ⊎ (end ≤ byte) → HasByte two k byte → (k < from) ⊎ (to ≤ k)
    away byte k (inl before) has = elim (cases_order k from) [
      | inl same ↦ (let e : (stretch_at two k).start ≡ start = ap (λ (x : ℕ). (stretch_at two x).start) same ∙ at_start in
          absurd (omega (arith, e, has.from_start, before)))
      | inr (inl less) ↦ inl less
      | inr (inr more) ↦ absurd (omega (arith, second.order.rising from k more has.within, at_start, has.from_start, before))
    ]
    away byte k (inr behind) has = elim (cases_lt k to) [
      | inl less ↦ absurd (omega (arith, has.behind to less second.within, second.begins, behind))
      | inr ge ↦ inr ge
    ]
