-- Shelves, with one event more, and the races with those that begin in their cells.
use Rattle.std.proofs.Common.{◌≡◌, inl, inr, ℕ, ◌+◌, ◌-◌, ◌/◌, ◌*◌, ◌^◌, ◌<◌, ◌≤◌, ◌==◌, ltb, Bool, true, false, unwrap_or, List, [], length, slice_index, slice_index_or, Option, Some, None, Result, Ok, Err, MatchResult, refl, sym, subst, ap, ◌∙◌, arith, ltb-true, lt-ltb}
use Rattle.std.specs.HashMap.{get}
use Rattle.std.specs.List.{insert}
use Rattle.std.specs.List.Sorted.{IsPartitionedBy, IsPartitionPoint, IsNonDecreasingBy, IsBinarySearchResult}
use Rattle.std.specs.Ordering.{nat_cmp}
use Rattle.std.specs.declared.vec.Vec.{Vec}
use Rattle.std.specs.declared.alloc.Global.{Global}
use Rattle.std.proofs.Math.Pow.{shr_mono}
use Rattle.std.proofs.Math.Nat.{add-mul-div_right}
use Rattle.std.proofs.lemmas.Nat.{pow_pos}
use Rattle.std.proofs.lemmas.Bool.{false≢true, cases_lt, cases_order, and_parts, and_from, eqb-true, eq-eqb}
use Rattle.std.proofs.lemmas.List.Edits.{length-insert, get_or-insert_below, get_or-insert_at, get_or-insert_above}
use Rattle.std.proofs.lemmas.List.Sorted.{IsPartitionedBy-ltb, IsNonDecreasingBy-from_default, searched}
use Rattle.sab_judge.specs.declared.access.Access.{Access}
use Rattle.sab_judge.specs.declared.cell.Cell.{Cell}
use Rattle.sab_judge.specs.declared.event.Event.{Event}
use Rattle.sab_judge.specs.declared.latest.Latest.{Latest}
use Rattle.sab_judge.specs.declared.race_kind.RaceKind.{RaceKind}
use Rattle.sab_judge.specs.Event.{event_at}
use Rattle.sab_judge.specs.Lookups.{ByPlace, same_pair}
use Rattle.sab_judge.specs.Race.{Counts}
use Rattle.sab_judge.specs.RaceKind.{IsRaceOf}
use Rattle.sab_judge.specs.Cell.{BeginsIn, BeginsBetween, AreLatest}
use Rattle.sab_judge.specs.Shelf.{AreRising, IsListed, IsListedToo, IsCountBelow, IsShelf, IsShelvedAt, AreShelved}
use Rattle.sab_judge.proofs.Cells.{cell_added, same_cell}
use Rattle.sab_judge.proofs.Counting.{counts_none, counts_same}
use Rattle.sab_judge.proofs.Lists.{slice_get-index}

-- the cell of a block and a class with this index
abbrev pub cell_at : (block class index : ℕ) → Cell
cell_at block class index = record { block = block; class = class; index = index }

-- ---- numbers that rise

rising_by : (list : List ℕ) → AreRising list → IsNonDecreasingBy (λ x. x) list
rising_by list rising = IsNonDecreasingBy-from_default (λ x. x) list 0 (λ i j le lt. elim (cases_lt i j) [
  | inl less ↦ omega (arith, rising i j less lt)
  | inr ge ↦ (let same : i ≡ j = omega (arith, le, ge) in
      let equal : slice_index list i ≡ slice_index list j = ap (λ (k : ℕ). slice_index list k) same in
      omega (arith, equal))
])

pub numbers_parted : (list : List ℕ) (number : ℕ) → AreRising list → IsPartitionedBy (λ (x : ℕ). ltb x number) list
numbers_parted list number rising = IsPartitionedBy-ltb (λ x. x) list number (rising_by list rising)

pub count_is : {list : List ℕ} (number count : ℕ) → count ≤ length list
    → IsPartitionPoint (λ (x : ℕ). ltb x number ≡ true) (λ x. ltb x number ≡ false) list count
    → IsCountBelow list number count
count_is {list} number count few point = record {
  few = few;
  below = λ k lt. ltb-true (slice_index list k) number (point.0 k 0 (omega arith) lt);
  behind = λ k from lt. elim (cases_lt (slice_index list k) number) [
    | inl less ↦ absurd (false≢true (sym (point.1 k 0 from lt) ∙ lt-ltb (slice_index list k) number less))
    | inr ge ↦ ge
  ];
}

-- a number that is there
listed_before : {list : List ℕ} (k number : ℕ) → AreRising list → (k < length list) × (slice_index list k ≡ number)
    → IsListedToo list list number
listed_before k number rising found = record {
  rising = rising;
  listed = record { place = k; within = found.0; is = found.1 };
  others = λ other h. h;
}

-- a number that is put between those below it and those above it
listed_now : {list : List ℕ} (k number : ℕ) → AreRising list
    → (k ≤ length list) × ((m : ℕ) → m < k → slice_index list m < number)
    × ((m : ℕ) → k ≤ m → m < length list → number < slice_index list m)
    → IsListedToo list (insert list k number) number
listed_now {list} k number rising (few, below, above) = record {
  rising = λ a b less lt. elim (cases_order b k) [
    | inl at ↦ omega (arith, here b at, under a (omega (arith, less, at)), below a (omega (arith, less, at)))
    | inr (inl low) ↦ omega (
      arith,
      under a (omega (arith, less, low)),
      under b low,
      rising a b less (omega (arith, low, few)),
    )
    | inr (inr high) ↦ elim (cases_order a k) [
      | inl at ↦ omega (
        arith,
        here a at,
        over b high,
        above (b - 1) (omega (arith, high)) (omega (arith, lt, count, high)),
      )
      | inr (inl low) ↦ omega (
        arith,
        under a low,
        over b high,
        rising a (b - 1) (omega (arith, low, high)) (omega (arith, lt, count, high)),
      )
      | inr (inr top) ↦ omega (
        arith,
        over a top,
        over b high,
        rising (a - 1) (b - 1) (omega (arith, top, less)) (omega (arith, lt, count, high)),
      )
    ]
  ];
  listed = record { place = k; within = omega (arith, few, count); is = here k refl };
  others = λ other h. elim (cases_lt h.place k) [
    | inl low ↦ record { place = h.place; within = omega (arith, h.within, count); is = under h.place low ∙ h.is }
    | inr ge ↦ record {
      place = h.place + 1;
      within = omega (arith, h.within, count);
      is = get_or-insert_above list k number 0 h.place ge few ∙ h.is;
    }
  ];
}
  where
    count : length (insert list k number) ≡ length list + 1
    count = length-insert list k number few

    under : (m : ℕ) → m < k → slice_index (insert list k number) m ≡ slice_index list m
    under m low = get_or-insert_below list k number 0 m low few

    here : (m : ℕ) → m ≡ k → slice_index (insert list k number) m ≡ number
    here m at = ap (λ (x : ℕ). slice_index (insert list k number) x) at ∙ get_or-insert_at list k number 0 few

    over : (m : ℕ) → k < m → slice_index (insert list k number) m ≡ slice_index list (m - 1)
    over m high =
        let at : m ≡ (m - 1) + 1 = omega (arith, high) in
        ap (λ (x : ℕ). slice_index (insert list k number) x) at
        ∙ get_or-insert_above list k number 0 (m - 1) (omega (arith, high)) few

-- a number is there where a search finds it, or once it is put where the search ends
pub listed_by_search : (list : List ℕ) (number : ℕ) (r : Result ℕ ℕ) → AreRising list
    → IsBinarySearchResult (λ y. nat_cmp y number) list r
    → MatchResult r (λ _. IsListedToo list list number) (λ k. IsListedToo list (insert list k number) number)
listed_by_search list number (Ok k) rising is = listed_before k number rising (searched list number (Ok k) is
    (λ i j le lt. rising_by list rising i j 0 le lt))
listed_by_search list number (Err k) rising is = listed_now k number rising (searched list number (Err k) is
    (λ i j le lt. rising_by list rising i j 0 le lt))

-- ---- one event more

-- an event before the j-th begins in the cell
record BeganEarlier (trace : List Event) (cell : Cell) (j : ℕ) : Type 0 where
  earlier : ℕ
  before : earlier < j
  begins : BeginsIn trace cell earlier

-- the event begins in no cell in which none has begun
stays : (trace : List Event) (j block class : ℕ) (kept : Option (Vec ℕ Global)) → IsShelvedAt trace j block class kept
    → ((index : ℕ) → BeginsIn trace (cell_at block class index) j → BeganEarlier trace (cell_at block class index) j)
    → IsShelvedAt trace (j + 1) block class kept
stays trace j block class None none known = λ i index lt h. elim (cases_lt i j) [
  | inl less ↦ none i index less h
  | inr ge ↦ (let same : i ≡ j = omega (arith, lt, ge) in
      let e = known index (subst (λ (x : ℕ). BeginsIn trace (cell_at block class index) x) same h) in
      none e.earlier index e.before e.begins)
]
stays trace j block class (Some list) kept known = record {
  rising = kept.rising;
  each = λ i index lt h. elim (cases_lt i j) [
    | inl less ↦ kept.each i index less h
    | inr ge ↦ (let same : i ≡ j = omega (arith, lt, ge) in
        let e = known index (subst (λ (x : ℕ). BeginsIn trace (cell_at block class index) x) same h) in
        kept.each e.earlier index e.before e.begins)
  ];
}

-- an event without an access
pub none_shelved : (trace : List Event) (j : ℕ) (shelves : ByPlace (Vec ℕ Global)) → AreShelved trace j shelves
    → (event_at trace j).access ≡ None → AreShelved trace (j + 1) shelves
none_shelved trace j shelves kept none block class = stays trace j block class (get same_pair shelves (block, class))
    (kept block class) (λ index h. absurd (let e : ◌≡◌ {A = Option Access} None (Some h.access) = sym none ∙ h.makes in cc))

-- an event that begins in a cell of which there is a last event
pub known_shelved : (trace : List Event) (j : ℕ) (shelves : ByPlace (Vec ℕ Global)) {cell : Cell} (list : List Latest)
    → AreShelved trace j shelves → BeginsIn trace cell j → AreLatest trace j cell list → 0 < length list
    → AreShelved trace (j + 1) shelves
known_shelved trace j shelves {cell} list kept begins lasts some block class =
    stays trace j block class (get same_pair shelves (block, class)) (kept block class) known
  where
    known : (index : ℕ) → BeginsIn trace (cell_at block class index) j → BeganEarlier trace (cell_at block class index) j
    known index h =
        let last = lasts.each 0 (slice_index_or list 0 (record { agent = 0; position = 0 }))
        (slice_get-index list 0 (record { agent = 0; position = 0 }) some) in
        record {
          earlier = (slice_index_or list 0 (record { agent = 0; position = 0 })).position;
          before = last.within;
          begins = subst (λ (c : Cell). BeginsIn trace c
              (slice_index_or list 0 (record { agent = 0; position = 0 })).position)
              (same_cell cell (cell_at block class index) begins h) last.begins;
        }

-- what was on the shelf, or nothing
pub shelf_started : {trace : List Event} {j block class : ℕ} (found : Option (Vec ℕ Global)) (list none : Vec ℕ Global)
    → IsShelvedAt trace j block class found → none.items ≡ [] → list ≡ unwrap_or found none
    → IsShelf trace j block class list.items
shelf_started {trace} {j} {block} {class} None list none kept empty is =
    subst (λ (xs : List ℕ). IsShelf trace j block class xs)
    (sym (ap (λ (x : Vec ℕ Global). x.items) is ∙ empty)) (record {
      rising = λ k m less lt. absurd (omega (arith, lt));
      each = λ i index lt h. absurd (kept i index lt h);
    })
shelf_started {trace} {j} {block} {class} (Some other) list none kept empty is =
    subst (λ (x : Vec ℕ Global). IsShelf trace j block class x.items) (sym is) kept

-- the shelf with the cell of the event
shelf_more : {trace : List Event} {j : ℕ} {cell : Cell} {old new : List ℕ} → IsShelf trace j cell.block cell.class old
    → BeginsIn trace cell j → IsListedToo old new cell.index → IsShelf trace (j + 1) cell.block cell.class new
shelf_more {trace} {j} {cell} {old} {new} kept begins listed = record {
  rising = listed.rising;
  each = λ i index lt h. elim (cases_lt i j) [
    | inl less ↦ listed.others index (kept.each i index less h)
    | inr ge ↦ (let same : i ≡ j = omega (arith, lt, ge) in
        let its = subst (λ (x : ℕ). BeginsIn trace (cell_at cell.block cell.class index) x) same h in
        subst (λ (c : Cell). IsListed new c.index) (same_cell cell (cell_at cell.block cell.class index) begins its)
        listed.listed)
  ];
}

-- its shelf has the cell of the event, and all others stay
pub cell_shelved : (trace : List Event) (j : ℕ) (cell : Cell) (old new : ByPlace (Vec ℕ Global)) (before : List ℕ)
    (list : Vec ℕ Global) → AreShelved trace j old → BeginsIn trace cell j → IsShelf trace j cell.block cell.class before
    → IsListedToo before list.items cell.index
    → ((p : ℕ × ℕ) → same_pair (cell.block, cell.class) p ≡ true → get same_pair new p ≡ Some list)
    → ((p : ℕ × ℕ) → same_pair (cell.block, cell.class) p ≡ false → get same_pair new p ≡ get same_pair old p)
    → AreShelved trace (j + 1) new
cell_shelved trace j cell old new before list kept begins shelf listed here others block class =
    go (same_pair (cell.block, cell.class) (block, class)) refl
  where
    go : (b : Bool) → same_pair (cell.block, cell.class) (block, class) ≡ b
        → IsShelvedAt trace (j + 1) block class (get same_pair new (block, class))
    go true e =
        let both = and_parts (cell.block == block) (cell.class == class) e in
        subst (λ (x : Option (Vec ℕ Global)). IsShelvedAt trace (j + 1) block class x) (sym (here (block, class) e))
        (subst (λ (b : ℕ). IsShelf trace (j + 1) b class list.items) (eqb-true cell.block block both.0)
        (subst (λ (c : ℕ). IsShelf trace (j + 1) cell.block c list.items) (eqb-true cell.class class both.1)
        (shelf_more shelf begins listed)))
    go false e = subst (λ (x : Option (Vec ℕ Global)). IsShelvedAt trace (j + 1) block class x)
        (sym (others (block, class) e)) (stays trace j block class (get same_pair old (block, class)) (kept block class)
        (λ index h. absurd (false≢true (sym e ∙ and_from (cell.block == block) (cell.class == class)
        (eq-eqb cell.block block (ap (λ (c : Cell). c.block) (same_cell cell (cell_at block class index) begins h)))
        (eq-eqb cell.class class (ap (λ (c : Cell). c.class) (same_cell cell (cell_at block class index) begins h)))))))

-- ---- races

-- so many race of those that begin in the first k cells of a shelf that aren't below a cell; so the count is that up to any
-- cell that is behind those and not behind the next
abbrev pub AreCountedOn : RaceKind → List Event → ℕ → ℕ → ℕ → ℕ → List ℕ → ℕ → ℕ → Type 0
AreCountedOn kind trace j block class low list k count = (high : ℕ)
    → ((p : ℕ) → p < k → slice_index list p < high)
    → ((p : ℕ) → k ≤ p → p < length list → high ≤ slice_index list p)
    → Counts (λ i. IsRaceOf kind trace i j × BeginsBetween trace block class low high i) j count

-- an event begins in a cell that is listed
its_cell : {trace : List Event} {j block class low high i : ℕ} {list : List ℕ} → IsShelf trace j block class list
    → i < j → (h : BeginsBetween trace block class low high i) → IsListed list (h.access.place.byte / 2 ^ class)
its_cell {trace} {j} {block} {class} {i = i} shelf lt h = shelf.each i (h.access.place.byte / 2 ^ class) lt
    (record { access = h.access; makes = h.makes; is_in = record { block = h.block_is; class = h.class_is; index = refl } })

pub none_on : {kind : RaceKind} {trace : List Event} {j block class low from : ℕ} {list : List ℕ}
    → IsShelf trace j block class list → IsCountBelow list low from
    → AreCountedOn kind trace j block class low list from 0
none_on {kind} {trace} {j} {block} {class} {low} {from} {list} shelf first high below behind =
    counts_none j (λ i lt p. let its = its_cell shelf lt p.1 in elim (cases_lt its.place from) [
      | inl less ↦ absurd (omega (arith, first.below its.place less, its.is, p.1.from_low))
      | inr ge ↦ absurd (omega (arith, behind its.place ge its.within, its.is, p.1.below_high))
    ])

-- the races with the accesses that begin in one listed cell more
pub cell_on : {kind : RaceKind} {trace : List Event} {j block class low count more : ℕ} {list : List ℕ} (k : ℕ)
    → IsShelf trace j block class list → k < length list → low ≤ slice_index list k
    → AreCountedOn kind trace j block class low list k count
    → Counts (λ i. IsRaceOf kind trace i j × BeginsIn trace (cell_at block class (slice_index list k)) i) j more
    → Counts (λ i. IsRaceOf kind trace i j × BeginsBetween trace block class low (slice_index list k + 1) i) j (count + more)
cell_on {list = list} k shelf within above counted its = cell_added (slice_index list k) above
    (counted (slice_index list k) (λ p less. shelf.rising p k less within) (λ p from lt. elim (cases_lt k p) [
      | inl less ↦ (let rises = shelf.rising k p less lt in omega (arith, rises))
      | inr ge ↦ (let same : slice_index list k ≡ slice_index list p =
          ap (λ (x : ℕ). slice_index list x) (let at : k ≡ p = omega (arith, from, ge) in at) in omega (arith, same))
    ])) its

pub one_more_on : {kind : RaceKind} {trace : List Event} {j block class low count more : ℕ} {list : List ℕ} (k : ℕ)
    → IsShelf trace j block class list → k < length list → low ≤ slice_index list k
    → AreCountedOn kind trace j block class low list k count
    → Counts (λ i. IsRaceOf kind trace i j × BeginsIn trace (cell_at block class (slice_index list k)) i) j more
    → AreCountedOn kind trace j block class low list (k + 1) (count + more)
one_more_on {kind} {trace} {j} {block} {class} {low} {count} {more} {list} k shelf within above counted its high below behind =
    counts_same
    (λ i lt p. (
      p.0,
      record {
        access = p.1.access;
        makes = p.1.makes;
        block_is = p.1.block_is;
        class_is = p.1.class_is;
        from_low = p.1.from_low;
        below_high = omega (arith, p.1.below_high, below k (omega arith));
      },
    ))
    (λ i lt p. (
      p.0,
      record {
        access = p.1.access;
        makes = p.1.makes;
        block_is = p.1.block_is;
        class_is = p.1.class_is;
        from_low = p.1.from_low;
        below_high = no_further i lt p.1;
      },
    )) (cell_on k shelf within above counted its)
  where
    no_further : (i : ℕ) → i < j → (h : BeginsBetween trace block class low high i)
        → h.access.place.byte / 2 ^ class < slice_index list k + 1
    no_further i lt h =
        let its = its_cell shelf lt h in elim (cases_order its.place k) [
          | inl same ↦ (let at : slice_index list its.place ≡ slice_index list k =
              ap (λ (x : ℕ). slice_index list x) same in omega (arith, at, its.is))
          | inr (inl less) ↦ omega (arith, shelf.rising its.place k less within, its.is)
          | inr (inr more) ↦ absurd (omega (arith, behind its.place (omega (arith, more)) its.within, its.is, h.below_high))
        ]

-- where no access begins in a cell of the block and class, none races that does
pub none_between : {kind : RaceKind} {trace : List Event} {j block class low high : ℕ}
    → IsShelvedAt trace j block class None
    → Counts (λ i. IsRaceOf kind trace i j × BeginsBetween trace block class low high i) j 0
none_between {kind} {trace} {j} {block} {class} none = counts_none j (λ i lt p. none i (p.1.access.place.byte / 2 ^ class) lt
    (record {
      access = p.1.access;
      makes = p.1.makes;
      is_in = record { block = p.1.block_is; class = p.1.class_is; index = refl };
    }))

-- the cell two before that of the first byte isn't behind that of the last byte
pub forward : (class start len : ℕ) → start / 2 ^ class - 2 ≤ (start + len - 1) / 2 ^ class
forward class start len =
    let positive : 0 < 2 ^ class = pow_pos class in
    let reach : start ≤ (start + len - 1) + 2 * 2 ^ class = omega (arith, positive) in
    let cells : start / 2 ^ class ≤ ((start + len - 1) + 2 * 2 ^ class) / 2 ^ class = shr_mono class reach in
    let two : ((start + len - 1) + 2 * 2 ^ class) / 2 ^ class ≡ (start + len - 1) / 2 ^ class + 2 =
    add-mul-div_right (start + len - 1) 2 (pow_pos class) in
    omega (arith, cells, two)
