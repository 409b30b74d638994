-- What is kept of all cells, with one event more, and in which cells the accesses begin that race.
use Rattle.std.proofs.Common.{◌≡◌, ◌⊎◌, inl, inr, ℕ, zero, suc, ◌+◌, ◌-◌, ◌*◌, ◌/◌, ◌^◌, ◌<◌, ◌≤◌, ◌==◌, ◌&&◌, ◌||◌, not, Bool, true, false, unwrap_or, List, [], length, slice_index_or, slice_set, Option, Some, None, refl, sym, subst, ap, ◌∙◌, arith, get_or-set_other, get_or-set_same}
use Rattle.std.proofs.lemmas.Grind.{common_steps}
use Rattle.std.specs.Prelude.{nat_lt}
use Rattle.std.specs.Int.{leading_zeros, w32}
use Rattle.std.specs.HashMap.{get}
use Rattle.std.specs.declared.vec.Vec.{Vec}
use Rattle.std.specs.declared.alloc.Global.{Global}
use Rattle.std.proofs.Math.Pow.{shr_mono}
use Rattle.std.proofs.Math.Nat.{add-mul-div_right}
use Rattle.std.proofs.lemmas.Nat.{leading_length, pow_pos}
use Rattle.std.proofs.lemmas.Bool.{false≢true, cases_lt, cases_eq, and_parts, eqb-true, eq-eqb, and_from, ltb-true}
use Rattle.sab_judge.specs.declared.access.Access.{Access}
use Rattle.sab_judge.specs.declared.cell.Cell.{Cell}
use Rattle.sab_judge.specs.declared.event.Event.{Event}
use Rattle.sab_judge.specs.declared.latest.Latest.{Latest}
use Rattle.sab_judge.specs.declared.race_kind.RaceKind.{RaceKind}
use Rattle.sab_judge.specs.Access.{overlap, conflict, are_atomic_alike}
use Rattle.sab_judge.specs.Event.{event_at, both_are}
use Rattle.sab_judge.specs.Lookups.{ByPlace, same_pair}
use Rattle.sab_judge.specs.Race.{Counts, IsRace}
use Rattle.sab_judge.specs.RaceKind.{IsRaceOf}
use Rattle.sab_judge.specs.Cell.{class_of, key_of, BeginsIn, AreLatest, IsKeptAt, AreKept, AreShort, AreUsed, BeginsBetween, IsOfClass, IsOfLowerClass}
use Rattle.sab_judge.proofs.Counting.{counts_same, counts_both}
use Rattle.sab_judge.proofs.KeptLatest.{latest_skipped, no_latest}
use Rattle.sab_judge.proofs.Lists.{some_is_some}

-- ---- one event more

-- a cell in which the event doesn't begin keeps what it has
kept_skipped : {trace : List Event} {j : ℕ} (cell : Cell) (at : Option (Vec Latest Global)) → IsKeptAt trace j cell at
    → ¬ BeginsIn trace cell j → IsKeptAt trace (j + 1) cell at
kept_skipped {trace} {j} cell None none away = λ i lt h. elim (cases_lt i j) [
  | inl less ↦ none i less h
  | inr ge ↦ (let same : i ≡ j = omega (arith, lt, ge) in away (subst (λ (x : ℕ). BeginsIn trace cell x) same h))
]
kept_skipped cell (Some list) kept away = latest_skipped kept away

pub all_skipped : (trace : List Event) (j : ℕ) (cells : ByPlace (Vec Latest Global)) → AreKept trace j cells
    → (event_at trace j).access ≡ None → AreKept trace (j + 1) cells
all_skipped trace j cells kept none cell few = kept_skipped cell (get same_pair cells (key_of cell)) (kept cell few)
    (λ h. absurd (let e : ◌≡◌ {A = Option Access} None (Some h.access) = sym none ∙ h.makes in cc))

-- an access begins in one cell of its class
pub same_cell : {trace : List Event} {j : ℕ} (c d : Cell) → BeginsIn trace c j → BeginsIn trace d j → c ≡ d
same_cell c d h k = grind (arith, common_steps, some_is_some, class_of)

-- cells of one key are one
cell_of_key : (c d : Cell) → c.class < 32 → d.class < 32 → same_pair (key_of c) (key_of d) ≡ true → c ≡ d
cell_of_key c d few also e = grind (arith, common_steps, and_parts, eqb-true)

key_of_cell : (c d : Cell) → c ≡ d → same_pair (key_of c) (key_of d) ≡ true
key_of_cell c d e = and_from (c.block == d.block) ((c.index * 32 + c.class) == (d.index * 32 + d.class))
    (eq-eqb c.block d.block (ap (λ (x : Cell). x.block) e))
    (eq-eqb (c.index * 32 + c.class) (d.index * 32 + d.class) (ap (λ (x : Cell). x.index * 32 + x.class) e))

-- the cell of the event has its new list, and all others keep theirs
pub one_renewed : (trace : List Event) (j : ℕ) (cell : Cell) (old new : ByPlace (Vec Latest Global))
    (list : Vec Latest Global) → AreKept trace j old → cell.class < 32 → BeginsIn trace cell j
    → AreLatest trace (j + 1) cell list.items
    → ((p : ℕ × ℕ) → same_pair (key_of cell) p ≡ true → get same_pair new p ≡ Some list)
    → ((p : ℕ × ℕ) → same_pair (key_of cell) p ≡ false → get same_pair new p ≡ get same_pair old p)
    → AreKept trace (j + 1) new
one_renewed trace j cell old new list kept few begins renewed here others d also =
    go (same_pair (key_of cell) (key_of d)) refl
  where
    go : (b : Bool) → same_pair (key_of cell) (key_of d) ≡ b → IsKeptAt trace (j + 1) d (get same_pair new (key_of d))
    go true e = subst (λ (x : Option (Vec Latest Global)). IsKeptAt trace (j + 1) d x) (sym (here (key_of d) e))
        (subst (λ (c : Cell). IsKeptAt trace (j + 1) c (Some list)) (cell_of_key cell d few also e) renewed)
    go false e = subst (λ (x : Option (Vec Latest Global)). IsKeptAt trace (j + 1) d x) (sym (others (key_of d) e))
        (kept_skipped d (get same_pair old (key_of d)) (kept d also)
        (λ h. false≢true (sym e ∙ key_of_cell cell d (same_cell cell d begins h))))

-- what was kept of a cell, or an empty list
pub started : {trace : List Event} {j : ℕ} (cell : Cell) (found : Option (Vec Latest Global)) (list none : Vec Latest Global)
    → IsKeptAt trace j cell found → none.items ≡ [] → list ≡ unwrap_or found none → AreLatest trace j cell list.items
started {trace} {j} cell None list none kept empty is =
    subst (λ (xs : List Latest). AreLatest trace j cell xs)
    (sym (ap (λ (x : Vec Latest Global). x.items) is ∙ empty)) (no_latest kept)
started {trace} {j} cell (Some other) list none kept empty is =
    subst (λ (x : Vec Latest Global). AreLatest trace j cell x.items) (sym is) kept

-- ---- classes

pub class_small : (len : ℕ) → class_of len < 32
class_small len = omega arith

-- an access has less bytes than two of its class's cells
pub less_than_two : (len : ℕ) → len < 2 ^ 32 → len < 2 * 2 ^ class_of len
less_than_two len small = go (leading_length 32 len small)
  where
    go : (m : ℕ) × (leading_zeros w32 len + m ≡ 32) × (len < 2 ^ m) × (2 ^ m ≤ 2 * len + 1) → len < 2 * 2 ^ class_of len
    go (zero, h, less, more) = let none : len < 1 = less in
        let is : class_of len ≡ 0 = omega (arith, h) in
        rw is (omega (arith, none))
    go (suc m, h, less, more) = let is : class_of len ≡ m = omega (arith, h) in
        rw is (omega (arith, less))

-- the classes so far, with that of one event more
pub used_more : (trace : List Event) {j class : ℕ} (used : List Bool) {a : Access} → AreUsed trace j used
    → (event_at trace j).access ≡ Some a → class ≡ class_of a.len → length used ≡ 32
    → AreUsed trace (j + 1) (slice_set used class true)
used_more trace {j} {class} used {a} before makes is count i b lt also =
    grind (
      arith,
      common_steps,
      cases_eq,
      class_of,
      slice_index_or,
      slice_set,
      get_or-set_same,
      class_small,
      get_or-set_other,
      cases_lt,
      some_is_some,
      event_at,
    )

pub used_skipped : (trace : List Event) {j : ℕ} (used : List Bool) → AreUsed trace j used
    → (event_at trace j).access ≡ None → AreUsed trace (j + 1) used
used_skipped trace {j} used before none i b lt also = grind (arith, common_steps, cases_lt, event_at)

pub short_more : (trace : List Event) {j : ℕ} {a : Access} → AreShort trace j → (event_at trace j).access ≡ Some a
    → a.len < 2 * 2 ^ class_of a.len → AreShort trace (j + 1)
short_more trace {j} {a} before makes short i b lt also =
    grind (arith, common_steps, cases_lt, some_is_some, event_at, class_of)

pub short_skipped : (trace : List Event) {j : ℕ} → AreShort trace j → (event_at trace j).access ≡ None
    → AreShort trace (j + 1)
short_skipped trace {j} before none i b lt also = grind (arith, common_steps, cases_lt, event_at)

-- ---- races

-- the races with the accesses that begin in one cell more
pub cell_added : {kind : RaceKind} {trace : List Event} {j block class low count more : ℕ} (index : ℕ) → low ≤ index
    → Counts (λ i. IsRaceOf kind trace i j × BeginsBetween trace block class low index i) j count
    → Counts (λ i. IsRaceOf kind trace i j × BeginsIn trace (record { block = block; class = class; index = index }) i) j more
    → Counts (λ i. IsRaceOf kind trace i j × BeginsBetween trace block class low (index + 1) i) j (count + more)
cell_added {kind} {trace} {j} {block} {class} {low} index above so_far its = counts_same to from (counts_both so_far its apart)
  where
    here : Cell
    here = record { block = block; class = class; index = index }

    apart : (i : ℕ) → IsRaceOf kind trace i j × BeginsBetween trace block class low index i
        → IsRaceOf kind trace i j × BeginsIn trace here i → ⊥
    apart i p q =
        let same : p.1.access ≡ q.1.access = some_is_some _ _ (sym p.1.makes ∙ q.1.makes) in
        let byte : p.1.access.place.byte / 2 ^ class ≡ index =
        ap (λ (a : Access). a.place.byte / 2 ^ class) same ∙ q.1.is_in.index in
        omega (arith, p.1.below_high, byte)

    to : (i : ℕ) → i < j
        → (IsRaceOf kind trace i j × BeginsBetween trace block class low index i)
        ⊎ (IsRaceOf kind trace i j × BeginsIn trace here i)
        → IsRaceOf kind trace i j × BeginsBetween trace block class low (index + 1) i
    to i lt (inl p) = (
      p.0,
      record {
        access = p.1.access;
        makes = p.1.makes;
        block_is = p.1.block_is;
        class_is = p.1.class_is;
        from_low = p.1.from_low;
        below_high = omega (arith, p.1.below_high);
      },
    )
    to i lt (inr q) = (
      q.0,
      record {
        access = q.1.access;
        makes = q.1.makes;
        block_is = q.1.is_in.block;
        class_is = q.1.is_in.class;
        from_low = omega (arith, q.1.is_in.index, above);
        below_high = omega (arith, q.1.is_in.index);
      },
    )

    from : (i : ℕ) → i < j → IsRaceOf kind trace i j × BeginsBetween trace block class low (index + 1) i
        → (IsRaceOf kind trace i j × BeginsBetween trace block class low index i)
        ⊎ (IsRaceOf kind trace i j × BeginsIn trace here i)
    from i lt p = elim (cases_lt (p.1.access.place.byte / 2 ^ class) index) [
      | inl less ↦ inl (
        p.0,
        record {
          access = p.1.access;
          makes = p.1.makes;
          block_is = p.1.block_is;
          class_is = p.1.class_is;
          from_low = p.1.from_low;
          below_high = less;
        },
      )
      | inr ge ↦ inr (
        p.0,
        record {
          access = p.1.access;
          makes = p.1.makes;
          is_in = record {
            block = p.1.block_is;
            class = p.1.class_is;
            index = omega (arith, p.1.below_high, ge);
          };
        },
      )
    ]

-- accesses that conflict overlap
overlap_of : (a b : Access) → conflict a b ≡ true → overlap a b ≡ true
overlap_of a b e = (and_parts (overlap a b) ((a.writes || b.writes) && not (are_atomic_alike a b)) e).0

-- where accesses that overlap begin
record AreNear (a b : Access) : Type 0 where
  block_is : a.place.block ≡ b.place.block
  before_end : a.place.byte < b.place.byte + b.len
  after_start : b.place.byte < a.place.byte + a.len

near : (a b : Access) → overlap a b ≡ true → AreNear a b
near a b e = grind (arith, common_steps, and_parts, nat_lt, eqb-true, ltb-true)

-- a race's accesses are near
race_near : {trace : List Event} {i j : ℕ} {a b : Access} → IsRace trace i j → (event_at trace i).access ≡ Some a
    → (event_at trace j).access ≡ Some b → AreNear a b
race_near {trace} {i} {j} {a} {b} race makes also = near a b (overlap_of a b
    (sym (ap (λ (u : Option Access). both_are conflict u (event_at trace j).access) makes
    ∙ ap (λ (u : Option Access). both_are conflict (Some a) u) also) ∙ race.conflict))

-- the accesses of a class that race begin less than two cells before the access, and before its end
pub all_between : {kind : RaceKind} {trace : List Event} {j class low last high count : ℕ} {access : Access}
    → AreShort trace j → (event_at trace j).access ≡ Some access → low ≡ access.place.byte / 2 ^ class - 2
    → last ≡ (access.place.byte + access.len - 1) / 2 ^ class → last + 1 ≤ high
    → Counts (λ i. IsRaceOf kind trace i j × BeginsBetween trace access.place.block class low high i) j count
    → Counts (λ i. IsRaceOf kind trace i j × IsOfClass trace class i) j count
all_between {kind} {trace} {j} {class} {low} {last} {high} {count} {access} small makes low_is last_is near_high counted =
    counts_same
    (λ i lt p. (p.0, record { access = p.1.access; makes = p.1.makes; class_is = p.1.class_is }))
    (λ i lt p. let n = race_near p.0.race p.1.makes makes in (
      p.0,
      record {
        access = p.1.access;
        makes = p.1.makes;
        block_is = n.block_is;
        class_is = p.1.class_is;
        from_low = from_low p.1.access n.after_start p.1.class_is (small i p.1.access lt p.1.makes);
        below_high = below_high p.1.access n.before_end;
      },
    )) counted
  where
    from_low : (a : Access) → access.place.byte < a.place.byte + a.len → class_of a.len ≡ class
        → a.len < 2 * 2 ^ class_of a.len
        → low ≤ a.place.byte / 2 ^ class
    from_low a after is less =
        let short : a.len < 2 * 2 ^ class =
        subst (λ (c : ℕ). a.len < 2 * 2 ^ c) is less in
        let reach : access.place.byte ≤ a.place.byte + 2 * 2 ^ class = omega (arith, after, short) in
        let cells : access.place.byte / 2 ^ class ≤ (a.place.byte + 2 * 2 ^ class) / 2 ^ class = shr_mono class reach in
        let two : (a.place.byte + 2 * 2 ^ class) / 2 ^ class ≡ a.place.byte / 2 ^ class + 2 =
        add-mul-div_right a.place.byte 2 (pow_pos class) in
        omega (arith, cells, two, low_is)

    below_high : (a : Access) → a.place.byte < access.place.byte + access.len → a.place.byte / 2 ^ class < high
    below_high a before =
        let reach : a.place.byte ≤ access.place.byte + access.len - 1 = omega (arith, before) in
        let cells : a.place.byte / 2 ^ class ≤ (access.place.byte + access.len - 1) / 2 ^ class = shr_mono class reach in
        omega (arith, cells, last_is, near_high)

-- the races with the accesses of one class more
pub class_added : {kind : RaceKind} {trace : List Event} {j count more : ℕ} (class : ℕ)
    → Counts (λ i. IsRaceOf kind trace i j × IsOfLowerClass trace class i) j count
    → Counts (λ i. IsRaceOf kind trace i j × IsOfClass trace class i) j more
    → Counts (λ i. IsRaceOf kind trace i j × IsOfLowerClass trace (class + 1) i) j (count + more)
class_added {kind} {trace} {j} class so_far its = counts_same to from (counts_both so_far its apart)
  where
    apart : (i : ℕ) → IsRaceOf kind trace i j × IsOfLowerClass trace class i → IsRaceOf kind trace i j × IsOfClass trace class i → ⊥
    apart i p q =
        let same : p.1.access ≡ q.1.access = some_is_some _ _ (sym p.1.makes ∙ q.1.makes) in
        let is : class_of p.1.access.len ≡ class_of q.1.access.len = ap (λ (a : Access). class_of a.len) same in
        omega (arith, p.1.below, is, q.1.class_is)

    to : (i : ℕ) → i < j
        → (IsRaceOf kind trace i j × IsOfLowerClass trace class i) ⊎ (IsRaceOf kind trace i j × IsOfClass trace class i)
        → IsRaceOf kind trace i j × IsOfLowerClass trace (class + 1) i
    to i lt (inl p) =
        (p.0, record { access = p.1.access; makes = p.1.makes; below = omega (arith, p.1.below) })
    to i lt (inr q) =
        (q.0, record { access = q.1.access; makes = q.1.makes; below = omega (arith, q.1.class_is) })

    from : (i : ℕ) → i < j → IsRaceOf kind trace i j × IsOfLowerClass trace (class + 1) i
        → (IsRaceOf kind trace i j × IsOfLowerClass trace class i) ⊎ (IsRaceOf kind trace i j × IsOfClass trace class i)
    from i lt p = elim (cases_lt (class_of p.1.access.len) class) [
      | inl less ↦ inl (p.0, record { access = p.1.access; makes = p.1.makes; below = less })
      | inr ge ↦ inr (
        p.0,
        record { access = p.1.access; makes = p.1.makes; class_is = omega (arith, p.1.below, ge) },
      )
    ]

-- a class that isn't noted adds none
pub class_unused : {kind : RaceKind} {trace : List Event} {j class count : ℕ} (used : List Bool) → AreUsed trace j used
    → slice_index_or used class false ≡ false
    → Counts (λ i. IsRaceOf kind trace i j × IsOfLowerClass trace class i) j count
    → Counts (λ i. IsRaceOf kind trace i j × IsOfLowerClass trace (class + 1) i) j count
class_unused {kind} {trace} {j} {class} {count} used noted unused counted = counts_same
    (λ i lt p. (p.0, record { access = p.1.access; makes = p.1.makes; below = omega (arith, p.1.below) }))
    (λ i lt p. (
      p.0,
      elim (cases_lt (class_of p.1.access.len) class) [
        | inl less ↦ record { access = p.1.access; makes = p.1.makes; below = less }
        | inr ge ↦ (let is : class_of p.1.access.len ≡ class = omega (arith, p.1.below, ge) in
            absurd (false≢true (sym unused ∙ subst (λ (c : ℕ). slice_index_or used c false ≡ true) is
            (noted i p.1.access lt p.1.makes))))
      ],
    )) counted

-- all classes are lower than the 32nd
pub all_classes : {kind : RaceKind} {trace : List Event} {j count : ℕ}
    → ((i : ℕ) → IsRace trace i j → IsOfLowerClass trace 32 i)
    → Counts (λ i. IsRaceOf kind trace i j × IsOfLowerClass trace 32 i) j count
    → Counts (λ i. IsRaceOf kind trace i j) j count
all_classes has counted = counts_same (λ i lt p. p.0) (λ i lt r. (r, has i r.race)) counted

-- an event that races makes an access
pub of_some_class : {trace : List Event} {i j : ℕ} → IsRace trace i j → IsOfLowerClass trace 32 i
of_some_class {trace} {i} {j} race =
    grind (arith, common_steps, event_at, both_are, conflict, class_small, false≢true)
