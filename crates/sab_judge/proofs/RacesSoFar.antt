-- What is reported about races, one more at a time.
use Rattle.std.proofs.Common.{◌≡◌, ◌⊎◌, inl, inr, ℕ, ◌+◌, ◌^◌, ◌<◌, ◌≤◌, List, [], ◌∷◌, ◌++◌, length, sym, subst, ap, ◌∙◌, arith, length-append}
use Rattle.std.proofs.lemmas.Grind.{common_steps}
use Rattle.std.proofs.Math.ListN.{get_or-append}
use Rattle.std.proofs.Math.Seq.{get_or-append_seam}
use Rattle.std.proofs.lemmas.Bool.{cases_lt}
use Rattle.std.proofs.lemmas.List.Elements.{All-push}
use Rattle.sab_judge.specs.declared.event.Event.{Event}
use Rattle.sab_judge.specs.declared.race.Race.{Race}
use Rattle.sab_judge.specs.Race.{IsRace, Counts, below_none, one_more, no_more, CountsDataRaces, of_none, and_of, ComesBefore}
use Rattle.sab_judge.specs.Verdict.{race_at, IsReported, InOrder, IsAmong, ComesAfterAll, IsVerdict}
use Rattle.sab_judge.specs.RacesSoFar.{HasReported}
use Rattle.sab_judge.proofs.Counting.{few_below, some_counted}

-- ---- what comes before

-- who comes before the next pair comes before this one, or is this one
before_next : {k l i j : ℕ} → ComesBefore k l (i + 1) j → ComesBefore k l i j ⊎ ((k ≡ i) × (l ≡ j))
before_next {k} {l} {i} {j} (inl lt) = inl (inl lt)
before_next {k} {l} {i} {j} (inr (same, lt)) = grind (arith, common_steps, cases_lt)

weaker : {k l i j : ℕ} → ComesBefore k l i j → ComesBefore k l (i + 1) j
weaker (inl lt) = inl lt
weaker {k} {l} {i} {j} (inr (same, lt)) = inr (same, omega (arith, lt))

passed_more : (reported : List Race) {i j : ℕ} → ComesAfterAll reported i j → ComesAfterAll reported (i + 1) j
passed_more reported passed k h = weaker (passed k h)

-- ---- races that are listed

among_more : {reported : List Race} {k l : ℕ} (r : Race) → IsAmong reported k l → IsAmong (reported ++ r ∷ []) k l
among_more {reported} {k} {l} r a = grind (arith, common_steps, length-append, race_at, get_or-append)

among_last : (reported : List Race) (r : Race) → IsAmong (reported ++ r ∷ []) r.first r.second
among_last reported r = grind (arith, common_steps, length, length-append, get_or-append_seam)

pub nothing_reported : (trace : List Event) (most : ℕ) (reported : List Race) → reported ≡ [] → HasReported trace 0 0 most reported 0
nothing_reported trace most reported e = grind (arith, common_steps, of_none, below_none)

-- two events that don't race
pub passed_over : {trace : List Event} {j i most : ℕ} {reported : List Race} {rest : ℕ} → HasReported trace j i most reported rest
    → ¬ IsRace trace i j → HasReported trace j (i + 1) most reported rest
passed_over {trace} {j} {i} {most} {reported} {rest} t apart = record {
  races = t.races;
  order = t.order;
  passed = passed_more reported t.passed;
  each = λ k l b race. elim (before_next b) [
    | inl earlier ↦ t.each k l earlier race
    | inr (k_is, l_is) ↦ absurd (apart (subst (λ (x : ℕ). IsRace trace x j) k_is
        (subst (λ (x : ℕ). IsRace trace k x) l_is race)))
  ];
  before = t.before;
  count = t.count;
  here = t.here;
  count_here = no_more t.count_here apart;
  sum = t.sum;
  few = t.few;
  full = t.full;
  small = omega (arith, t.small);
}

-- a race that is left
pub left_one : {trace : List Event} {j i most : ℕ} {reported : List Race} {rest : ℕ} → HasReported trace j i most reported rest
    → most ≤ length reported → IsRace trace i j → HasReported trace j (i + 1) most reported (rest + 1)
left_one {trace} {j} {i} {most} {reported} {rest} t enough race = record {
  races = t.races;
  order = t.order;
  passed = passed_more reported t.passed;
  each = λ k l b r. elim (before_next b) [
    | inl earlier ↦ elim (t.each k l earlier r) [
      | inl among ↦ inl among
      | inr left ↦ inr (record { after = left.after; some = omega arith })
    ]
    | inr (k_is, l_is) ↦ inr (record {
      after = subst (λ (x : ℕ). ComesAfterAll reported x l) (sym k_is)
          (subst (λ (x : ℕ). ComesAfterAll reported i x) (sym l_is) t.passed);
      some = omega arith;
    })
  ];
  before = t.before;
  count = t.count;
  here = t.here + 1;
  count_here = one_more t.count_here race;
  sum = omega (arith, t.sum);
  few = t.few;
  full = λ h. omega (arith, t.few, enough);
  small = omega (arith, t.small);
}

-- a race that is listed
pub reported_one : {trace : List Event} {j i most : ℕ} {reported : List Race} {rest : ℕ} (r : Race)
    → HasReported trace j i most reported rest → length reported < most → IsReported trace r → r.first ≡ i → r.second ≡ j
    → HasReported trace j (i + 1) most (reported ++ r ∷ []) rest
reported_one {trace} {j} {i} {most} {reported} {rest} r t fewer is_reported first_is second_is = record {
  races = All-push (IsReported trace) reported r t.races is_reported;
  order = order;
  passed = passed;
  each = λ k l b race. elim (before_next b) [
    | inl earlier ↦ elim (t.each k l earlier race) [
      | inl among ↦ inl (among_more r among)
      | inr left ↦ absurd (omega (arith, none_left, left.some))
    ]
    | inr (k_is, l_is) ↦ inl (subst (λ (x : ℕ). IsAmong (reported ++ r ∷ []) x l) (first_is ∙ sym k_is)
        (subst (λ (x : ℕ). IsAmong (reported ++ r ∷ []) r.first x) (second_is ∙ sym l_is) (among_last reported r)))
  ];
  before = t.before;
  count = t.count;
  here = t.here + 1;
  count_here = one_more t.count_here race;
  sum = omega (arith, t.sum, len);
  few = omega (arith, len, fewer);
  full = λ h. absurd (omega (arith, none_left, h));
  small = omega (arith, t.small);
}
  where
    len : length (reported ++ r ∷ []) ≡ length reported + 1
    len = length-append reported (r ∷ [])

    race : IsRace trace i j
    race = subst (λ (x : ℕ). IsRace trace x j) first_is (subst (λ (x : ℕ). IsRace trace r.first x) second_is is_reported.is_race)

    none_left : rest ≡ 0
    none_left = elim (cases_lt 0 rest) [
      | inl some ↦ absurd (omega (arith, t.full some, fewer))
      | inr zero ↦ omega (arith, zero)
    ]

    old : (k : ℕ) → k < length reported → race_at (reported ++ r ∷ []) k ≡ race_at reported k
    old k lt = get_or-append reported (r ∷ []) _ k lt

    last : race_at (reported ++ r ∷ []) (length reported) ≡ r
    last = get_or-append_seam reported r [] _

    ends : (k : ℕ) → k < length (reported ++ r ∷ []) → (k < length reported) ⊎ (k ≡ length reported)
    ends k h = elim (cases_lt k (length reported)) [
      | inl lt ↦ inl lt
      | inr ge ↦ inr (omega (arith, len, h, ge))
    ]

    at_old : (k a b : ℕ) → (lt : k < length reported) → ComesBefore (race_at reported k).first (race_at reported k).second a b
        → ComesBefore (race_at (reported ++ r ∷ []) k).first (race_at (reported ++ r ∷ []) k).second a b
    at_old k a b lt h = subst (λ (x : Race). ComesBefore x.first x.second a b) (sym (old k lt)) h

    passed : ComesAfterAll (reported ++ r ∷ []) (i + 1) j
    passed k h = elim (ends k h) [
      | inl lt ↦ at_old k (i + 1) j lt (weaker (t.passed k lt))
      | inr at ↦ subst (λ (x : Race). ComesBefore x.first x.second (i + 1) j)
          (sym (ap (λ (x : ℕ). race_at (reported ++ r ∷ []) x) at ∙ last)) (inr (second_is, omega (arith, first_is)))
    ]

    order : InOrder (reported ++ r ∷ [])
    order k l lt h = elim (ends l h) [
      | inl l_in ↦ at_old k _ _ (omega (arith, lt, l_in))
          (subst (λ (x : Race). ComesBefore (race_at reported k).first (race_at reported k).second x.first x.second)
          (sym (old l l_in)) (t.order k l lt l_in))
      | inr at ↦ (let k_in : k < length reported = omega (arith, at, lt) in
          at_old k _ _ k_in
          (subst (λ (x : Race). ComesBefore (race_at reported k).first (race_at reported k).second x.first x.second)
          (sym (ap (λ (x : ℕ). race_at (reported ++ r ∷ []) x) at ∙ last))
          (subst (λ (x : ℕ). ComesBefore (race_at reported k).first (race_at reported k).second x r.second) (sym first_is)
          (subst (λ (x : ℕ). ComesBefore (race_at reported k).first (race_at reported k).second i x) (sym second_is)
          (t.passed k k_in)))))
    ]

-- races that are all left
pub all_left : {trace : List Event} {j most : ℕ} {reported : List Race} {rest : ℕ} (count : ℕ)
    → HasReported trace j 0 most reported rest → Counts (λ i. IsRace trace i j) j count → (0 < count → most ≤ length reported)
    → HasReported trace j j most reported (rest + count)
all_left {trace} {j} {most} {reported} {rest} count t counted enough = record {
  races = t.races;
  order = t.order;
  passed = λ k h. elim (t.passed k h) [
    | inl lt ↦ inl lt
    | inr p ↦ absurd (omega (arith, p.1))
  ];
  each = λ k l b race. elim b [
    | inl lt ↦ elim (t.each k l (inl lt) race) [
      | inl among ↦ inl among
      | inr left ↦ inr (record { after = left.after; some = omega (arith, left.some) })
    ]
    | inr (same, lt) ↦ inr (record {
      after = λ m h. elim (t.passed m h) [
        | inl less ↦ inl (omega (arith, less, same))
        | inr p ↦ absurd (omega (arith, p.1))
      ];
      some = omega (arith, counted_some k (subst (λ (x : ℕ). IsRace trace k x) same race) lt);
    })
  ];
  before = t.before;
  count = t.count;
  here = count;
  count_here = counted;
  sum = omega (arith, t.sum, few_below t.count_here);
  few = t.few;
  full = λ h. full h;
  small = omega (arith, t.small, few_below counted);
}
  where
    counted_some : (k : ℕ) → IsRace trace k j → k < j → 0 < count
    counted_some k race lt = some_counted counted k lt race

    full : 0 < rest + count → length reported ≡ most
    full h = elim (cases_lt 0 count) [
      | inl some ↦ omega (arith, t.few, enough some)
      | inr none ↦ t.full (omega (arith, h, none))
    ]

-- ---- one event more, and all

to_next : {k l j : ℕ} → ComesBefore k l j j → ComesBefore k l 0 (j + 1)
to_next {k} {l} {j} (inl lt) = inl (omega (arith, lt))
to_next {k} {l} {j} (inr (same, lt)) = inl (omega (arith, same))

from_next : {k l j : ℕ} → k < l → ComesBefore k l 0 (j + 1) → ComesBefore k l j j
from_next {k} {l} {j} order (inl lt) = grind (arith, common_steps, cases_lt)
from_next {k} {l} {j} order (inr (same, lt)) = absurd (omega (arith, lt))

pub next_event : {trace : List Event} {j most : ℕ} {reported : List Race} {rest : ℕ} → j < 2 ^ 20
    → HasReported trace j j most reported rest → HasReported trace (j + 1) 0 most reported rest
next_event {trace} {j} {most} {reported} {rest} few t = record {
  races = t.races;
  order = t.order;
  passed = λ k h. to_next (t.passed k h);
  each = λ k l b race. t.each k l (from_next race.earlier b) race;
  before = t.before + t.here;
  count = and_of t.count t.count_here;
  here = 0;
  count_here = below_none;
  sum = omega (arith, t.sum);
  few = t.few;
  full = t.full;
  small = omega (arith, t.small, few);
}

pub all_reported : {trace : List Event} {most : ℕ} {reported : List Race} {rest data_races : ℕ}
    → HasReported trace (length trace) 0 most reported rest → CountsDataRaces trace (length trace) data_races
    → IsVerdict trace most reported rest data_races
all_reported {trace} {most} {reported} {rest} {data_races} t counted = grind (arith, common_steps, length, few_below)
