-- The last events of one cell, with one event more.
use Rattle.std.proofs.Common.{◌≡◌, ◌≢◌, ◌⊎◌, inl, inr, ℕ, ◌+◌, ◌<◌, List, [], ◌∷◌, ◌++◌, length, slice_get, slice_set, Some, sym, subst, ap, ◌∙◌, arith}
use Rattle.std.proofs.lemmas.Grind.{common_steps}
use Rattle.std.proofs.lemmas.Bool.{cases_lt, cases_eq, cases_order}
use Rattle.sab_judge.specs.declared.cell.Cell.{Cell}
use Rattle.sab_judge.specs.declared.event.Event.{Event}
use Rattle.sab_judge.specs.declared.latest.Latest.{Latest}
use Rattle.sab_judge.specs.Event.{agent_at}
use Rattle.sab_judge.specs.Link.{IsLast, IsLike}
use Rattle.sab_judge.specs.Cell.{BeginsIn, IsLatest, HasLatest, AreLatest}
use Rattle.sab_judge.proofs.Linking.{like_back, like_itself, like_through}
use Rattle.sab_judge.proofs.Lists.{slice_get-push, slice_get-old, slice_get-new, slice_get-set, slice_get-set_other, some_is_some}

-- an event that is like one of a cell begins in it too
pub begins_alike : {trace : List Event} {cell : Cell} {p i : ℕ} → BeginsIn trace cell p → IsLike trace p i
    → BeginsIn trace cell i
begins_alike h like = record { access = h.access; makes = like.access ∙ h.makes; is_in = h.is_in }

-- no event
pub no_latest : {trace : List Event} {n : ℕ} {cell : Cell} → ((i : ℕ) → i < n → ¬ BeginsIn trace cell i)
    → AreLatest trace n cell []
no_latest none = record {
  each = λ k t e. absurd (cc);
  found = λ i lt h. absurd (none i lt h);
  once = λ k l t u lt e f. absurd (cc);
}

-- it stays the last, where the next event isn't like it
latest_stays : {trace : List Event} {j : ℕ} {cell : Cell} {t : Latest} → IsLatest trace j cell t
    → ¬ IsLike trace t.position j → IsLatest trace (j + 1) cell t
latest_stays {trace} {j} {cell} {t} h unlike = grind (arith, common_steps, cases_lt)

-- the event that is the newest is the last
newest : {trace : List Event} {j : ℕ} {cell : Cell} (t : Latest) → t.position ≡ j → t.agent ≡ agent_at trace j
    → BeginsIn trace cell j → IsLatest trace (j + 1) cell t
newest {trace} {j} {cell} t at agent begins = grind (arith, common_steps, agent_at)

-- an event that doesn't begin in the cell changes nothing
pub latest_skipped : {trace : List Event} {j : ℕ} {cell : Cell} {list : List Latest} → AreLatest trace j cell list
    → ¬ BeginsIn trace cell j → AreLatest trace (j + 1) cell list
latest_skipped {trace} {j} {cell} {list} ts away = record {
  each = λ k t e. let h = ts.each k t e in latest_stays h (λ like. away (begins_alike h.begins like));
  found = λ i lt h. elim (cases_lt i j) [
    | inl less ↦ ts.found i less h
    | inr ge ↦ (let same : i ≡ j = omega (arith, lt, ge) in
        absurd (away (subst (λ (x : ℕ). BeginsIn trace cell x) same h)))
  ];
  once = ts.once;
}

-- the newest takes the place of the one that it is like
pub latest_renewed : {trace : List Event} {j k : ℕ} {cell : Cell} {list : List Latest} (old new : Latest)
    → AreLatest trace j cell list → slice_get list k ≡ Some old → k < length list → IsLike trace old.position j
    → BeginsIn trace cell j → new.position ≡ j → new.agent ≡ agent_at trace j
    → AreLatest trace (j + 1) cell (slice_set list k new)
latest_renewed {trace} {j} {k} {cell} {list} old new ts at inside like begins position agent = record {
  each = λ m t e. elim (was m t e) [
    | inl w ↦ subst (λ (x : Latest). IsLatest trace (j + 1) cell x) w.1 (newest new position agent begins)
    | inr w ↦ latest_stays (ts.each m t w.1) (λ also. elim (cases_order m k) [
      | inl same ↦ w.0 same
      | inr (inl lt) ↦ ts.once m k t old lt w.1 at (like_through also (like_back like))
      | inr (inr gt) ↦ ts.once k m old t gt at w.1 (like_through like (like_back also))
    ])
  ];
  found = λ i lt h. elim (cases_lt i j) [
    | inl less ↦ (let its = ts.found i less h in elim (cases_eq its.place k) [
      | inl same ↦ (let is_old : old ≡ its.latest = some_is_some old its.latest (sym at
          ∙ subst (λ (x : ℕ). slice_get list x ≡ Some its.latest) same its.is) in
          new_like i (subst (λ (x : Latest). IsLike trace x.position i) (sym is_old) its.like))
      | inr other ↦ record {
        place = its.place;
        latest = its.latest;
        is = slice_get-set_other list k its.place new other ∙ its.is;
        like = its.like;
      }
    ])
    | inr ge ↦ (let same : j ≡ i = omega (arith, lt, ge) in
        new_like i (subst (λ (x : ℕ). IsLike trace old.position x) same like))
  ];
  once = λ l m t u lt e f both. elim (was l t e) [
    | inl w ↦ elim (was m u f) [
      | inl v ↦ absurd (omega (arith, lt, w.0, v.0))
      | inr v ↦ ts.once k m old u (omega (arith, lt, w.0)) at v.1
          (like_through (of_new like) (subst (λ (x : Latest). IsLike trace x.position u.position) (sym w.1) both))
    ]
    | inr w ↦ elim (was m u f) [
      | inl v ↦ ts.once l k t old (omega (arith, lt, v.0)) w.1 at
          (like_through (subst (λ (x : Latest). IsLike trace t.position x.position) (sym v.1) both)
          (like_back (of_new like)))
      | inr v ↦ ts.once l m t u lt w.1 v.1 both
    ]
  ];
}
  where
    -- what stands there is the new one, or stood there
    was : (m : ℕ) (t : Latest) → slice_get (slice_set list k new) m ≡ Some t
        → ((m ≡ k) × (new ≡ t)) ⊎ ((m ≢ k) × (slice_get list m ≡ Some t))
    was m t e = elim (cases_eq m k) [
      | inl same ↦ inl (
        same,
        some_is_some new t
            (sym (slice_get-set list k new inside) ∙ subst (λ (x : ℕ). slice_get (slice_set list k new) x ≡ Some t) same e),
      )
      | inr other ↦ inr (other, sym (slice_get-set_other list k m new other) ∙ e)
    ]

    of_new : IsLike trace old.position j → IsLike trace old.position new.position
    of_new h = subst (λ (x : ℕ). IsLike trace old.position x) (sym position) h

    new_like : (i : ℕ) → IsLike trace old.position i → HasLatest trace (slice_set list k new) i
    new_like i h = record {
      place = k;
      latest = new;
      is = slice_get-set list k new inside;
      like = like_through (like_back (of_new like)) h;
    }

-- the newest is put behind the others, where none is like it
pub latest_added : {trace : List Event} {j : ℕ} {cell : Cell} {list : List Latest} (new : Latest)
    → AreLatest trace j cell list → ((k : ℕ) (t : Latest) → slice_get list k ≡ Some t → ¬ IsLike trace t.position j)
    → BeginsIn trace cell j → new.position ≡ j → new.agent ≡ agent_at trace j
    → AreLatest trace (j + 1) cell (list ++ new ∷ [])
latest_added {trace} {j} {cell} {list} new ts none begins position agent = record {
  each = λ k t e. elim (slice_get-push list new k t e) [
    | inl w ↦ latest_stays (ts.each k t w.0) (none k t w.0)
    | inr w ↦ subst (λ (x : Latest). IsLatest trace (j + 1) cell x) w.1 (newest new position agent begins)
  ];
  found = λ i lt h. elim (cases_lt i j) [
    | inl less ↦ (let its = ts.found i less h in record {
      place = its.place;
      latest = its.latest;
      is = slice_get-old list new its.place its.latest its.is;
      like = its.like;
    })
    | inr ge ↦ (let same : new.position ≡ i = omega (arith, lt, ge, position) in record {
      place = length list;
      latest = new;
      is = slice_get-new list new;
      like = subst (λ (x : ℕ). IsLike trace new.position x) same (like_itself new.position);
    })
  ];
  once = λ k l t u lt e f both. elim (slice_get-push list new l u f) [
    | inl v ↦ elim (slice_get-push list new k t e) [
      | inl w ↦ ts.once k l t u lt w.0 v.0 both
      | inr w ↦ absurd (omega (arith, lt, v.1, w.0))
    ]
    | inr v ↦ elim (slice_get-push list new k t e) [
      | inl w ↦ none k t w.0 (subst (λ (x : ℕ). IsLike trace t.position x)
          (ap (λ (x : Latest). x.position) (sym v.1) ∙ position) both)
      | inr w ↦ absurd (omega (arith, lt, v.0, w.0))
    ]
  ];
}

-- where none of the list is like the next event, none before is
pub never_before : {trace : List Event} {j : ℕ} {cell : Cell} {list : List Latest} → AreLatest trace j cell list
    → ((k : ℕ) (t : Latest) → slice_get list k ≡ Some t → ¬ IsLike trace t.position j) → BeginsIn trace cell j
    → (i : ℕ) → i < j → ¬ IsLike trace j i
never_before ts none begins i lt like =
    let its = ts.found i lt (begins_alike begins like) in
    none its.place its.latest its.is (like_through its.like (like_back like))

-- one of the list that is like the next event is the last before it
pub last_before : {trace : List Event} {j : ℕ} {cell : Cell} {t : Latest} → IsLatest trace j cell t
    → IsLike trace t.position j → IsLast trace j t.position
last_before h like = grind (arith, common_steps, like_back, like_through)
