-- Which of the events that are alike race with a later one.
use Rattle.std.proofs.Common.{◌≡◌, ◌≢◌, ◌⊎◌, inl, inr, ℕ, ◌+◌, ◌<◌, ◌≤◌, ◌&&◌, true, false, List, length, slice_index, slice_get, Option, Some, None, sym, subst, ap, ◌∙◌, arith}
use Rattle.std.proofs.lemmas.Grind.{common_steps}
use Rattle.std.proofs.lemmas.Bool.{false≢true, cases_lt, and_parts}
use Rattle.std.proofs.lemmas.Option.{slice_get_within}
use Rattle.sab_judge.specs.declared.access.Access.{Access}
use Rattle.sab_judge.specs.declared.cell.Cell.{Cell}
use Rattle.sab_judge.specs.declared.clock.Clock.{Clock}
use Rattle.sab_judge.specs.declared.event.Event.{Event}
use Rattle.sab_judge.specs.declared.latest.Latest.{Latest}
use Rattle.sab_judge.specs.declared.race_kind.RaceKind.{RaceKind}
use Rattle.sab_judge.specs.declared.race_kind.RaceKind.TheVariants.{Any, BothWrite}
use Rattle.sab_judge.specs.Access.{conflict, both_write}
use Rattle.sab_judge.specs.Event.{event_at, agent_at, both_are, do_conflict, do_both_write}
use Rattle.sab_judge.specs.Clock.{IsClock}
use Rattle.sab_judge.specs.Race.{Counts, IsRace}
use Rattle.sab_judge.specs.RaceKind.{is_of_kind, IsRaceOf}
use Rattle.sab_judge.specs.Link.{IsLike}
use Rattle.sab_judge.specs.Cell.{BeginsIn, IsLatest, HasLatest, AreLatest}
use Rattle.sab_judge.proofs.Counting.{counts_same, counts_none, counts_both, counts_longer}
use Rattle.sab_judge.proofs.KeptLatest.{begins_alike}
use Rattle.sab_judge.proofs.Linking.{like_back, like_through}
use Rattle.sab_judge.proofs.Lists.{some_is_some}

-- one of the first m of the list is like the event
pub record IsLikeOneOf (trace : List Event) (list : List Latest) (m i : ℕ) : Type 0 where
  pub has : HasLatest trace list i
  pub before : has.place < m

-- an event conflicts as those like it do, and so it is with each kind
kind_alike : (kind : RaceKind) {trace : List Event} {p i : ℕ} (j : ℕ) → IsLike trace p i
    → is_of_kind kind (event_at trace i) (event_at trace j) ≡ is_of_kind kind (event_at trace p) (event_at trace j)
kind_alike Any {trace} j like =
    ap (λ (u : Option Access). both_are conflict u (event_at trace j).access) like.access
kind_alike BothWrite {trace} j like =
    ap (λ (u : Option Access). both_are conflict u (event_at trace j).access
    && both_are both_write u (event_at trace j).access) like.access

-- those of each kind conflict
kind_conflicts : (kind : RaceKind) (e f : Event) → is_of_kind kind e f ≡ true → do_conflict e f ≡ true
kind_conflicts Any e f is = is
kind_conflicts BothWrite e f is = (and_parts (do_conflict e f) (do_both_write e f) is).0

-- one that races isn't known
unknown : {trace : List Event} {j : ℕ} {clock : Clock} → IsClock trace j clock → (i : ℕ) → IsRace trace i j
    → slice_index clock.bounds (agent_at trace i) ≤ i
unknown {trace} {j} {clock} clocked i race = grind (arith, common_steps, cases_lt, slice_index, agent_at)

-- none of them races, where all are known
pub none_unknown : {kind : RaceKind} {trace : List Event} {j : ℕ} {clock : Clock} {cell : Cell} {t : Latest} → IsClock trace j clock
    → IsLatest trace j cell t → t.position < slice_index clock.bounds t.agent
    → Counts (λ i. IsRaceOf kind trace i j × IsLike trace t.position i) j 0
none_unknown {trace} {j} {clock} {cell} {t} clocked latest known =
    grind (arith, common_steps, counts_none, slice_index, agent_at, cases_lt, unknown)

-- nor where they are of the same agent as the later event
pub none_of_agent : {kind : RaceKind} {trace : List Event} {j : ℕ} {cell : Cell} {t : Latest} → IsLatest trace j cell t
    → t.agent ≡ agent_at trace j → Counts (λ i. IsRaceOf kind trace i j × IsLike trace t.position i) j 0
none_of_agent {trace} {j} latest same =
    counts_none j (λ i lt p. p.0.race.agents (p.1.agent ∙ sym latest.agent ∙ same))

-- nor where they don't conflict
pub none_conflicts : {kind : RaceKind} {trace : List Event} {j : ℕ} {p : ℕ}
    → is_of_kind kind (event_at trace p) (event_at trace j) ≡ false
    → Counts (λ i. IsRaceOf kind trace i j × IsLike trace p i) j 0
none_conflicts {kind} {trace} {j} apart = counts_none j (λ i lt p.
    false≢true (sym apart ∙ sym (kind_alike kind j p.1) ∙ p.0.kind_is))

-- else those race that aren't known
pub unknown_race : {kind : RaceKind} {trace : List Event} {j count : ℕ} {clock : Clock} {cell : Cell} {t : Latest} → IsClock trace j clock
    → j < length trace → IsLatest trace j cell t → t.agent ≢ agent_at trace j
    → is_of_kind kind (event_at trace t.position) (event_at trace j) ≡ true
    → Counts (λ i. IsLike trace t.position i × (slice_index clock.bounds t.agent ≤ i)) (t.position + 1) count
    → Counts (λ i. IsRaceOf kind trace i j × IsLike trace t.position i) j count
unknown_race {kind} {trace} {j} {count} {clock} {cell} {t} clocked within latest apart meets counted = counts_same to from
    (counts_longer j counted (omega (arith, latest.within)) (λ k from below p. latest.last k (omega (arith, from)) below p.0))
  where
    bound : (i : ℕ) → IsLike trace t.position i
        → slice_index clock.bounds (agent_at trace i) ≡ slice_index clock.bounds t.agent
    bound i like = ap (λ (a : ℕ). slice_index clock.bounds a) (like.agent ∙ sym latest.agent)

    to : (i : ℕ) → i < j → IsLike trace t.position i × (slice_index clock.bounds t.agent ≤ i)
        → IsRaceOf kind trace i j × IsLike trace t.position i
    to i lt p = (
      record {
        race = record {
          earlier = lt;
          within = within;
          agents = λ e. apart (latest.agent ∙ sym p.0.agent ∙ e);
          conflict = kind_conflicts kind (event_at trace i) (event_at trace j) (kind_alike kind j p.0 ∙ meets);
          unordered = λ h. absurd (omega (arith, p.1, bound i p.0, clocked.complete i (inr h)));
        };
        kind_is = kind_alike kind j p.0 ∙ meets;
      },
      p.0,
    )

    from : (i : ℕ) → i < j → IsRaceOf kind trace i j × IsLike trace t.position i
        → IsLike trace t.position i × (slice_index clock.bounds t.agent ≤ i)
    from i lt p = (p.1, omega (arith, unknown clocked i p.0.race, bound i p.1))

-- the races with the events like one more of the list
pub one_added : {kind : RaceKind} {trace : List Event} {j m count more : ℕ} {list : List Latest} (t : Latest) {cell : Cell}
    → AreLatest trace j cell list → slice_get list m ≡ Some t
    → Counts (λ i. IsRaceOf kind trace i j × IsLikeOneOf trace list m i) j count
    → Counts (λ i. IsRaceOf kind trace i j × IsLike trace t.position i) j more
    → Counts (λ i. IsRaceOf kind trace i j × IsLikeOneOf trace list (m + 1) i) j (count + more)
one_added {kind} {trace} {j} {m} {count} {more} {list} t {cell} ts at so_far its = counts_same to from
    (counts_both so_far its apart)
  where
    apart : (i : ℕ) → IsRaceOf kind trace i j × IsLikeOneOf trace list m i → IsRaceOf kind trace i j × IsLike trace t.position i → ⊥
    apart i p q = ts.once p.1.has.place m p.1.has.latest t p.1.before p.1.has.is at
        (like_through p.1.has.like (like_back q.1))

    to : (i : ℕ) → i < j
        → (IsRaceOf kind trace i j × IsLikeOneOf trace list m i) ⊎ (IsRaceOf kind trace i j × IsLike trace t.position i)
        → IsRaceOf kind trace i j × IsLikeOneOf trace list (m + 1) i
    to i lt (inl p) = (p.0, record { has = p.1.has; before = omega (arith, p.1.before) })
    to i lt (inr q) =
        (q.0, record { has = record { place = m; latest = t; is = at; like = q.1 }; before = omega arith })

    from : (i : ℕ) → i < j → IsRaceOf kind trace i j × IsLikeOneOf trace list (m + 1) i
        → (IsRaceOf kind trace i j × IsLikeOneOf trace list m i) ⊎ (IsRaceOf kind trace i j × IsLike trace t.position i)
    from i lt p = elim (cases_lt p.1.has.place m) [
      | inl less ↦ inl (p.0, record { has = p.1.has; before = less })
      | inr ge ↦ (let last : p.1.has.place ≡ m = omega (arith, p.1.before, ge) in
          let is_t : p.1.has.latest ≡ t = some_is_some _ _ (sym p.1.has.is ∙ subst (λ (x : ℕ). slice_get list x ≡ Some t) (sym last) at) in
          inr (p.0, subst (λ (x : Latest). IsLike trace x.position i) is_t p.1.has.like))
    ]

-- the whole list is of the events that begin in the cell
pub all_of_cell : {kind : RaceKind} {trace : List Event} {j m count : ℕ} {list : List Latest} {cell : Cell}
    → AreLatest trace j cell list → length list ≤ m
    → Counts (λ i. IsRaceOf kind trace i j × IsLikeOneOf trace list m i) j count
    → Counts (λ i. IsRaceOf kind trace i j × BeginsIn trace cell i) j count
all_of_cell {kind} {trace} {j} {m} {count} {list} {cell} ts all counted = counts_same
    (λ i lt p. (
      p.0,
      begins_alike (ts.each p.1.has.place p.1.has.latest p.1.has.is).begins p.1.has.like,
    ))
    (λ i lt p. let its = ts.found i lt p.1 in (
      p.0,
      record { has = its; before = omega (arith, all, slice_get_within list its.place its.latest its.is) },
    )) counted

-- an event that makes no access races with none
pub no_access_races : {kind : RaceKind} {trace : List Event} {j : ℕ} → (event_at trace j).access ≡ None
    → Counts (λ i. IsRaceOf kind trace i j) j 0
no_access_races {kind} {trace} {j} none = counts_none j (λ i lt r. false≢true
    (subst (λ (x : Option Access). both_are conflict (event_at trace i).access x ≡ true) none r.race.conflict))

-- each race is one of any kind
pub any_race : {trace : List Event} {j count : ℕ} → Counts (λ i. IsRaceOf Any trace i j) j count
    → Counts (λ i. IsRace trace i j) j count
any_race counted =
    counts_same (λ i lt p. p.race) (λ i lt race. record { race = race; kind_is = race.conflict }) counted
