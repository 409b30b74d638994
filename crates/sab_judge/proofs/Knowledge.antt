-- What clocks know, step by step.
use Rattle.std.proofs.Common.{◌≡◌, ◌≢◌, ◌&&◌, inl, inr, ℕ, ◌+◌, ◌<◌, ◌≤◌, true, List, [], ◌∷◌, ◌++◌, length, length-append, slice_index, Option, Some, None, refl, sym, subst, ap, ◌∙◌, arith}
use Rattle.std.proofs.lemmas.Grind.{common_steps}
use Rattle.std.proofs.lemmas.Bool.{cases_lt, cases_eq, cases_order, eq-eqb, eqb-true, false≢true, and_parts}
use Rattle.std.proofs.Math.ListN.{get_or-append}
use Rattle.std.proofs.Math.Seq.{get_or-append_seam}
use Rattle.sab_judge.specs.declared.clock.Clock.{Clock}
use Rattle.sab_judge.specs.declared.access.Access.{Access}
use Rattle.sab_judge.specs.declared.event.Event.{Event}
use Rattle.sab_judge.specs.Sought.{OfAgent, AtWaiters}
use Rattle.sab_judge.specs.declared.place.Place.{Place}
use Rattle.sab_judge.specs.Access.{covers}
use Rattle.sab_judge.specs.Event.{event_at, agent_at, are_alike, share_waiters, some_is}
use Rattle.sab_judge.specs.Sought.{IsLastBelow, IsReadFrom}
use Rattle.sab_judge.specs.HappensBefore.{HappensBefore, in_agent, by_sync, IsAgentsEarlier, SynchronizesWith, ReadsByteFrom}
use Rattle.sab_judge.specs.Clock.{KnowsNothing, KnowsMore, Learns, no_clock, clock_at, IsAtOrBefore, Knows, IsClock, AreClocks, KnowsUpTo, KnowsOnlyBefore, KnowsWhatIsRead, KnowsWhoHandedOn}
use Rattle.sab_judge.proofs.Cases.{share_waiters-joined, IsByteOf, covered_byte}
use Rattle.sab_judge.proofs.Lasts.{IsNoLater, found_last}
use Rattle.sab_judge.proofs.LastSteps.{IsStep, last_step, reached_through, reached_further, before_earlier}

-- ---- what is learned

-- a clock that learns keeps what it knows
pub learned_more : (c : Clock) (clocks : List Clock) (from : Option ℕ) (e : Clock) → Learns c clocks from e
    → KnowsMore c e
learned_more c clocks None e learns b = subst (λ (d : Clock). slice_index c.bounds b ≤ slice_index d.bounds b) (sym learns) (omega arith)
learned_more c clocks (Some m) e learns b = omega (arith, learns b)

-- what a clock knows, one that knows more does
pub more_up_to : {trace : List Event} {m : ℕ} {c e : Clock} → KnowsUpTo trace m c → KnowsMore c e → KnowsUpTo trace m e
more_up_to {trace} {m} {c} {e} k more = record { known = λ i r. omega (arith, k.known i r, more (agent_at trace i)) }

-- what another clock knows is learned
pub learned_up_to : {trace : List Event} {j : ℕ} {clocks : List Clock} (c : Clock) (m : ℕ) (e : Clock)
    → AreClocks trace j clocks → m < j → Learns c clocks (Some m) e → KnowsUpTo trace m e
learned_up_to {trace} {j} {clocks} c m e clocked lt learns = record {
  known = λ i r. omega (arith, (clocked.each m lt).complete i r, learns (agent_at trace i));
}

-- nothing else is learned
pub learned_only : {trace : List Event} {j : ℕ} {clocks : List Clock} (c : Clock) (from : Option ℕ) (e : Clock)
    → AreClocks trace j clocks → ((m : ℕ) → from ≡ Some m → HappensBefore trace m j) → KnowsOnlyBefore trace j c
    → Learns c clocks from e → KnowsOnlyBefore trace j e
learned_only {trace} {j} {clocks} c None e clocked before only learns =
    subst (λ (d : Clock). KnowsOnlyBefore trace j d) (sym learns) only
learned_only {trace} {j} {clocks} c (Some m) e clocked before only learns = record { before = λ i within knows. go i within knows }
  where
    is_before : HappensBefore trace m j
    is_before = before m refl

    go : (i : ℕ) → i < length trace → Knows trace e i → HappensBefore trace i j
    go i within knows = elim (cases_lt i (slice_index c.bounds (agent_at trace i))) [
      | inl own ↦ only.before i within own
      | inr foreign ↦ reached_through
          ((clocked.each m (before_earlier is_before)).sound i within (omega (arith, learns (agent_at trace i)))) is_before
    ]

-- a clock that knows nothing
pub nothing_only : {trace : List Event} {j : ℕ} {c : Clock} → KnowsNothing c → KnowsOnlyBefore trace j c
nothing_only {trace} nothing = record { before = λ i within knows. absurd (omega (arith, nothing (agent_at trace i))) }

-- ---- the sources

-- the agent's last event: it happens before, and the agent's earlier ones do
pub agents_last : {trace : List Event} {j : ℕ} (from : Option ℕ) → j < length trace
    → IsLastBelow trace (OfAgent (agent_at trace j)) j from → (m : ℕ) → from ≡ Some m → HappensBefore trace m j
agents_last {trace} {j} None within is_last m e = absurd (cc)
agents_last {trace} {j} (Some p) within is_last m e = grind (arith, common_steps, in_agent, eqb-true, agent_at)

-- a clock that learns of the agent's last event knows of its earlier ones
pub agents_known : {trace : List Event} {j : ℕ} {clocks : List Clock} (c : Clock) (from : Option ℕ) (e : Clock)
    → AreClocks trace j clocks → IsLastBelow trace (OfAgent (agent_at trace j)) j from → Learns c clocks from e
    → (m : ℕ) → IsAgentsEarlier trace m j → KnowsUpTo trace m e
agents_known {trace} {j} {clocks} c from e clocked is_last learns m earlier = record {
  known = λ i r. (learned_up_to c found.last e clocked found.below
      (subst (λ (f : Option ℕ). Learns c clocks f e) found.from_is learns)).known i (reached_further r reaches);
}
  where
    found : IsNoLater trace (OfAgent (agent_at trace j)) j m from
    found = found_last trace (OfAgent (agent_at trace j)) j m from is_last earlier.earlier
        (eq-eqb (agent_at trace m) (agent_at trace j) earlier.same_agent)

    last_within : found.last < length trace
    last_within = omega (arith, found.below, earlier.within)

    reaches : IsAtOrBefore trace m found.last
    reaches = elim (cases_lt m found.last) [
      | inl lt ↦ inr (in_agent (record {
        earlier = lt;
        within = last_within;
        same_agent = let same : agent_at trace found.last ≡ agent_at trace j =
            eqb-true (agent_at trace found.last) (agent_at trace j) found.hit in earlier.same_agent ∙ sym same;
      }))
      | inr ge ↦ inl (omega (arith, found.later))
    ]

-- the last event among the waiters: it happens before, and the earlier ones do
pub waiters_last : {trace : List Event} {j : ℕ} (p : Place) (from : Option ℕ) → j < length trace
    → (event_at trace j).waiters ≡ Some p → IsLastBelow trace (AtWaiters p) j from
    → (m : ℕ) → from ≡ Some m → HappensBefore trace m j
waiters_last {trace} {j} p None within waiters_is is_last m e = absurd (cc)
waiters_last {trace} {j} p (Some q) within waiters_is is_last m e = grind (arith, common_steps, by_sync)

-- a clock that learns of the last event among the waiters knows of the earlier ones
pub waiters_known : {trace : List Event} {j : ℕ} {clocks : List Clock} (p : Place) (c : Clock) (from : Option ℕ)
    (e : Clock) → AreClocks trace j clocks → (event_at trace j).waiters ≡ Some p → IsLastBelow trace (AtWaiters p) j from
    → Learns c clocks from e → KnowsWhoHandedOn trace j e
waiters_known {trace} {j} {clocks} p c from e clocked waiters_is is_last learns m handed = record {
  known = λ i r. (learned_up_to c found.last e clocked found.below
      (subst (λ (f : Option ℕ). Learns c clocks f e) found.from_is learns)).known i (reached_further r reaches);
}
  where
    m_hits : share_waiters (event_at trace m).waiters (Some p) ≡ true
    m_hits = subst (λ (x : Option Place). share_waiters (event_at trace m).waiters x ≡ true) waiters_is handed.alike

    found : IsNoLater trace (AtWaiters p) j m from
    found = found_last trace (AtWaiters p) j m from is_last handed.earlier m_hits

    last_within : found.last < length trace
    last_within = omega (arith, found.below, handed.within)

    reaches : IsAtOrBefore trace m found.last
    reaches = elim (cases_lt m found.last) [
      | inl lt ↦ inr (by_sync (inr (record {
        earlier = lt;
        within = last_within;
        alike = share_waiters-joined (event_at trace m).waiters (event_at trace found.last).waiters p m_hits found.hit;
      })))
      | inr ge ↦ inl (omega (arith, found.later))
    ]

-- ---- a byte has one last writer

pub one_writer : {trace : List Event} {j m n block byte : ℕ} → ReadsByteFrom trace j m block byte
    → ReadsByteFrom trace j n block byte → m ≡ n
one_writer {trace} {j} {m} {n} {block} {byte} r s = grind (arith, common_steps, cases_order, false≢true)

-- a clock that learns of the write from which the byte is read knows of each
pub byte_known : {trace : List Event} {j : ℕ} {clocks : List Clock} (block byte : ℕ) (c : Clock) (from : Option ℕ) (e : Clock)
    → AreClocks trace j clocks → IsReadFrom trace j block byte from → Learns c clocks from e
    → (m : ℕ) → are_alike (event_at trace m) (event_at trace j) ≡ true → ReadsByteFrom trace j m block byte → KnowsUpTo trace m e
byte_known {trace} {j} {clocks} block byte c None e clocked is_from learns m alike reads = absurd (is_from m alike reads)
byte_known {trace} {j} {clocks} block byte c (Some p) e clocked is_from learns m alike reads =
    subst (λ (x : ℕ). KnowsUpTo trace x e) (one_writer is_from.1 reads) (learned_up_to c p e clocked is_from.1.earlier learns)

pub byte_before : {trace : List Event} {j : ℕ} (block byte : ℕ) (from : Option ℕ) → IsReadFrom trace j block byte from
    → (m : ℕ) → from ≡ Some m → HappensBefore trace m j
byte_before {trace} {j} block byte None is_from m e = absurd (cc)
byte_before {trace} {j} block byte (Some p) is_from m e = grind (arith, common_steps, by_sync)

-- a clock that knows of the writes from which each byte is read knows of all that is read
pub read_known : {trace : List Event} {j : ℕ} {clock : Clock} (a : Access) → (event_at trace j).access ≡ Some a
    → ((k : ℕ) → k < a.len → (m : ℕ) → are_alike (event_at trace m) (event_at trace j) ≡ true
    → ReadsByteFrom trace j m a.place.block (a.place.byte + k) → KnowsUpTo trace m clock)
    → KnowsWhatIsRead trace j clock
read_known {trace} {j} {clock} a access_is each m read = each its.offset its.inside m read.alike moved
  where
    reads : (a.reads && covers a read.from.block read.from.byte) ≡ true
    reads = subst (λ (x : Option Access). some_is (λ (b : Access). b.reads && covers b read.from.block read.from.byte) x ≡ true)
        access_is read.from.reads.reads

    its : IsByteOf a read.from.block read.from.byte
    its = let both = and_parts a.reads (covers a read.from.block read.from.byte) reads in
        covered_byte a read.from.block read.from.byte both.1

    moved : ReadsByteFrom trace j m a.place.block (a.place.byte + its.offset)
    moved = subst (λ (x : ℕ). ReadsByteFrom trace j m a.place.block x) its.byte_is
        (subst (λ (x : ℕ). ReadsByteFrom trace j m x read.from.byte) its.block_is read.from.reads)

-- who makes no SeqCst access learns by no read
pub none_read : {trace : List Event} {j : ℕ} (c : Clock)
    → ((m : ℕ) → are_alike (event_at trace m) (event_at trace j) ≡ true → ⊥) → KnowsWhatIsRead trace j c
none_read c unlike m read = absurd (unlike m read.alike)

-- ---- a whole clock

-- the clock knows what happens before the j-th event, by its last step
pub record KnowsAllSteps (trace : List Event) (j : ℕ) (c : Clock) : Type 0 where
  pub only : KnowsOnlyBefore trace j c
  pub agents : (m : ℕ) → IsAgentsEarlier trace m j → KnowsUpTo trace m c
  pub syncs : (m : ℕ) → SynchronizesWith trace m j → KnowsUpTo trace m c

pub all_steps : {trace : List Event} {j : ℕ} (own entered all : Clock)
    → ((m : ℕ) → IsAgentsEarlier trace m j → KnowsUpTo trace m own) → KnowsMore own entered
    → KnowsWhoHandedOn trace j entered → KnowsMore entered all → KnowsOnlyBefore trace j all
    → KnowsWhatIsRead trace j all → KnowsAllSteps trace j all
all_steps {trace} {j} own entered all agents more handed further only read = record {
  only = only;
  agents = λ m e. more_up_to (more_up_to (agents m e) more) further;
  syncs = syncs;
}
  where
    syncs : (m : ℕ) → SynchronizesWith trace m j → KnowsUpTo trace m all
    syncs m (inl r) = read m r
    syncs m (inr w) = more_up_to (handed m w) further

-- a clock that knows each step to the j-th event, and only what is before it, and then the agent's own events, is the
-- clock of the j-th event
pub whole_clock : {trace : List Event} {j : ℕ} (c e : Clock) → j < length trace → KnowsAllSteps trace j c
    → slice_index e.bounds (agent_at trace j) ≡ j + 1
    → ((b : ℕ) → b ≢ agent_at trace j → slice_index e.bounds b ≡ slice_index c.bounds b)
    → IsClock trace j e
whole_clock {trace} {j} c e within all own others = record { sound = sound; complete = complete }
  where
    sound : (i : ℕ) → i < length trace → Knows trace e i → IsAtOrBefore trace i j
    sound i i_within knows = elim (cases_eq (agent_at trace i) (agent_at trace j)) [
      | inl same ↦ (let below : i < j + 1 = rw (same, own) at knows in elim (cases_lt i j) [
        | inl lt ↦ inr (in_agent (record { earlier = lt; within = within; same_agent = same }))
        | inr ge ↦ inl (omega (arith, below))
      ])
      | inr other ↦ inr (all.only.before i i_within (rw (others (agent_at trace i) other) at knows))
    ]

    steps : (m : ℕ) → IsStep trace m j → KnowsUpTo trace m c
    steps m (inl a) = all.agents m a
    steps m (inr s) = all.syncs m s

    known_before : (i : ℕ) → HappensBefore trace i j → Knows trace c i
    known_before i h = let last = last_step h in (steps last.middle last.step).known i last.reached

    complete : (i : ℕ) → IsAtOrBefore trace i j → Knows trace e i
    complete i (inl at) = subst (λ (x : ℕ). x < slice_index e.bounds (agent_at trace x)) (sym at) (omega (arith, own))
    complete i (inr h) = elim (cases_eq (agent_at trace i) (agent_at trace j)) [
      | inl same ↦ subst (λ (a : ℕ). i < slice_index e.bounds a) (sym same) (omega (arith, own, before_earlier h))
      | inr other ↦ (let known : Knows trace c i = known_before i h in omega (arith, others (agent_at trace i) other, known))
    ]

-- ---- the clocks so far

pub no_clocks : (trace : List Event) (clocks : List Clock) → clocks ≡ [] → AreClocks trace 0 clocks
no_clocks trace clocks e = record { count = ap length e; each = λ m h. absurd (omega (arith, h)) }

-- one clock more
pub one_clock_more : {trace : List Event} {j : ℕ} {clocks new : List Clock} (c : Clock) → AreClocks trace j clocks
    → IsClock trace j c → new ≡ clocks ++ c ∷ [] → AreClocks trace (j + 1) new
one_clock_more {trace} {j} {clocks} {new} c clocked is_clock e =
    grind (arith, common_steps, length-append, cases_lt, length, get_or-append, no_clock, clock_at, get_or-append_seam)
