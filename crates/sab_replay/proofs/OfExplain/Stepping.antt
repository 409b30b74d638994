-- What an explainer concludes of a step, and what it notes.
use Rattle.std.proofs.Common.{◌≡◌, ℕ, ◌<◌, ◌≤◌, ◌==◌, ◌||◌, true, false, List, [], ◌∷◌, ◌++◌, length, Option, Some, None, refl, ap, sym, ◌∙◌, subst, arith, get_or, All}
use Rattle.std.specs.Bool.{then_some}
use Rattle.std.specs.Prelude.{IfSome, slice_index_or, slice_set, if◌then◌else◌}
use Rattle.std.specs.List.{list_any}
use Rattle.std.proofs.Math.Seq.{get_or-append_seam}
use Rattle.sab_plan.specs.declared.entry.Entry.{Entry}
use Rattle.sab_plan.specs.declared.schedule.Move.{Move}
use Rattle.sab_plan.specs.declared.plan.TheConstants.Plan.{MAX_AGENTS}
use Rattle.sab_plan.specs.Schedule.{agent_of}
use Rattle.sab_plan.specs.Entry.{is_stuck}
use Rattle.sab_object.specs.Object.{State}
use Rattle.sab_sim.specs.Fits.{FitsMoves}
use Rattle.sab_sim.specs.Shown.{AtEnd}
use Rattle.sab_sim.specs.States.{IsOfWaits}
use Rattle.sab_sim.specs.Sim.{SimParts}
use Rattle.sab_plan.specs.declared.fact.Fact.{Fact}
use Rattle.sab_replay.specs.declared.explain.sight.Sight.{Sight}
use Rattle.sab_replay.specs.declared.explain.before.Before.{Before}
use Rattle.sab_replay.specs.Explain.Fact.{Finds, IsFact, IsLast}
use Rattle.sab_plan.specs.Fact.{woken_in}
use Rattle.sab_replay.specs.Explain.Explainer.{IsSight, IsBefore, AreWakers, AreLast, IsNoted, concluded}
use Rattle.sab_replay.proofs.OfExplain.Explaining.{AreWakers-push}
use Rattle.sab_replay.proofs.OfExplain.Noting.{All-of_found}
use Rattle.sab_replay.proofs.OfExplain.LastOnes.{AreLast-push}
use Rattle.sab_replay.proofs.OfExplain.Concluding.{Stepped, Known, known, its_call, waiters_stand, finds_of, fact_of}
use Rattle.sab_replay.proofs.OfExplain.Waking.{concluded_saw, IsTied, notified_after, noted_of}

-- the entry that was read is the last
last_entry : (journal xs ys : List Entry) (e d : Entry) → ys ≡ journal → xs ≡ journal ++ e ∷ []
    → get_or xs (length ys) d ≡ e
last_entry journal xs ys e d p q = rw (p, q) (get_or-append_seam journal e [] d)

some_holds : (P : Sight → Type 0) (sight : Option Sight) (s : Sight) → sight ≡ Some s → IfSome sight P → P s
some_holds P sight s e h = subst (λ (o : Option Sight). IfSome o P) e h

-- what follows of an entry and its fact
pub record Concludes (old new : SimParts) (a : ℕ) (e : Entry) (fact : Fact) (k : ℕ) (wakers : List ℕ)
    (last : List (Option ℕ)) : Type 0 where
  pub fact_is : IsFact old.plan old.journal e fact
  pub named : All (λ a. a < length old.plan.scripts) (woken_in fact.found)
  pub wakers_are : (wakers' : List ℕ) → IsNoted (woken_in fact.found) k wakers wakers'
      → AreWakers new.plan new.journal wakers'
  pub last_are : (last' : List (Option ℕ)) → last' ≡ (if is_stuck e.what then last else slice_set last a (Some k))
      → AreLast new.journal last'

-- of the agent that the move names
concludes_at : (old new : SimParts) (m : Move) (e : Entry) (b : Before) (wakers : List ℕ) (last : List (Option ℕ))
    → Stepped old new m e → IsBefore old (agent_of m) b → agent_of m < length old.plan.scripts
    → length old.plan.scripts ≤ MAX_AGENTS → length last ≡ MAX_AGENTS
    → AreWakers old.plan old.journal wakers → AreLast old.journal last
    → Concludes old new (agent_of m) e (fact_of b (slice_index_or last (agent_of m) None)
    (concluded e.what b.sight (then_some b.woken (slice_index_or wakers (agent_of m) 0)) b.failing new.blocks))
    (length old.journal) wakers last
concludes_at old new m e b wakers last s i l few size w p = record {
  fact_is =
      record {
        call = tied.call;
        place = tied.place;
        since = since;
        old = k.0;
        old_is = k.2.before;
        new = k.1;
        new_is =
            k.2.after;
        finds = finds;
      };
  named =
      All-of_found (λ a. a < length old.plan.scripts) (woken_in fact.found) (λ a h. let saw = concluded_saw e.what
      b.sight (then_some b.woken waker) b.failing new.blocks a h in
      (some_holds (IsSight old b.call) b.sight saw.0 saw.1 i.sight_is).named a saw.2);
  wakers_are =
      λ wakers' n. rw (s.plan_is, s.journal_is) (AreWakers-push old.plan old.journal e k.0 k.1 wakers wakers' k.2.before
      k.2.after (noted_of k.0 k.1 (length old.journal) (woken_in fact.found) wakers wakers' after unnotified n) w);
  last_are =
      λ last' n. rw s.journal_is (AreLast-push old.journal e last last' (let below : e.agent <
      length old.plan.scripts = rw k.2.agent l in omega (arith, below, few, size)) (n ∙ ap
      (λ (a : ℕ). if is_stuck e.what then last else slice_set last a (Some (length old.journal))) (sym k.2.agent))
      p);
}
  where
    k : (S : State) × (T : State) × Known old new m e S T
    k = known old new m e s

    waker : ℕ
    waker = slice_index_or wakers (agent_of m) 0

    fact : Fact
    fact =
        fact_of b (slice_index_or last (agent_of m) None)
        (concluded e.what b.sight (then_some b.woken waker) b.failing new.blocks)

    tied : IsTied old.plan e fact
    tied = record { call = i.call_is ∙ sym (its_call old new m e k.0 k.1 k.2); place = i.place_is }

    since : IsLast old.journal e.agent fact.since
    since = rw k.2.agent (p (agent_of m) (omega (arith, l, few)))

    finds : Finds old.plan old.journal k.0 e k.1 fact e.what
    finds =
        finds_of old new m e k.0 k.1 b (slice_index_or last (agent_of m) None) waker k.2 i
        (w k.0 k.2.before (agent_of m) l) e.what refl

    after : (a : ℕ) → k.1.notified a ≡ true → (k.0.notified a || list_any (λ c. c == a) (woken_in fact.found)) ≡ true
    after a = notified_after old.plan old.journal e k.0 k.1 fact a k.2.goes tied finds

    unnotified : (a : ℕ) → list_any (λ c. c == a) (woken_in fact.found) ≡ true → k.0.notified a ≡ false
    unnotified a h =
        let saw = concluded_saw e.what b.sight (then_some b.woken waker) b.failing new.blocks a h in
        let see = some_holds (IsSight old b.call) b.sight saw.0 saw.1 i.sight_is in
        let there = subst (λ (ws : List ℕ). list_any (λ c. c == a) ws ≡ true) (see.waiters_is k.0 k.2.before) saw.2 in
        k.2.line.unnotified a (waiters_stand saw.0.place a k.0.line there)

-- as the code has it
pub concludes : (old new : SimParts) (m : Move) (a : ℕ) (xs ys : List Entry) (d : Entry) (b : Before) (wakers : List ℕ)
    (last : List (Option ℕ)) (fact : Fact)
    → FitsMoves old.plan old.moves old.journal old.blocks → FitsMoves new.plan new.moves new.journal new.blocks
    → AtEnd old.plan old.journal (IsOfWaits old.plan old.journal)
    → new.plan ≡ old.plan → new.moves ≡ old.moves ++ m ∷ [] → ((e : Entry) × (new.journal ≡ old.journal ++ e ∷ []))
    → ys ≡ old.journal → xs ≡ new.journal → a ≡ agent_of m → a < length old.plan.scripts
    → length old.plan.scripts ≤ MAX_AGENTS → length last ≡ MAX_AGENTS
    → IsBefore old a b → AreWakers old.plan old.journal wakers → AreLast old.journal last
    → fact ≡ fact_of b (slice_index_or last a None) (concluded (get_or xs (length ys) d).what b.sight
    (then_some b.woken (slice_index_or wakers a 0)) b.failing new.blocks)
    → Concludes old new a (get_or xs (length ys) d) fact (length ys) wakers last
concludes old new m a xs ys d b wakers last fact fits_old fits_new line plan_is moves_is journal_is ys_are xs_are a_is l
    few size i w p f =
    let e = get_or xs (length ys) d in
    let last_is : e ≡ journal_is.0 = last_entry old.journal xs ys journal_is.0 d ys_are (xs_are ∙ journal_is.1) in
    let s : Stepped old new m e = record {
      fits_old = fits_old;
      fits_new = fits_new;
      line = line;
      plan_is = plan_is;
      moves_is = moves_is;
      journal_is = journal_is.1 ∙ ap (λ (x : Entry). old.journal ++ x ∷ []) (sym last_is);
    } in
    let l' : agent_of m < length old.plan.scripts = rw a_is at l in
    let i' : IsBefore old (agent_of m) b = subst (λ (n : ℕ). IsBefore old n b) a_is i in
    let f' : fact ≡ fact_of b (slice_index_or last (agent_of m) None) (concluded e.what b.sight
    (then_some b.woken (slice_index_or wakers (agent_of m) 0)) b.failing new.blocks) = subst (λ (n : ℕ). fact ≡
    fact_of b (slice_index_or last n None)
    (concluded e.what b.sight (then_some b.woken (slice_index_or wakers n 0)) b.failing new.blocks)) a_is f in
    subst (λ (n : ℕ). Concludes old new n e fact (length ys) wakers last) (sym a_is)
    (subst (λ (g : Fact). Concludes old new (agent_of m) e g (length ys) wakers last) (sym f')
    (subst (λ (es : List Entry). Concludes old new (agent_of m) e (fact_of b (slice_index_or last (agent_of m) None)
    (concluded e.what b.sight (then_some b.woken (slice_index_or wakers (agent_of m) 0)) b.failing new.blocks))
    (length es) wakers last) (sym ys_are)
    (concludes_at old new m e b wakers last s i' l' few size w p)))
