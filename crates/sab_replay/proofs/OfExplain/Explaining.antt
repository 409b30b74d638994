-- The last entry of a journal, and who woke whom.
use Rattle.std.proofs.Common.{◌≡◌, inl, inr, ℕ, suc, ◌≤◌, Bool, true, false, cond, List, [], ◌∷◌, ◌++◌, length, refl, sym, subst, arith, length-append, MatchBool}
use Rattle.std.specs.Prelude.{slice_index_or}
use Rattle.std.proofs.lemmas.Bool.{cases_eq}
use Rattle.std.proofs.lemmas.List.{take-append-le, take_all}
use Rattle.std.proofs.lemmas.List.Elements.{filter-append}
use Rattle.std.proofs.Math.Seq.{take-append_seam}
use Rattle.sab_plan.specs.declared.entry.Entry.{Entry}
use Rattle.sab_plan.specs.Entry.{is_act}
use Rattle.sab_plan.specs.Plan.{PlanParts}
use Rattle.sab_object.specs.Object.{State, opening, Does}
use Rattle.sab_plan.specs.Journal.{acts_of}
use Rattle.sab_sim.specs.Run.{Run, Reaches}
use Rattle.sab_sim.proofs.OnlyRun.{Run-append}
use Rattle.sab_sim.proofs.PlaceLine.{Reaches-one}
use Rattle.sab_replay.specs.Explain.Fact.{IsWaker}
use Rattle.sab_replay.specs.Explain.Explainer.{AreWakers}

-- the last entry of a journal leads to its state from the one before
pub Reaches-last : (plan : PlanParts) (journal : List Entry) (e : Entry) (S T : State) → Reaches plan journal S
    → Reaches plan (journal ++ e ∷ []) T → MatchBool (is_act e.what) (Does plan S e T) (T ≡ S)
Reaches-last plan journal e S T r t =
    let t' : Run plan (opening plan.lens) (acts_of journal ++ cond (is_act e.what) (e ∷ []) []) T =
    rw (filter-append (λ (f : Entry). is_act f.what) journal (e ∷ [])) at t in
    let split = Run-append plan (opening plan.lens) (acts_of journal) (cond (is_act e.what) (e ∷ []) []) T t' in
    let same : split.0 ≡ S = Reaches-one plan journal split.0 S split.1 r in
    go (is_act e.what) (subst (λ (V : State). Run plan V (cond (is_act e.what) (e ∷ []) []) T) same split.2)
  where
    go : (b : Bool) → Run plan S (cond b (e ∷ []) []) T → MatchBool b (Does plan S e T) (T ≡ S)
    go true d = subst (λ (V : State). Does plan S e V) (sym d.2) d.1
    go false d = d

-- ---- who woke

-- an agent that still is notified was woken by the same entry
IsWaker-kept : (plan : PlanParts) (journal : List Entry) (e : Entry) (T : State) (a j : ℕ)
    → Reaches plan (journal ++ e ∷ []) T → T.notified a ≡ true → IsWaker plan journal a j
    → IsWaker plan (journal ++ e ∷ []) a j
IsWaker-kept plan journal e T a j t c w = record {
  within = let l = w.within in omega (arith, l, length-append journal (e ∷ []));
  before = let l = w.within in rw (take-append-le j journal (e ∷ []) (omega (arith, l))) w.before;
  since = λ m above below. elim (cases_eq m (suc (length journal))) [
    | inl q ↦ rw (take_all m (journal ++ e ∷ []) (omega (arith, q, length-append journal (e ∷ []))))
        (λ U u. subst (λ (V : State). V.notified a ≡ true) (Reaches-one plan (journal ++ e ∷ []) T U t u) c)
    | inr n ↦
        let b : m ≤ length journal = omega (arith, n, below, length-append journal (e ∷ [])) in
        rw (take-append-le m journal (e ∷ []) b) (w.since m above b)
  ];
}

-- one that wasn't notified before the entry was woken by it
IsWaker-new : (plan : PlanParts) (journal : List Entry) (e : Entry) (S T : State) (a : ℕ) → Reaches plan journal S
    → Reaches plan (journal ++ e ∷ []) T → S.notified a ≡ false → T.notified a ≡ true
    → IsWaker plan (journal ++ e ∷ []) a (length journal)
IsWaker-new plan journal e S T a r t before c = record {
  within = omega (arith, length-append journal (e ∷ []));
  before =
      rw (take-append_seam journal (e ∷ []))
      (λ U u. subst (λ (V : State). V.notified a ≡ false) (Reaches-one plan journal S U r u) before);
  since = λ m above below.
      rw (take_all m (journal ++ e ∷ []) (omega (arith, above, length-append journal (e ∷ []))))
      (λ U u. subst (λ (V : State). V.notified a ≡ true) (Reaches-one plan (journal ++ e ∷ []) T U t u) c);
}

-- the wakers are kept where those that are notified anew get this entry
pub record AreNoted (S T : State) (k : ℕ) (old new : List ℕ) : Type 0 where
  pub kept : (a : ℕ) → S.notified a ≡ true → T.notified a ≡ true → slice_index_or new a 0 ≡ slice_index_or old a 0
  pub noted : (a : ℕ) → S.notified a ≡ false → T.notified a ≡ true → slice_index_or new a 0 ≡ k

pub AreWakers-push : (plan : PlanParts) (journal : List Entry) (e : Entry) (S T : State) (old new : List ℕ)
    → Reaches plan journal S → Reaches plan (journal ++ e ∷ []) T → AreNoted S T (length journal) old new
    → AreWakers plan journal old → AreWakers plan (journal ++ e ∷ []) new
AreWakers-push plan journal e S T old new r t n w U u a l c = go (S.notified a) refl
  where
    here : T.notified a ≡ true
    here = subst (λ (V : State). V.notified a ≡ true) (Reaches-one plan (journal ++ e ∷ []) U T u t) c

    go : (b : Bool) → S.notified a ≡ b → IsWaker plan (journal ++ e ∷ []) a (slice_index_or new a 0)
    go true f = rw (n.kept a f here) (IsWaker-kept plan journal e T a (slice_index_or old a 0) t here (w S r a l f))
    go false f = rw (n.noted a f here) (IsWaker-new plan journal e S T a r t f here)
