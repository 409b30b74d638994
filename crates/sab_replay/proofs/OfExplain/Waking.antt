-- Who is woken by an entry is in its fact.
use Rattle.std.proofs.Common.{◌≡◌, inl, inr, ℕ, zero, suc, ◌==◌, ◌||◌, Bool, true, false, List, [], ◌∷◌, take, Option, Some, None, refl, ap, sym, ◌∙◌, subst, MatchBool, ℤ}
use Rattle.std.specs.Prelude.{slice_index_or}
use Rattle.std.specs.List.{list_any}
use Rattle.std.proofs.lemmas.Bool.{false≢true, true≢false}
use Rattle.sab_block.specs.declared.operand.Operand.{Operand}
use Rattle.sab_block.specs.declared.access.Access.TheVariants as X
use Rattle.sab_plan.specs.declared.call.Call.{Call}
use Rattle.sab_plan.specs.declared.call.Call.TheVariants as C
use Rattle.sab_plan.specs.declared.answer.Answer.TheVariants as A
use Rattle.sab_plan.specs.declared.entry.Why.TheVariants as Y
use Rattle.sab_plan.specs.declared.entry.What.{What}
use Rattle.sab_plan.specs.declared.entry.What.TheVariants.{Acted, Enlisted, Left, Stuck}
use Rattle.sab_plan.specs.declared.entry.Entry.{Entry}
use Rattle.sab_plan.specs.Entry.{is_act}
use Rattle.sab_plan.specs.Call.{index_of}
use Rattle.sab_plan.specs.Place.{place_of}
use Rattle.sab_plan.specs.Plan.{PlanParts, call_of}
use Rattle.sab_object.specs.Object.{State, waiters, Does}
use Rattle.sab_object.proofs.OnlyAct.{one_value}
use Rattle.sab_block.specs.declared.check.Check.{Check}
use Rattle.sab_plan.specs.declared.fact.Fact.{Fact}
use Rattle.sab_replay.specs.declared.explain.sight.Sight.{Sight}
use Rattle.sab_replay.specs.Explain.Fact.{place_named, value_in, expects, found_by, IsOfAct, Finds}
use Rattle.sab_plan.specs.Fact.{woken_in}
use Rattle.sab_replay.specs.Explain.Explainer.{IsNoted, failure, woken_by, found, concluded}
use Rattle.sab_replay.proofs.OfExplain.Explaining.{AreNoted}
use Rattle.sab_replay.proofs.OfExplain.Concluding.{WokenAt, DoesCall-notified, call_of-does}

-- ---- those that a fact names as woken

any_take : (b k : ℕ) (xs : List ℕ) → list_any (λ c. c == b) (take k xs) ≡ true → list_any (λ c. c == b) xs ≡ true
any_take b zero xs e = absurd (false≢true e)
any_take b (suc k) [] e = e
any_take b (suc k) (x ∷ xs) e = go (any_take b k xs) (x == b) e
  where
    go : (list_any (λ c. c == b) (take k xs) ≡ true → list_any (λ c. c == b) xs ≡ true) → (h : Bool)
        → (h || list_any (λ c. c == b) (take k xs)) ≡ true → (h || list_any (λ c. c == b) xs) ≡ true
    go rest true f = refl
    go rest false f = rest f

-- they are of the line
found_woken : (w : What) (call : Call) (x y : Operand) (z : Bool) (line : List ℕ) (b : ℕ)
    → list_any (λ c. c == b) (woken_in (found_by w call x y z line)) ≡ true → list_any (λ c. c == b) line ≡ true
found_woken (Acted (A.Value v)) (C.Access n (X.Load index)) x y z line b e = absurd (false≢true e)
found_woken (Acted (A.Value v)) (C.Access n (X.CompareExchange index r s)) x y z line b e = absurd (false≢true e)
found_woken (Acted (A.Value v)) (C.Access n access) x y z line b e = absurd (false≢true e)
found_woken (Acted (A.Count k)) (C.Notify n index count) x y z line b e = any_take b k line e
found_woken (Acted A.NotEqual) (C.Wait n index r timeout) x y z line b e = absurd (false≢true e)
found_woken Enlisted (C.Wait n index r timeout) x y z line b e = absurd (false≢true e)
found_woken w call x y z line b e = absurd (false≢true e)

-- of the line that was seen
abbrev Saw : Option Sight → ℕ → Type 0
Saw sight b = (s : Sight) × (sight ≡ Some s) × (list_any (λ c. c == b) s.waiters ≡ true)

found_saw : (w : What) (sight : Option Sight) (blocks : List (List ℕ)) (b : ℕ)
    → list_any (λ c. c == b) (woken_in (found w sight blocks)) ≡ true → Saw sight b
found_saw w None blocks b e = absurd (false≢true e)
found_saw w (Some s) blocks b e = (s, refl, found_woken w s.call s.value _ s.expected s.waiters b e)

failure_woken : (check : Option Check) (b : ℕ) → list_any (λ c. c == b) (woken_in (failure check)) ≡ true → ⊥
failure_woken None b e = false≢true e
failure_woken (Some check) b e = false≢true e

waker_woken : (waker : Option ℕ) (b : ℕ) → list_any (λ c. c == b) (woken_in (woken_by waker)) ≡ true → ⊥
waker_woken None b e = false≢true e
waker_woken (Some waker) b e = false≢true e

pub concluded_saw : (w : What) (sight : Option Sight) (waker : Option ℕ) (check : Option Check) (blocks : List (List ℕ))
    (b : ℕ)
    → list_any (λ c. c == b) (woken_in (concluded w sight waker check blocks)) ≡ true → Saw sight b
concluded_saw (Acted (A.Value x)) sight waker check blocks b e = found_saw (Acted (A.Value x)) sight blocks b e
concluded_saw (Acted (A.Count k)) sight waker check blocks b e = found_saw (Acted (A.Count k)) sight blocks b e
concluded_saw (Acted A.NotEqual) sight waker check blocks b e = found_saw (Acted A.NotEqual) sight blocks b e
concluded_saw (Acted (A.Threw t)) sight waker check blocks b e = absurd (failure_woken check b e)
concluded_saw Enlisted sight waker check blocks b e = found_saw Enlisted sight blocks b e
concluded_saw (Left A.Woken) sight waker check blocks b e = absurd (waker_woken waker b e)
concluded_saw (Left A.TimedOut) sight waker check blocks b e = absurd (false≢true e)
concluded_saw (Stuck Y.Waiting) sight waker check blocks b e = absurd (false≢true e)
concluded_saw (Stuck Y.Endless) sight waker check blocks b e = absurd (false≢true e)
concluded_saw (Stuck Y.NotWaiting) sight waker check blocks b e = absurd (waker_woken waker b e)
concluded_saw w sight waker check blocks b e = absurd (false≢true e)

-- ---- those that an entry wakes

-- a notify finds those that it woke
found_notified : (w : What) (call : Call) (x y : Operand) (z : Bool) (line : List ℕ) (k n : ℕ) (i : ℤ)
    (count : Option ℤ)
    → w ≡ Acted (A.Count k) → call ≡ C.Notify n i count → woken_in (found_by w call x y z line) ≡ take k line
found_notified w call x y z line k n i count q r = rw (q, r) refl

-- the fact's call and place are the entry's
pub record IsTied (plan : PlanParts) (e : Entry) (fact : Fact) : Type 0 where
  pub call : fact.call ≡ call_of plan e.agent e.call
  pub place : fact.place ≡ place_named plan fact.call

woken_at : (plan : PlanParts) (journal : List Entry) (e : Entry) (S T : State) (fact : Fact) (d : Does plan S e T)
    (b : ℕ)
    → IsTied plan e fact → Finds plan journal S e T fact e.what → WokenAt d.view d.call S e.what b
    → (S.notified b || list_any (λ c. c == b) (woken_in fact.found)) ≡ true
woken_at plan journal e S T fact d b tied finds by =
    let f : IsOfAct plan S e T fact = subst (λ (w : What). Finds plan journal S e T fact w) by.what_is finds in
    let its : fact.call ≡ Some d.call = tied.call ∙ call_of-does plan S T e d in
    let calls : f.call ≡ d.call = one_value fact.call f.call d.call f.call_is its in
    let named : place_named plan fact.call ≡ place_of d.view (index_of d.call) = rw (its, d.view_is) refl in
    let there : fact.place ≡ Some by.place =
    tied.place ∙ (named ∙ (ap (λ (c : Call). place_of d.view (index_of c)) by.call_is ∙ by.place_is)) in
    let places : f.place ≡ by.place = one_value fact.place f.place by.place f.place_is there in
    let woken : woken_in fact.found ≡ take by.k (waiters f.place S.line) =
    ap woken_in f.found_is ∙ found_notified e.what f.call (value_in S f.view f.place) (value_in T f.view f.place)
    (expects S f.view f.place f.call) (waiters f.place S.line) by.k by.view by.index by.count by.what_is
    (calls ∙ by.call_is) in
    rw (woken, places) by.notified

-- who is notified after an entry was notified before it or is woken by it
pub notified_after : (plan : PlanParts) (journal : List Entry) (e : Entry) (S T : State) (fact : Fact) (b : ℕ)
    → MatchBool (is_act e.what) (Does plan S e T) (T ≡ S) → IsTied plan e fact → Finds plan journal S e T fact e.what
    → T.notified b ≡ true → (S.notified b || list_any (λ c. c == b) (woken_in fact.found)) ≡ true
notified_after plan journal e S T fact b goes tied finds c = go (is_act e.what) goes
  where
    go : (x : Bool) → MatchBool x (Does plan S e T) (T ≡ S)
        → (S.notified b || list_any (λ c. c == b) (woken_in fact.found)) ≡ true
    go false same = let h : S.notified b ≡ true = subst (λ (V : State). V.notified b ≡ true) same c in rw h refl
    go true d = elim (DoesCall-notified d.script.can_block e.agent d.view d.call S e.what T b d.does c) [
      | inl h ↦ rw h refl
      | inr by ↦ woken_at plan journal e S T fact d b tied finds by
    ]

pub noted_of : (S T : State) (k : ℕ) (ws old new : List ℕ)
    → ((b : ℕ) → T.notified b ≡ true → (S.notified b || list_any (λ c. c == b) ws) ≡ true)
    → ((b : ℕ) → list_any (λ c. c == b) ws ≡ true → S.notified b ≡ false) → IsNoted ws k old new
    → AreNoted S T k old new
noted_of S T k ws old new after unnotified n = record {
  kept = λ a s t. kept_at a s (list_any (λ c. c == a) ws) refl;
  noted = λ a s t. n.noted a (rw s at (after a t));
}
  where
    kept_at : (a : ℕ) → S.notified a ≡ true → (b : Bool) → list_any (λ c. c == a) ws ≡ b
        → slice_index_or new a 0 ≡ slice_index_or old a 0
    kept_at a s true e = absurd (true≢false (sym s ∙ unnotified a e))
    kept_at a s false e = n.others a e
