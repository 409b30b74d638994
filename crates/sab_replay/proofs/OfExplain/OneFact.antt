-- An entry has one fact, and the entry that it names as waker woke the agent.
use Rattle.std.proofs.Common.{◌≡◌, inl, inr, ℕ, zero, suc, ◌<◌, Bool, true, false, List, [], ◌∷◌, ◌++◌, length, take, slice_get, Option, Some, refl, ap, sym, ◌∙◌, subst, arith, MatchBool, get_or}
use Rattle.std.proofs.lemmas.Bool.{false≢true, cases_lt}
use Rattle.std.proofs.lemmas.Option.{slice_get-get_or}
use Rattle.sab_block.specs.declared.operand.Operand.{Operand}
use Rattle.sab_block.specs.declared.access.Access.TheVariants as X
use Rattle.sab_plan.specs.declared.place.Place.{Place}
use Rattle.sab_plan.specs.declared.plan_view.PlanView.{PlanView}
use Rattle.sab_plan.specs.declared.call.Call.{Call}
use Rattle.sab_plan.specs.declared.call.Call.TheVariants as C
use Rattle.sab_plan.specs.declared.answer.Answer.TheVariants as A
use Rattle.sab_plan.specs.declared.entry.Why.TheVariants as Y
use Rattle.sab_plan.specs.declared.entry.What.{What}
use Rattle.sab_plan.specs.declared.entry.What.TheVariants.{Began, Acted, Enlisted, Left, Stuck}
use Rattle.sab_plan.specs.declared.entry.Entry.{Entry}
use Rattle.sab_plan.specs.Script.{ScriptParts}
use Rattle.sab_plan.specs.Entry.{is_act}
use Rattle.sab_plan.specs.Call.{view_of, index_of}
use Rattle.sab_plan.specs.Check.{checks}
use Rattle.sab_plan.specs.Place.{place_of}
use Rattle.sab_plan.specs.Plan.{PlanParts, call_of}
use Rattle.sab_object.specs.Object.{State, waiters, Does}
use Rattle.sab_sim.specs.Run.{Reaches}
use Rattle.sab_object.proofs.OnlyAct.{one_value}
use Rattle.sab_sim.proofs.PlaceLine.{Reaches-one}
use Rattle.sab_sim.proofs.Fronts.{Reaches-front}
use Rattle.sab_block.specs.declared.check.Check.{Check}
use Rattle.sab_plan.specs.declared.fact.Found.{Found}
use Rattle.sab_plan.specs.declared.fact.Found.TheVariants as F
use Rattle.sab_plan.specs.declared.fact.Fact.{Fact}
use Rattle.sab_block.specs.Check.{first_failed}
use Rattle.sab_replay.specs.Explain.Fact.{place_named, value_in, expects, found_by, IsOfAct, IsOfThrow, IsWaker, IsOfWoken, Finds, IsFact, HasWoken, NamesWaker, IsLast}
use Rattle.sab_replay.proofs.OfExplain.Explaining.{Reaches-last}
use Rattle.sab_replay.proofs.OfExplain.LastOnes.{last_of, IsLast-one}
use Rattle.sab_replay.proofs.OfExplain.Concluding.{WokenAt, DoesCall-notified, call_of-does}

-- an agent has one waker
IsWaker-before : (plan : PlanParts) (journal : List Entry) (S : State) (a i j : ℕ) → Reaches plan journal S
    → IsWaker plan journal a i → IsWaker plan journal a j → i < j → ⊥
IsWaker-before plan journal S a i j r v w l =
    let u = Reaches-front plan journal j S r in
    let in_journal = w.within in
    false≢true (sym (w.before u.0 u.1) ∙ v.since j l (omega (arith, in_journal)) u.0 u.1)

pub IsWaker-one : (plan : PlanParts) (journal : List Entry) (S : State) (a i j : ℕ) → Reaches plan journal S
    → IsWaker plan journal a i → IsWaker plan journal a j → i ≡ j
IsWaker-one plan journal S a i j r v w = elim (cases_lt i j) [
  | inl below ↦ absurd (IsWaker-before plan journal S a i j r v w below)
  | inr l ↦ elim (cases_lt j i) [
    | inl above ↦ absurd (IsWaker-before plan journal S a j i r w v above)
    | inr m ↦ omega (arith, l, m)
  ]
]

-- two facts of an entry have one call and one place
record AreOfOne (f g : Fact) : Type 0 where
  pub calls : f.call ≡ g.call
  pub places : f.place ≡ g.place

IsOfAct-one : (plan : PlanParts) (S T : State) (e : Entry) (f g : Fact) → AreOfOne f g → IsOfAct plan S e T f
    → IsOfAct plan S e T g → f.found ≡ g.found
IsOfAct-one plan S T e f g o p q =
    let calls : p.call ≡ q.call = one_value g.call p.call q.call (sym o.calls ∙ p.call_is) q.call_is in
    let views : p.view ≡ q.view = one_value (slice_get plan.views (view_of q.call)) p.view q.view
    (subst (λ (c : Call). slice_get plan.views (view_of c) ≡ Some p.view) calls p.view_is) q.view_is in
    let places : p.place ≡ q.place = one_value g.place p.place q.place (sym o.places ∙ p.place_is) q.place_is in
    p.found_is ∙ (ap (λ (c : Call). found_by e.what c (value_in S p.view p.place) (value_in T p.view p.place)
    (expects S p.view p.place c) (waiters p.place S.line)) calls
    ∙ (ap (λ (v : PlanView). found_by e.what q.call (value_in S v p.place) (value_in T v p.place)
    (expects S v p.place q.call) (waiters p.place S.line)) views
    ∙ (ap (λ (r : Place). found_by e.what q.call (value_in S q.view r) (value_in T q.view r) (expects S q.view r q.call)
    (waiters r S.line)) places ∙ sym q.found_is)))

IsOfThrow-one : (plan : PlanParts) (e : Entry) (f g : Fact) → AreOfOne f g → IsOfThrow plan e f → IsOfThrow plan e g
    → f.found ≡ g.found
IsOfThrow-one plan e f g o p q =
    let calls : p.call ≡ q.call = one_value g.call p.call q.call (sym o.calls ∙ p.call_is) q.call_is in
    let scripts : p.script ≡ q.script =
    one_value (slice_get plan.scripts e.agent) p.script q.script p.script_is q.script_is in
    let views : p.view ≡ q.view = one_value (slice_get plan.views (view_of q.call)) p.view q.view
    (subst (λ (c : Call). slice_get plan.views (view_of c) ≡ Some p.view) calls p.view_is) q.view_is in
    let one = subst (λ (c : Call). first_failed (checks p.script.can_block p.view.view c) ≡ Some p.check)
    calls p.check_is in
    let two = subst
    (λ (v : PlanView). first_failed (checks p.script.can_block v.view q.call) ≡ Some p.check)
    views one in
    let three = subst
    (λ (s : ScriptParts). first_failed (checks s.can_block q.view.view q.call) ≡ Some p.check)
    scripts two in
    let same : p.check ≡ q.check = one_value
    (first_failed (checks q.script.can_block q.view.view q.call)) p.check q.check three q.check_is
    in
    p.found_is ∙ (ap (λ (c : Check). F.Failed c) same ∙ sym q.found_is)

IsOfWoken-one : (plan : PlanParts) (journal : List Entry) (S : State) (e : Entry) (f g : Fact) → Reaches plan journal S
    → IsOfWoken plan journal e f → IsOfWoken plan journal e g → f.found ≡ g.found
IsOfWoken-one plan journal S e f g r p q =
    p.2 ∙ (ap (λ (j : ℕ). F.WokenBy j) (IsWaker-one plan journal S e.agent p.0 q.0 r p.1 q.1) ∙ sym q.2)

Finds-one : (plan : PlanParts) (journal : List Entry) (S T : State) (e : Entry) (f g : Fact) (w : What) → AreOfOne f g
    → Reaches plan journal S → Finds plan journal S e T f w → Finds plan journal S e T g w → f.found ≡ g.found
Finds-one plan journal S T e f g (Acted (A.Value x)) o r p q = IsOfAct-one plan S T e f g o p q
Finds-one plan journal S T e f g (Acted (A.Count n)) o r p q = IsOfAct-one plan S T e f g o p q
Finds-one plan journal S T e f g (Acted A.NotEqual) o r p q = IsOfAct-one plan S T e f g o p q
Finds-one plan journal S T e f g (Acted (A.Threw t)) o r p q = IsOfThrow-one plan e f g o p q
Finds-one plan journal S T e f g Enlisted o r p q = IsOfAct-one plan S T e f g o p q
Finds-one plan journal S T e f g (Left A.Woken) o r p q = IsOfWoken-one plan journal S e f g r p q
Finds-one plan journal S T e f g (Left A.TimedOut) o r p q = p.0 ∙ sym q.0
Finds-one plan journal S T e f g (Stuck Y.Waiting) o r p q = p.0 ∙ sym q.0
Finds-one plan journal S T e f g (Stuck Y.Endless) o r p q = p.0 ∙ sym q.0
Finds-one plan journal S T e f g (Stuck Y.NotWaiting) o r p q = go (S.notified e.agent) p q
  where
    go : (n : Bool) → MatchBool n (IsOfWoken plan journal e f) (f.found ≡ F.Nothing)
        → MatchBool n (IsOfWoken plan journal e g) (g.found ≡ F.Nothing) → f.found ≡ g.found
    go true h k = IsOfWoken-one plan journal S e f g r h k
    go false h k = h ∙ sym k
Finds-one plan journal S T e f g w o r p q = p ∙ sym q

-- an entry has one fact
pub IsFact-one : (plan : PlanParts) (journal : List Entry) (e : Entry) (f g : Fact) → IsFact plan journal e f
    → IsFact plan journal e g → f ≡ g
IsFact-one plan journal e f g p q =
    let olds : q.old ≡ p.old = Reaches-one plan journal q.old p.old q.old_is p.old_is in
    let news : q.new ≡ p.new = Reaches-one plan (journal ++ e ∷ []) q.new p.new q.new_is p.new_is in
    let finds = subst (λ (T : State). Finds plan journal p.old e T g e.what) news
    (subst (λ (S : State). Finds plan journal S e q.new g e.what) olds q.finds) in
    let calls : f.call ≡ g.call = p.call ∙ sym q.call in
    let places : f.place ≡ g.place = p.place ∙ (ap (place_named plan) calls ∙ sym q.place) in
    let sinces : f.since ≡ g.since = IsLast-one journal e.agent f.since g.since p.since q.since in
    let founds = Finds-one plan journal p.old p.new e f g e.what (record { calls = calls; places = places }) p.old_is
    p.finds finds in
    ap (λ (c : Option Call). record { call = c; place = f.place; since = f.since; found = f.found }) calls
    ∙ (ap (λ (x : Option Place). record { call = g.call; place = x; since = f.since; found = f.found }) places
    ∙ (ap (λ (n : Option ℕ). record { call = g.call; place = g.place; since = n; found = f.found }) sinces
    ∙ ap (λ (h : Found). record { call = g.call; place = g.place; since = g.since; found = h }) founds))

take-next : {X : Type 0} (xs : List X) (k : ℕ) (x : X) → slice_get xs k ≡ Some x → take (suc k) xs ≡ take k xs ++ x ∷ []
take-next [] k x e = absurd (cc)
take-next (y ∷ xs) zero x e = let same : y ≡ x = cc in rw same refl
take-next (y ∷ xs) (suc k) x e = ap (λ (r : List _). y ∷ r) (take-next xs k x e)

-- the waker's fact is that it woke the agent
pub IsWaker-woke : (plan : PlanParts) (journal : List Entry) (S : State) (a j : ℕ) → Reaches plan journal S
    → IsWaker plan journal a j → HasWoken plan journal a j
IsWaker-woke plan journal S a j r w = go (is_act e.what) (Reaches-last plan (take j journal) e U.0 V.0 U.1 after)
  where
    in_journal : j < length journal
    in_journal = w.within

    e : Entry
    e = get_or journal j (record { agent = 0; call = 0; what = Began })

    e_is : slice_get journal j ≡ Some e
    e_is = slice_get-get_or journal j (record { agent = 0; call = 0; what = Began }) in_journal

    U : (T : State) × Reaches plan (take j journal) T
    U = Reaches-front plan journal j S r

    V : (T : State) × Reaches plan (take (suc j) journal) T
    V = Reaches-front plan journal (suc j) S r

    after : Reaches plan (take j journal ++ e ∷ []) V.0
    after = subst (λ (es : List Entry). Reaches plan es V.0) (take-next journal j e e_is) V.1

    was : U.0.notified a ≡ false
    was = w.before U.0 U.1

    is : V.0.notified a ≡ true
    is = w.since (suc j) (omega arith) (omega (arith, in_journal)) V.0 V.1

    last : (o : Option ℕ) × IsLast (take j journal) e.agent o
    last = last_of (take j journal) e.agent

    woke : (d : Does plan U.0 e V.0) → WokenAt d.view d.call U.0 e.what a → HasWoken plan journal a j
    woke d by =
        let line = take by.k (waiters by.place U.0.line) in
        let found : F.Notified line (length (waiters by.place U.0.line)) ≡ found_by e.what d.call
        (value_in U.0 d.view by.place) (value_in V.0 d.view by.place) (expects U.0 d.view by.place d.call)
        (waiters by.place U.0.line) = rw (by.what_is, by.call_is) refl in
        let fact : Fact = record {
          call = call_of plan e.agent e.call;
          place = place_named plan
              (call_of plan e.agent e.call);
          since = last.0;
          found = F.Notified line (length (waiters by.place U.0.line));
        } in
        let its = call_of-does plan U.0 V.0 e d in
        let named : place_named plan (call_of plan e.agent e.call) ≡ place_of d.view (index_of d.call) =
        rw (its, d.view_is) refl in
        let act : IsOfAct plan U.0 e V.0 fact = record {
          call = d.call;
          call_is = its;
          view = d.view;
          view_is = d.view_is;
          place = by.place;
          place_is = named ∙ (ap (λ (c : Call). place_of d.view (index_of c)) by.call_is ∙ by.place_is);
          found_is = found;
        } in
        record {
          entry = e;
          entry_is = e_is;
          fact = fact;
          fact_is =
              record {
                call = refl;
                place = refl;
                since = last.1;
                old = U.0;
                old_is = U.1;
                new = V.0;
                new_is = after;
                finds = subst (λ (x : What). Finds plan (take j journal) U.0 e V.0 fact x) (sym by.what_is) act;
              };
          among = rw was at by.notified;
        }

    go : (b : Bool) → MatchBool b (Does plan U.0 e V.0) (V.0 ≡ U.0) → HasWoken plan journal a j
    go false same = absurd (false≢true (sym was ∙ subst (λ (T : State). T.notified a ≡ true) same is))
    go true d = elim (DoesCall-notified d.script.can_block e.agent d.view d.call U.0 e.what V.0 a d.does is) [
      | inl h ↦ absurd (false≢true (sym was ∙ h))
      | inr by ↦ woke d by
    ]

-- the fact of a call at its place names no waker
names_none : (plan : PlanParts) (journal : List Entry) (e : Entry) (w : What) (call : Call) (x y : Operand) (b : Bool)
    (line : List ℕ)
    → NamesWaker plan journal e (found_by w call x y b line)
names_none plan journal e (Acted (A.Value z)) (C.Access n (X.Load index)) x y b line = tt
names_none plan journal e (Acted (A.Value z)) (C.Access n (X.CompareExchange index r s)) x y b line = tt
names_none plan journal e (Acted (A.Value z)) (C.Access n access) x y b line = tt
names_none plan journal e (Acted (A.Count k)) (C.Notify n index count) x y b line = tt
names_none plan journal e (Acted A.NotEqual) (C.Wait n index z timeout) x y b line = tt
names_none plan journal e Enlisted (C.Wait n index z timeout) x y b line = tt
names_none plan journal e w call x y b line = tt

act_names : (plan : PlanParts) (journal : List Entry) (S T : State) (e : Entry) (fact : Fact) → IsOfAct plan S e T fact
    → NamesWaker plan journal e fact.found
act_names plan journal S T e fact t =
    subst (NamesWaker plan journal e) (sym t.found_is) (names_none plan journal e e.what t.call
    (value_in S t.view t.place) (value_in T t.view t.place) (expects S t.view t.place t.call)
    (waiters t.place S.line))

woken_names : (plan : PlanParts) (journal : List Entry) (S : State) (e : Entry) (fact : Fact) → Reaches plan journal S
    → IsOfWoken plan journal e fact → NamesWaker plan journal e fact.found
woken_names plan journal S e fact r t =
    subst (NamesWaker plan journal e) (sym t.2) (IsWaker-woke plan journal S e.agent t.0 r t.1)

names : (plan : PlanParts) (journal : List Entry) (S T : State) (e : Entry) (fact : Fact) (w : What)
    → Reaches plan journal S → Finds plan journal S e T fact w → NamesWaker plan journal e fact.found
names plan journal S T e fact (Acted (A.Value x)) r t = act_names plan journal S T e fact t
names plan journal S T e fact (Acted (A.Count n)) r t = act_names plan journal S T e fact t
names plan journal S T e fact (Acted A.NotEqual) r t = act_names plan journal S T e fact t
names plan journal S T e fact (Acted (A.Threw x)) r t = subst (NamesWaker plan journal e) (sym t.found_is) tt
names plan journal S T e fact Enlisted r t = act_names plan journal S T e fact t
names plan journal S T e fact (Left A.Woken) r t = woken_names plan journal S e fact r t
names plan journal S T e fact (Left A.TimedOut) r t = subst (NamesWaker plan journal e) (sym t.0) tt
names plan journal S T e fact (Stuck Y.Waiting) r t = subst (NamesWaker plan journal e) (sym t.0) tt
names plan journal S T e fact (Stuck Y.Endless) r t = subst (NamesWaker plan journal e) (sym t.0) tt
names plan journal S T e fact (Stuck Y.NotWaiting) r t = go (S.notified e.agent) t
  where
    go : (n : Bool) → MatchBool n (IsOfWoken plan journal e fact) (fact.found ≡ F.Nothing)
        → NamesWaker plan journal e fact.found
    go true h = woken_names plan journal S e fact r h
    go false h = subst (NamesWaker plan journal e) (sym h) tt
names plan journal S T e fact w r t = subst (NamesWaker plan journal e) (sym t) tt

-- a fact that names a waker names one that woke
pub NamesWaker-fact : (plan : PlanParts) (journal : List Entry) (e : Entry) (fact : Fact) → IsFact plan journal e fact
    → NamesWaker plan journal e fact.found
NamesWaker-fact plan journal e fact f = names plan journal f.old f.new e fact e.what f.old_is f.finds
