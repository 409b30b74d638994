-- What was known before a move is what the fact of its entry says.
use Rattle.std.proofs.Common.{◌≡◌, ◌⊎◌, inl, inr, ℕ, zero, suc, ◌==◌, ◌||◌, not, Bool, true, false, cond, List, [], ◌∷◌, ◌++◌, length, take, map, slice_get, Option, Some, None, refl, ap, sym, ◌∙◌, subst, arith, MatchBool, ℤ}
use Rattle.std.specs.Bool.{then_some}
use Rattle.std.specs.Prelude.{⊤, Contains, IfSome, IfNone, if◌then◌else◌, filter, option_map}
use Rattle.std.specs.List.{list_any}
use Rattle.std.proofs.lemmas.Bool.{false≢true, and_parts, eqb-true}
use Rattle.std.proofs.Math.Seq.{take-append_seam}
use Rattle.sab_block.specs.declared.kind.Kind.{Kind}
use Rattle.sab_block.specs.declared.kind.Kind.TheVariants as K
use Rattle.sab_block.specs.declared.thrown.Thrown.{Thrown}
use Rattle.sab_block.specs.declared.check.Check.{Check}
use Rattle.sab_block.specs.declared.operand.Operand.{Operand}
use Rattle.sab_block.specs.declared.access.Access.TheVariants as X
use Rattle.sab_block.specs.Kind.{is_atomic, is_waitable}
use Rattle.sab_block.specs.Operand.{agrees}
use Rattle.sab_block.specs.View.{kind_of}
use Rattle.sab_block.specs.Check.{Checked, thrown_by, first_failed, first_thrown}
use Rattle.sab_block.specs.Access.{kind_check, index_check, operand_check, value_at, element}
use Rattle.sab_plan.specs.declared.place.Place.{Place}
use Rattle.sab_plan.specs.declared.plan_view.PlanView.{PlanView}
use Rattle.sab_plan.specs.declared.call.Call.{Call}
use Rattle.sab_plan.specs.declared.call.Call.TheVariants as C
use Rattle.sab_plan.specs.declared.answer.Answer.TheVariants as A
use Rattle.sab_plan.specs.declared.entry.Why.TheVariants as Y
use Rattle.sab_plan.specs.declared.entry.What.{What}
use Rattle.sab_plan.specs.declared.entry.What.TheVariants.{Began, Acted, Enlisted, Left, Returned, Stuck}
use Rattle.sab_plan.specs.declared.entry.Entry.{Entry}
use Rattle.sab_plan.specs.declared.schedule.Move.{Move}
use Rattle.sab_plan.specs.Schedule.{agent_of}
use Rattle.sab_plan.specs.Entry.{is_act}
use Rattle.sab_plan.specs.Call.{view_of, index_of}
use Rattle.sab_plan.specs.Check.{checks, verdict}
use Rattle.sab_plan.specs.Place.{place_of}
use Rattle.sab_plan.specs.Plan.{PlanParts, call_of}
use Rattle.sab_plan.specs.declared.waiter.Waiter.{Waiter}
use Rattle.sab_object.specs.Object.{State, bytes_of, element_at, is_at, waiters, stands, DoesCall, Does}
use Rattle.sab_plan.specs.Journal.{returned_of, Answers}
use Rattle.sab_sim.specs.Run.{Reaches, Justifies}
use Rattle.sab_sim.specs.Agent.{WaitsOn}
use Rattle.sab_sim.specs.Fits.{FitsMoves}
use Rattle.sab_sim.specs.Shown.{AtEnd}
use Rattle.sab_sim.specs.States.{IsOfWaits}
use Rattle.sab_sim.specs.Sim.{SimParts}
use Rattle.sab_object.proofs.OnlyAct.{one_value}
use Rattle.sab_sim.proofs.PlaceLine.{Reaches-one}
use Rattle.sab_plan.specs.declared.fact.Found.{Found}
use Rattle.sab_plan.specs.declared.fact.Found.TheVariants as F
use Rattle.sab_plan.specs.declared.fact.Fact.{Fact}
use Rattle.sab_replay.specs.declared.explain.sight.Sight.{Sight}
use Rattle.sab_replay.specs.declared.explain.before.Before.{Before}
use Rattle.sab_replay.specs.Explain.Fact.{place_named, value_in, expects, found_by, IsOfAct, IsOfThrow, IsWaker, IsOfWoken, IsOfWaiting, Finds}
use Rattle.sab_replay.specs.Explain.Explainer.{is_expected, IsSight, IsBlind, IsBefore, failure, woken_by, found, concluded}
use Rattle.sab_replay.proofs.OfExplain.Explaining.{Reaches-last}

-- ---- one move more

-- what a step of a simulator reports
pub record Stepped (old new : SimParts) (m : Move) (e : Entry) : Type 0 where
  pub fits_old : FitsMoves old.plan old.moves old.journal old.blocks
  pub fits_new : FitsMoves new.plan new.moves new.journal new.blocks
  pub line : AtEnd old.plan old.journal (IsOfWaits old.plan old.journal)
  pub plan_is : new.plan ≡ old.plan
  pub moves_is : new.moves ≡ old.moves ++ m ∷ []
  pub journal_is : new.journal ≡ old.journal ++ e ∷ []

slice_get_seam : {X : Type 0} (xs : List X) (y : X) → slice_get (xs ++ y ∷ []) (length xs) ≡ Some y
slice_get_seam [] y = refl
slice_get_seam (x ∷ xs) y = slice_get_seam xs y

fits : (old new : SimParts) (m : Move) (e : Entry) → Stepped old new m e
    → FitsMoves old.plan (old.moves ++ m ∷ []) (old.journal ++ e ∷ []) new.blocks
fits old new m e s =
    subst (λ (p : PlanParts). FitsMoves p (old.moves ++ m ∷ []) (old.journal ++ e ∷ []) new.blocks) s.plan_is
    (subst (λ (ms : List Move). FitsMoves new.plan ms (old.journal ++ e ∷ []) new.blocks) s.moves_is
    (subst (λ (es : List Entry). FitsMoves new.plan new.moves es new.blocks) s.journal_is s.fits_new))

answered : (old new : SimParts) (m : Move) (e : Entry) → Stepped old new m e → Answers old.journal m e
answered old new m e s =
    let m_at : slice_get (old.moves ++ m ∷ []) (length old.journal) ≡ Some m =
    rw s.fits_old.one_each (slice_get_seam old.moves m) in
    let h = (fits old new m e s).answers (length old.journal) m e m_at (slice_get_seam old.journal e) in
    subst (λ (es : List Entry). Answers es m e) (take-append_seam old.journal (e ∷ [])) h

-- the states before and after a move, and what else is known of it
pub record Known (old new : SimParts) (m : Move) (e : Entry) (S T : State) : Type 0 where
  pub before : Reaches old.plan old.journal S
  pub after : Reaches old.plan (old.journal ++ e ∷ []) T
  pub mem_before : S.mem ≡ old.blocks
  pub mem_after : T.mem ≡ new.blocks
  pub agent : e.agent ≡ agent_of m
  pub call : e.call ≡ returned_of old.journal (agent_of m)
  pub goes : MatchBool (is_act e.what) (Does old.plan S e T) (T ≡ S)
  pub justified : Justifies old.plan S e e.what
  pub line : IsOfWaits old.plan old.journal S

pub known : (old new : SimParts) (m : Move) (e : Entry) → Stepped old new m e
    → (S : State) × (T : State) × Known old new m e S T
known old new m e s =
    let f = fits old new m e s in
    let a = answered old new m e s in
    let j = f.justified (length old.journal) e (slice_get_seam old.journal e) in
    let j_is : Reaches old.plan old.journal j.0 =
    subst (λ (es : List Entry). Reaches old.plan es j.0) (take-append_seam old.journal (e ∷ [])) j.1 in (
      s.fits_old.run.0,
      f.run.0,
      record {
        before = s.fits_old.run.1;
        after = f.run.1;
        mem_before = s.fits_old.run.2;
        mem_after = f.run.2;
        agent = a.agent;
        call = a.call ∙ ap (returned_of old.journal) a.agent;
        goes = Reaches-last old.plan old.journal e s.fits_old.run.0 f.run.0 s.fits_old.run.1 f.run.1;
        justified =
            subst (λ (S : State). Justifies old.plan S e e.what)
            (Reaches-one old.plan old.journal j.0 s.fits_old.run.0 j_is s.fits_old.run.1) j.2;
        line = s.line s.fits_old.run.0 s.fits_old.run.1;
      },
    )

-- ---- what acts say

waitable_atomic : (k : Kind) → is_waitable k ≡ true → is_atomic k ≡ true
waitable_atomic K.Int8 e = refl
waitable_atomic K.Uint8 e = refl
waitable_atomic K.Uint8Clamped e = absurd (false≢true e)
waitable_atomic K.Int16 e = refl
waitable_atomic K.Uint16 e = refl
waitable_atomic K.Int32 e = refl
waitable_atomic K.Uint32 e = refl
waitable_atomic K.Float32 e = absurd (false≢true e)
waitable_atomic K.Float64 e = absurd (false≢true e)
waitable_atomic K.BigInt64 e = refl
waitable_atomic K.BigUint64 e = refl

-- the first check passes where none fails, and none of the rest fails
first_passes : (b : Bool) (check : Check) (rest : Option Check)
    → option_map thrown_by (if b then rest else Some check) ≡ None
    → (b ≡ true) × (option_map thrown_by rest ≡ None)
first_passes true check rest e = (refl, e)
first_passes false check rest e = absurd (cc)

head_passes : (c : Checked) (rest : List Checked) → first_thrown (c ∷ rest) ≡ None
    → (c.passes ≡ true) × (first_thrown rest ≡ None)
head_passes c rest = first_passes c.passes c.check (first_failed rest)

-- it shows an element of the call's view
abbrev IsSeen : What → Type 0
IsSeen (Acted (A.Value x)) = ⊤
IsSeen (Acted (A.Count k)) = ⊤
IsSeen (Acted A.NotEqual) = ⊤
IsSeen Enlisted = ⊤
IsSeen _ = ⊥

-- the place and the checks of such an act
record Sees (cb : Bool) (v : PlanView) (call : Call) : Type 0 where
  pub place : Place
  pub place_is : place_of v (index_of call) ≡ Some place
  pub atomic : is_atomic (kind_of v.view) ≡ true
  pub passes : verdict cb v.view call ≡ None

DoesCall-sees : (cb : Bool) (a : ℕ) (v : PlanView) (call : Call) (S : State) (w : What) (T : State) → IsSeen w
    → DoesCall cb a v call S w T → Sees cb v call
DoesCall-sees cb a v (C.Access n access) S (Acted (A.Value x)) T i d =
    record {
      place = record { block = v.block; byte = d.1.1.0 };
      place_is = rw d.1.1.1 refl;
      atomic =
          (first_passes _ _ _ d.0).0;
      passes = d.0;
    }
DoesCall-sees cb a v (C.Notify n index k) S (Acted (A.Count x)) T i d =
    record {
      place =
          d.1.0;
      place_is = d.1.1;
      atomic = waitable_atomic (kind_of v.view) (first_passes _ _ _ d.0).0;
      passes = d.0;
    }
DoesCall-sees cb a v (C.Wait n index x t) S Enlisted T i d =
    record {
      place =
          d.1.0;
      place_is = d.1.1;
      atomic = waitable_atomic (kind_of v.view) (first_passes _ _ _ d.0).0;
      passes = d.0;
    }
DoesCall-sees cb a v (C.Wait n index x t) S (Acted A.NotEqual) T i d =
    record {
      place =
          d.1.0;
      place_is = d.1.1;
      atomic = waitable_atomic (kind_of v.view) (first_passes _ _ _ d.0).0;
      passes = d.0;
    }
DoesCall-sees cb a v call S w T i d = absurd (first_of (assumption, cc))

-- what a compare-exchange expects, where its checks pass
expects_is : (cb : Bool) (v : PlanView) (p : Place) (call : Call) (S : State) → verdict cb v.view call ≡ None
    → is_expected v.view call (element_at v S.mem p) ≡ expects S v p call
expects_is cb v p (C.Access n (X.CompareExchange index x y)) S e =
    let second = operand_check v.view y ∷ [] in
    let operands = operand_check v.view x ∷ second in
    let kind = head_passes (kind_check v.view) (index_check v.view index ∷ operands) e in
    let there = head_passes (index_check v.view index) operands kind.1 in
    let agree : agrees (kind_of v.view) x ≡ true = (head_passes (operand_check v.view x) second there.1).0 in
    rw agree refl
expects_is cb v p (C.Access n (X.Load index)) S e = refl
expects_is cb v p (C.Access n (X.Store index x)) S e = refl
expects_is cb v p (C.Access n (X.Rmw op index x)) S e = refl
expects_is cb v p (C.Wait n index x timeout) S e = refl
expects_is cb v p (C.Notify n index count) S e = refl

-- who leaves as woken was notified
DoesCall-woken : (cb : Bool) (a : ℕ) (v : PlanView) (call : Call) (S T : State)
    → DoesCall cb a v call S (Left A.Woken) T → S.notified a ≡ true
DoesCall-woken cb a v (C.Wait n index x t) S T d = d.0
DoesCall-woken cb a v (C.Access n access) S T d = absurd d
DoesCall-woken cb a v (C.Notify n index k) S T d = absurd d

-- who leaves as timed out stood in the line
DoesCall-timed_out : (cb : Bool) (a : ℕ) (v : PlanView) (call : Call) (S T : State)
    → DoesCall cb a v call S (Left A.TimedOut) T
    → (p : Place) × (place_of v (index_of call) ≡ Some p) × Contains S.line (record { place = p; agent = a })
DoesCall-timed_out cb a v (C.Wait n index x (Some t)) S T d = (d.0, d.1, d.2)
DoesCall-timed_out cb a v call S T d = absurd (first_of (assumption, cc))

-- a call that threw threw what its verdict is
DoesCall-threw : (cb : Bool) (a : ℕ) (v : PlanView) (call : Call) (S : State) (t : Thrown) (T : State)
    → DoesCall cb a v call S (Acted (A.Threw t)) T → verdict cb v.view call ≡ Some t
DoesCall-threw cb a v call S t T d = d.0

-- a notify at this place woke these
pub record WokenAt (v : PlanView) (call : Call) (S : State) (w : What) (b : ℕ) : Type 0 where
  pub view : ℕ
  pub index : ℤ
  pub count : Option ℤ
  pub call_is : call ≡ C.Notify view index count
  pub k : ℕ
  pub what_is : w ≡ Acted (A.Count k)
  pub place : Place
  pub place_is : place_of v index ≡ Some place
  pub notified : (S.notified b || list_any (λ a. a == b) (take k (waiters place S.line))) ≡ true

-- who is notified after an act was notified before it or by it
pub DoesCall-notified : (cb : Bool) (a : ℕ) (v : PlanView) (call : Call) (S : State) (w : What) (T : State) (b : ℕ)
    → DoesCall cb a v call S w T → T.notified b ≡ true → (S.notified b ≡ true) ⊎ WokenAt v call S w b
DoesCall-notified cb a v call S (Acted (A.Threw e)) T b d c = inl (subst (λ (V : State). V.notified b ≡ true) d.1 c)
DoesCall-notified cb a v (C.Access n access) S (Acted (A.Value x)) T b d c =
    inl (subst (λ (V : State). V.notified b ≡ true) d.1.2 c)
DoesCall-notified cb a v (C.Notify n index count) S (Acted (A.Count k)) T b d c = inr (record {
  view = n;
  index = index;
  count = count;
  call_is = refl;
  k = k;
  what_is = refl;
  place = d.1.0;
  place_is = d.1.1;
  notified = subst (λ (V : State). V.notified b ≡ true) d.1.3 c;
})
DoesCall-notified cb a v (C.Wait n index x t) S (Acted A.NotEqual) T b d c =
    inl (subst (λ (V : State). V.notified b ≡ true) d.1.3 c)
DoesCall-notified cb a v (C.Wait n index x t) S Enlisted T b d c =
    inl (subst (λ (V : State). V.notified b ≡ true) d.1.3 c)
DoesCall-notified cb a v (C.Wait n index x t) S (Left A.Woken) T b d c =
    inl (and_parts (S.notified b) (not (b == a)) (subst (λ (V : State). V.notified b ≡ true) d.1 c)).0
DoesCall-notified cb a v (C.Wait n index x (Some t)) S (Left A.TimedOut) T b d c =
    inl (subst (λ (V : State). V.notified b ≡ true) d.3 c)
DoesCall-notified cb a v call S w T b d c = absurd (first_of (assumption, cc))

-- ---- the line

-- who stands in a line stands at a place
stands_somewhere : (a : ℕ) (line : List Waiter) → list_any (λ (w : Waiter). w.agent == a) line ≡ true
    → (p : Place) × Contains line (record { place = p; agent = a })
stands_somewhere a [] e = absurd (false≢true e)
stands_somewhere a (w ∷ line) e = go (stands_somewhere a line) (w.agent == a) refl e
  where
    go : (list_any (λ (v : Waiter). v.agent == a) line ≡ true
        → (p : Place) × Contains line (record { place = p; agent = a }))
        → (b : Bool) → (w.agent == a) ≡ b → (b || list_any (λ (v : Waiter). v.agent == a) line) ≡ true
        → (p : Place) × Contains (w ∷ line) (record { place = p; agent = a })
    go rest true f g =
        (w.place, (zero, omega arith, ap (λ (n : ℕ). record { place = w.place; agent = n }) (eqb-true w.agent a f)))
    go rest false f g = let r = rest g in (r.0, (suc r.1.0, (let l = r.1.1 in omega (arith, l)), r.1.2))

-- who is in the line of a place stands
pub waiters_stand : (p : Place) (b : ℕ) (line : List Waiter) → list_any (λ c. c == b) (waiters p line) ≡ true
    → list_any (λ (w : Waiter). w.agent == b) line ≡ true
waiters_stand p b [] e = absurd (false≢true e)
waiters_stand p b (w ∷ line) e = go (waiters_stand p b line) (is_at p w) e (w.agent == b) refl
  where
    go : (list_any (λ c. c == b) (waiters p line) ≡ true → list_any (λ (v : Waiter). v.agent == b) line ≡ true)
        → (h : Bool)
        → list_any (λ c. c == b)
        (map (λ (v : Waiter). v.agent) (cond h (w ∷ filter (is_at p) line) (filter (is_at p) line))) ≡ true
        → (c : Bool) → (w.agent == b) ≡ c → (c || list_any (λ (v : Waiter). v.agent == b) line) ≡ true
    go rest h g true f = refl
    go rest true g false f = rest (rw f at g)
    go rest false g false f = rest g

-- ---- the call of the entry

-- the entry's call is the agent's next
pub its_call : (old new : SimParts) (m : Move) (e : Entry) (S T : State) → Known old new m e S T
    → call_of old.plan e.agent e.call ≡ call_of old.plan (agent_of m) (returned_of old.journal (agent_of m))
its_call old new m e S T k =
    ap (λ (a : ℕ). call_of old.plan a e.call) k.agent ∙ ap (call_of old.plan (agent_of m)) k.call

-- the call of an act is the agent's
pub call_of-does : (plan : PlanParts) (S T : State) (e : Entry) (d : Does plan S e T)
    → call_of plan e.agent e.call ≡ Some d.call
call_of-does plan S T e d = rw d.script_is d.call_is

-- what an entry does that acts
act_of : (plan : PlanParts) (e : Entry) (S T : State) (w : What) → e.what ≡ w → is_act w ≡ true
    → MatchBool (is_act e.what) (Does plan S e T) (T ≡ S) → Does plan S e T
act_of plan e S T w q i g = subst (λ (b : Bool). MatchBool b (Does plan S e T) (T ≡ S)) (ap is_act q ∙ i) g

-- the call that was known before an act is the act's
known_call : (old new : SimParts) (m : Move) (e : Entry) (S T : State) (b : Before) → Known old new m e S T
    → IsBefore old (agent_of m) b → (d : Does old.plan S e T) → b.call ≡ Some d.call
known_call old new m e S T b k i d = i.call_is ∙ (sym (its_call old new m e S T k) ∙ call_of-does old.plan S T e d)

-- what an act does, as it stands in the entry
doing : (plan : PlanParts) (S T : State) (e : Entry) (w : What) → e.what ≡ w → (d : Does plan S e T)
    → DoesCall d.script.can_block e.agent d.view d.call S w T
doing plan S T e w q d = subst (λ (x : What). DoesCall d.script.can_block e.agent d.view d.call S x T) q d.does

-- the place of a call on its view
place_is_on : (plan : PlanParts) (next : Option Call) (call : Call) (view : PlanView) → next ≡ Some call
    → slice_get plan.views (view_of call) ≡ Some view → place_named plan next ≡ place_of view (index_of call)
place_is_on plan next call view n v = rw (n, v) refl

-- ---- what was found

-- the fact of what is known before the move
abbrev pub fact_of : Before → Option ℕ → Found → Fact
fact_of b since found = record { call = b.call; place = b.place; since = since; found = found }

seen_act : (old new : SimParts) (m : Move) (e : Entry) (S T : State) (b : Before) (s : Sight) (since : Option ℕ)
    → Known old new m e S T → IsBefore old (agent_of m) b → IsSight old b.call s → (w : What) → e.what ≡ w → (cb : Bool)
    → verdict cb s.view.view s.call ≡ None
    → IsOfAct old.plan S e T (fact_of b since (found w (Some s) new.blocks))
seen_act old new m e S T b s since k i see w q cb passes = record {
  call = s.call;
  call_is = see.call_is;
  view = s.view;
  view_is = see.view_is;
  place = s.place;
  place_is = i.place_is ∙ (place_is_on old.plan b.call s.call s.view see.call_is see.view_is ∙ see.place_is);
  found_is =
      ap (λ (x : What). found_by x s.call s.value (value_at s.view.view (bytes_of new.blocks s.view.block) s.place.byte)
      s.expected s.waiters) (sym q)
      ∙ (ap (λ (x : Operand). found_by e.what s.call x
      (value_at s.view.view (bytes_of new.blocks s.view.block) s.place.byte) s.expected s.waiters) (see.value_is ∙
      ap (λ (mem : List (List ℕ)). value_at s.view.view (bytes_of mem s.view.block) s.place.byte)
      (sym k.mem_before))
      ∙ (ap (λ (mem : List (List ℕ)). found_by e.what s.call (value_in S s.view s.place)
      (value_at s.view.view (bytes_of mem s.view.block) s.place.byte) s.expected s.waiters) (sym k.mem_after)
      ∙ (ap (λ (x : Bool). found_by e.what s.call (value_in S s.view s.place) (value_in T s.view s.place) x s.waiters)
      (see.expected_is ∙ (ap (λ (mem : List (List ℕ)). is_expected s.view.view s.call
      (element s.view.view (bytes_of mem s.view.block) s.place.byte)) (sym k.mem_before) ∙ expects_is cb s.view
      s.place s.call S passes))
      ∙ ap (λ (ws : List ℕ). found_by e.what s.call (value_in S s.view s.place) (value_in T s.view s.place)
      (expects S s.view s.place s.call) ws) (see.waiters_is S k.before))));
}

-- the checks of the act pass on what was seen
passed : (plan : PlanParts) (S T : State) (e : Entry) (next : Option Call) (s : Sight) (d : Does plan S e T)
    → next ≡ Some d.call → next ≡ Some s.call → slice_get plan.views (view_of s.call) ≡ Some s.view
    → verdict d.script.can_block d.view.view d.call ≡ None → verdict d.script.can_block s.view.view s.call ≡ None
passed plan S T e next s d n n' v p =
    let calls : d.call ≡ s.call = one_value next d.call s.call n n' in
    let views : d.view ≡ s.view = one_value (slice_get plan.views (view_of s.call)) d.view s.view
    (subst (λ (c : Call). slice_get plan.views (view_of c) ≡ Some d.view) calls d.view_is) v in
    subst (λ (v : PlanView). verdict d.script.can_block v.view s.call ≡ None) views
    (subst (λ (c : Call). verdict d.script.can_block d.view.view c ≡ None) calls p)

-- an act that shows an element was seen
finds_act : (old new : SimParts) (m : Move) (e : Entry) (S T : State) (b : Before) (sight : Option Sight)
    (since : Option ℕ)
    → Known old new m e S T → IsBefore old (agent_of m) b → IfSome sight (IsSight old b.call)
    → IfNone sight (IsBlind old b.call) → (w : What) → e.what ≡ w → IsSeen w → is_act w ≡ true
    → IsOfAct old.plan S e T (fact_of b since (found w sight new.blocks))
finds_act old new m e S T b None since k i see blind w q seen acts =
    let d = act_of old.plan e S T w q acts k.goes in
    let sees = DoesCall-sees d.script.can_block e.agent d.view d.call S w T seen (doing old.plan S T e w q d) in
    absurd (blind d.call d.view sees.place (known_call old new m e S T b k i d) d.view_is sees.place_is sees.atomic)
finds_act old new m e S T b (Some s) since k i see blind w q seen acts =
    let d = act_of old.plan e S T w q acts k.goes in
    let sees = DoesCall-sees d.script.can_block e.agent d.view d.call S w T seen (doing old.plan S T e w q d) in
    seen_act old new m e S T b s since k i see w q d.script.can_block
    (passed old.plan S T e b.call s d (known_call old new m e S T b k i d) see.call_is see.view_is sees.passes)

-- what is thrown is thrown by a check that fails
thrown_by_one : (failed : Option Check) (t : Thrown) → option_map thrown_by failed ≡ Some t
    → (check : Check) × (failed ≡ Some check)
thrown_by_one None t e = absurd (cc)
thrown_by_one (Some check) t e = (check, refl)

finds_throw : (old new : SimParts) (m : Move) (e : Entry) (S T : State) (b : Before) (since : Option ℕ) (t : Thrown)
    → Known old new m e S T → IsBefore old (agent_of m) b → e.what ≡ Acted (A.Threw t)
    → IsOfThrow old.plan e (fact_of b since (failure b.failing))
finds_throw old new m e S T b since t k i q =
    let d = act_of old.plan e S T (Acted (A.Threw t)) q refl k.goes in
    let n = known_call old new m e S T b k i d in
    let threw =
    DoesCall-threw d.script.can_block e.agent d.view d.call S t T (doing old.plan S T e (Acted (A.Threw t)) q d) in
    let check = thrown_by_one (first_failed (checks d.script.can_block d.view.view d.call)) t threw in
    let script : slice_get old.plan.scripts (agent_of m) ≡ Some d.script = rw (sym k.agent) d.script_is in
    let failing : b.failing ≡ Some check.0 = i.failing_is ∙ (rw (n, d.view_is, script) check.1) in
    record {
      script = d.script;
      script_is = d.script_is;
      call = d.call;
      call_is = n;
      view = d.view;
      view_is = d.view_is;
      check = check.0;
      check_is = check.1;
      found_is = ap failure failing;
    }

finds_woken : (old new : SimParts) (m : Move) (e : Entry) (S T : State) (b : Before) (since : Option ℕ) (waker : ℕ)
    → Known old new m e S T → IsBefore old (agent_of m) b
    → (S.notified (agent_of m) ≡ true → IsWaker old.plan old.journal (agent_of m) waker) → S.notified e.agent ≡ true
    → IsOfWoken old.plan old.journal e (fact_of b since (woken_by (then_some b.woken waker)))
finds_woken old new m e S T b since waker k i woke n =
    let here : S.notified (agent_of m) ≡ true = rw k.agent at n in
    let woken : b.woken ≡ true = i.woken_is S k.before ∙ here in
    (waker, rw k.agent (woke here), rw woken refl)

-- who stands in the line stands at the place of its call
finds_waiting : (old new : SimParts) (m : Move) (e : Entry) (S T : State) (b : Before) (since : Option ℕ)
    → Known old new m e S T → IsBefore old (agent_of m) b → stands S e.agent ≡ true
    → IsOfWaiting S e (fact_of b since F.Waited)
finds_waiting old new m e S T b since k i n =
    let at = stands_somewhere e.agent S.line n in
    let wait = k.line.at_waits at.0 e.agent at.1 in
    let here : call_of old.plan (agent_of m) (returned_of old.journal (agent_of m)) ≡ Some wait.0 =
    rw (sym k.agent) wait.1 in
    (refl, (at.0, i.place_is ∙ go wait.0 (i.call_is ∙ here) wait.2, at.1))
  where
    go : {p : Place} → (call : Call) → b.call ≡ Some call → WaitsOn old.plan p call
        → place_named old.plan b.call ≡ Some p
    go (C.Wait n index x timeout) c w = place_is_on old.plan b.call (C.Wait n index x timeout) w.0 c w.1 ∙ w.2
    go (C.Access n access) c w = absurd w
    go (C.Notify n index count) c w = absurd w

finds_timed_out : (old new : SimParts) (m : Move) (e : Entry) (S T : State) (b : Before) (since : Option ℕ)
    → Known old new m e S T → IsBefore old (agent_of m) b → e.what ≡ Left A.TimedOut
    → IsOfWaiting S e (fact_of b since F.Waited)
finds_timed_out old new m e S T b since k i q =
    let d = act_of old.plan e S T (Left A.TimedOut) q refl k.goes in
    let out =
    DoesCall-timed_out d.script.can_block e.agent d.view d.call S T (doing old.plan S T e (Left A.TimedOut) q d) in (
      refl,
      (
        out.0,
        i.place_is
            ∙ (place_is_on old.plan b.call d.call d.view (known_call old new m e S T b k i d) d.view_is ∙ out.1),
        out.2,
      ),
    )

-- what was concluded is what the entry finds
pub finds_of : (old new : SimParts) (m : Move) (e : Entry) (S T : State) (b : Before) (since : Option ℕ) (waker : ℕ)
    → Known old new m e S T → IsBefore old (agent_of m) b
    → (S.notified (agent_of m) ≡ true → IsWaker old.plan old.journal (agent_of m) waker)
    → (w : What) → e.what ≡ w
    → Finds old.plan old.journal S e T
    (fact_of b since (concluded w b.sight (then_some b.woken waker) b.failing new.blocks)) w
finds_of old new m e S T b since waker k i woke (Acted (A.Value x)) q =
    finds_act old new m e S T b b.sight since k i i.sight_is i.blind_is (Acted (A.Value x)) q tt refl
finds_of old new m e S T b since waker k i woke (Acted (A.Count n)) q =
    finds_act old new m e S T b b.sight since k i i.sight_is i.blind_is (Acted (A.Count n)) q tt refl
finds_of old new m e S T b since waker k i woke (Acted A.NotEqual) q =
    finds_act old new m e S T b b.sight since k i i.sight_is i.blind_is (Acted A.NotEqual) q tt refl
finds_of old new m e S T b since waker k i woke Enlisted q =
    finds_act old new m e S T b b.sight since k i i.sight_is i.blind_is Enlisted q tt refl
finds_of old new m e S T b since waker k i woke (Acted (A.Threw t)) q = finds_throw old new m e S T b since t k i q
finds_of old new m e S T b since waker k i woke (Acted A.Woken) q = refl
finds_of old new m e S T b since waker k i woke (Acted A.TimedOut) q = refl
finds_of old new m e S T b since waker k i woke (Left A.Woken) q =
    let d = act_of old.plan e S T (Left A.Woken) q refl k.goes in
    finds_woken old new m e S T b since waker k i woke
    (DoesCall-woken d.script.can_block e.agent d.view d.call S T (doing old.plan S T e (Left A.Woken) q d))
finds_of old new m e S T b since waker k i woke (Left A.TimedOut) q = finds_timed_out old new m e S T b since k i q
finds_of old new m e S T b since waker k i woke (Left (A.Value x)) q = refl
finds_of old new m e S T b since waker k i woke (Left A.NotEqual) q = refl
finds_of old new m e S T b since waker k i woke (Left (A.Count n)) q = refl
finds_of old new m e S T b since waker k i woke (Left (A.Threw t)) q = refl
finds_of old new m e S T b since waker k i woke Began q = refl
finds_of old new m e S T b since waker k i woke (Returned x) q = refl
finds_of old new m e S T b since waker k i woke (Stuck Y.Done) q = refl
finds_of old new m e S T b since waker k i woke (Stuck Y.Waiting) q =
    finds_waiting old new m e S T b since k i (subst (λ (x : What). Justifies old.plan S e x) q k.justified)
finds_of old new m e S T b since waker k i woke (Stuck Y.Endless) q =
    finds_waiting old new m e S T b since k i (subst (λ (x : What). Justifies old.plan S e x) q k.justified).0
finds_of old new m e S T b since waker k i woke (Stuck Y.NotWaiting) q = go (S.notified e.agent) refl
  where
    go : (n : Bool) → S.notified e.agent ≡ n
        → MatchBool n (IsOfWoken old.plan old.journal e (fact_of b since (woken_by (then_some b.woken waker))))
        (woken_by (then_some b.woken waker) ≡ F.Nothing)
    go true n = finds_woken old new m e S T b since waker k i woke n
    go false n =
        let woken : b.woken ≡ false = i.woken_is S k.before ∙ (rw k.agent at n) in
        rw woken refl
