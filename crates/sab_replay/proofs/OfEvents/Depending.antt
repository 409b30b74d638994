-- What an act depends on.
use Rattle.std.proofs.Common.{◌≡◌, inl, inr, ℕ, zero, suc, ◌+◌, ◌<◌, ◌≤◌, Bool, true, false, ◌&&◌, ◌||◌, ℤ, List, ◌++◌, ◌∷◌, [], length, filter, take, slice_set, slice_index, Option, Some, None, Contains, refl, ap, sym, ◌∙◌, subst, arith, eq-eqb}
use Rattle.std.specs.Prelude.{◌==◌, option_and_then, option_map, not}
use Rattle.std.specs.List.{list_any}
use Rattle.std.proofs.Common.{get_or-set_same}
use Rattle.std.proofs.lemmas.Bool.{cases_eq, and_parts, eqb-true}
use Rattle.std.proofs.lemmas.Bool.Decides.{nat_tests}
use Rattle.sab_block.specs.declared.access.Access.{Access}
use Rattle.sab_block.specs.declared.access.Access.TheVariants as X
use Rattle.sab_block.specs.declared.operand.Operand.{Operand}
use Rattle.sab_block.specs.Block.{number, put}
use Rattle.sab_block.specs.Kind.{element_size}
use Rattle.sab_block.specs.Operand.{operand}
use Rattle.sab_block.specs.RmwOp.{combined}
use Rattle.sab_block.specs.View.{kind_of, place}
use Rattle.sab_block.specs.Access.{ActsAt, bits_of, element, raw_of, written}
use Rattle.sab_block.specs.Access as accesses
use Rattle.sab_plan.specs.declared.place.Place.{Place}
use Rattle.sab_plan.specs.declared.call.Call.{Call}
use Rattle.sab_plan.specs.declared.call.Call.TheVariants as C
use Rattle.sab_plan.specs.declared.plan_view.PlanView.{PlanView}
use Rattle.sab_plan.specs.Call.{view_of, index_of}
use Rattle.sab_plan.specs.Place.{place_of}
use Rattle.sab_plan.specs.Plan.{PlanParts, IsPlan}
use Rattle.sab_plan.specs.declared.answer.Answer.TheVariants as A
use Rattle.sab_plan.specs.declared.entry.What.{What}
use Rattle.sab_plan.specs.declared.entry.What.TheVariants.{Acted, Enlisted, Left}
use Rattle.sab_plan.specs.declared.entry.Entry.{Entry}
use Rattle.sab_plan.specs.declared.waiter.Waiter.{Waiter}
use Rattle.sab_object.specs.Object.{State, bytes_of, element_at, is_at, waiters, without_first, woken_count, woken, joined, departed, taken_off, DoesCall, Does}
use Rattle.sab_judge.specs.Event.{some_is}
use Rattle.sab_judge.specs.Access.{covers}
use Rattle.sab_judge.specs.declared.access.Access as Accesses
use Rattle.sab_replay.specs.declared.events.target.Target.{Target}
use Rattle.sab_replay.specs.Events.Events.{target_of, access_of, access_by}
use Rattle.sab_replay.specs.Events.Reading.{byte_in}
use Rattle.sab_replay.specs.Events.Dependence.{DependsOnWhatItReads}
use Rattle.sab_block.proofs.Lengths.{place-inside}
use Rattle.sab_replay.proofs.OfEvents.WrittenBytes.{is_inside, put-inside}
use Rattle.sab_replay.proofs.OfEvents.Runs.{HasBlock, has_block, target_at, writes_at, target_is, covers-access}

-- ---- bytes

-- the byte is one of the element at a byte of the view's block
abbrev pub of_element : PlanView → ℕ → ℕ → ℕ → Bool
of_element v p block byte = (v.block == block) && is_inside p (element_size (kind_of v.view)) byte

pub inside : (p size byte : ℕ) → p ≤ byte → byte < p + size → is_inside p size byte ≡ true
inside p size byte from below = grind (arith, nat_tests)

pub inside-from : (p size byte : ℕ) → is_inside p size byte ≡ true → p ≤ byte
inside-from p size byte h = grind (arith, nat_tests)

pub inside-below : (p size byte : ℕ) → is_inside p size byte ≡ true → byte < p + size
inside-below p size byte h = grind (arith, nat_tests)

-- an element whose bytes are the same
number-same : (mem mem' : List ℕ) (p s : ℕ)
    → ((byte : ℕ) → p ≤ byte → byte < p + s → slice_index mem' byte ≡ slice_index mem byte)
    → number mem' p s ≡ number mem p s
unfolding number
number-same mem mem' p zero h = refl
number-same mem mem' p (suc s) h =
    let rest = number-same mem mem' p s (λ byte from below. h byte from (omega arith)) in
    let last = h (p + s) (omega arith) (omega arith) in cc (rest, last)

-- the same is written over it
put-same : (mem mem' : List ℕ) (p size r byte : ℕ) → p + size ≤ length mem → p + size ≤ length mem'
    → is_inside p size byte ≡ true → slice_index (put mem' p size r) byte ≡ slice_index (put mem p size r) byte
put-same mem mem' p size r byte h h' e =
    let from = inside-from p size byte e in
    let below = inside-below p size byte e in
    put-inside mem' p size r byte h' from below ∙ sym (put-inside mem p size r byte h from below)

-- ---- accesses

-- the second bytes are the first where an access reads
abbrev pub SameRead : Target → Access → Operand → ℕ → List ℕ → List ℕ → Type 0
SameRead t access x p mem mem' =
    (byte : ℕ) → ((access_of access x t).reads && is_inside p (element_size (kind_of t.view)) byte) ≡ true
    → slice_index mem' byte ≡ slice_index mem byte

-- so it acts on them too, and leaves the same where it writes
record ActsAlike (t : Target) (access : Access) (x : Operand) (p : ℕ) (mem' after : List ℕ) : Type 0 where
  after' : List ℕ
  acts : ActsAt t.view access p mem' x after'
  same : (byte : ℕ) → ((access_of access x t).writes && is_inside p (element_size (kind_of t.view)) byte) ≡ true
      → slice_index after' byte ≡ slice_index after byte

element-same : (t : Target) (p : ℕ) (mem mem' : List ℕ)
    → ((byte : ℕ) → is_inside p (element_size (kind_of t.view)) byte ≡ true → slice_index mem' byte ≡ slice_index mem byte)
    → element t.view mem' p ≡ element t.view mem p
element-same t p mem mem' h =
    let size = element_size (kind_of t.view) in
    number-same mem mem' p size (λ byte from below. h byte (inside p size byte from below))

acts_alike : (t : Target) (access : Access) (x : Operand) (p : ℕ) (mem mem' after : List ℕ)
    → p + element_size (kind_of t.view) ≤ length mem → p + element_size (kind_of t.view) ≤ length mem'
    → SameRead t access x p mem mem' → ActsAt t.view access p mem x after → ActsAlike t access x p mem' after
acts_alike t (X.Load index) x p mem mem' after h h' same acts =
    let e = element-same t p mem mem' same in record {
      after' = mem';
      acts = (acts.0 ∙ ap (operand (kind_of t.view)) (sym e), refl);
      same = λ byte w. absurd (cc);
    }
acts_alike t (X.Store index y) x p mem mem' after h h' same acts =
    let size = element_size (kind_of t.view) in record {
      after' = written t.view mem' p (raw_of t.view y);
      acts = (acts.0, refl);
      same = λ byte w. put-same mem mem' p size (raw_of t.view y) byte h h' w
          ∙ sym (ap (λ bytes. slice_index bytes byte) acts.1);
    }
acts_alike t (X.Rmw op index y) x p mem mem' after h h' same acts =
    let size = element_size (kind_of t.view) in
    let e = element-same t p mem mem' same in
    let r = combined op (bits_of t.view) (element t.view mem p) (raw_of t.view y) in record {
      after' = written t.view mem' p r;
      acts = (
        acts.0 ∙ ap (operand (kind_of t.view)) (sym e),
        ap (λ n. written t.view mem' p (combined op (bits_of t.view) n (raw_of t.view y))) (sym e),
      );
      same = λ byte w. put-same mem mem' p size r byte h h' w ∙ sym (ap (λ bytes. slice_index bytes byte) acts.1);
    }
acts_alike t (X.CompareExchange index y z) x p mem mem' after h h' same acts =
    let size = element_size (kind_of t.view) in
    let e = element-same t p mem mem' same in
    let answers = acts.0 ∙ ap (operand (kind_of t.view)) (sym e) in
    elim (cases_eq (element t.view mem p) (raw_of t.view y)) [
      | inl equal ↦ record {
        after' = written t.view mem' p (raw_of t.view z);
        acts = (answers, λ q. refl, λ n. absurd (n (e ∙ equal)));
        same = λ byte w.
            put-same mem mem' p size (raw_of t.view z) byte h h'
            (and_parts (access_of (X.CompareExchange index y z) x t).writes (is_inside p size byte) w).1
            ∙ sym (ap (λ bytes. slice_index bytes byte) (acts.1 equal));
      }
      | inr other ↦ record {
        after' = mem';
        acts = (answers, λ q. absurd (other (sym e ∙ q)), λ n. refl);
        same = λ byte w.
            same byte (and_parts (access_of (X.CompareExchange index y z) x t).writes (is_inside p size byte) w).1
            ∙ sym (ap (λ bytes. slice_index bytes byte) (acts.2 other));
      }
    ]

-- ---- calls

-- where the call does this there, it reads the byte
abbrev pub reads_at : What → Target → ℕ → ℕ → Bool
reads_at w t block byte = some_is (λ (a : Accesses.Access). a.reads && covers a block byte) (access_by w t.call t)

-- the two states agree on what the call reads, on the line and on who was notified
record AgreeFor (v : PlanView) (call : Call) (w : What) (S S' : State) : Type 0 where
  bytes : (p : ℕ) → place v.view (index_of call) ≡ Some p → (block byte : ℕ)
      → reads_at w (target_at call v p) block byte ≡ true → byte_in S' block byte ≡ byte_in S block byte
  line : S'.line ≡ S.line
  notified : (a : ℕ) → S'.notified a ≡ S.notified a

-- the call does it from the second, and leaves a state that agrees with the first's on what it writes
record DoesAlike (can_block : Bool) (a : ℕ) (v : PlanView) (call : Call) (S' : State) (w : What) (T : State) : Type 0 where
  T' : State
  does : DoesCall can_block a v call S' w T'
  bytes : (p : ℕ) → place v.view (index_of call) ≡ Some p → (block byte : ℕ)
      → writes_at w (target_at call v p) block byte ≡ true → byte_in T' block byte ≡ byte_in T block byte
  line : T'.line ≡ T.line
  notified : (a : ℕ) → T'.notified a ≡ T.notified a

-- the place of an index is the view's block, and the byte of the element
pub place_parts : (v : PlanView) (o : Option ℕ) (q : Place)
    → option_map (λ byte. record { block = v.block; byte = byte }) o ≡ Some q → (o ≡ Some q.byte) × (v.block ≡ q.block)
place_parts v None q h = absurd (cc)
place_parts v (Some p) q h =
    let is : record { block = v.block; byte = p } ≡ q = cc in
    (ap (λ (r : Place). Some r.byte) is, ap (λ (r : Place). r.block) is)

-- the element that a wait compares
wait-same : (v : PlanView) (index : ℤ) (x : Operand) (timeout : Option ℤ) (S S' : State) (q : Place)
    → place_of v index ≡ Some q
    → ((p : ℕ) → place v.view index ≡ Some p → (block byte : ℕ) → of_element v p block byte ≡ true
    → byte_in S' block byte ≡ byte_in S block byte)
    → element_at v S'.mem q ≡ element_at v S.mem q
wait-same v index x timeout S S' q at same =
    let parts = place_parts v (place v.view index) q at in
    let size = element_size (kind_of v.view) in
    number-same (bytes_of S.mem v.block) (bytes_of S'.mem v.block) q.byte size
    (λ byte from below. same q.byte parts.0 v.block byte
    (ap (λ b. b && is_inside q.byte size byte) (eq-eqb v.block v.block refl) ∙ inside q.byte size byte from below))

-- what isn't an access writes nothing
unwritten : (v : PlanView) (call : Call) (w : What) (T T' : State)
    → ((p : ℕ) (block byte : ℕ) → writes_at w (target_at call v p) block byte ≡ false)
    → (p : ℕ) → place v.view (index_of call) ≡ Some p → (block byte : ℕ)
    → writes_at w (target_at call v p) block byte ≡ true → byte_in T' block byte ≡ byte_in T block byte
unwritten v call w T T' none p at block byte h = absurd (differ (none p block byte) h)
  where
    differ : {b : Bool} → b ≡ false → b ≡ true → ⊥
    differ e f = cc

pub some-one : (p q : ℕ) → Some p ≡ Some q → p ≡ q
some-one p q h = cc

-- an access reads the bytes of its element
read-there : (n : ℕ) (access : Access) (v : PlanView) (x : Operand) (p byte : ℕ)
    → ((access_of access x (target_at (C.Access n access) v p)).reads && is_inside p (element_size (kind_of v.view)) byte)
    ≡ true
    → reads_at (Acted (A.Value x)) (target_at (C.Access n access) v p) v.block byte ≡ true
read-there n access v x p byte h =
    let t = target_at (C.Access n access) v p in
    let reads = (access_of access x t).reads in
    ap (λ b. reads && b) (covers-access access x t v.block byte)
    ∙ (ap (λ b. reads && (b && is_inside p (element_size (kind_of v.view)) byte)) (eq-eqb v.block v.block refl) ∙ h)

-- and writes no others
written-there : (n : ℕ) (access : Access) (v : PlanView) (x : Operand) (p block byte : ℕ)
    → writes_at (Acted (A.Value x)) (target_at (C.Access n access) v p) block byte ≡ true
    → (block ≡ v.block)
    × (((access_of access x (target_at (C.Access n access) v p)).writes && is_inside p (element_size (kind_of v.view)) byte)
    ≡ true)
written-there n access v x p block byte h =
    let t = target_at (C.Access n access) v p in
    let size = element_size (kind_of v.view) in
    let writes = (access_of access x t).writes in
    let parts = and_parts writes (covers (access_of access x t) block byte) h in
    let there = and_parts (v.block == block) (is_inside p size byte)
    (sym (covers-access access x t block byte) ∙ parts.1) in
    (sym (eqb-true v.block block there.0), ap (λ b. b && is_inside p size byte) parts.0 ∙ there.1)

-- a call that changes nothing
idle : (cb : Bool) (a : ℕ) (v : PlanView) (call : Call) (S S' : State) (w : What) (T : State)
    → AgreeFor v call w S S' → DoesCall cb a v call S' w S' → T ≡ S
    → ((p : ℕ) (block byte : ℕ) → writes_at w (target_at call v p) block byte ≡ false)
    → DoesAlike cb a v call S' w T
idle cb a v call S S' w T agree does same none = record {
  T' = S';
  does = does;
  bytes = unwritten v call w T S' none;
  line = agree.line ∙ sym (ap (λ (U : State). U.line) same);
  notified = λ b. agree.notified b ∙ sym (ap (λ (U : State). U.notified b) same);
}

does_alike : (cb : Bool) (a : ℕ) (v : PlanView) (call : Call) (S S' : State) (w : What) (T : State)
    → HasBlock S.mem v → HasBlock S'.mem v → AgreeFor v call w S S' → DoesCall cb a v call S w T
    → DoesAlike cb a v call S' w T
does_alike cb a v (C.Access n access) S S' (Acted (A.Value x)) T has has' agree d =
    let call = C.Access n access in
    let p = d.1.1.0 in
    let at = d.1.1.1 in
    let t = target_at call v p in
    let size = element_size (kind_of v.view) in
    let within = place-inside v.view (accesses.index_of access) p at in
    let h : p + size ≤ length (bytes_of S.mem v.block) = omega (arith, within, has.len) in
    let h' : p + size ≤ length (bytes_of S'.mem v.block) = omega (arith, within, has'.len) in
    let same : SameRead t access x p (bytes_of S.mem v.block) (bytes_of S'.mem v.block) =
    λ byte r. agree.bytes p at v.block byte (read-there n access v x p byte r) in
    let alike = acts_alike t access x p (bytes_of S.mem v.block) (bytes_of S'.mem v.block) d.1.0 h h' same d.1.1.2 in
    let T' : State = record S' { mem = slice_set S'.mem v.block alike.after' } in record {
      T' = T';
      does = (d.0, (alike.after', (p, at, alike.acts), refl));
      bytes = λ q at' block byte w.
          let same_place : q ≡ p = some-one q p (sym at' ∙ at) in
          let w' = subst (λ k. writes_at (Acted (A.Value x)) (target_at call v k) block byte ≡ true) same_place w in
          let parts = written-there n access v x p block byte w' in
          (ap (λ b. slice_index (bytes_of T'.mem b) byte) parts.0
          ∙ ap (λ (bs : List ℕ). slice_index bs byte) (get_or-set_same S'.mem v.block alike.after' [] has'.within))
          ∙ (alike.same byte parts.1
          ∙ sym (ap (λ b. slice_index (bytes_of T.mem b) byte) parts.0
          ∙ ap (λ (bs : List ℕ). slice_index bs byte)
          (ap (λ (U : State). bytes_of U.mem v.block) d.1.2 ∙ get_or-set_same S.mem v.block d.1.0 [] has.within)));
      line = agree.line ∙ sym (ap (λ (U : State). U.line) d.1.2);
      notified = λ b. agree.notified b ∙ sym (ap (λ (U : State). U.notified b) d.1.2);
    }
does_alike cb a v (C.Access n access) S S' (Acted (A.Threw e)) T has has' agree d =
    idle cb a v (C.Access n access) S S' (Acted (A.Threw e)) T agree (d.0, refl) d.1 (λ p block byte. refl)
does_alike cb a v (C.Notify n index count) S S' (Acted (A.Threw e)) T has has' agree d =
    idle cb a v (C.Notify n index count) S S' (Acted (A.Threw e)) T agree (d.0, refl) d.1 (λ p block byte. refl)
does_alike cb a v (C.Wait n index x timeout) S S' (Acted (A.Threw e)) T has has' agree d =
    idle cb a v (C.Wait n index x timeout) S S' (Acted (A.Threw e)) T agree (d.0, refl) d.1 (λ p block byte. refl)
does_alike cb a v (C.Notify n index count) S S' (Acted (A.Count k)) T has has' agree d =
    let q = d.1.0 in
    let many : k ≡ woken_count count (length (waiters q S'.line)) =
    d.1.2 ∙ ap (λ (l : List Waiter). woken_count count (length (waiters q l))) (sym agree.line) in record {
      T' = woken k q S';
      does = (d.0, (q, d.1.1, many, refl));
      bytes = unwritten v (C.Notify n index count) (Acted (A.Count k)) T (woken k q S') (λ p block byte. refl);
      line = ap (λ (l : List Waiter). without_first k q l) agree.line ∙ sym (ap (λ (U : State). U.line) d.1.3);
      notified = λ b.
          ap (λ c. c || list_any (λ a. a == b) (take k (waiters q S'.line))) (agree.notified b)
          ∙ ap (λ (l : List Waiter). S.notified b || list_any (λ a. a == b) (take k (waiters q l))) agree.line
          ∙ sym (ap (λ (U : State). U.notified b) d.1.3);
    }
does_alike cb a v (C.Wait n index x timeout) S S' (Acted A.NotEqual) T has has' agree d =
    let q = d.1.0 in
    let same = wait-same v index x timeout S S' q d.1.1 (λ p at block byte r. agree.bytes p at block byte r) in
    idle cb a v (C.Wait n index x timeout) S S' (Acted A.NotEqual) T agree
    (d.0, (q, d.1.1, λ e. d.1.2 (e ∙ same), refl)) d.1.3 (λ p block byte. refl)
does_alike cb a v (C.Wait n index x timeout) S S' Enlisted T has has' agree d =
    let q = d.1.0 in
    let same = wait-same v index x timeout S S' q d.1.1 (λ p at block byte r. agree.bytes p at block byte r) in record {
      T' = joined q a S';
      does = (d.0, (q, d.1.1, d.1.2 ∙ sym same, refl));
      bytes = unwritten v (C.Wait n index x timeout) Enlisted T (joined q a S') (λ p block byte. refl);
      line = ap (λ (l : List Waiter). l ++ record { place = q; agent = a } ∷ []) agree.line
          ∙ sym (ap (λ (U : State). U.line) d.1.3);
      notified = λ b. agree.notified b ∙ sym (ap (λ (U : State). U.notified b) d.1.3);
    }
does_alike cb a v (C.Wait n index x timeout) S S' (Left A.Woken) T has has' agree d = record {
  T' = departed a S';
  does = (agree.notified a ∙ d.0, refl);
  bytes = unwritten v (C.Wait n index x timeout) (Left A.Woken) T (departed a S') (λ p block byte. refl);
  line = agree.line ∙ sym (ap (λ (U : State). U.line) d.1);
  notified = λ b. ap (λ c. c && not (b == a)) (agree.notified b) ∙ sym (ap (λ (U : State). U.notified b) d.1);
}
does_alike cb a v (C.Wait n index x (Some timeout)) S S' (Left A.TimedOut) T has has' agree d =
    let q = d.0 in record {
      T' = taken_off q a S';
      does = (q, d.1, subst (λ (l : List Waiter). Contains l (record { place = q; agent = a })) (sym agree.line) d.2, refl);
      bytes = unwritten v (C.Wait n index x (Some timeout)) (Left A.TimedOut) T (taken_off q a S') (λ p block byte. refl);
      line = ap (λ (l : List Waiter). filter (λ (w : Waiter). not (is_at q w && (w.agent == a))) l) agree.line
          ∙ sym (ap (λ (U : State). U.line) d.3);
      notified = λ b. agree.notified b ∙ sym (ap (λ (U : State). U.notified b) d.3);
    }
does_alike cb a v call S S' w T has has' agree d = absurd (first_of (assumption, cc))

-- ---- entries

-- the target of an entry that acts, where there is an element
pub target_place : {plan : PlanParts} {S T : State} {e : Entry} (d : Does plan S e T)
    → target_of plan e ≡ option_map (λ p. target_at d.call d.view p) (place d.view.view (index_of d.call))
target_place {plan} {S} {T} {e} d = rw (d.script_is, d.call_is, d.view_is) refl

some_place : (test : Accesses.Access → Bool) (w : What) (call : Call) (v : PlanView) (o : Option ℕ)
    → some_is test (option_and_then (λ (t : Target). access_by w t.call t) (option_map (λ p. target_at call v p) o)) ≡ true
    → (p : ℕ) × (o ≡ Some p) × (some_is test (access_by w call (target_at call v p)) ≡ true)
some_place test w call v None h = absurd (cc)
some_place test w call v (Some p) h = (p, refl, h)

-- an access that an event makes is at its place
target_there : {plan : PlanParts} {S T : State} {e : Entry} (d : Does plan S e T) (test : Accesses.Access → Bool)
    → some_is test (option_and_then (λ (t : Target). access_by e.what t.call t) (target_of plan e)) ≡ true
    → (p : ℕ) × (place d.view.view (index_of d.call) ≡ Some p)
    × (some_is test (access_by e.what d.call (target_at d.call d.view p)) ≡ true)
target_there {plan} {S} {T} {e} d test h =
    some_place test e.what d.call d.view (place d.view.view (index_of d.call))
    (sym (ap (λ (o : Option Target). some_is test (option_and_then (λ (t : Target). access_by e.what t.call t) o))
    (target_place d)) ∙ h)

pub depends_on_what_it_reads : (plan : PlanParts) (e : Entry) → IsPlan plan → DependsOnWhatItReads plan e
depends_on_what_it_reads plan e is_plan S S' T are are' agree d =
    let of_view = view_of d.call in
    let alike = does_alike d.script.can_block e.agent d.view d.call S S' e.what T
    (has_block plan S.mem of_view d.view is_plan are d.view_is)
    (has_block plan S'.mem of_view d.view is_plan are' d.view_is)
    (record {
      bytes = λ p at block byte r. agree.bytes block byte
          (ap (λ (o : Option Target). some_is (λ (a : Accesses.Access). a.reads && covers a block byte)
          (option_and_then (λ t. access_by e.what t.call t) o)) (target_is d p at) ∙ r);
      line = agree.line;
      notified = agree.notified;
    })
    d.does in (
      alike.T',
      record {
        script = d.script;
        script_is = d.script_is;
        call = d.call;
        call_is = d.call_is;
        view = d.view;
        view_is = d.view_is;
        does = alike.does;
      },
      record {
        bytes = λ block byte w.
            let there = target_there d (λ (a : Accesses.Access). a.writes && covers a block byte) w in
            alike.bytes there.0 there.1 block byte there.2;
        line = alike.line;
        notified = alike.notified;
      },
    )
