-- What the event of an act reports.
use Rattle.std.proofs.Common.{◌≡◌, ℤ, inl, inr, ◌⊎◌, ℕ, ◌+◌, ◌-◌, ◌/◌, ◌%◌, ◌^◌, ◌<◌, ◌≤◌, Bool, true, false, ◌&&◌, cond, List, [], ◌∷◌, length, slice_set, slice_index, Option, Some, None, refl, ap, ap₂, sym, ◌∙◌, subst, arith, eq-eqb, get_or-set_same, get_or-set_other}
use Rattle.std.specs.Prelude.{◌==◌, ◌↔◌, option_and_then, option_map}
use Rattle.std.proofs.Math.Nat.{mod-lt}
use Rattle.std.proofs.lemmas.Bool.{cases_eq, and_parts, eqb-true}
use Rattle.std.proofs.lemmas.List.FromFn.{get_or-map-range_with_len}
use Rattle.sab_block.specs.declared.access.Access.{Access}
use Rattle.sab_block.specs.declared.access.Access.TheVariants as X
use Rattle.sab_block.specs.declared.operand.Operand.{Operand}
use Rattle.sab_block.specs.declared.view.View.{View}
use Rattle.sab_block.specs.Block.{digits, put}
use Rattle.sab_block.specs.Kind.{element_size, is_atomic, is_big, raw_count}
use Rattle.sab_block.specs.Operand.{operand, raw, value, whole_of}
use Rattle.sab_block.specs.View.{kind_of, place}
use Rattle.sab_block.specs.Access.{ActsAt, element, raw_of}
use Rattle.sab_block.specs.Access as accesses
use Rattle.sab_block.proofs.ElementBytes.{number-lt}
use Rattle.sab_block.proofs.WholeNumbers.{kept}
use Rattle.sab_plan.specs.declared.place.Place.{Place}
use Rattle.sab_plan.specs.declared.call.Call.{Call}
use Rattle.sab_plan.specs.declared.call.Call.TheVariants as C
use Rattle.sab_plan.specs.declared.plan_view.PlanView.{PlanView}
use Rattle.sab_plan.specs.Call.{view_of, index_of}
use Rattle.sab_plan.specs.Entry.{is_act}
use Rattle.sab_plan.specs.Journal.{acts_of}
use Rattle.sab_plan.specs.Place.{place_of}
use Rattle.sab_plan.specs.Plan.{PlanParts, IsPlan}
use Rattle.sab_plan.specs.declared.answer.Answer.TheVariants as A
use Rattle.sab_plan.specs.declared.entry.What.{What}
use Rattle.sab_plan.specs.declared.entry.What.TheVariants.{Began, Acted, Enlisted, Left, Returned, Stuck}
use Rattle.sab_plan.specs.declared.entry.Entry.{Entry}
use Rattle.sab_object.specs.Object.{State, bytes_of, opening, DoesCall}
use Rattle.sab_sim.specs.Run.{Run, Reaches}
use Rattle.sab_judge.specs.declared.event.Event.{Event}
use Rattle.sab_judge.specs.declared.order.Order.TheVariants.{SeqCst}
use Rattle.sab_judge.specs.declared.place.Place as J
use Rattle.sab_judge.specs.declared.access.Access as Accesses
use Rattle.sab_judge.specs.Event.{idle_event}
use Rattle.sab_replay.specs.declared.events.target.Target.{Target}
use Rattle.sab_replay.specs.Events.Events.{target_of, access_of, access_by, enters, waiters_by}
use Rattle.sab_replay.specs.Events.Acting.{IsOfElement, reads_element, WritesElement, is_in_section, Reports, ReportsItsCall, IsOfItsAgent}
use Rattle.sab_block.proofs.Lengths.{place-inside}
use Rattle.sab_replay.proofs.OfEvents.WrittenBytes.{atomic-kind, put-before, put-inside, put-after, is_inside, raw-value, fits-value}
use Rattle.sab_replay.proofs.OfEvents.Runs.{AreOf, HasBlock, has_block, target_at, writes_at, Does-leaves, zeros_are, zeros_in}
use Rattle.sab_replay.proofs.OfEvents.Depending.{of_element, inside, inside-from, inside-below, reads_at, place_parts, target_place, some-one}

-- ---- blocks have bytes

abbrev pub AreBytes : List (List ℕ) → Type 0
AreBytes mem = (block byte : ℕ) → slice_index (bytes_of mem block) byte < 256

digits-lt : (size r k : ℕ) → k < size → slice_index (digits size r) k < 256
unfolding digits
digits-lt size r k h =
    let e : slice_index (digits size r) k ≡ r / 256 ^ k % 256 =
    get_or-map-range_with_len (λ i. r / 256 ^ i % 256) 0 size k k 0 h (omega arith) in
    let m : r / 256 ^ k % 256 < 256 = mod-lt (r / 256 ^ k) (omega arith) in
    omega (arith, e, m)

-- a write leaves bytes
put-lt : (mem : List ℕ) (p size r byte : ℕ) → p + size ≤ length mem → ((k : ℕ) → slice_index mem k < 256)
    → slice_index (put mem p size r) byte < 256
put-lt mem p size r byte h are = go (side p size byte)
  where
    side : (p size byte : ℕ) → (byte < p) ⊎ ((p ≤ byte) × (byte < p + size)) ⊎ (p + size ≤ byte)
    side p size byte = grind arith

    go : (byte < p) ⊎ ((p ≤ byte) × (byte < p + size)) ⊎ (p + size ≤ byte) → slice_index (put mem p size r) byte < 256
    go (inl b) = subst (λ n. n < 256) (sym (put-before mem p size r byte h b)) (are byte)
    go (inr (inl b)) =
        subst (λ n. n < 256) (sym (put-inside mem p size r byte h b.0 b.1)) (digits-lt size r (byte - p) (omega (arith, b.0, b.1)))
    go (inr (inr b)) = subst (λ n. n < 256) (sym (put-after mem p size r byte h b)) (are byte)

ActsAt-lt : (view : View) (access : Access) (p : ℕ) (mem : List ℕ) (x : Operand) (mem' : List ℕ) (byte : ℕ)
    → p + element_size (kind_of view) ≤ length mem → ((k : ℕ) → slice_index mem k < 256)
    → ActsAt view access p mem x mem' → slice_index mem' byte < 256
ActsAt-lt view (X.Load index) p mem x mem' byte h are acts =
    subst (λ (bs : List ℕ). slice_index bs byte < 256) (sym acts.1) (are byte)
ActsAt-lt view (X.Store index y) p mem x mem' byte h are acts =
    subst (λ (bs : List ℕ). slice_index bs byte < 256) (sym acts.1) (put-lt mem p (element_size (kind_of view)) _ byte h are)
ActsAt-lt view (X.Rmw op index y) p mem x mem' byte h are acts =
    subst (λ (bs : List ℕ). slice_index bs byte < 256) (sym acts.1) (put-lt mem p (element_size (kind_of view)) _ byte h are)
ActsAt-lt view (X.CompareExchange index y z) p mem x mem' byte h are acts =
    elim (cases_eq (element view mem p) (raw_of view y)) [
      | inl same ↦
          subst (λ (bs : List ℕ). slice_index bs byte < 256) (sym (acts.1 same))
          (put-lt mem p (element_size (kind_of view)) _ byte h are)
      | inr other ↦ subst (λ (bs : List ℕ). slice_index bs byte < 256) (sym (acts.2 other)) (are byte)
    ]

set_bytes : (mem : List (List ℕ)) (b : ℕ) (bytes : List ℕ) → b < length mem → AreBytes mem
    → ((k : ℕ) → slice_index bytes k < 256) → AreBytes (slice_set mem b bytes)
set_bytes mem b bytes within are all block byte = elim (cases_eq block b) [
  | inl e ↦
      let here : bytes_of (slice_set mem b bytes) block ≡ bytes =
      ap (λ c. bytes_of (slice_set mem b bytes) c) e ∙ get_or-set_same mem b bytes [] within in
      subst (λ (bs : List ℕ). slice_index bs byte < 256) (sym here) (all byte)
  | inr n ↦
      subst (λ (bs : List ℕ). slice_index bs byte < 256) (sym (get_or-set_other mem b block bytes [] n)) (are block byte)
]

kept_bytes : (S T : State) → AreBytes S.mem → T.mem ≡ S.mem → AreBytes T.mem
kept_bytes S T are e = subst AreBytes (sym e) are

DoesCall-bytes : (cb : Bool) (a : ℕ) (v : PlanView) (call : Call) (S : State) (w : What) (T : State)
    → HasBlock S.mem v → AreBytes S.mem → DoesCall cb a v call S w T → AreBytes T.mem
DoesCall-bytes cb a v (C.Access n access) S (Acted (A.Value x)) T has are d =
    let p = d.1.1.0 in
    let within : p + element_size (kind_of v.view) ≤ length (bytes_of S.mem v.block) =
    omega (arith, place-inside v.view (accesses.index_of access) p d.1.1.1, has.len) in
    subst AreBytes (sym (ap (λ (U : State). U.mem) d.1.2))
    (set_bytes S.mem v.block d.1.0 has.within are
    (λ k. ActsAt-lt v.view access p (bytes_of S.mem v.block) x d.1.0 k within (λ j. are v.block j) d.1.1.2))
DoesCall-bytes cb a v (C.Access n access) S (Acted (A.Threw e)) T has are d = kept_bytes S T are (ap (λ (U : State). U.mem) d.1)
DoesCall-bytes cb a v (C.Notify n index count) S (Acted (A.Threw e)) T has are d = kept_bytes S T are (ap (λ (U : State). U.mem) d.1)
DoesCall-bytes cb a v (C.Notify n index count) S (Acted (A.Count k)) T has are d = kept_bytes S T are (ap (λ (U : State). U.mem) d.1.3)
DoesCall-bytes cb a v (C.Wait n index x timeout) S (Acted (A.Threw e)) T has are d = kept_bytes S T are (ap (λ (U : State). U.mem) d.1)
DoesCall-bytes cb a v (C.Wait n index x timeout) S (Acted A.NotEqual) T has are d = kept_bytes S T are (ap (λ (U : State). U.mem) d.1.3)
DoesCall-bytes cb a v (C.Wait n index x timeout) S Enlisted T has are d = kept_bytes S T are (ap (λ (U : State). U.mem) d.1.3)
DoesCall-bytes cb a v (C.Wait n index x timeout) S (Left A.Woken) T has are d = kept_bytes S T are (ap (λ (U : State). U.mem) d.1)
DoesCall-bytes cb a v (C.Wait n index x (Some timeout)) S (Left A.TimedOut) T has are d = kept_bytes S T are (ap (λ (U : State). U.mem) d.3)
DoesCall-bytes cb a v call S w T has are d = absurd (first_of (assumption, cc))

Run-bytes : (plan : PlanParts) (S : State) (es : List Entry) (T : State) → IsPlan plan
    → AreOf plan S.mem → AreBytes S.mem → Run plan S (acts_of es) T → AreBytes T.mem
Run-bytes plan S [] T is_plan lens are r = kept_bytes S T are (ap (λ (U : State). U.mem) r)
Run-bytes plan S (e ∷ es) T is_plan lens are r =
    go (λ U lens' are' r'. Run-bytes plan U es T is_plan lens' are' r') (is_act e.what) r
  where
    go : ((U : State) → AreOf plan U.mem → AreBytes U.mem → Run plan U (acts_of es) T → AreBytes T.mem)
        → (act : Bool) → Run plan S (cond act (e ∷ acts_of es) (acts_of es)) T → AreBytes T.mem
    go rest true s =
        let d = s.1 in
        rest s.0 ((Does-leaves plan S e s.0 0 0 is_plan lens d).lens ∙ lens)
        (DoesCall-bytes d.script.can_block e.agent d.view d.call S e.what s.0
        (has_block plan S.mem (view_of d.call) d.view is_plan lens d.view_is) are d.does)
        s.2
    go rest false s = rest S lens are s

reached_bytes : (plan : PlanParts) (journal : List Entry) (S : State) → IsPlan plan → Reaches plan journal S
    → AreBytes S.mem
reached_bytes plan journal S is_plan r =
    Run-bytes plan (opening plan.lens) journal S is_plan (zeros_are plan.lens)
    (λ block byte. subst (λ n. n < 256) (sym (zeros_in plan.lens block byte)) (omega arith)) r

-- ---- the bytes of an element

element-of : (v : PlanView) (call : Call) (p block byte : ℕ) → place v.view (index_of call) ≡ Some p
    → of_element v p block byte ≡ true → IsOfElement v call block byte
element-of v call p block byte at h =
    let size = element_size (kind_of v.view) in
    let parts = and_parts (v.block == block) (is_inside p size byte) h in record {
      place = record { block = v.block; byte = p };
      place_is = ap (λ (o : Option ℕ). option_map (λ b. record { block = v.block; byte = b }) o) at;
      block_is = sym (eqb-true v.block block parts.0);
      from = inside-from p size byte parts.1;
      below = inside-below p size byte parts.1;
    }

of-element : (v : PlanView) (call : Call) (p block byte : ℕ) → place v.view (index_of call) ≡ Some p
    → IsOfElement v call block byte → of_element v p block byte ≡ true
of-element v call p block byte at is =
    let size = element_size (kind_of v.view) in
    let parts = place_parts v (place v.view (index_of call)) is.place is.place_is in
    let same : is.place.byte ≡ p = some-one is.place.byte p (sym parts.0 ∙ at) in
    let from : p ≤ byte = subst (λ n. n ≤ byte) same is.from in
    let below : byte < p + size = subst (λ n. byte < n + size) same is.below in
    ap (λ b. b && is_inside p size byte) (eq-eqb v.block block (parts.1 ∙ sym is.block_is)) ∙ inside p size byte from below

-- where no element is at the index, no byte is of it
no-element : (v : PlanView) (call : Call) (block byte : ℕ) → place v.view (index_of call) ≡ None
    → IsOfElement v call block byte → ⊥
no-element v call block byte at is =
    let parts = place_parts v (place v.view (index_of call)) is.place is.place_is in
    differ is.place.byte (sym at ∙ parts.0)
  where
    differ : (p : ℕ) → None ≡ Some p → ⊥
    differ p e = cc

-- ---- what is read and written

reads-is : (cb : Bool) (a : ℕ) (v : PlanView) (call : Call) (S : State) (w : What) (T : State) (p block byte : ℕ)
    → DoesCall cb a v call S w T
    → reads_at w (target_at call v p) block byte ≡ (reads_element w call && of_element v p block byte)
reads-is cb a v (C.Access n (X.Load index)) S (Acted (A.Value x)) T p block byte d = refl
reads-is cb a v (C.Access n (X.Store index y)) S (Acted (A.Value x)) T p block byte d = refl
reads-is cb a v (C.Access n (X.Rmw op index y)) S (Acted (A.Value x)) T p block byte d = refl
reads-is cb a v (C.Access n (X.CompareExchange index y z)) S (Acted (A.Value x)) T p block byte d = refl
reads-is cb a v (C.Access n access) S (Acted (A.Threw e)) T p block byte d = refl
reads-is cb a v (C.Notify n index count) S (Acted (A.Threw e)) T p block byte d = refl
reads-is cb a v (C.Notify n index count) S (Acted (A.Count k)) T p block byte d = refl
reads-is cb a v (C.Wait n index x timeout) S (Acted (A.Threw e)) T p block byte d = refl
reads-is cb a v (C.Wait n index x timeout) S (Acted A.NotEqual) T p block byte d = refl
reads-is cb a v (C.Wait n index x timeout) S Enlisted T p block byte d = refl
reads-is cb a v (C.Wait n index x timeout) S (Left A.Woken) T p block byte d = refl
reads-is cb a v (C.Wait n index x (Some timeout)) S (Left A.TimedOut) T p block byte d = refl
reads-is cb a v call S w T p block byte d = absurd (first_of (assumption, cc))

-- the element that answers an exchange is written as itself
answer-is : (view : View) (x : Operand) (r : ℕ) → r < raw_count (kind_of view) → x ≡ operand (kind_of view) r
    → raw_of view x ≡ r
answer-is view x r fits f =
    let kind = kind_of view in
    let whole : whole_of x ≡ value kind r = ap whole_of f ∙ kept (is_big kind) (value kind r) (fits-value kind r fits) in
    ap (raw kind) whole ∙ raw-value kind r fits

-- a call that writes: its event does, and it does by what it is
record WritesSo (flag : Bool) (Writes : Type 0) : Type 0 where
  there : flag ≡ true → Writes
  back : Writes → flag ≡ true

-- a compareExchange
exchange-writes : (v : PlanView) (n : ℕ) (index : ℤ) (y z x : Operand) (S : State) (p : ℕ)
    → place v.view index ≡ Some p → is_atomic (kind_of v.view) ≡ true → AreBytes S.mem
    → x ≡ operand (kind_of v.view) (element v.view (bytes_of S.mem v.block) p)
    → WritesSo (access_of (X.CompareExchange index y z) x (target_at (C.Access n (X.CompareExchange index y z)) v p)).writes
    (WritesElement (Acted (A.Value x)) (C.Access n (X.CompareExchange index y z)) v S)
exchange-writes v n index y z x S p at atomic are answers =
    let r = element v.view (bytes_of S.mem v.block) p in
    let fits : r < raw_count (kind_of v.view) =
    number-lt (bytes_of S.mem v.block) p (element_size (kind_of v.view)) (λ k. are v.block k) in
    let is : raw_of v.view x ≡ r = answer-is v.view x r fits answers in record {
      there = λ h. (
        record { block = v.block; byte = p },
        ap (λ (o : Option ℕ). option_map (λ b. record { block = v.block; byte = b }) o) at,
        sym (eqb-true (raw_of v.view y) (raw_of v.view x)
            (and_parts (is_atomic (kind_of v.view)) (raw_of v.view y == raw_of v.view x) h).1 ∙ is),
      );
      back = λ w.
          let parts = place_parts v (place v.view index) w.0 w.1 in
          let same : w.0.byte ≡ p = some-one w.0.byte p (sym parts.0 ∙ at) in
          let equal : r ≡ raw_of v.view y =
          ap (λ q. element v.view (bytes_of S.mem v.block) q) (sym same) ∙ w.2 in
          ap (λ b. b && (raw_of v.view y == raw_of v.view x)) atomic
          ∙ eq-eqb (raw_of v.view y) (raw_of v.view x) (sym (is ∙ equal));
    }

-- so its event writes a byte of its element
record WritesThere (flag : Bool) (v : PlanView) (p block byte : ℕ) (Writes : Type 0) : Type 0 where
  there : flag ≡ true → (of_element v p block byte ≡ true) × Writes
  back : of_element v p block byte ≡ true → Writes → flag ≡ true

unwritten : (v : PlanView) (p block byte : ℕ) (Writes : Type 0) → (Writes → ⊥) → WritesThere false v p block byte Writes
unwritten v p block byte W not = record { there = λ h. absurd (cc); back = λ h w. absurd (not w) }

so-there : (flag : Bool) (v : PlanView) (p block byte : ℕ) (Writes : Type 0) → WritesSo flag Writes
    → WritesThere (flag && of_element v p block byte) v p block byte Writes
so-there flag v p block byte W so = record {
  there = λ h. let parts = and_parts flag (of_element v p block byte) h in (parts.1, so.there parts.0);
  back = λ h w. ap (λ b. b && of_element v p block byte) (so.back w) ∙ h;
}

writes-is : (cb : Bool) (a : ℕ) (v : PlanView) (call : Call) (S : State) (w : What) (T : State) (p block byte : ℕ)
    → AreBytes S.mem → place v.view (index_of call) ≡ Some p → DoesCall cb a v call S w T
    → WritesThere (writes_at w (target_at call v p) block byte) v p block byte (WritesElement w call v S)
writes-is cb a v (C.Access n (X.Load index)) S (Acted (A.Value x)) T p block byte are at d =
    unwritten v p block byte _ (λ h. h)
writes-is cb a v (C.Access n (X.Store index y)) S (Acted (A.Value x)) T p block byte are at d =
    record { there = λ h. (h, tt); back = λ h w. h }
writes-is cb a v (C.Access n (X.Rmw op index y)) S (Acted (A.Value x)) T p block byte are at d =
    record { there = λ h. (h, tt); back = λ h w. h }
writes-is cb a v (C.Access n (X.CompareExchange index y z)) S (Acted (A.Value x)) T p block byte are at d =
    let same : d.1.1.0 ≡ p = some-one d.1.1.0 p (sym d.1.1.1 ∙ at) in
    let answers : x ≡ operand (kind_of v.view) (element v.view (bytes_of S.mem v.block) p) =
    d.1.1.2.0 ∙ ap (λ q. operand (kind_of v.view) (element v.view (bytes_of S.mem v.block) q)) same in
    so-there _ v p block byte _ (exchange-writes v n index y z x S p at
    (atomic-kind v.view (X.CompareExchange index y z) d.0) are answers)
writes-is cb a v (C.Access n access) S (Acted (A.Threw e)) T p block byte are at d = unwritten v p block byte _ (λ h. h)
writes-is cb a v (C.Notify n index count) S (Acted (A.Threw e)) T p block byte are at d = unwritten v p block byte _ (λ h. h)
writes-is cb a v (C.Notify n index count) S (Acted (A.Count k)) T p block byte are at d = unwritten v p block byte _ (λ h. h)
writes-is cb a v (C.Wait n index x timeout) S (Acted (A.Threw e)) T p block byte are at d = unwritten v p block byte _ (λ h. h)
writes-is cb a v (C.Wait n index x timeout) S (Acted A.NotEqual) T p block byte are at d = unwritten v p block byte _ (λ h. h)
writes-is cb a v (C.Wait n index x timeout) S Enlisted T p block byte are at d = unwritten v p block byte _ (λ h. h)
writes-is cb a v (C.Wait n index x timeout) S (Left A.Woken) T p block byte are at d = unwritten v p block byte _ (λ h. h)
writes-is cb a v (C.Wait n index x (Some timeout)) S (Left A.TimedOut) T p block byte are at d =
    unwritten v p block byte _ (λ h. h)
writes-is cb a v call S w T p block byte are at d = absurd (first_of (assumption, cc))

-- ---- sections, and orders

enters-is : (cb : Bool) (a : ℕ) (v : PlanView) (call : Call) (S : State) (w : What) (T : State)
    → DoesCall cb a v call S w T → enters w call ≡ is_in_section w call
enters-is cb a v (C.Access n access) S (Acted (A.Value x)) T d = refl
enters-is cb a v (C.Access n access) S (Acted (A.Threw e)) T d = refl
enters-is cb a v (C.Notify n index count) S (Acted (A.Threw e)) T d = refl
enters-is cb a v (C.Notify n index count) S (Acted (A.Count k)) T d = refl
enters-is cb a v (C.Wait n index x timeout) S (Acted (A.Threw e)) T d = refl
enters-is cb a v (C.Wait n index x timeout) S (Acted A.NotEqual) T d = refl
enters-is cb a v (C.Wait n index x timeout) S Enlisted T d = refl
enters-is cb a v (C.Wait n index x timeout) S (Left A.Woken) T d = refl
enters-is cb a v (C.Wait n index x (Some timeout)) S (Left A.TimedOut) T d = refl
enters-is cb a v call S w T d = absurd (first_of (assumption, cc))

-- a place of a plan is one of the judge
abbrev plan_place : ℕ → ℕ → Place
plan_place block byte = record { block = block; byte = byte }

abbrev judge_place : ℕ → ℕ → J.Place
judge_place block byte = record { block = block; byte = byte }

to_plan : (b p block byte : ℕ) → Some (judge_place b p) ≡ Some (judge_place block byte)
    → Some (plan_place b p) ≡ Some (plan_place block byte)
to_plan b p block byte h =
    let e : judge_place b p ≡ judge_place block byte = cc in
    ap₂ (λ x y. Some (plan_place x y)) (ap (λ (q : J.Place). q.block) e) (ap (λ (q : J.Place). q.byte) e)

to_judge : (b p block byte : ℕ) → Some (plan_place b p) ≡ Some (plan_place block byte)
    → Some (judge_place b p) ≡ Some (judge_place block byte)
to_judge b p block byte h =
    let e : plan_place b p ≡ plan_place block byte = cc in
    ap₂ (λ x y. Some (judge_place x y)) (ap (λ (q : Place). q.block) e) (ap (λ (q : Place). q.byte) e)

order-of : (access : Access) (x : Operand) (t : Target) → (access_of access x t).order ≡ SeqCst
order-of (X.Load index) x t = refl
order-of (X.Store index y) x t = refl
order-of (X.Rmw op index y) x t = refl
order-of (X.CompareExchange index y z) x t = refl

order-is : (w : What) (call : Call) (t : Target) (b : Accesses.Access) → access_by w call t ≡ Some b → b.order ≡ SeqCst
order-is (Acted (A.Value x)) (C.Access n access) t b h =
    let same : access_of access x t ≡ b = cc in ap (λ (c : Accesses.Access). c.order) (sym same) ∙ order-of access x t
order-is (Acted A.NotEqual) (C.Wait n index y timeout) t b h = cc
order-is Enlisted (C.Wait n index y timeout) t b h = cc
order-is w call t b h = absurd (cc)

-- ---- acts

-- the event of an agent that does this at a target
abbrev pub event_on : ℕ → What → Option Target → Event
event_on a w o = record {
  agent = a;
  access = option_and_then (λ (t : Target). access_by w t.call t) o;
  waiters = option_and_then (waiters_by w) o;
}

section-is : (enters? : Bool) (v : PlanView) (call : Call) (p block byte : ℕ) (w : What)
    → place v.view (index_of call) ≡ Some p → enters? ≡ is_in_section w call
    → (cond enters? (Some (judge_place v.block p)) None ≡ Some (judge_place block byte))
    ↔ ((place_of v (index_of call) ≡ Some (plan_place block byte)) × (is_in_section w call ≡ true))
section-is true v call p block byte w at e = (
  λ h. (placed ∙ to_plan v.block p block byte h, sym e),
  λ q. to_judge v.block p block byte (sym placed ∙ q.0),
)
  where
    placed : place_of v (index_of call) ≡ Some (plan_place v.block p)
    placed = ap (λ (o : Option ℕ). option_map (λ b. plan_place v.block b) o) at
section-is false v call p block byte w at e = (λ h. absurd (cc), λ q. absurd (differ (e ∙ q.1)))
  where
    differ : false ≡ true → ⊥
    differ h = cc

reports_on : (cb : Bool) (a : ℕ) (v : PlanView) (call : Call) (S : State) (w : What) (T : State) (o : Option ℕ)
    → AreBytes S.mem → DoesCall cb a v call S w T → place v.view (index_of call) ≡ o
    → Reports S w call v (event_on a w (option_map (λ p. target_at call v p) o))
reports_on cb a v call S w T None are d at = record {
  reads = λ block byte. (λ h. absurd (cc), λ q. absurd (no-element v call block byte at q.0));
  writes = λ block byte. (λ h. absurd (cc), λ q. absurd (no-element v call block byte at q.0));
  section = λ block byte. (λ h. absurd (cc), λ q. absurd (none-at block byte q.0));
  order = λ b h. absurd (cc);
}
  where
    none_some : (byte : ℕ) → None ≡ Some byte → ⊥
    none_some byte e = cc

    none-at : (block byte : ℕ) → place_of v (index_of call) ≡ Some (plan_place block byte) → ⊥
    none-at block byte h =
        none_some byte (sym at ∙ (place_parts v (place v.view (index_of call)) (plan_place block byte) h).0)
reports_on cb a v call S w T (Some p) are d at = record {
  reads = λ block byte.
      let is = reads-is cb a v call S w T p block byte d in (
        λ h.
            let parts = and_parts (reads_element w call) (of_element v p block byte) (sym is ∙ h) in
            (element-of v call p block byte at parts.1, parts.0),
        λ q. is ∙ (ap (λ b. b && of_element v p block byte) q.1 ∙ of-element v call p block byte at q.0),
      );
  writes = λ block byte.
      let is = writes-is cb a v call S w T p block byte are at d in (
        λ h. (element-of v call p block byte at (is.there h).0, (is.there h).1),
        λ q. is.back (of-element v call p block byte at q.0) q.1,
      );
  section = λ block byte.
      section-is (enters w call) v call p block byte w at (enters-is cb a v call S w T d);
  order = λ b h. order-is w call (target_at call v p) b h;
}

pub reports_its_call : (plan : PlanParts) (e : Entry) → IsPlan plan → ReportsItsCall plan e
reports_its_call plan e is_plan before S T reached d =
    subst (λ (o : Option Target). Reports S e.what d.call d.view (event_on e.agent e.what o)) (sym (target_place d))
    (reports_on d.script.can_block e.agent d.view d.call S e.what T (place d.view.view (index_of d.call))
    (reached_bytes plan before S is_plan reached) d.does refl)

-- ---- other entries

idle_on : (a : ℕ) (w : What) (o : Option Target) → is_act w ≡ false → event_on a w o ≡ record idle_event { agent = a }
idle_on a Began None h = refl
idle_on a Began (Some t) h = refl
idle_on a (Returned x) None h = refl
idle_on a (Returned x) (Some t) h = refl
idle_on a (Stuck why) None h = refl
idle_on a (Stuck why) (Some t) h = refl
idle_on a w o h = absurd (cc)

pub is_of_its_agent : (plan : PlanParts) (e : Entry) → IsOfItsAgent plan e
is_of_its_agent plan e = record { agent = refl; idle = λ h. idle_on e.agent e.what (target_of plan e) h }
