-- The bytes that a run leaves.
use Rattle.std.proofs.Common.{◌≡◌, inl, inr, ℕ, zero, suc, ◌+◌, ◌<◌, ◌≤◌, Bool, true, false, ◌&&◌, List, [], ◌∷◌, ◌++◌, length, take, drop, map, replicate, slice_get, slice_set, slice_index, get_or, Option, Some, refl, ap, sym, ◌∙◌, subst, arith, eq-eqb}
use Rattle.std.specs.Prelude.{cond, option_and_then, ◌==◌}
use Rattle.std.proofs.lemmas.Bool.{cases_eq}
use Rattle.std.proofs.lemmas.Option.{slice_get_within, get_or_from_slice_get}
use Rattle.std.proofs.lemmas.List.{length-replicate, take-append-drop, take-take, get_or-take, get_or-drop, take-map, drop-map, length-drop, length-take, get_or-map, length-map}
use Rattle.std.proofs.lemmas.List.Elements.{filter-append, All-get_or}
use Rattle.std.proofs.Math.Seq.{map-set_same}
use Rattle.std.proofs.Common.{get_or-set_same, get_or-set_other}
use Rattle.sab_block.specs.declared.access.Access.{Access}
use Rattle.sab_block.specs.declared.access.Access.TheVariants as X
use Rattle.sab_block.specs.declared.operand.Operand.{Operand}
use Rattle.sab_block.specs.Kind.{element_size}
use Rattle.sab_block.specs.View.{kind_of, block_len_of, place}
use Rattle.sab_block.specs.Access.{ActsAt}
use Rattle.sab_block.specs.Access as accesses
use Rattle.sab_plan.specs.declared.call.Call.{Call}
use Rattle.sab_plan.specs.declared.call.Call.TheVariants as C
use Rattle.sab_plan.specs.declared.plan_view.PlanView.{PlanView}
use Rattle.sab_plan.specs.Call.{view_of, index_of}
use Rattle.sab_plan.specs.Plan.{PlanParts, IsPlan}
use Rattle.sab_plan.specs.declared.answer.Answer.TheVariants as A
use Rattle.sab_plan.specs.declared.entry.What.{What}
use Rattle.sab_plan.specs.declared.entry.What.TheVariants.{Acted, Enlisted, Left}
use Rattle.sab_plan.specs.declared.entry.Entry.{Entry}
use Rattle.sab_plan.specs.Entry.{is_act}
use Rattle.sab_object.specs.Object.{State, bytes_of, zero_blocks, opening, DoesCall, Does}
use Rattle.sab_plan.specs.Journal.{acts_of}
use Rattle.sab_sim.specs.Run.{Run, Reaches}
use Rattle.sab_sim.proofs.OnlyRun.{Run-append}
use Rattle.sab_sim.proofs.PlaceLine.{Reaches-one}
use Rattle.sab_judge.specs.declared.event.Event.{Event}
use Rattle.sab_judge.specs.Event.{event_at, writes_byte, idle_event, some_is}
use Rattle.sab_judge.specs.Access.{covers}
use Rattle.sab_judge.specs.declared.access.Access as Accesses
use Rattle.sab_replay.specs.declared.events.target.Target.{Target}
use Rattle.sab_replay.specs.Events.Events.{target_of, access_of, access_by, event_of, events_of}
use Rattle.sab_replay.specs.Events.Reading.{ChangesWhatItWrites, ReadsWhatWasLeft, ReadsZeros}
use Rattle.sab_block.proofs.Lengths.{ActsAt-length, place-inside}
use Rattle.sab_replay.proofs.OfEvents.WrittenBytes.{ActsAt-outside, atomic-kind, is_inside}

-- ---- one act

-- the blocks have the plan's lengths
abbrev pub AreOf : PlanParts → List (List ℕ) → Type 0
AreOf plan mem = map length mem ≡ plan.lens

-- a view's block is there, and as long as the view says
pub record HasBlock (mem : List (List ℕ)) (v : PlanView) : Type 0 where
  pub within : v.block < length mem
  pub len : length (bytes_of mem v.block) ≡ block_len_of v.view

pub has_block : (plan : PlanParts) (mem : List (List ℕ)) (n : ℕ) (v : PlanView) → IsPlan plan → AreOf plan mem
    → slice_get plan.views n ≡ Some v → HasBlock mem v
has_block plan mem n v is_plan are view_is =
    let fits : slice_get plan.lens v.block ≡ Some (block_len_of v.view) =
    subst (λ (w : PlanView). slice_get plan.lens w.block ≡ Some (block_len_of w.view))
    (get_or_from_slice_get plan.views n v v view_is)
    (All-get_or (λ (w : PlanView). slice_get plan.lens w.block ≡ Some (block_len_of w.view)) plan.views n v
    (slice_get_within plan.views n v view_is) is_plan.views.lens) in
    let within : v.block < length mem =
    omega (arith, slice_get_within plan.lens v.block (block_len_of v.view) fits, ap length are, length-map mem length) in
    record {
      within = within;
      len =
          sym (get_or-map length mem v.block [] 0 within)
          ∙ (ap (λ (lens : List ℕ). get_or lens v.block 0) are
          ∙ get_or_from_slice_get plan.lens v.block (block_len_of v.view) 0 fits);
    }

-- a call on its view, at a byte of its block
abbrev pub target_at : Call → PlanView → ℕ → Target
target_at call v p = record { call = call; view = v.view; place = record { block = v.block; byte = p } }

-- where the call does this there, it writes the byte
abbrev pub writes_at : What → Target → ℕ → ℕ → Bool
writes_at w t block byte = some_is (λ (a : Accesses.Access). a.writes && covers a block byte) (access_by w t.call t)

-- so it writes no element of which the byte is one
abbrev pub IsUnwrittenBy : PlanView → Call → What → ℕ → ℕ → Type 0
IsUnwrittenBy v call w block byte =
    (p : ℕ) → place v.view (index_of call) ≡ Some p → writes_at w (target_at call v p) block byte ≡ false

-- the lengths are as they were, and so is the byte if it is unwritten
pub record Leaves (IsUnwritten : Type 0) (mem mem' : List (List ℕ)) (block byte : ℕ) : Type 0 where
  pub same : IsUnwritten → slice_index (bytes_of mem' block) byte ≡ slice_index (bytes_of mem block) byte
  pub lens : map length mem' ≡ map length mem

stays : (P : Type 0) (mem mem' : List (List ℕ)) (block byte : ℕ) → mem' ≡ mem → Leaves P mem mem' block byte
stays P mem mem' block byte e = record {
  same = λ p. ap (λ (m : List (List ℕ)). slice_index (bytes_of m block) byte) e;
  lens = ap (λ (m : List (List ℕ)). map length m) e;
}

-- a block is written
set_leaves : (P : Type 0) (mem : List (List ℕ)) (v : PlanView) (bytes : List ℕ) (block byte : ℕ) → HasBlock mem v
    → length bytes ≡ length (bytes_of mem v.block)
    → (P → block ≡ v.block → slice_index bytes byte ≡ slice_index (bytes_of mem v.block) byte)
    → Leaves P mem (slice_set mem v.block bytes) block byte
set_leaves P mem v bytes block byte has len same = record {
  same = λ h. elim (cases_eq block v.block) [
    | inl e ↦
        let here : bytes_of (slice_set mem v.block bytes) block ≡ bytes =
        ap (λ b. bytes_of (slice_set mem v.block bytes) b) e ∙ get_or-set_same mem v.block bytes [] has.within in
        ap (λ (bs : List ℕ). slice_index bs byte) here
        ∙ (same h e ∙ ap (λ b. slice_index (bytes_of mem b) byte) (sym e))
    | inr n ↦ ap (λ (bs : List ℕ). slice_index bs byte) (get_or-set_other mem v.block block bytes [] n)
  ];
  lens = map-set_same length mem v.block bytes [] len;
}

-- its range is that of the element
pub covers-access : (access : Access) (x : Operand) (t : Target) (block byte : ℕ)
    → covers (access_of access x t) block byte
    ≡ ((t.place.block == block) && is_inside t.place.byte (element_size (kind_of t.view)) byte)
covers-access (X.Load index) x t block byte = refl
covers-access (X.Store index y) x t block byte = refl
covers-access (X.Rmw op index y) x t block byte = refl
covers-access (X.CompareExchange index y z) x t block byte = refl

-- a call changes no byte but those that it writes
DoesCall-leaves : (cb : Bool) (a : ℕ) (v : PlanView) (call : Call) (S : State) (w : What) (T : State) (block byte : ℕ)
    → HasBlock S.mem v → DoesCall cb a v call S w T → Leaves (IsUnwrittenBy v call w block byte) S.mem T.mem block byte
DoesCall-leaves cb a v (C.Access n access) S (Acted (A.Value x)) T block byte has d =
    let bytes = d.1.0 in
    let p = d.1.1.0 in
    let inside : p + element_size (kind_of v.view) ≤ length (bytes_of S.mem v.block) =
    omega (arith, place-inside v.view (accesses.index_of access) p d.1.1.1, has.len) in
    let t = target_at (C.Access n access) v p in
    subst (λ (mem : List (List ℕ)). Leaves (IsUnwrittenBy v (C.Access n access) (Acted (A.Value x)) block byte) S.mem mem block byte) (sym (ap (λ (U : State). U.mem) d.1.2))
    (set_leaves (IsUnwrittenBy v (C.Access n access) (Acted (A.Value x)) block byte) S.mem v bytes block byte has
    (ActsAt-length v.view access p (bytes_of S.mem v.block) x bytes inside d.1.1.2)
    (λ e same. ActsAt-outside t access p (bytes_of S.mem v.block) x bytes byte (atomic-kind v.view access d.0) inside d.1.1.2
    (here (access_of access x t).writes (v.block == block) (is_inside p (element_size (kind_of v.view)) byte)
    (eq-eqb v.block block (sym same))
    (sym (ap (λ b. (access_of access x t).writes && b) (covers-access access x t block byte)) ∙ e p d.1.1.1))))
  where
    here : (a b c : Bool) → b ≡ true → (a && (b && c)) ≡ false → (a && c) ≡ false
    here a b c e f = sym (ap (λ x. a && (x && c)) e) ∙ f
DoesCall-leaves cb a v (C.Access n access) S (Acted (A.Threw t)) T block byte has d =
    stays (IsUnwrittenBy v (C.Access n access) (Acted (A.Threw t)) block byte) S.mem T.mem block byte (ap (λ (U : State). U.mem) d.1)
DoesCall-leaves cb a v (C.Notify n index count) S (Acted (A.Threw t)) T block byte has d =
    stays (IsUnwrittenBy v (C.Notify n index count) (Acted (A.Threw t)) block byte) S.mem T.mem block byte (ap (λ (U : State). U.mem) d.1)
DoesCall-leaves cb a v (C.Notify n index count) S (Acted (A.Count k)) T block byte has d =
    stays (IsUnwrittenBy v (C.Notify n index count) (Acted (A.Count k)) block byte) S.mem T.mem block byte (ap (λ (U : State). U.mem) d.1.3)
DoesCall-leaves cb a v (C.Wait n index x timeout) S (Acted (A.Threw t)) T block byte has d =
    stays (IsUnwrittenBy v (C.Wait n index x timeout) (Acted (A.Threw t)) block byte) S.mem T.mem block byte (ap (λ (U : State). U.mem) d.1)
DoesCall-leaves cb a v (C.Wait n index x timeout) S (Acted A.NotEqual) T block byte has d =
    stays (IsUnwrittenBy v (C.Wait n index x timeout) (Acted A.NotEqual) block byte) S.mem T.mem block byte (ap (λ (U : State). U.mem) d.1.3)
DoesCall-leaves cb a v (C.Wait n index x timeout) S Enlisted T block byte has d =
    stays (IsUnwrittenBy v (C.Wait n index x timeout) Enlisted block byte) S.mem T.mem block byte (ap (λ (U : State). U.mem) d.1.3)
DoesCall-leaves cb a v (C.Wait n index x timeout) S (Left A.Woken) T block byte has d =
    stays (IsUnwrittenBy v (C.Wait n index x timeout) (Left A.Woken) block byte) S.mem T.mem block byte (ap (λ (U : State). U.mem) d.1)
DoesCall-leaves cb a v (C.Wait n index x (Some timeout)) S (Left A.TimedOut) T block byte has d =
    stays (IsUnwrittenBy v (C.Wait n index x (Some timeout)) (Left A.TimedOut) block byte) S.mem T.mem block byte (ap (λ (U : State). U.mem) d.3)
DoesCall-leaves cb a v call S w T block byte has d = absurd (first_of (assumption, cc))

-- the target of an entry that acts
pub target_is : {plan : PlanParts} {S T : State} {e : Entry} (d : Does plan S e T) (p : ℕ)
    → place d.view.view (index_of d.call) ≡ Some p → target_of plan e ≡ Some (target_at d.call d.view p)
target_is {plan} {S} {T} {e} d p at = rw (d.script_is, d.call_is, d.view_is, at) refl

pub Does-leaves : (plan : PlanParts) (S : State) (e : Entry) (T : State) (block byte : ℕ) → IsPlan plan
    → AreOf plan S.mem → Does plan S e T
    → Leaves (writes_byte (event_of plan e) block byte ≡ false) S.mem T.mem block byte
Does-leaves plan S e T block byte is_plan are d =
    let leaves = DoesCall-leaves d.script.can_block e.agent d.view d.call S e.what T block byte
    (has_block plan S.mem (view_of d.call) d.view is_plan are d.view_is) d.does in record {
      same = λ w. leaves.same (λ p at. sym (ap (λ (o : Option Target). some_is (λ (a : Accesses.Access). a.writes && covers a block byte)
          (option_and_then (λ t. access_by e.what t.call t) o)) (target_is d p at)) ∙ w);
      lens = leaves.lens;
    }

pub changes_what_it_writes : (plan : PlanParts) (e : Entry) → IsPlan plan → ChangesWhatItWrites plan e
changes_what_it_writes plan e is_plan S T block byte are d w =
    (Does-leaves plan S e T block byte is_plan are d).same w

-- ---- runs

-- none of the entries' events writes the byte
abbrev pub AreUnwritten : PlanParts → List Entry → ℕ → ℕ → Type 0
AreUnwritten plan es block byte =
    (k : ℕ) → k < length es → writes_byte (event_at (events_of plan es) k) block byte ≡ false

-- a run of them leaves it, and the lengths
Run-leaves : (plan : PlanParts) (S : State) (es : List Entry) (T : State) (block byte : ℕ) → IsPlan plan
    → AreOf plan S.mem → Run plan S (acts_of es) T → Leaves (AreUnwritten plan es block byte) S.mem T.mem block byte
Run-leaves plan S [] T block byte is_plan are r = stays (AreUnwritten plan [] block byte) S.mem T.mem block byte (ap (λ (U : State). U.mem) r)
Run-leaves plan S (e ∷ es) T block byte is_plan are r =
    go (λ U are' r'. Run-leaves plan U es T block byte is_plan are' r') (is_act e.what) r
  where
    go : ((U : State) → AreOf plan U.mem → Run plan U (acts_of es) T
        → Leaves (AreUnwritten plan es block byte) U.mem T.mem block byte)
        → (act : Bool) → Run plan S (cond act (e ∷ acts_of es) (acts_of es)) T
        → Leaves (AreUnwritten plan (e ∷ es) block byte) S.mem T.mem block byte
    go rest true s =
        let first = Does-leaves plan S e s.0 block byte is_plan are s.1 in
        let last = rest s.0 (first.lens ∙ are) s.2 in record {
          same = λ w. last.same (λ k h. w (suc k) (omega arith)) ∙ first.same (w 0 (omega arith));
          lens = last.lens ∙ first.lens;
        }
    go rest false s =
        let last = rest S are s in
        record { same = λ w. last.same (λ k h. w (suc k) (omega arith)); lens = last.lens }

-- zero blocks have their lengths, and zeros
pub zeros_are : (lens : List ℕ) → map length (zero_blocks lens) ≡ lens
zeros_are [] = refl
zeros_are (n ∷ lens) = ap (λ m. m ∷ map length (zero_blocks lens)) (length-replicate n 0) ∙ ap (λ ms. n ∷ ms) (zeros_are lens)

zero_in : (n byte : ℕ) → slice_index (replicate n 0) byte ≡ 0
zero_in zero byte = refl
zero_in (suc n) zero = refl
zero_in (suc n) (suc byte) = zero_in n byte

pub zeros_in : (lens : List ℕ) (block byte : ℕ) → slice_index (bytes_of (zero_blocks lens) block) byte ≡ 0
zeros_in [] block byte = refl
zeros_in (n ∷ lens) zero byte = zero_in n byte
zeros_in (n ∷ lens) (suc block) byte = zeros_in lens block byte

-- the events of a part of the entries
part_unwritten : (plan : PlanParts) (journal : List Entry) (i j block byte : ℕ)
    → ((k : ℕ) → i ≤ k → k < j → writes_byte (event_at (events_of plan journal) k) block byte ≡ false)
    → AreUnwritten plan (drop i (take j journal)) block byte
part_unwritten plan journal i j block byte w k h =
    let events = events_of plan journal in
    let within : i + k < j = omega (arith, length-drop i (take j journal), length-take j journal) in
    let part : events_of plan (drop i (take j journal)) ≡ drop i (take j events) =
    sym (drop-map (event_of plan) i (take j journal)) ∙ ap (drop i) (sym (take-map (event_of plan) j journal)) in
    let at : event_at (drop i (take j events)) k ≡ event_at events (i + k) =
    get_or-drop i (take j events) k idle_event ∙ get_or-take j events (i + k) idle_event within in
    ap (λ (es : List Event). writes_byte (event_at es k) block byte) part
    ∙ (ap (λ (e : Event). writes_byte e block byte) at ∙ w (i + k) (omega arith) within)

-- a run of a journal's front is one of a shorter front, and one of what is between the two
split_run : (plan : PlanParts) (journal : List Entry) (i j : ℕ) (T : State) → i ≤ j → Reaches plan (take j journal) T
    → (U : State) × Reaches plan (take i journal) U × Run plan U (acts_of (drop i (take j journal))) T
split_run plan journal i j T h r =
    let front = take j journal in
    let whole : acts_of front ≡ acts_of (take i journal) ++ acts_of (drop i front) =
    sym (ap acts_of (take-append-drop i front))
    ∙ (filter-append (λ (e : Entry). is_act e.what) (take i front) (drop i front)
    ∙ ap (λ (es : List Entry). acts_of es ++ acts_of (drop i front)) (take-take i j journal h)) in
    Run-append plan (opening plan.lens) (acts_of (take i journal)) (acts_of (drop i front)) T
    (subst (λ (es : List Entry). Run plan (opening plan.lens) es T) whole r)

-- the blocks of a state that a journal leads to
pub reached_are : (plan : PlanParts) (journal : List Entry) (S : State) → IsPlan plan → Reaches plan journal S
    → AreOf plan S.mem
reached_are plan journal S is_plan r =
    (Run-leaves plan (opening plan.lens) journal S 0 0 is_plan (zeros_are plan.lens) r).lens ∙ zeros_are plan.lens

-- ---- what is read

pub reads_what_was_left : (plan : PlanParts) (journal : List Entry) → IsPlan plan → ReadsWhatWasLeft plan journal
reads_what_was_left plan journal is_plan j i block byte S T reads s t =
    let run = split_run plan journal (suc i) j T (omega (arith, reads.earlier)) t in
    let same : run.0 ≡ S = Reaches-one plan (take (suc i) journal) run.0 S run.1 s in
    let between = subst (λ (U : State). Run plan U (acts_of (drop (suc i) (take j journal))) T) same run.2 in
    (Run-leaves plan S (drop (suc i) (take j journal)) T block byte is_plan
    (reached_are plan (take (suc i) journal) S is_plan s) between).same
    (part_unwritten plan journal (suc i) j block byte (λ k h. reads.latest k (omega arith)))

pub reads_zeros : (plan : PlanParts) (journal : List Entry) → IsPlan plan → ReadsZeros plan journal
reads_zeros plan journal is_plan j block byte T w r =
    (Run-leaves plan (opening plan.lens) (take j journal) T block byte is_plan (zeros_are plan.lens) r).same
    (part_unwritten plan journal 0 j block byte (λ k h. w k))
    ∙ zeros_in plan.lens block byte
