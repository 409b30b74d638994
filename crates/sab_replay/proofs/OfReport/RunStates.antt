-- The states that a run comes to: their bytes are bytes, and their lines have no more waiters than there were acts.
use Rattle.std.proofs.Common.{◌≡◌, inl, inr, ℕ, zero, suc, ◌+◌, ◌%◌, ◌/◌, ◌^◌, ◌<◌, ◌≤◌, not, ◌&&◌, ◌==◌, Bool, true, false, cond, List, [], ◌∷◌, ◌++◌, length, map, take, drop, replicate, slice_set, slice_index_or, Some, All, sym, ◌∙◌, subst, arith, length-append, length-set}
use Rattle.std.specs.Prelude.{filter}
use Rattle.std.specs.List.{range_with_len}
use Rattle.std.proofs.lemmas.Bool.{cases_lt, cases_eq}
use Rattle.std.proofs.lemmas.Option.{slice_get_within}
use Rattle.std.proofs.lemmas.List.{get_or_past, length-map}
use Rattle.std.proofs.lemmas.List.Sums.{length-filter, count_by-le-length}
use Rattle.std.proofs.lemmas.List.Elements.{All-nil, All-cons, All-head, All-tail, All-get_or, All-append, All-set, All-replicate, All-take, All-drop, All-map, All-filter, All-push}
use Rattle.std.proofs.Math.Nat.{mod-lt}
use Rattle.sab_block.specs.declared.access.Access.{Access}
use Rattle.sab_block.specs.declared.access.Access.TheVariants as X
use Rattle.sab_block.specs.declared.operand.Operand.{Operand}
use Rattle.sab_block.specs.declared.view.View.{View}
use Rattle.sab_block.specs.Block.{digits, put}
use Rattle.sab_block.specs.Kind.{element_size}
use Rattle.sab_block.specs.View.{kind_of}
use Rattle.sab_block.specs.Access.{ActsAt, element, raw_of}
use Rattle.sab_plan.specs.declared.call.Call.{Call}
use Rattle.sab_plan.specs.declared.call.Call.TheVariants as C
use Rattle.sab_plan.specs.declared.plan_view.PlanView.{PlanView}
use Rattle.sab_plan.specs.Plan.{PlanParts}
use Rattle.sab_plan.specs.declared.place.Place.{Place}
use Rattle.sab_plan.specs.declared.answer.Answer.TheVariants as A
use Rattle.sab_plan.specs.declared.entry.What.{What}
use Rattle.sab_plan.specs.declared.entry.What.TheVariants.{Acted, Enlisted, Left}
use Rattle.sab_plan.specs.declared.entry.Entry.{Entry}
use Rattle.sab_plan.specs.Entry.{is_act}
use Rattle.sab_plan.specs.declared.waiter.Waiter.{Waiter}
use Rattle.sab_object.specs.Object.{State, opening, bytes_of, is_at, waiters, without_first, DoesCall, Does}
use Rattle.sab_plan.specs.Journal.{acts_of}
use Rattle.sab_sim.specs.Run.{Run, Reaches}
use Rattle.sab_report_text.proofs.OfJsonLines.ShortElements.{IsByte}

-- bytes are below 256, there are as many blocks as in the plan, and of the agents there are at most so many in the line
pub record IsSound (plan : PlanParts) (n : ℕ) (S : State) : Type 0 where
  pub bytes : All (All IsByte) S.mem
  pub blocks : length S.mem ≡ length plan.lens
  pub line : length S.line ≤ n
  pub named : All (λ (w : Waiter). w.agent < length plan.scripts) S.line

-- ---- bytes

pub block_bytes : (mem : List (List ℕ)) (b : ℕ) → All (All IsByte) mem → All IsByte (bytes_of mem b)
block_bytes mem b bytes = elim (cases_lt b (length mem)) [
  | inl within ↦ All-get_or (All IsByte) mem b [] within bytes
  | inr past ↦ subst (All IsByte) (sym (get_or_past mem b [] past)) (All-nil IsByte)
]

put_bytes : (mem : List ℕ) (p size r : ℕ) → All IsByte mem → All IsByte (put mem p size r)
unfolding put digits
put_bytes mem p size r bytes =
    let digit = λ (k : ℕ). r / 256 ^ k % 256 in
    All-append IsByte (take p mem ++ map digit (range_with_len 0 size)) (drop (p + size) mem)
    (All-append IsByte (take p mem) (map digit (range_with_len 0 size)) (All-take IsByte p mem bytes)
    (All-map IsByte digit (range_with_len 0 size) (λ k d h. mod-lt (digit_of (slice_index_or (range_with_len 0 size) k d)) (omega arith))))
    (All-drop IsByte (p + size) mem bytes)
  where
    digit_of : ℕ → ℕ
    digit_of k = r / 256 ^ k

ActsAt-bytes : (view : View) (access : Access) (p : ℕ) (mem : List ℕ) (x : Operand) (mem' : List ℕ) → All IsByte mem
    → ActsAt view access p mem x mem' → All IsByte mem'
ActsAt-bytes view (X.Load index) p mem x mem' bytes acts = subst (All IsByte) (sym acts.1) bytes
ActsAt-bytes view (X.Store index y) p mem x mem' bytes acts =
    subst (All IsByte) (sym acts.1) (put_bytes mem p (element_size (kind_of view)) _ bytes)
ActsAt-bytes view (X.Rmw op index y) p mem x mem' bytes acts =
    subst (All IsByte) (sym acts.1) (put_bytes mem p (element_size (kind_of view)) _ bytes)
ActsAt-bytes view (X.CompareExchange index y z) p mem x mem' bytes acts =
    elim (cases_eq (element view mem p) (raw_of view y)) [
      | inl same ↦
          subst (All IsByte) (sym (acts.1 same)) (put_bytes mem p (element_size (kind_of view)) _ bytes)
      | inr other ↦ subst (All IsByte) (sym (acts.2 other)) bytes
    ]

-- ---- lines

pub length-waiters : (p : Place) (line : List Waiter) → length (waiters p line) ≤ length line
length-waiters p line =
    omega (
      arith,
      length-map (filter (is_at p) line) (λ (w : Waiter). w.agent),
      length-filter (is_at p) line,
      count_by-le-length (is_at p) line,
    )

without_first-least : (n : ℕ) (p : Place) (line : List Waiter) → length (without_first n p line) ≤ length line
without_first-least n p [] = omega arith
without_first-least zero p (w ∷ line) = omega arith
without_first-least (suc n) p (w ∷ line) =
    go (is_at p w) (without_first-least n p line) (without_first-least (suc n) p line)
  where
    go : (b : Bool) → length (without_first n p line) ≤ length line
        → length (without_first (suc n) p line) ≤ length line
        → length (cond b (without_first n p line) (w ∷ without_first (suc n) p line)) ≤ length (w ∷ line)
    go true h k = omega arith
    go false h k = omega arith

All-without_first : (P : Waiter → Type 0) (n : ℕ) (p : Place) (line : List Waiter) → All P line
    → All P (without_first n p line)
All-without_first P n p [] all = All-nil P
All-without_first P zero p (w ∷ line) all = all
All-without_first P (suc n) p (w ∷ line) all =
    go (is_at p w) (All-without_first P n p line (All-tail P w line all))
    (All-without_first P (suc n) p line (All-tail P w line all))
  where
    go : (b : Bool) → All P (without_first n p line) → All P (without_first (suc n) p line)
        → All P (cond b (without_first n p line) (w ∷ without_first (suc n) p line))
    go true h k = h
    go false h k = All-cons P w (without_first (suc n) p line) (All-head P w line all) k

-- ---- one act

-- the bytes of one block were written
wrote : (plan : PlanParts) (n b : ℕ) (S : State) (bytes : List ℕ) → IsSound plan n S → All IsByte bytes
    → IsSound plan (suc n) (record S { mem = slice_set S.mem b bytes })
wrote plan n b S bytes sound all = record {
  bytes = All-set (All IsByte) S.mem b bytes all sound.bytes;
  blocks = length-set S.mem b bytes ∙ sound.blocks;
  line = omega (arith, sound.line);
  named = sound.named;
}

-- the line has changed, and has at most one more
lined : (plan : PlanParts) (n : ℕ) (S : State) (line : List Waiter) (notified : ℕ → Bool) → IsSound plan n S
    → length line ≤ suc (length S.line) → All (λ (w : Waiter). w.agent < length plan.scripts) line
    → IsSound plan (suc n) (record { mem = S.mem; line = line; notified = notified })
lined plan n S line notified sound few named = record {
  bytes = sound.bytes;
  blocks = sound.blocks;
  line = omega (arith, few, sound.line);
  named = named;
}

later : (plan : PlanParts) (n : ℕ) (S T : State) → IsSound plan n S → T ≡ S → IsSound plan (suc n) T
later plan n S T sound e =
    subst (IsSound plan (suc n)) (sym e) (record {
      bytes = sound.bytes;
      blocks = sound.blocks;
      line = omega (arith, sound.line);
      named = sound.named;
    })

DoesCall-sound : (plan : PlanParts) (n : ℕ) (cb : Bool) (a : ℕ) (v : PlanView) (call : Call) (S : State) (w : What)
    (T : State) → a < length plan.scripts → IsSound plan n S → DoesCall cb a v call S w T → IsSound plan (suc n) T
DoesCall-sound plan n cb a v (C.Access i access) S (Acted (A.Value x)) T named sound d =
    subst (IsSound plan (suc n)) (sym d.1.2)
    (wrote plan n v.block S d.1.0 sound
    (ActsAt-bytes v.view access d.1.1.0 (bytes_of S.mem v.block) x d.1.0 (block_bytes S.mem v.block sound.bytes)
    d.1.1.2))
DoesCall-sound plan n cb a v (C.Access i access) S (Acted (A.Threw t)) T named sound d = later plan n S T sound d.1
DoesCall-sound plan n cb a v (C.Notify i index count) S (Acted (A.Threw t)) T named sound d = later plan n S T sound d.1
DoesCall-sound plan n cb a v (C.Notify i index count) S (Acted (A.Count k)) T named sound d =
    subst (IsSound plan (suc n)) (sym d.1.3)
    (lined plan n S (without_first k d.1.0 S.line) _ sound
    (omega (arith, without_first-least k d.1.0 S.line))
    (All-without_first (λ (w : Waiter). w.agent < length plan.scripts) k d.1.0 S.line sound.named))
DoesCall-sound plan n cb a v (C.Wait i index x timeout) S (Acted (A.Threw t)) T named sound d =
    later plan n S T sound d.1
DoesCall-sound plan n cb a v (C.Wait i index x timeout) S (Acted A.NotEqual) T named sound d =
    later plan n S T sound d.1.3
DoesCall-sound plan n cb a v (C.Wait i index x timeout) S Enlisted T named sound d =
    let w : Waiter = record { place = d.1.0; agent = a } in
    subst (IsSound plan (suc n)) (sym d.1.3)
    (lined plan n S (S.line ++ w ∷ []) S.notified sound (omega (arith, length-append S.line (w ∷ [])))
    (All-push (λ (v : Waiter). v.agent < length plan.scripts) S.line w sound.named named))
DoesCall-sound plan n cb a v (C.Wait i index x timeout) S (Left A.Woken) T named sound d =
    subst (IsSound plan (suc n)) (sym d.1) (lined plan n S S.line _ sound (omega arith) sound.named)
DoesCall-sound plan n cb a v (C.Wait i index x (Some timeout)) S (Left A.TimedOut) T named sound d =
    let stays = λ (w : Waiter). not (is_at d.0 w && (w.agent == a)) in
    subst (IsSound plan (suc n)) (sym d.3)
    (lined plan n S (filter stays S.line) S.notified sound
    (omega (arith, length-filter stays S.line, count_by-le-length stays S.line))
    (All-filter stays (λ (w : Waiter). w.agent < length plan.scripts) S.line sound.named))
DoesCall-sound plan n cb a v call S w T named sound d = absurd (first_of (assumption, cc))

pub Does-sound : (plan : PlanParts) (n : ℕ) (S : State) (e : Entry) (T : State) → IsSound plan n S → Does plan S e T
    → IsSound plan (suc n) T
Does-sound plan n S e T sound d =
    DoesCall-sound plan n d.script.can_block e.agent d.view d.call S e.what T
    (slice_get_within plan.scripts e.agent d.script d.script_is) sound d.does

-- ---- runs

pub opening_sound : (plan : PlanParts) → IsSound plan 0 (opening plan.lens)
opening_sound plan = record {
  bytes =
      All-map (All IsByte) (λ (len : ℕ). replicate len 0) plan.lens
      (λ k d h. All-replicate IsByte (slice_index_or plan.lens k d) 0 (omega arith));
  blocks = length-map plan.lens (λ (len : ℕ). replicate len 0);
  line = omega arith;
  named = All-nil (λ (w : Waiter). w.agent < length plan.scripts);
}

pub Run-sound : (plan : PlanParts) (n : ℕ) (S : State) (es : List Entry) (T : State) → IsSound plan n S → Run plan S es T
    → IsSound plan (n + length es) T
Run-sound plan n S [] T sound r =
    let same : n + 0 ≡ n = omega arith in
    subst (λ (m : ℕ). IsSound plan m T) (sym same) (subst (IsSound plan n) (sym r) sound)
Run-sound plan n S (e ∷ es) T sound r =
    let same : suc n + length es ≡ n + length (e ∷ es) = omega arith in
    subst (λ (m : ℕ). IsSound plan m T) same
    (Run-sound plan (suc n) r.0 es T (Does-sound plan n S e r.0 sound r.1) r.2)

pub few_acts : (journal : List Entry) → length (acts_of journal) ≤ length journal
few_acts journal =
    omega (
      arith,
      length-filter (λ (e : Entry). is_act e.what) journal,
      count_by-le-length (λ (e : Entry). is_act e.what) journal,
    )

pub Reaches-sound : (plan : PlanParts) (journal : List Entry) (S : State) → Reaches plan journal S
    → IsSound plan (length journal) S
Reaches-sound plan journal S r =
    let sound = Run-sound plan 0 (opening plan.lens) (acts_of journal) S (opening_sound plan) r in record {
      bytes = sound.bytes;
      blocks = sound.blocks;
      line = omega (arith, sound.line, few_acts journal);
      named = sound.named;
    }
