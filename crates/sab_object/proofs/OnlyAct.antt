-- From one state an act has one outcome.
use Rattle.std.proofs.Common.{◌≡◌, ℕ, Bool, false, length, slice_get, slice_set, Option, Some, None, refl, ap, sym, ◌∙◌, subst, arith}
use Rattle.std.proofs.lemmas.Grind.{common_steps}
use Rattle.std.proofs.lemmas.Bool.{true≢false}
use Rattle.sab_block.specs.declared.access.Access.{Access}
use Rattle.sab_block.specs.declared.access.Access.TheVariants as X
use Rattle.sab_block.specs.Operand.{raw, whole_of}
use Rattle.sab_block.specs.View.{kind_of, place}
use Rattle.sab_block.specs.Access.{index_of}
use Rattle.sab_plan.specs.declared.place.Place.{Place}
use Rattle.sab_plan.specs.declared.plan_view.PlanView.{PlanView}
use Rattle.sab_plan.specs.declared.call.Call.{Call}
use Rattle.sab_plan.specs.declared.call.Call.TheVariants as C
use Rattle.sab_plan.specs.declared.answer.Answer.{Answer}
use Rattle.sab_plan.specs.declared.answer.Answer.TheVariants as A
use Rattle.sab_plan.specs.declared.entry.What.{What}
use Rattle.sab_plan.specs.declared.entry.What.TheVariants.{Began, Acted, Enlisted, Left, Returned, Stuck}
use Rattle.sab_plan.specs.Call.{view_of}
use Rattle.sab_plan.specs.Entry.{is_act}
use Rattle.sab_plan.specs.Place.{place_of}
use Rattle.sab_plan.specs.Plan.{PlanParts}
use Rattle.sab_plan.specs.Check.{verdict}
use Rattle.sab_object.specs.Object.{State, bytes_of, element_at, waiters, woken_count, woken, joined, taken_off, DoesCall, Does}
use Rattle.sab_object.specs.Kept.{IsOutcome}

-- an option has one value
pub one_value : {X : Type 0} (o : Option X) (x y : X) → o ≡ Some x → o ≡ Some y → x ≡ y
one_value o x y e f = cc

-- an option isn't both
not_both : {X : Type 0} (o : Option X) (x : X) → o ≡ Some x → o ≡ None → ⊥
not_both o x e f = cc

-- a call that has begun has one outcome
pub DoesCall-one : (cb : Bool) (a : ℕ) (v : PlanView) (call : Call) (S : State) (w : What) (T : State) (w' : What)
    (T' : State)
    → IsOutcome w → IsOutcome w' → DoesCall cb a v call S w T → DoesCall cb a v call S w' T' → (w ≡ w') × (T ≡ T')
DoesCall-one cb a v (C.Access n access) S (Acted (A.Threw e)) T (Acted (A.Threw f)) T' o o' d d' =
    (ap (λ t. Acted (A.Threw t)) (one_value (verdict cb v.view (C.Access n access)) e f d.0 d'.0), d.1 ∙ sym d'.1)
DoesCall-one cb a v (C.Access n access) S (Acted (A.Threw e)) T (Acted (A.Value y)) T' o o' d d' =
    absurd (not_both (verdict cb v.view (C.Access n access)) e d.0 d'.0)
DoesCall-one cb a v (C.Access n access) S (Acted (A.Value x)) T (Acted (A.Threw f)) T' o o' d d' =
    absurd (not_both (verdict cb v.view (C.Access n access)) f d'.0 d.0)
DoesCall-one cb a v (C.Access n access) S (Acted (A.Value x)) T (Acted (A.Value y)) T' o o' d d' =
    grind (arith, common_steps, one_value, place, index_of, bytes_of, slice_set)
DoesCall-one cb a v (C.Notify n index k) S (Acted (A.Threw e)) T (Acted (A.Threw f)) T' o o' d d' =
    (ap (λ t. Acted (A.Threw t)) (one_value (verdict cb v.view (C.Notify n index k)) e f d.0 d'.0), d.1 ∙ sym d'.1)
DoesCall-one cb a v (C.Notify n index k) S (Acted (A.Threw e)) T (Acted (A.Count y)) T' o o' d d' =
    absurd (not_both (verdict cb v.view (C.Notify n index k)) e d.0 d'.0)
DoesCall-one cb a v (C.Notify n index k) S (Acted (A.Count x)) T (Acted (A.Threw f)) T' o o' d d' =
    absurd (not_both (verdict cb v.view (C.Notify n index k)) f d'.0 d.0)
DoesCall-one cb a v (C.Notify n index k) S (Acted (A.Count x)) T (Acted (A.Count y)) T' o o' d d' =
    grind (arith, common_steps, one_value, place_of, woken_count, length, waiters, woken)
DoesCall-one cb a v (C.Wait n index x t) S (Acted (A.Threw e)) T (Acted (A.Threw f)) T' o o' d d' =
    (ap (λ t. Acted (A.Threw t)) (one_value (verdict cb v.view (C.Wait n index x t)) e f d.0 d'.0), d.1 ∙ sym d'.1)
DoesCall-one cb a v (C.Wait n index x t) S (Acted (A.Threw e)) T (Acted A.NotEqual) T' o o' d d' =
    absurd (not_both (verdict cb v.view (C.Wait n index x t)) e d.0 d'.0)
DoesCall-one cb a v (C.Wait n index x t) S (Acted (A.Threw e)) T Enlisted T' o o' d d' =
    absurd (not_both (verdict cb v.view (C.Wait n index x t)) e d.0 d'.0)
DoesCall-one cb a v (C.Wait n index x t) S (Acted A.NotEqual) T (Acted (A.Threw f)) T' o o' d d' =
    absurd (not_both (verdict cb v.view (C.Wait n index x t)) f d'.0 d.0)
DoesCall-one cb a v (C.Wait n index x t) S Enlisted T (Acted (A.Threw f)) T' o o' d d' =
    absurd (not_both (verdict cb v.view (C.Wait n index x t)) f d'.0 d.0)
DoesCall-one cb a v (C.Wait n index x t) S (Acted A.NotEqual) T (Acted A.NotEqual) T' o o' d d' =
    (refl, d.1.3 ∙ sym d'.1.3)
DoesCall-one cb a v (C.Wait n index x t) S (Acted A.NotEqual) T Enlisted T' o o' d d' =
    let places = one_value (place_of v index) d'.1.0 d.1.0 d'.1.1 d.1.1 in
    absurd (d.1.2 (subst (λ (p : Place). raw (kind_of v.view) (whole_of x) ≡ element_at v S.mem p) places d'.1.2))
DoesCall-one cb a v (C.Wait n index x t) S Enlisted T (Acted A.NotEqual) T' o o' d d' =
    let places = one_value (place_of v index) d.1.0 d'.1.0 d.1.1 d'.1.1 in
    absurd (d'.1.2 (subst (λ (p : Place). raw (kind_of v.view) (whole_of x) ≡ element_at v S.mem p) places d.1.2))
DoesCall-one cb a v (C.Wait n index x t) S Enlisted T Enlisted T' o o' d d' =
    let places = one_value (place_of v index) d.1.0 d'.1.0 d.1.1 d'.1.1 in
    (refl, d.1.3 ∙ (ap (λ (p : Place). joined p a S) places ∙ sym d'.1.3))
DoesCall-one cb a v call S w T w' T' o o' d d' = absurd (first_of (assumption, cc))

-- a wait that has begun leaves in one way
pub DoesCall-left : (cb : Bool) (a : ℕ) (v : PlanView) (call : Call) (S : State) (x : Answer) (T T' : State)
    → DoesCall cb a v call S (Left x) T → DoesCall cb a v call S (Left x) T' → T ≡ T'
DoesCall-left cb a v (C.Wait n index y t) S A.Woken T T' d d' = d.1 ∙ sym d'.1
DoesCall-left cb a v (C.Wait n index y (Some t)) S A.TimedOut T T' d d' =
    let places = one_value (place_of v index) d.0 d'.0 d.1 d'.1 in
    d.3 ∙ (ap (λ (p : Place). taken_off p a S) places ∙ sym d'.3)
DoesCall-left cb a v call S x T T' d d' = absurd (first_of (assumption, cc))

-- two acts of one entry's call are on one view
on_one_view : (plan : PlanParts) (a n : ℕ) (S T T' : State) (w w' : What)
    (d : Does plan S (record { agent = a; call = n; what = w }) T)
    (d' : Does plan S (record { agent = a; call = n; what = w' }) T')
    → DoesCall d'.script.can_block a d'.view d'.call S w T
on_one_view plan a n S T T' w w' d d' = grind (arith, common_steps, one_value, slice_get, view_of)

-- two acts of one agent from one state, as its call begins, are one
pub Does-one_outcome : (plan : PlanParts) (a n : ℕ) (S T T' : State) (w w' : What) → IsOutcome w → IsOutcome w'
    → Does plan S (record { agent = a; call = n; what = w }) T
    → Does plan S (record { agent = a; call = n; what = w' }) T' → (w ≡ w') × (T ≡ T')
Does-one_outcome plan a n S T T' w w' o o' d d' =
    DoesCall-one d'.script.can_block a d'.view d'.call S w T w' T' o o' (on_one_view plan a n S T T' w w' d d') d'.does

-- what isn't an act does nothing
pub DoesCall-no_act : (cb : Bool) (a : ℕ) (v : PlanView) (call : Call) (S : State) (w : What) (T : State) → is_act w ≡ false
    → DoesCall cb a v call S w T → ⊥
DoesCall-no_act cb a v call S (Acted x) T e d = absurd (true≢false e)
DoesCall-no_act cb a v call S Enlisted T e d = absurd (true≢false e)
DoesCall-no_act cb a v call S (Left x) T e d = absurd (true≢false e)
DoesCall-no_act cb a v (C.Wait n index y t) S w T e d = d
DoesCall-no_act cb a v (C.Access n access) S w T e d = d
DoesCall-no_act cb a v (C.Notify n index k) S w T e d = d

-- an entry leads to one state
pub Does-one : (plan : PlanParts) (a n : ℕ) (w : What) (S T T' : State)
    → Does plan S (record { agent = a; call = n; what = w }) T
    → Does plan S (record { agent = a; call = n; what = w }) T' → T ≡ T'
Does-one plan a n (Acted x) S T T' d d' = (Does-one_outcome plan a n S T T' (Acted x) (Acted x) tt tt d d').1
Does-one plan a n Enlisted S T T' d d' = (Does-one_outcome plan a n S T T' Enlisted Enlisted tt tt d d').1
Does-one plan a n (Left x) S T T' d d' =
    DoesCall-left d'.script.can_block a d'.view d'.call S x T T' (on_one_view plan a n S T T' (Left x) (Left x) d d')
    d'.does
Does-one plan a n Began S T T' d d' = absurd (DoesCall-no_act d.script.can_block a d.view d.call S Began T refl d.does)
Does-one plan a n (Returned x) S T T' d d' =
    absurd (DoesCall-no_act d.script.can_block a d.view d.call S (Returned x) T refl d.does)
Does-one plan a n (Stuck why) S T T' d d' =
    absurd (DoesCall-no_act d.script.can_block a d.view d.call S (Stuck why) T refl d.does)
