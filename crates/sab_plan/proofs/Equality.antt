-- Equality of plans and what they are made of, of moves and of refusals: values that `==` finds equal are the same.
use Rattle.std.proofs.Common.{◌≡◌, ℤ, Bool, true, List, Option, Some, None, Decides, refl, ap, subst, rules, arith}
use Rattle.std.proofs.lemmas.Grind.{common_steps}
use Rattle.std.specs.Cmp.{IsEquivalence, unsigned_Decides, booleans_Decides}
use Rattle.std.specs.Cmp.Lexicographic.{pointwise}
use Rattle.std.proofs.lemmas.Bool.Decides.{Decides-at}
use Rattle.std.proofs.lemmas.Slice.Eq.{slice_eq-Decides}
use Rattle.std.specs.Ordering.{int_eq}
use Rattle.std.specs.Option.{option_eq}
use Rattle.std.proofs.lemmas.Bool.{false≢true, and_parts}
use borrow.Author.Tests.{eqb-true}
use denote.Enum.Bare.{same_true}
use Rattle.sab_block.proofs.Equality.{same_int, same_pair, same_operand, same_view, same_access}
use Rattle.sab_plan.specs.declared.call.Call.{Call}
use Rattle.sab_plan.specs.declared.call.Call.TheVariants as C
use Rattle.sab_plan.specs.declared.plan_fault.PlanFault.{PlanFault}
use Rattle.sab_plan.specs.declared.plan_view.PlanView.{PlanView}
use Rattle.sab_plan.specs.declared.schedule.Move.{Move}
use Rattle.sab_plan.specs.declared.schedule.Move.TheVariants.{Step, TimeUp}
use Rattle.sab_plan.specs.Script.{ScriptParts}
use Rattle.sab_plan.specs.Plan.{PlanParts}
use Rattle.sab_plan.specs.contracts.plan.PlanPartialEq.TheImpl as plan
use Rattle.sab_plan.specs.contracts.plan.PlanEq.TheImpl.Laws as plan_laws
use Rattle.sab_plan.specs.contracts.plan_view.PlanViewPartialEq.TheImpl as plan_view
use Rattle.sab_plan.specs.contracts.call.CallPartialEq.TheImpl as call
use Rattle.sab_plan.specs.contracts.call.CallEq.TheImpl.Laws as call_laws
use Rattle.sab_plan.specs.contracts.plan_view.PlanViewEq.TheImpl.Laws as view_laws
use Rattle.sab_plan.specs.contracts.script.ScriptPartialEq.TheImpl as script
use Rattle.sab_plan.specs.contracts.script.ScriptEq.TheImpl.Laws as script_laws
use Rattle.sab_plan.specs.contracts.schedule.MovePartialEq.TheImpl as move
use Rattle.sab_plan.specs.contracts.plan_fault.PlanFault.{the_type as plan_fault_type}
use Rattle.sab_plan.specs.contracts.plan_fault.PlanFaultPartialEq.TheImpl as plan_fault

-- an equivalence that finds only the same values equal decides whether two are the same
decides_same : {X : Type 0} {E : X → X → Bool} → IsEquivalence E → ((a b : X) → E a b ≡ true → a ≡ b) → (a b : X)
    → Decides (E a b) (a ≡ b)
decides_same {X} {E} laws same a b = (same a b, λ p. subst (λ x. E a x ≡ true) p (laws.refl a))

same_option : (t u : Option ℤ) → option_eq int_eq t u ≡ true → t ≡ u
same_option None None e = refl
same_option None (Some y) e = absurd (false≢true e)
same_option (Some x) None e = absurd (false≢true e)
same_option (Some x) (Some y) e = ap Some (same_int x y e)

same_plan_view : (a b : PlanView) → (plan_view.ghosts).eq a b ≡ true → a ≡ b
same_plan_view a b e =
    let blocks = and_parts _ _ e in
    let block = eqb-true a.block b.block blocks.0 in
    let view = same_view a.view b.view blocks.1 in
    λ i. record { block = block i; view = view i }

pub same_call : (a b : Call) → (call.ghosts).eq a b ≡ true → a ≡ b
same_call (C.Access n a) (C.Access m b) e =
    ap (λ p. C.Access p.0 p.1) (same_pair (eqb-true n m) (same_access a b) e)
same_call (C.Wait n i x t) (C.Wait m j y u) e =
    ap (λ p. C.Wait p.0 p.1.0 p.1.1.0 p.1.1.1)
    (same_pair (eqb-true n m) (same_pair (same_int i j) (same_pair (same_operand x y) (same_option t u))) e)
same_call (C.Notify n i t) (C.Notify m j u) e =
    ap (λ p. C.Notify p.0 p.1.0 p.1.1) (same_pair (eqb-true n m) (same_pair (same_int i j) (same_option t u)) e)
same_call _ _ e = absurd (false≢true e)

pub decides_calls : (xs ys : List Call) (r : Bool) → r ≡ pointwise (call.ghosts).eq xs ys → Decides r (xs ≡ ys)
decides_calls = slice_eq-Decides (decides_same call_laws.laws-law same_call)

same_script : (s t : ScriptParts) → (script.ghosts).eq s t ≡ true → s ≡ t
same_script s t e = grind (arith, common_steps, and_parts, booleans_Decides, decides_calls)

same_plan : (p q : PlanParts) → (plan.ghosts).eq p q ≡ true → p ≡ q
same_plan p q e =
    let h = and_parts _ _ e in
    let k = and_parts _ _ h.1 in
    let lens = (slice_eq-Decides unsigned_Decides p.lens q.lens _ refl).0 h.0 in
    let views = (slice_eq-Decides (decides_same view_laws.laws-law same_plan_view) p.views q.views _ refl).0 k.0 in
    let scripts = (slice_eq-Decides (decides_same script_laws.laws-law same_script) p.scripts q.scripts _ refl).0 k.1 in
    λ i. record { lens = lens i; views = views i; scripts = scripts i }

pub decides_plans : (p q : PlanParts) (r : Bool) → r ≡ (plan.ghosts).eq p q → Decides r (p ≡ q)
decides_plans p q r e = Decides-at r _ e (decides_same plan_laws.laws-law same_plan p q)

same_move : (a b : Move) → (move.ghosts).eq a b ≡ true → a ≡ b
same_move (Step a) (Step b) e = ap Step (eqb-true a b e)
same_move (TimeUp a) (TimeUp b) e = ap TimeUp (eqb-true a b e)
same_move _ _ e = absurd (false≢true e)

same_plan_fault : (x y : PlanFault) → (plan_fault.ghosts).eq x y ≡ true → x ≡ y
same_plan_fault = same_true plan_fault_type (search rules)
