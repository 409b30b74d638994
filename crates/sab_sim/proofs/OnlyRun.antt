-- A run has one end.
use Rattle.std.proofs.Common.{◌≡◌, List, [], ◌∷◌, ◌++◌, refl, sym, ◌∙◌, subst}
use Rattle.sab_plan.specs.declared.entry.Entry.{Entry}
use Rattle.sab_plan.specs.Plan.{PlanParts}
use Rattle.sab_object.specs.Object.{State}
use Rattle.sab_object.proofs.OnlyAct.{Does-one}
use Rattle.sab_sim.specs.Run.{Run}

-- a run has one end
pub Run-one : (plan : PlanParts) (S : State) (es : List Entry) (T T' : State) → Run plan S es T → Run plan S es T'
    → T ≡ T'
Run-one plan S [] T T' r r' = r ∙ sym r'
Run-one plan S (e ∷ es) T T' r r' =
    let same : r.0 ≡ r'.0 = Does-one plan e.agent e.call e.what S r.0 r'.0 r.1 r'.1 in
    Run-one plan r'.0 es T T' (subst (λ (U : State). Run plan U es T) same r.2) r'.2

-- a run begins with a run
pub Run-append : (plan : PlanParts) (S : State) (xs ys : List Entry) (T : State) → Run plan S (xs ++ ys) T
    → (U : State) × Run plan S xs U × Run plan U ys T
Run-append plan S [] ys T r = (S, refl, r)
Run-append plan S (x ∷ xs) ys T r = let rest = Run-append plan r.0 xs ys T r.2 in (rest.0, (r.0, r.1, rest.1), rest.2)
