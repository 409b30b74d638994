-- Standings that the derived `==` finds equal are the same.
use Rattle.std.proofs.Common.{◌≡◌, Bool, true, false, Option, Some, None, refl, ap}
use Rattle.std.specs.Option.{option_eq}
use Rattle.std.proofs.lemmas.Bool.{false≢true, and_parts}
use borrow.Author.Tests.{eqb-true}
use Rattle.sab_plan.proofs.Equality.{same_call}
use Rattle.sab_plan.proofs.EntryEquality.{same_place}
use Rattle.sab_plan.specs.declared.standing.At.{At}
use Rattle.sab_plan.specs.declared.standing.At.TheVariants as T
use Rattle.sab_plan.specs.declared.standing.Standing.{Standing}
use Rattle.sab_plan.specs.contracts.standing.AtPartialEq.TheImpl as at
use Rattle.sab_plan.specs.contracts.standing.StandingPartialEq.TheImpl as standing

same_option : {X : Type 0} {E : X → X → Bool} → ((x y : X) → E x y ≡ true → x ≡ y) → (t u : Option X)
    → option_eq E t u ≡ true → t ≡ u
same_option same None None e = refl
same_option same None (Some y) e = absurd (false≢true e)
same_option same (Some x) None e = absurd (false≢true e)
same_option same (Some x) (Some y) e = ap (λ z. Some z) (same x y e)

same_bool : (x y : Bool) → (at.ghosts).eq (T.Waits x) (T.Waits y) ≡ true → x ≡ y
same_bool true true e = refl
same_bool true false e = absurd (false≢true e)
same_bool false true e = absurd (false≢true e)
same_bool false false e = refl

same_at : (x y : At) → (at.ghosts).eq x y ≡ true → x ≡ y
same_at T.Ready T.Ready e = refl
same_at T.Begun T.Begun e = refl
same_at (T.Waits x) (T.Waits y) e = ap T.Waits (same_bool x y e)
same_at (T.Woken n) (T.Woken m) e = ap T.Woken (eqb-true n m e)
same_at T.Answered T.Answered e = refl
same_at _ _ e = absurd (false≢true e)

same_standing : (s t : Standing) → (standing.ghosts).eq s t ≡ true → s ≡ t
same_standing s t e =
    let parts = and_parts _ _ e in
    let call = same_call s.call t.call parts.0 in
    let rest = and_parts _ _ parts.1 in
    let place = same_option same_place s.place t.place rest.0 in
    let last = and_parts _ _ rest.1 in
    let since = same_option (λ n m. eqb-true n m) s.since t.since last.0 in
    let at = same_at s.at t.at last.1 in
    λ i. record { call = call i; place = place i; since = since i; at = at i }
