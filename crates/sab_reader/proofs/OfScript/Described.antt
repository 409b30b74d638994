-- Views that are described one after another.
use Rattle.std.proofs.Common.{◌≡◌, ℕ, List, [], ◌∷◌, ◌++◌, Option, Some, None, Result, Ok, Err, refl, sym, ◌∙◌}
use Rattle.std.specs.Prelude.{MatchOption, IsOkAnd, slice_get}
use Rattle.sab_block.specs.declared.thrown.Thrown.{Thrown}
use Rattle.sab_block.specs.declared.thrown.Thrown.TheVariants.{RangeError}
use Rattle.sab_block.specs.declared.view.View.{View}
use Rattle.sab_block.specs.View.{count, IsViewOf}
use Rattle.sab_plan.specs.declared.plan_view.PlanView.{PlanView}
use Rattle.sab_reader.specs.declared.script.view_spec.ViewSpec.{ViewSpec}
use Rattle.sab_reader.specs.Script.Views.{IsDescribed, AreDescribed}

pub described_more : (lens : List ℕ) (vs : List (List ℕ × ViewSpec)) (ps : List PlanView) (v : List ℕ × ViewSpec)
    (p : PlanView)
    → AreDescribed lens vs ps → IsDescribed lens v.1 p → AreDescribed lens (vs ++ v ∷ []) (ps ++ p ∷ [])
described_more lens [] [] v p h d = (d, tt)
described_more lens [] (q ∷ ps) v p h d = absurd h
described_more lens (w ∷ vs) [] v p h d = absurd h
described_more lens (w ∷ vs) (q ∷ ps) v p h d = (h.0, described_more lens vs ps v p h.1 d)

-- a view that was made is the one that was described
pub made_of : (lens : List ℕ) (len : ℕ) (v : ViewSpec) (w : View) (r : Result View Thrown) (o : Option ℕ)
    → slice_get lens v.block ≡ Some len → count v.kind len v.offset v.length ≡ o
    → MatchOption o (r ≡ Err RangeError) (λ n. IsOkAnd r (IsViewOf v.kind len v.offset n)) → r ≡ Ok w
    → IsDescribed lens v (record { block = v.block; view = w })
made_of lens len v w r None there counted h is = let bad : Err RangeError ≡ Ok w = sym h ∙ is in cc
made_of lens len v w r (Some n) there counted h is =
    record { block = refl; len = len; there = there; elements = n; counted = counted; view = rw is at h }
