-- Places.
use Rattle.std.specs.Prelude.{◌==◌, ◌&&◌, Bool, ℤ, Option, option_map}
use Rattle.sab_block.specs.View.{place}
use Rattle.sab_plan.specs.declared.place.Place.{Place}
use Rattle.sab_plan.specs.declared.plan_view.PlanView.{PlanView}

-- the two are one place: the same byte of the same block
abbrev pub same_place : Place → Place → Bool
same_place p q = (p.block == q.block) && (p.byte == q.byte)

-- the place of an index of a view, or none where there is no such element (ValidateAtomicAccess)
abbrev pub place_of : PlanView → ℤ → Option Place
place_of v index = option_map (λ byte. record { block = v.block; byte = byte }) (place v.view index)
