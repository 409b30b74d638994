-- What isn't seen.
use Rattle.std.proofs.Common.{◌≡◌, false, slice_get, Option, Some, None}
use Rattle.std.specs.Prelude.{IfNone}
use Rattle.sab_block.specs.Kind.{is_atomic}
use Rattle.sab_block.specs.View.{kind_of}
use Rattle.sab_plan.specs.declared.plan_view.PlanView.{PlanView}
use Rattle.sab_plan.specs.declared.call.Call.{Call}
use Rattle.sab_plan.specs.Call.{view_of, index_of}
use Rattle.sab_plan.specs.Place.{place_of}
use Rattle.sab_sim.specs.Sim.{SimParts}
use Rattle.sab_replay.specs.Explain.Explainer.{IsBlind}

-- a call on a view without an element at its index shows none
pub blind_place : (sim : SimParts) (next : Option Call) (call : Call) (view : PlanView) → next ≡ Some call
    → slice_get sim.plan.views (view_of call) ≡ Some view → place_of view (index_of call) ≡ None → IsBlind sim next
blind_place sim next call view n v p call' view' place' n' v' p' atomic = absurd (cc)

-- nor one on a view of a kind that accesses don't take
pub blind_kind : (sim : SimParts) (next : Option Call) (call : Call) (view : PlanView) → next ≡ Some call
    → slice_get sim.plan.views (view_of call) ≡ Some view → is_atomic (kind_of view.view) ≡ false → IsBlind sim next
blind_kind sim next call view n v k call' view' place' n' v' p' atomic = absurd (cc)

-- where nothing is answered or something
pub if_none : {X : Type 0} (P : Type 0) (r : Option X) → P → IfNone r P
if_none P None p = p
if_none P (Some x) p = tt
