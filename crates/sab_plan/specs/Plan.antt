-- Plans.
use Rattle.std.specs.Prelude.{◌≡◌, ℕ, ◌<◌, ◌≤◌, List, [], length, All, Bool, true, false, Option, Some, None, slice_get}
use Rattle.sab_block.specs.View.{block_len_of}
use Rattle.sab_plan.specs.declared.call.Call.{Call}
use Rattle.sab_plan.specs.declared.call.Call.TheVariants as C
use Rattle.sab_plan.specs.declared.plan.TheConstants.Plan.{MAX_AGENTS}
use Rattle.sab_plan.specs.declared.plan_fault.PlanFault.{PlanFault}
use Rattle.sab_plan.specs.declared.plan_fault.PlanFault.TheVariants.{TooMany, NoBlock, NoView}
use Rattle.sab_plan.specs.declared.plan_view.PlanView.{PlanView}
use Rattle.sab_plan.specs.Call.{view_of}
use Rattle.sab_plan.specs.Script.{ScriptParts}

-- the blocks by their lengths, the views on them, and what the agents are to do
pub record PlanParts : Type 0 where
  pub lens : List ℕ
  pub views : List PlanView
  pub scripts : List ScriptParts

-- the three as one
abbrev pub parts_of : List ℕ → List PlanView → List ScriptParts → PlanParts
parts_of lens views scripts = record { lens = lens; views = views; scripts = scripts }

-- the limits
pub record IsWithinLimits (plan : PlanParts) : Type 0 where
  pub blocks : length plan.lens ≤ 4
  pub bytes : All (λ len. len ≤ 65536) plan.lens
  pub views : length plan.views ≤ 64
  pub agents : length plan.scripts ≤ MAX_AGENTS
  pub calls : All (λ (s : ScriptParts). length s.calls ≤ 1000) plan.scripts

-- there is a block, and each view names one
pub record NamesBlocks (plan : PlanParts) : Type 0 where
  pub some : 1 ≤ length plan.lens
  pub named : All (λ (v : PlanView). v.block < length plan.lens) plan.views

-- each view was made for a block as long as its own, and each call names a view
pub record NamesViews (plan : PlanParts) : Type 0 where
  pub lens : All (λ (v : PlanView). slice_get plan.lens v.block ≡ Some (block_len_of v.view)) plan.views
  pub named : All (λ (s : ScriptParts). All (λ call. view_of call < length plan.views) s.calls) plan.scripts

-- the parts make a plan
pub record IsPlan (plan : PlanParts) : Type 0 where
  pub limits : IsWithinLimits plan
  pub blocks : NamesBlocks plan
  pub views : NamesViews plan

-- the calls of an agent, in order
abbrev pub calls_in : Option ScriptParts → List Call
calls_in None = []
calls_in (Some script) = script.calls

abbrev pub calls_of : PlanParts → ℕ → List Call
calls_of plan a = calls_in (slice_get plan.scripts a)

-- call c of an agent
abbrev pub call_of : PlanParts → ℕ → ℕ → Option Call
call_of plan a c = slice_get (calls_of plan a) c

-- the call is a wait with a timeout
abbrev pub is_timed : Option Call → Bool
is_timed (Some (C.Wait n index x (Some timeout))) = true
is_timed _ = false

-- the parts are refused so: the first of the three that fails
abbrev pub Refuses : PlanParts → PlanFault → Type 0
Refuses plan TooMany = ¬ IsWithinLimits plan
Refuses plan NoBlock = IsWithinLimits plan × (¬ NamesBlocks plan)
Refuses plan NoView = IsWithinLimits plan × NamesBlocks plan × (¬ NamesViews plan)
