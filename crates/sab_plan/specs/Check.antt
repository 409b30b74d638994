-- The checks of each call, in order, and its verdict.
use Rattle.std.specs.Prelude.{Bool, ℤ, List, [], ◌∷◌, Option}
use Rattle.sab_block.specs.declared.thrown.Thrown.{Thrown}
use Rattle.sab_block.specs.declared.check.Check.TheVariants as K
use Rattle.sab_block.specs.Kind.{is_waitable}
use Rattle.sab_block.specs.declared.operand.Operand.{Operand}
use Rattle.sab_block.specs.declared.view.View.{View}
use Rattle.sab_block.specs.View.{kind_of}
use Rattle.sab_block.specs.Check.{Checked, first_thrown}
use Rattle.sab_block.specs.Access.{access_checks, index_check, operand_check}
use Rattle.sab_plan.specs.declared.call.Call.{Call}
use Rattle.sab_plan.specs.declared.call.Call.TheVariants as C

-- the kind is one that Atomics.wait and Atomics.notify take (ValidateIntegerTypedArray, waitable is true)
abbrev pub waitable_check : View → Checked
waitable_check view = record { check = K.WaitableKind; passes = is_waitable (kind_of view) }

-- the agent can block (AgentCanSuspend)
abbrev pub suspend_check : Bool → Checked
suspend_check can_block = record { check = K.CanBlock; passes = can_block }

-- Atomics.wait
abbrev pub wait_checks : Bool → View → ℤ → Operand → List Checked
wait_checks can_block view index x =
    waitable_check view ∷ index_check view index ∷ operand_check view x ∷ suspend_check can_block ∷ []

-- Atomics.notify
abbrev pub notify_checks : View → ℤ → List Checked
notify_checks view index = waitable_check view ∷ index_check view index ∷ []

-- the checks of a call on its view, by an agent that can block or can't
abbrev pub checks : Bool → View → Call → List Checked
checks can_block view (C.Access n access) = access_checks view access
checks can_block view (C.Wait n index x timeout) = wait_checks can_block view index x
checks can_block view (C.Notify n index count) = notify_checks view index

-- what the call throws, or none where all checks pass
abbrev pub verdict : Bool → View → Call → Option Thrown
verdict can_block view call = first_thrown (checks can_block view call)
