-- Calls.
use Rattle.std.specs.Prelude.{ℕ, ℤ, List, [], ◌∷◌, map, Option, Some, None, codes}
use Rattle.sab_block.specs.Access as accesses
use Rattle.sab_plan.specs.declared.argument.Argument.{Argument}
use Rattle.sab_plan.specs.declared.argument.Argument.TheVariants.{Value, Limit}
use Rattle.sab_plan.specs.declared.argument.Arguments.{Arguments}
use Rattle.sab_plan.specs.declared.argument.Arguments.TheVariants as A
use Rattle.sab_plan.specs.declared.call.Call.{Call}
use Rattle.sab_plan.specs.declared.call.Call.TheVariants as C

-- the function of Atomics that it is a call of
abbrev pub function_of : Call → List ℕ
function_of (C.Access view access) = accesses.function_of_access access
function_of (C.Wait view index x timeout) = codes "wait"
function_of (C.Notify view index count) = codes "notify"

-- the position of the view that a call names
abbrev pub view_of : Call → ℕ
view_of (C.Access view access) = view
view_of (C.Wait view index x timeout) = view
view_of (C.Notify view index count) = view

-- the index that a call names
abbrev pub index_of : Call → ℤ
index_of (C.Access view access) = accesses.index_of access
index_of (C.Wait view index x timeout) = index
index_of (C.Notify view index count) = index

-- a timeout or a count that may be left out
abbrev pub optional : Option ℤ → List Argument
optional None = []
optional (Some n) = Limit n ∷ []

-- what a call takes behind its index, from left to right
abbrev pub arguments_of : Call → List Argument
arguments_of (C.Access view access) = map Value (accesses.operands_of access)
arguments_of (C.Wait view index x timeout) = Value x ∷ optional timeout
arguments_of (C.Notify view index count) = optional count

-- the arguments that these are, from left to right
abbrev pub items_of : Arguments → List Argument
items_of A.None = []
items_of (A.One items) = items
items_of (A.Two items) = items
