-- Plans whose Numbers are safe integers. A script spells no others.
use Rattle.std.specs.Prelude.{◌≡◌, false, All}
use Rattle.sab_block.specs.declared.operand.Operand.{Operand}
use Rattle.sab_block.specs.Operand.{IsSafeInteger, is_bigint, whole_of}
use Rattle.sab_plan.specs.declared.argument.Argument.{Argument}
use Rattle.sab_plan.specs.declared.argument.Argument.TheVariants.{Value, Limit}
use Rattle.sab_plan.specs.declared.call.Call.{Call}
use Rattle.sab_plan.specs.Call.{index_of, arguments_of}
use Rattle.sab_plan.specs.Script.{ScriptParts}
use Rattle.sab_plan.specs.Plan.{PlanParts}

-- if the operand is a Number, it is a safe integer
abbrev pub IsSafeOperand : Operand → Type 0
IsSafeOperand x = is_bigint x ≡ false → IsSafeInteger (whole_of x)

-- a timeout or a count is one
abbrev pub IsSafeArgument : Argument → Type 0
IsSafeArgument (Value x) = IsSafeOperand x
IsSafeArgument (Limit n) = IsSafeInteger n

-- each number of a call is a safe integer, except BigInts
pub record IsSafeCall (call : Call) : Type 0 where
  pub index : IsSafeInteger (index_of call)
  pub arguments : All IsSafeArgument (arguments_of call)

-- so it is with all calls of a plan
abbrev pub HasSafeNumbers : PlanParts → Type 0
HasSafeNumbers plan = All (λ (s : ScriptParts). All IsSafeCall s.calls) plan.scripts
