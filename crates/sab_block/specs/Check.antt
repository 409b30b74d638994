-- The checks that calls make before they act, in order.
use Rattle.std.specs.Prelude.{◌≡◌, ℕ, Bool, if◌then◌else◌, List, [], ◌∷◌, Option, Some, None, option_map, Result, Ok, Err}
use Rattle.sab_block.specs.declared.thrown.Thrown.{Thrown}
use Rattle.sab_block.specs.declared.thrown.Thrown.TheVariants.{TypeError, RangeError}
use Rattle.sab_block.specs.declared.check.Check.{Check}
use Rattle.sab_block.specs.declared.check.Check.TheVariants.{AtomicKind, WaitableKind, Index, Operand, CanBlock}

-- what a call throws where this check fails
abbrev pub thrown_by : Check → Thrown
thrown_by AtomicKind = TypeError
thrown_by WaitableKind = TypeError
thrown_by Index = RangeError
thrown_by Operand = TypeError
thrown_by CanBlock = TypeError

-- a check of a call, and whether it passes
pub record Checked : Type 0 where
  pub check : Check
  pub passes : Bool

-- the first check that fails
abbrev pub first_failed : List Checked → Option Check
first_failed [] = None
first_failed (c ∷ checks) = if c.passes then first_failed checks else Some c.check

-- what is thrown by the first check that fails
abbrev pub first_thrown : List Checked → Option Thrown
first_thrown checks = option_map thrown_by (first_failed checks)

-- the byte of a call's element, where all checks pass, else the first that fails
abbrev pub Places : List Checked → Option ℕ → Result ℕ Check → Type 0
Places checks byte (Ok p) = (first_failed checks ≡ None) × (byte ≡ Some p)
Places checks byte (Err check) = first_failed checks ≡ Some check
