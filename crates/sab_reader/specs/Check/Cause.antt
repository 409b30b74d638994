-- Which calls throw whenever they act, and why.
use Rattle.std.specs.Prelude.{Bool, Option, Some, None, option_map, if◌then◌else◌}
use Rattle.sab_block.specs.declared.thrown.Thrown.{Thrown}
use Rattle.sab_block.specs.declared.kind.Kind.{Kind}
use Rattle.sab_block.specs.declared.check.Check.{Check}
use Rattle.sab_block.specs.declared.check.Check.TheVariants as K
use Rattle.sab_block.specs.declared.view.View.{View}
use Rattle.sab_block.specs.Kind.{is_big}
use Rattle.sab_block.specs.View.{kind_of, len_of}
use Rattle.sab_block.specs.Check.{thrown_by, first_failed}
use Rattle.sab_plan.specs.declared.call.Call.{Call}
use Rattle.sab_plan.specs.Call.{index_of}
use Rattle.sab_plan.specs.Check.{checks}
use Rattle.sab_reader.specs.declared.check.cause.ThrowReason.{ThrowReason}
use Rattle.sab_reader.specs.declared.check.cause.ThrowReason.TheVariants.{NotAtomic, NotWaitable, NoElement, NotNumber, NotBigInt, CannotBlock}
use Rattle.sab_reader.specs.declared.check.cause.Cause.{Cause}

-- an operand of the wrong type
abbrev pub operand_reason : Kind → ThrowReason
operand_reason kind = if is_big kind then NotBigInt kind else NotNumber kind

-- what is amiss where a check of a call on its view fails
abbrev pub reason_of : View → Call → Check → ThrowReason
reason_of view call K.AtomicKind = NotAtomic (kind_of view)
reason_of view call K.WaitableKind = NotWaitable (kind_of view)
reason_of view call K.Index = NoElement (index_of call) (len_of view)
reason_of view call K.Operand = operand_reason (kind_of view)
reason_of view call K.CanBlock = CannotBlock

-- what the failing of a check comes to
abbrev pub cause : View → Call → Check → Cause
cause view call check = record { thrown = thrown_by check; reason = reason_of view call check }

-- of the first check that fails
abbrev pub first_cause : Bool → View → Call → Option Cause
first_cause can_block view call = option_map (cause view call) (first_failed (checks can_block view call))

-- what is thrown
abbrev pub thrown_of : Option Cause → Option Thrown
thrown_of None = None
thrown_of (Some c) = Some c.thrown
