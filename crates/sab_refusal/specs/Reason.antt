-- What is wrong with a value of a script: the texts, and the faults.
use Rattle.std.specs.Prelude.{ℕ, ◌==◌, List, ◌++◌, codes, decimal, if◌then◌else◌}
use Rattle.std.specs.Fmt.{signed_decimal}
use Rattle.sab_block.specs.Kind.{kind_name}
use Rattle.sab_refusal.specs.declared.reason.Wanted.{Wanted}
use Rattle.sab_refusal.specs.declared.reason.Wanted.TheVariants as wanted
use Rattle.sab_refusal.specs.declared.reason.Unit.{Unit as Units}
use Rattle.sab_refusal.specs.declared.reason.Unit.TheVariants as unit
use Rattle.sab_refusal.specs.declared.reason.Counted.{Counted}
use Rattle.sab_refusal.specs.declared.reason.Counted.TheVariants.{Agent, Block}
use Rattle.sab_refusal.specs.declared.reason.Misfit.{Misfit}
use Rattle.sab_refusal.specs.declared.reason.Misfit.TheVariants as misfit
use Rattle.sab_refusal.specs.declared.reason.Reason.{Reason}
use Rattle.sab_refusal.specs.declared.reason.Reason.TheVariants as why
use Rattle.sab_refusal.specs.declared.read_fault.ReadFault.{ReadFault}
use Rattle.sab_refusal.specs.declared.read_fault.ReadFault.TheVariants.{TooMany, BadShape, BadName, BadNumber, BadCall, BadView, BadAgent, NoBlock, OutOfMemory}
use Rattle.sab_refusal.specs.Excerpt.{bare_text, excerpt_text}
use Rattle.sab_refusal.specs.Location.{member_name}

-- the fault of a number that is no position
abbrev pub fault_beyond : Counted → ReadFault
fault_beyond Agent = BadAgent
fault_beyond Block = NoBlock

-- the table of faults
abbrev pub fault_of : Reason → ReadFault
fault_of (why.Type w) = BadShape
fault_of (why.Missing m) = BadShape
fault_of (why.Surplus name) = BadShape
fault_of why.EmptyCall = BadShape
fault_of (why.TooMany of count most) = TooMany
fault_of (why.NameForm name) = BadName
fault_of (why.Twice name view) = BadName
fault_of (why.NoView name) = BadName
fault_of (why.Fraction number) = BadNumber
fault_of why.MinusZero = BadNumber
fault_of (why.PointOrExponent n) = BadNumber
fault_of why.TooFar = BadNumber
fault_of (why.BelowZero n) = BadNumber
fault_of (why.NoBigInt digits) = BadNumber
fault_of (why.NoCall name) = BadCall
fault_of (why.FewElements count least most) = BadCall
fault_of (why.ManyElements count most) = BadCall
fault_of (why.NoKind name) = BadView
fault_of (why.NearKind name kind) = BadView
fault_of (why.Misfit m) = BadView
fault_of (why.Beyond of n count) = fault_beyond of
fault_of why.NoBlocks = NoBlock
fault_of why.Memory = OutOfMemory

-- what is called for
abbrev pub wanted_text : Wanted → List ℕ
wanted_text wanted.Object = codes "an object"
wanted_text wanted.Array = codes "an array"
wanted_text wanted.Text = codes "a string"
wanted_text wanted.Flag = codes "true or false"
wanted_text wanted.Whole = codes "a whole number"
wanted_text wanted.WholeOrNull = codes "a whole number or null"
wanted_text wanted.Operand = codes "a whole number or a string"
wanted_text wanted.Move = codes "a whole number or an object"

-- what there are too many of
abbrev pub unit_text : Units → List ℕ
unit_text unit.Bytes = codes "bytes"
unit_text unit.Blocks = codes "blocks"
unit_text unit.Views = codes "views"
unit_text unit.Agents = codes "agents"
unit_text unit.Calls = codes "calls"
unit_text unit.Moves = codes "moves"

-- what isn't there
abbrev pub counted_text : Counted → List ℕ
counted_text Agent = codes "agent"
counted_text Block = codes "block"

-- how a part of a view doesn't fit
abbrev pub misfit_text : Misfit → List ℕ
misfit_text (misfit.BelowZero n) = signed_decimal n ++ codes " is below 0"
misfit_text (misfit.Uneven size) = codes "no multiple of " ++ (decimal size ++ codes ", the size of an element")
misfit_text (misfit.Behind len) = codes "beyond the " ++ (decimal len ++ codes " bytes of the block")
misfit_text (misfit.TooLong n most) = signed_decimal n ++ (codes " elements, at most " ++ decimal most)
misfit_text (misfit.UnevenBlock len size) =
    codes "null, and the block's " ++ (decimal len ++ (codes " bytes are no multiple of " ++ decimal size))

-- how many elements a call takes: so many, or one of two counts
abbrev pub elements_text : ℕ → ℕ → List ℕ
elements_text least most = if least == most then decimal least else decimal least ++ (codes " or " ++ decimal most)

-- the table of texts
abbrev pub why_text : Reason → List ℕ
why_text (why.Type w) = wanted_text w ++ codes " is called for"
why_text (why.Missing m) = codes "member " ++ (member_name m ++ codes " is missing")
why_text (why.Surplus name) = codes "member " ++ (excerpt_text name ++ codes " isn't called for")
why_text why.EmptyCall = codes "a call has a name, a view and an index"
why_text (why.TooMany of count most) =
    decimal count ++ (codes " " ++ (unit_text of ++ (codes ", at most " ++ decimal most)))
why_text (why.NameForm name) = excerpt_text name ++ codes " isn't 1 to 32 ASCII letters, digits and low lines"
why_text (why.Twice name view) =
    excerpt_text name ++ (codes " is the name of views[" ++ (decimal view ++ codes "] too"))
why_text (why.NoView name) = codes "no view is called " ++ excerpt_text name
why_text (why.Fraction number) = bare_text number ++ codes " has a fraction: write a whole number"
why_text why.MinusZero = codes "-0 isn't read as a whole number: write 0"
why_text (why.PointOrExponent n) = codes "a whole number has no point and no exponent: write " ++ signed_decimal n
why_text why.TooFar = codes "write a whole number within 2^53 - 1 of 0"
why_text (why.BelowZero n) = signed_decimal n ++ codes " is below 0"
why_text (why.NoBigInt digits) = excerpt_text digits ++ codes " isn't how a BigInt of 128 bits is spelled"
why_text (why.NoCall name) = codes "no call is called " ++ excerpt_text name
why_text (why.FewElements count least most) =
    decimal count ++ (codes " of " ++ (elements_text least most ++ codes " elements"))
why_text (why.ManyElements count most) = decimal count ++ (codes " elements, at most " ++ decimal most)
why_text (why.NoKind name) = codes "no kind is called " ++ excerpt_text name
why_text (why.NearKind name kind) =
    codes "no kind is called " ++ (excerpt_text name ++ (codes ": is " ++ (kind_name kind ++ codes " meant?")))
why_text (why.Misfit m) = misfit_text m
why_text (why.Beyond of n count) = codes "there is no " ++ (counted_text of ++ (codes " " ++ (signed_decimal n
    ++ (codes ": numbered from 0, their count is " ++ decimal count))))
why_text why.NoBlocks = codes "there is no block"
why_text why.Memory = codes "there is no memory for the script"
