-- Faults of lines.
use Rattle.std.proofs.Common.{◌≡◌, ℕ, ◌<◌, ◌≤◌, ◌^◌, List, length, Result, IfErr}
use Rattle.std.specs.Prelude.{IsErrAnd}
use Rattle.std.proofs.lemmas.Result.{err_from_is_err_and}
use Rattle.sab_trace.specs.declared.line_fault.LineFault.{LineFault}
use Rattle.sab_trace.specs.declared.line_fault.LineFault.TheVariants.{TooMany, OutOfMemory, BadShape, BadNumber, BadAgent, NotJson, TooLong, ReadFailed, BadBytes}
use Rattle.sab_trace.specs.LineFault.{IsReadingFault, IsLineFault}

line_fault : (position : ℕ) (line : List ℕ) (fault : LineFault) → length line ≤ 1024 → position < 2 ^ 20
    → IsReadingFault position line fault → IsLineFault position line fault
line_fault position line TooMany short few h = absurd h.2
line_fault position line OutOfMemory short few h = (short, few, h)
line_fault position line BadShape short few h = (short, few, h)
line_fault position line BadNumber short few h = (short, few, h)
line_fault position line BadAgent short few h = (short, few, h)
line_fault position line NotJson short few h = (short, few, h)
line_fault position line TooLong short few h = absurd h.2
line_fault position line ReadFailed short few h = absurd h.2
line_fault position line BadBytes short few h = (short, few, h)

-- at the exit of a `?`
pub exit_line_fault : {X : Type 0} (position : ℕ) (line : List ℕ) (r : Result X LineFault) (e : LineFault)
    → length line ≤ 1024 → position < 2 ^ 20 → IsErrAnd r (λ y. y ≡ e) → IsReadingFault position line e
    → IfErr r (IsLineFault position line)
exit_line_fault position line r e short few h fault =
    let p = err_from_is_err_and r h in rw (p.1, p.2) (line_fault position line e short few fault)
