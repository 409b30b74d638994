use Rattle.std.proofs.Common.{◌≡◌, ◌<◌, List, [], ℕ, length, subst}
use Rattle.sab_trace.specs.Progress.{IsReadTo}
use Rattle.sab_trace.specs.Reading.{IsRefusedBy}
use Rattle.sab_trace.proofs.Steps.{all_read, last_read, last_refused}
use Rattle.sab_trace.proofs.Pieces.{empty_text, some_text, exit_with}
use Rattle.sab_trace.proofs.reading.finish.Goals as goal

pub returns-then-is_empty-clause-ok : goal.returns-then-is_empty-clause-ok
returns-then-is_empty-clause-ok c = λ bytes h.
    let empty : c.args.line.now ≡ [] = empty_text c.args.line.now (rw c.bytes.ensures.bytes at c.if-is_empty.ensures) in
    all_read bytes c.args.trace (subst (λ (l : List ℕ). IsReadTo bytes c.args.trace l) empty h)

pub returns-clause-ok : goal.returns-clause-ok
returns-clause-ok c = λ bytes h.
    let some : 0 < length c.args.line.now =
    some_text c.args.line.now (rw c.bytes.ensures.bytes at c.if-is_empty.ensures) in
    last_read bytes c.args.trace c.args.line.now c.end_line.new.trace h some c.in_ok-end_line.ensures.ok

pub returns-in_err-end_line-clause-err : goal.returns-in_err-end_line-clause-err
returns-in_err-end_line-clause-err c =
    let some : 0 < length c.args.line.now =
    some_text c.args.line.now (rw c.bytes.ensures.bytes at c.if-is_empty.ensures) in
    exit_with (λ refusal. (bytes : List ℕ) → IsReadTo bytes c.args.trace c.args.line.now → IsRefusedBy bytes refusal)
    c.from_residual.result c.in_err-end_line.field-0.0 c.from_residual.ensures.1
    (λ bytes h. last_refused bytes c.args.trace c.args.line.now c.in_err-end_line.field-0.0 h some
    c.in_err-end_line.ensures.err)
