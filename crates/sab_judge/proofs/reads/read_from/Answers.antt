-- The last writer is who is read from.
use Rattle.std.proofs.lemmas.Grind.{common_steps}
use Rattle.std.proofs.Common.{ℕ, length, Option, subst, arith}
use Rattle.sab_judge.specs.Sought.{Writes, IsLastBelow}
use Rattle.sab_judge.proofs.Reading.{none_read_from, reads_last}
use Rattle.sab_judge.proofs.reads.read_from.Goals as goal

pub returns-in_err-writer : goal.returns-in_err-writer
returns-in_err-writer c = rw c.from_residual.ensures (none_read_from
    (subst (λ (x : Option ℕ). IsLastBelow c.args.trace.now (Writes c.args.block c.args.byte) c.args.j x) c.in_err-writer.was
    c.requires.last))

pub offset_bounds-trace-writer : goal.offset_bounds-trace-writer
offset_bounds-trace-writer c = grind (arith, common_steps, length, c.requires.last, c.requires.within)

pub bounds-trace-writer : goal.bounds-trace-writer
bounds-trace-writer c = grind (arith, common_steps, c.requires.last, c.requires.within)

pub returns-then-is_alike : goal.returns-then-is_alike
returns-then-is_alike c =
    grind (arith, common_steps, reads_last, c.is_alike.ensures, c.requires.within, c.requires.last, c.reads.ensures)
