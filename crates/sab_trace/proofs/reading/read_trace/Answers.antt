use Rattle.std.proofs.lemmas.Grind.{common_steps}
use Rattle.std.proofs.Common.{IfSome, arith}
use Rattle.sab_trace.specs.Reading.{IsRefusedBy}
use Rattle.sab_trace.proofs.Pieces.{read_on, refused_on, failed_on, exit_with}
use Rattle.sab_trace.proofs.reading.read_trace.Goals as goal

pub returns-in_default-clause-err : goal.returns-in_default-clause-err
returns-in_default-clause-err g c =
    failed_on (g.R.Read.remaining c.args.r.now) (g.R.Read.remaining c.loop-n.r) c.loop-n.trace c.loop-n.line
    c.refusal.result c.loop-n.invariant c.refusal.ensures.line c.refusal.ensures.fault

pub loop-n-preserved : goal.loop-n-preserved
loop-n-preserved g c =
    grind (arith, common_steps, read_on, c.loop-n.invariant, c.in-Ok.ensures.bytes.0, c.in_ok-read_piece.ensures.ok)

pub returns-in_err-read_piece-clause-err : goal.returns-in_err-read_piece-clause-err
returns-in_err-read_piece-clause-err g c =
    exit_with (λ refusal. IfSome (g.R.Read.remaining c.args.r.now) (λ bytes. IsRefusedBy bytes refusal))
    c.from_residual.result c.in_err-read_piece.field-0.0 c.from_residual.ensures.1
    (refused_on (g.R.Read.remaining c.args.r.now) (g.R.Read.remaining c.loop-n.r) (g.R.Read.remaining c.read.new.self) _
    c.loop-n.trace c.loop-n.line c.in_err-read_piece.field-0.0 c.loop-n.invariant c.in-Ok.ensures.bytes.0
    c.in_err-read_piece.ensures.err)
