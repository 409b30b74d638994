use Rattle.std.proofs.Common.{[], ◌∷◌, append-nil, sym, ◌∙◌}
use Rattle.sab_trace.specs.Progress.{RefusesWithin}
use Rattle.sab_trace.proofs.Pieces.{piece_long, piece_refused, piece_read, exit_with}
use Rattle.sab_trace.proofs.reading.read_piece.Goals as goal

pub returns-in-Err-clause-err : goal.returns-in-Err-clause-err
returns-in-Err-clause-err c =
    piece_long c.args.piece.now c.loop-ended.rest.now c.in-Some.ended.now (10 ∷ c.in-Some.behind.now) c.args.trace.now
    c.args.line.now c.loop-ended.trace c.loop-ended.line c.refusal.result c.loop-ended.invariant
    c.in-Some.ensures.some.1 c.in-Some.ensures.some.0 c.in-Err.ensures.err.1 c.refusal.ensures.line
    (c.refusal.ensures.fault ∙ c.in-Err.ensures.err.0)

pub returns-in_err-end_line-clause-err : goal.returns-in_err-end_line-clause-err
returns-in_err-end_line-clause-err c =
    exit_with (RefusesWithin c.args.piece.now c.args.trace.now c.args.line.now) c.from_residual.result
    c.in_err-end_line.field-0.0 c.from_residual.ensures.1
    (piece_refused c.args.piece.now c.loop-ended.rest.now c.in-Some.ended.now c.in-Some.behind.now c.args.trace.now
    c.args.line.now c.loop-ended.trace c.loop-ended.line c.push.new.self c.in_err-end_line.field-0.0
    c.loop-ended.invariant c.in-Some.ensures.some.1 c.in-Some.ensures.some.0 c.in_default-push.ensures.ok
    c.in_default-push.ensures.short c.in_err-end_line.ensures.err)

pub loop-ended-preserved : goal.loop-ended-preserved
loop-ended-preserved c =
    piece_read c.args.piece.now c.loop-ended.rest.now c.in-Some.ended.now c.in-Some.behind.now c.args.trace.now
    c.args.line.now c.loop-ended.trace c.loop-ended.line c.push.new.self c.end_line.new.trace c.end_line.new.line
    c.loop-ended.invariant c.in-Some.ensures.some.1 c.in-Some.ensures.some.0 c.in_default-push.ensures.ok
    c.in_default-push.ensures.short c.in_ok-end_line.ensures.ok c.in_ok-end_line.ensures.empty

pub returns-in-Err-push-clause-err : goal.returns-in-Err-push-clause-err
returns-in-Err-push-clause-err c =
    piece_long c.args.piece.now c.loop-ended.rest.now c.loop-ended.rest.now [] c.args.trace.now c.args.line.now
    c.loop-ended.trace c.loop-ended.line c.refusal-in-Err-push.result c.loop-ended.invariant
    (sym (append-nil c.loop-ended.rest.now)) c.in_default.ensures.none c.in-Err-push.ensures.err.1
    c.refusal-in-Err-push.ensures.line (c.refusal-in-Err-push.ensures.fault ∙ c.in-Err-push.ensures.err.0)
