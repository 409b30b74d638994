-- The pieces, one behind the other.
use Rattle.sab_report_text.proofs.OfJsonLines.Pieces.{behind}
use Rattle.sab_verdict.proofs.Texts.{call_side_json}
use Rattle.sab_verdict.proofs.as_json.push_call_side.Goals as goal

pub returns-clause-bytes : goal.returns-clause-bytes
returns-clause-bytes c =
    rw (call_side_json c.args.run.now.names.now c.args.run.now.plan.now c.args.run.now.journal.now c.args.side)
    (behind c.args.chunk.now _ _ _ _ c.push.ensures
    (behind c.push.new.self _ _ _ _ c.push_small.ensures.bytes
    (behind c.push_small.new.chunk _ _ _ _ c.push_does.ensures.bytes
    (behind c.push_does.new.chunk _ _ _ _ c.push-2.ensures
    (behind c.push-2.new.self _ _ _ _ c.push_number.ensures.bytes c.push-3.ensures)))))
