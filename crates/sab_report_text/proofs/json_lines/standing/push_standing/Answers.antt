-- The pieces, one behind the other.
use Rattle.sab_report_text.proofs.OfJsonLines.Pieces.{behind, behind_as}
use Rattle.sab_report_text.proofs.OfJsonLines.Texts.{standing_json}
use Rattle.sab_report_text.proofs.json_lines.standing.push_standing.Goals as goal

pub returns-clause-bytes : goal.returns-clause-bytes
returns-clause-bytes c =
    rw (standing_json c.args.names.now c.args.standing)
    (behind_as c.args.chunk.now _ _ _ _ _ c.head_of.ensures.text c.push.ensures
    (behind c.push.new.self _ _ _ _ c.push_call_data.ensures.bytes
    (behind c.push_call_data.new.chunk _ _ _ _ c.push_notified.ensures.bytes
    (behind c.push_notified.new.chunk _ _ _ _ c.push_place.ensures.bytes
    (behind c.push_place.new.chunk _ _ _ _ c.push_since.ensures.bytes
    (behind c.push_since.new.chunk _ _ _ _ c.push_waker.ensures.bytes c.push-2.ensures))))))
