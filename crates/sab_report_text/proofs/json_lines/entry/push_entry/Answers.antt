-- The pieces, one behind the other.
use Rattle.std.proofs.Common.{List, ℕ, ◌++◌, ap, ◌∙◌}
use Rattle.std.specs.Fmt.{decimal}
use Rattle.sab_report_text.proofs.OfJsonLines.Pieces.{behind, behind_as}
use Rattle.sab_report_text.proofs.OfJsonLines.Texts.{entry_json}
use Rattle.sab_report_text.proofs.json_lines.entry.push_entry.Goals as goal

pub returns : goal.returns
returns c =
    rw (entry_json c.args.names.now c.args.k c.args.entry.now c.args.fact.now)
    (behind c.args.chunk.now _ _ _ _ c.push.ensures
    (behind c.push.new.self _ _ _ _ c.push_small.ensures.bytes
    (behind c.push_small.new.chunk _ _ _ _ c.push_answer_in.ensures.bytes
    (behind c.push_answer_in.new.chunk _ _ _ _ c.push-2.ensures
    (behind_as c.push-2.new.self _ _ _ _ _ (ap decimal c.from.ensures) c.push_number.ensures.bytes
    (behind c.push_number.new.self _ _ _ _ c.push_does.ensures.bytes
    (behind c.push_does.new.chunk _ _ _ _ c.push-3.ensures
    (behind c.push-3.new.self _ _ _ _ c.push_number-2.ensures.bytes
    (behind c.push_number-2.new.self _ _ _ _ c.push_found.ensures.bytes
    (behind c.push_found.new.chunk _ _ _ _ c.push_place.ensures.bytes
    (behind c.push_place.new.chunk _ _ _ _ c.push_since.ensures.bytes
    (c.push-4.ensures ∙ ap (λ (text : List ℕ). c.push_since.new.chunk ++ text) c.end_of.ensures.text))))))))))))
