-- The words, the bar, how far it came and the end, one behind the other.
use Rattle.std.proofs.Common.{ℕ, List, [], ◌++◌, ap, ◌∙◌}
use Rattle.sab_report_text.specs.Words.Explained.{standing_words}
use Rattle.sab_svg.specs.Shape.{row_text}
use Rattle.sab_svg.specs.Pieces.{agent_words, group_start}
use Rattle.sab_svg.proofs.Behind.{behind, behind_as}
use Rattle.sab_svg.proofs.EndTexts.{standing_text, label_same}
use Rattle.sab_svg.proofs.Texts.{words_behind}
use Rattle.sab_svg.proofs.ends.push_standing.Goals as goal

pub returns : goal.returns
returns c =
    let words = standing_words c.args.names.now c.args.standing in
    rw (standing_text c.args.names.now c.args.shape c.args.a c.args.standing)
    (behind_as c.args.chunk.now _ _ _ _ _
    (ap group_start (c.bytes.ensures.bytes ∙ (c.push_standing_words.ensures.bytes
    ∙ (ap (λ (s : List ℕ). s ++ words) (c.push_agent.ensures.bytes
    ∙ ap (λ (s : List ℕ). s ++ agent_words c.args.a []) c.clear.ensures) ∙ words_behind c.args.a words))))
    c.open_group.ensures.bytes
    (behind c.open_group.new.chunk _ _ _ _ c.push_open_bar.ensures.bytes
    (behind_as c.push_open_bar.new.chunk _ _ _ _ _
    (label_same _ _ _ _ _ _ _ _ c.end_class.ensures c.label_x.ensures.x (c.row_text-y.ensures ∙ ap row_text c.from.ensures)
    c.end_text.ensures.text)
    c.push_label.ensures.bytes c.push.ensures)))
