-- The words, the pieces and the end, one behind the other.
use Rattle.std.proofs.Common.{ℕ, List, [], ◌++◌, ap, ◌∙◌}
use Rattle.sab_report_text.specs.Words.FactText.{fact_words}
use Rattle.sab_svg.specs.Pieces.{agent_words, group_start}
use Rattle.sab_svg.specs.Moves.{pieces_of}
use Rattle.sab_svg.proofs.Behind.{behind, behind_as}
use Rattle.sab_svg.proofs.Texts.{group_line_text, words_behind}
use Rattle.sab_svg.proofs.entry.push_entry.Goals as goal

pub returns : goal.returns
returns c =
    let names = c.args.names.now in
    let entry = c.args.explained.now.entry in
    let fact = c.args.explained.now.fact in
    let words = fact_words names c.args.plan.now c.args.sinces.now entry fact in
    let agent = entry.agent in
    rw (group_line_text (agent_words agent words) (pieces_of names c.args.shape c.args.k entry fact))
    (behind_as c.args.chunk.now _ _ _ _ _
    (ap group_start (c.bytes.ensures.bytes ∙ (c.push_words.ensures.bytes
    ∙ (ap (λ (s : List ℕ). s ++ words) (c.push_agent.ensures.bytes
    ∙ ap (λ (s : List ℕ). s ++ agent_words agent []) c.clear.ensures) ∙ words_behind agent words)))) c.open_group.ensures.bytes
    (behind c.open_group.new.chunk _ _ _ _ c.push_pieces.ensures.bytes c.push.ensures))
