-- What is drawn of entries, one after the other, and the whole picture.
use Rattle.std.proofs.Common.{◌≡◌, ℕ, ◌+◌, List, [], ◌∷◌, ◌++◌, Option, refl, ap, ◌∙◌, append_assoc}
use Rattle.std.specs.Prelude.{codes}
use Rattle.sab_plan.specs.declared.entry.Entry.{Entry}
use Rattle.sab_plan.specs.Plan.{PlanParts}
use Rattle.sab_plan.specs.Report.{ReportParts}
use Rattle.sab_plan.specs.declared.fact.Fact.{Fact}
use Rattle.sab_plan.specs.declared.standing.Standing.{Standing}
use Rattle.sab_report_text.specs.Words.FactFormat.{noted, no_sinces, entries_text, facts_text}
use Rattle.sab_svg.specs.Xml.Xml.{Node, element, Attributes, attributes_text, nodes, nodes_text, node_text}
use Rattle.sab_svg.proofs.OfXml.Texts.{nodes_text_both}
use Rattle.sab_svg.specs.declared.shape.Shape.{Shape}
use Rattle.sab_svg.specs.Pieces.{newline}
use Rattle.sab_svg.specs.Moves.{drawn_entry, drawn_entries}
use Rattle.sab_svg.specs.Ends.{drawn_ends, drawn_blocks}
use Rattle.sab_svg.specs.Frame.{root_attributes, root_start, background, lanes, legend}
use Rattle.sab_svg.specs.Picture.{drawn, picture_by, svg_texts}

-- ---- entries

entries_drawn : (names : List (List ℕ)) (plan : PlanParts) (shape : Shape) (sinces : List (Option ℕ)) (k : ℕ)
    (journal : List Entry) (facts : List Fact)
    → nodes_text (nodes (drawn_entries names plan shape sinces k journal facts))
    ≡ entries_text (svg_texts names shape) plan sinces k journal facts
entries_drawn names plan shape sinces k [] facts = refl
entries_drawn names plan shape sinces k (e ∷ journal) [] = refl
entries_drawn names plan shape sinces k (e ∷ journal) (fact ∷ facts) =
    let line = drawn_entry names plan shape sinces k e fact ∷ newline ∷ [] in
    nodes_text_both line (drawn_entries names plan shape (noted sinces k e) (k + 1) journal facts)
    ∙ ap (λ (t : List ℕ). nodes_text (nodes line) ++ t)
    (entries_drawn names plan shape (noted sinces k e) (k + 1) journal facts)

-- ---- the picture

around : (start close first others slash name end : List ℕ)
    → start ++ (close ++ first ++ others ++ slash ++ name ++ close) ++ end
    ≡ (start ++ close) ++ ((first ++ others) ++ (slash ++ (name ++ (close ++ end))))
around start close first others slash name end = simp append_assoc

-- an element that isn't empty, with a line feed behind it
element_line : (name : List ℕ) (more : Attributes) (all : List Node) (n : Node) (ns : List Node) → all ≡ n ∷ ns
    → node_text (element name more (nodes all)) ++ codes "\n"
    ≡ (codes "<" ++ name ++ attributes_text more ++ codes ">")
    ++ (nodes_text (nodes all) ++ (codes "</" ++ (name ++ (codes ">" ++ codes "\n"))))
element_line name more all n ns e =
    rw e (around (codes "<" ++ name ++ attributes_text more) (codes ">") (node_text n) (nodes_text (nodes ns))
    (codes "</") name (codes "\n"))

six : (root a b c d e f end : List ℕ) → root ++ ((a ++ b ++ c ++ d ++ e ++ f) ++ end)
    ≡ (root ++ a ++ b) ++ (c ++ (d ++ (e ++ (f ++ end))))
six root a b c d e f end = simp append_assoc

nodes_text_six : (a b c d e f : List Node) → nodes_text (nodes (a ++ b ++ c ++ d ++ e ++ f))
    ≡ nodes_text (nodes a) ++ nodes_text (nodes b) ++ nodes_text (nodes c) ++ nodes_text (nodes d)
    ++ nodes_text (nodes e) ++ nodes_text (nodes f)
nodes_text_six a b c d e f =
    rw (
      nodes_text_both (a ++ b ++ c ++ d ++ e) f,
      nodes_text_both (a ++ b ++ c ++ d) e,
      nodes_text_both (a ++ b ++ c) d,
      nodes_text_both (a ++ b) c,
      nodes_text_both a b,
    ) refl

pub picture_text : (names : List (List ℕ)) (plan : PlanParts) (shape : Shape) (report : ReportParts) (facts : List Fact)
    (standings : List (Option Standing)) → node_text (picture_by names plan shape report facts standings) ++ codes "\n"
    ≡ facts_text (svg_texts names shape) plan report facts standings
unfolding root_start
picture_text names plan shape report facts standings =
    let entries = drawn_entries names plan shape no_sinces 0 report.journal facts in
    let ends = drawn_ends names shape standings 0 shape.agents in
    let blocks = drawn_blocks shape 0 report.blocks in
    element_line (codes "svg") (root_attributes shape) (drawn names plan shape report facts standings) _ _ refl
    ∙ (ap (λ (t : List ℕ). root_start shape ++ (t ++ codes "</svg>\n"))
    (nodes_text_six (background shape) (lanes shape 0 shape.agents) entries ends blocks (legend shape))
    ∙ (six (root_start shape) (nodes_text (nodes (background shape))) (nodes_text (nodes (lanes shape 0 shape.agents)))
    (nodes_text (nodes entries)) (nodes_text (nodes ends)) (nodes_text (nodes blocks))
    (nodes_text (nodes (legend shape))) (codes "</svg>\n")
    ∙ ap (λ (t : List ℕ). (svg_texts names shape).start ++ (t ++ (svg_texts names shape).finish report standings))
    (entries_drawn names plan shape no_sinces 0 report.journal facts)))
