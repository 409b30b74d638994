-- The picture of a run.
use Rattle.std.specs.Prelude.{ℕ, List, [], ◌∷◌, ◌++◌, length, Option, codes}
use Rattle.sab_plan.specs.Plan.{PlanParts}
use Rattle.sab_plan.specs.Report.{ReportParts}
use Rattle.sab_plan.specs.declared.fact.Fact.{Fact}
use Rattle.sab_plan.specs.declared.standing.Standing.{Standing}
use Rattle.sab_report_text.specs.Words.FactFormat.{Texts, no_sinces}
use Rattle.sab_svg.specs.Xml.Xml.{Node, element, nodes, node_text, nodes_text}
use Rattle.sab_svg.specs.declared.shape.Shape.{Shape}
use Rattle.sab_svg.specs.Shape.{shape_of}
use Rattle.sab_svg.specs.Pieces.{newline}
use Rattle.sab_svg.specs.Moves.{drawn_entry, drawn_entries}
use Rattle.sab_svg.specs.Ends.{drawn_ends, drawn_blocks}
use Rattle.sab_svg.specs.Frame.{root_attributes, root_start, background, lanes, legend}

-- what is drawn of these measures
abbrev pub drawn : List (List ℕ) → PlanParts → Shape → ReportParts → List Fact → List (Option Standing) → List Node
drawn names plan shape report facts standings =
    background shape ++ lanes shape 0 shape.agents
    ++ drawn_entries names plan shape no_sinces 0 report.journal facts
    ++ drawn_ends names shape standings 0 shape.agents
    ++ drawn_blocks shape 0 report.blocks
    ++ legend shape

-- the picture of a report
abbrev pub picture_by : List (List ℕ) → PlanParts → Shape → ReportParts → List Fact → List (Option Standing) → Node
picture_by names plan shape report facts standings =
    element (codes "svg") (root_attributes shape) (nodes (drawn names plan shape report facts standings))

abbrev pub picture : List (List ℕ) → PlanParts → ReportParts → List Fact → List (Option Standing) → Node
picture names plan report facts standings =
    picture_by names plan (shape_of names plan (length report.schedule)) report facts standings

-- its text
abbrev pub svg_text : List (List ℕ) → PlanParts → ReportParts → List Fact → List (Option Standing) → List ℕ
svg_text names plan report facts standings = node_text (picture names plan report facts standings) ++ codes "\n"

-- the same text as it is written: what stands before the entries, each entry, and what stands below them
abbrev pub svg_texts : List (List ℕ) → Shape → Texts
svg_texts names shape = record {
  start =
      root_start shape ++ nodes_text (nodes (background shape)) ++ nodes_text (nodes (lanes shape 0 shape.agents));
  entry = λ plan sinces k e fact. nodes_text (nodes (drawn_entry names plan shape sinces k e fact ∷ newline ∷ []));
  finish = λ report standings. nodes_text (nodes (drawn_ends names shape standings 0 shape.agents))
      ++ (nodes_text (nodes (drawn_blocks shape 0 report.blocks))
      ++ (nodes_text (nodes (legend shape)) ++ codes "</svg>\n"));
}
