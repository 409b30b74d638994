-- What stands behind and around the moves of a picture.
use Rattle.std.specs.Prelude.{ℕ, zero, suc, ◌+◌, ◌*◌, ◌-◌, List, [], ◌∷◌, ◌++◌, codes, decimal}
use Rattle.sab_svg.specs.Xml.Xml.{Node, element, text, nodes, Attributes, no_attributes, attribute, attributes_text}
use Rattle.sab_svg.specs.declared.shape.Shape.{Shape}
use Rattle.sab_svg.specs.Shape.{lane_x, change_x, row_top, row_middle, row_text, rows_end, width, height}
use Rattle.sab_svg.specs.Pieces.{measure, label, rectangle, across, down, title, newline}

-- the attributes of the whole picture
unfoldable pub root_attributes : Shape → Attributes
root_attributes shape =
    attribute (codes "xmlns") (codes "http://www.w3.org/2000/svg") (measure (codes "width") (width shape)
    (measure (codes "height") (height shape) (attribute (codes "viewBox")
    (codes "0 0 " ++ decimal (width shape) ++ codes " " ++ decimal (height shape)) no_attributes)))

-- the tag that begins it
unfoldable pub root_start : Shape → List ℕ
root_start shape = codes "<svg" ++ attributes_text (root_attributes shape) ++ codes ">"

-- the colours, on a light and on a dark background: all eyes distinguish orange, sky blue and bluish green; those
-- for a dark one stand last, and a program that doesn't know how to ask for one leaves them out
unfoldable pub style_text : List ℕ
style_text =
    codes "text{font-family:ui-monospace,Menlo,Consolas,DejaVu Sans Mono,monospace;font-size:13px;fill:#1f2328}\n"
    ++ codes ".head{font-weight:bold}.row{font-size:11px;text-anchor:end}.row,.dim{fill:#656d76}\n"
    ++ codes ".answer{fill:#0b5cad}.error{fill:#b3400b}.paper{fill:#fff}.rows{fill:url(#rows)}\n"
    ++ codes ".band{fill:#d0d7de;fill-opacity:.25}.lane{stroke:#d0d7de}.call{fill:#56b4e9}.wait{fill:#e69f00}\n"
    ++ codes ".open{fill-opacity:.4;stroke-dasharray:4 3}.call.open{stroke:#56b4e9}.wait.open{stroke:#e69f00}\n"
    ++ codes ".wake{stroke:#00775a;stroke-width:2;marker-end:url(#tip)}.tip{fill:#00775a}\n"
    ++ codes "@media (prefers-color-scheme:dark){text{fill:#e6edf3}.row,.dim{fill:#8b949e}.answer{fill:#79c0ff}"
    ++ codes ".error{fill:#ff9e64}\n"
    ++ codes ".paper{fill:#0d1117}.band{fill:#3d444d}.lane{stroke:#3d444d}.wake{stroke:#3fd0a5}.tip{fill:#3fd0a5}}\n"

abbrev pub style : Node
style = element (codes "style") no_attributes (nodes (text style_text ∷ []))

-- the tip of an arrow, and the background of every second row
unfoldable pub tip : Node
tip =
    element (codes "marker") (attribute (codes "id") (codes "tip") (attribute (codes "viewBox") (codes "0 0 8 8")
    (measure (codes "refX") 7 (measure (codes "refY") 4 (measure (codes "markerWidth") 5
    (measure (codes "markerHeight") 5 (attribute (codes "orient") (codes "auto") no_attributes)))))))
    (nodes (element (codes "path") (attribute (codes "class") (codes "tip") (attribute (codes "d")
    (codes "M0,0L8,4L0,8z") no_attributes)) (nodes []) ∷ []))

unfoldable pub bands : Shape → Node
bands shape =
    element (codes "pattern") (attribute (codes "id") (codes "rows") (attribute (codes "patternUnits")
    (codes "userSpaceOnUse") (measure (codes "y") 56 (measure (codes "width") (width shape) (measure (codes "height") 40
    no_attributes))))) (nodes (rectangle (codes "band") 0 0 (width shape) 20 ∷ []))

abbrev pub drawn_defs : Shape → Node
drawn_defs shape = element (codes "defs") no_attributes (nodes (tip ∷ bands shape ∷ []))

-- what stands behind everything
abbrev pub background : Shape → List Node
background shape =
    title (codes "The calls of agents, from top to bottom in time") ∷ newline
    ∷ style ∷ newline
    ∷ drawn_defs shape ∷ newline
    ∷ rectangle (codes "paper") 0 0 (width shape) (height shape) ∷ newline
    ∷ rectangle (codes "rows") 0 56 (width shape) (20 * shape.rows) ∷ newline
    ∷ label (codes "head") (change_x shape) 34 (codes "changes") ∷ newline ∷ []

-- the lane of an agent
abbrev pub lane : Shape → ℕ → List Node
lane shape a =
    down (codes "lane") (lane_x shape a) 44 (rows_end shape) ∷ newline
    ∷ label (codes "head") (lane_x shape a - 8) 34 (codes "agent " ++ decimal a) ∷ newline ∷ []

-- so many lanes, of which the first is that of agent a
abbrev pub lanes : Shape → ℕ → ℕ → List Node
lanes shape a zero = []
lanes shape a (suc n) = lane shape a ++ lanes shape (a + 1) n

-- what the colours mean, in the last row
abbrev pub legend_row : Shape → ℕ
legend_row shape = shape.rows + shape.blocks + 3

abbrev pub legend : Shape → List Node
legend shape =
    rectangle (codes "call") 48 (row_top (legend_row shape) + 4) 12 12 ∷ newline
    ∷ label (codes "dim") 68 (row_text (legend_row shape)) (codes "in a call") ∷ newline
    ∷ rectangle (codes "wait") 168 (row_top (legend_row shape) + 4) 16 12 ∷ newline
    ∷ label (codes "dim") 192 (row_text (legend_row shape)) (codes "waits") ∷ newline
    ∷ across (codes "wake") 256 (row_middle (legend_row shape)) 290 ∷ newline
    ∷ label (codes "dim") 300 (row_text (legend_row shape)) (codes "wakes") ∷ newline ∷ []
