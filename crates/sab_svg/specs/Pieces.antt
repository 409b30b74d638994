-- What a picture is made of: texts, bars, arrows, and groups of them (Scalable Vector Graphics 1.1).
use Rattle.std.specs.Prelude.{ℕ, ◌-◌, List, [], ◌∷◌, ◌++◌, codes, decimal}
use Rattle.sab_svg.specs.Xml.Xml.{Node, element, text, nodes, Attributes, no_attributes, attribute, attributes_text, node_text}
use Rattle.sab_svg.specs.declared.class.Class.{Class}
use Rattle.sab_svg.specs.declared.class.Class.TheVariants as C

-- the name of a class
abbrev pub class_text : Class → List ℕ
class_text C.Answer = codes "answer"
class_text C.Band = codes "band"
class_text C.Call = codes "call"
class_text C.Dim = codes "dim"
class_text C.Error = codes "error"
class_text C.Head = codes "head"
class_text C.Ink = codes "ink"
class_text C.Lane = codes "lane"
class_text C.OpenCall = codes "call open"
class_text C.OpenWait = codes "wait open"
class_text C.Paper = codes "paper"
class_text C.Row = codes "row"
class_text C.Rows = codes "rows"
class_text C.Wait = codes "wait"
class_text C.Wake = codes "wake"

-- an attribute that is a number
abbrev pub measure : List ℕ → ℕ → Attributes → Attributes
measure name n = attribute name (decimal n)

-- a text of a class, from x on
abbrev pub label_attributes : List ℕ → ℕ → ℕ → Attributes
label_attributes class x y =
    attribute (codes "class") class (measure (codes "x") x (measure (codes "y") y no_attributes))

unfoldable pub label : List ℕ → ℕ → ℕ → List ℕ → Node
label class x y s = element (codes "text") (label_attributes class x y) (nodes (text s ∷ []))

-- how it begins: up to what it says
unfoldable pub label_start : List ℕ → ℕ → ℕ → List ℕ
label_start class x y = codes "<text" ++ attributes_text (label_attributes class x y) ++ codes ">"

-- a rectangle of a class
unfoldable pub rectangle : List ℕ → ℕ → ℕ → ℕ → ℕ → Node
rectangle class x y width height =
    element (codes "rect") (attribute (codes "class") class (measure (codes "x") x (measure (codes "y") y
    (measure (codes "width") width (measure (codes "height") height no_attributes))))) (nodes [])

-- time that an agent spends, in the middle of its lane from one height to another: in a call, or in a wait, which is
-- wider
abbrev pub call_bar : ℕ → ℕ → ℕ → Node
call_bar x top end = rectangle (codes "call") (x - 6) top 12 (end - top)

abbrev pub wait_bar : ℕ → ℕ → ℕ → Node
wait_bar x top end = rectangle (codes "wait") (x - 8) top 16 (end - top)

-- the same of a call that hasn't returned when the run ends
abbrev pub open_call_bar : ℕ → ℕ → ℕ → Node
open_call_bar x top end = rectangle (codes "call open") (x - 6) top 12 (end - top)

abbrev pub open_wait_bar : ℕ → ℕ → ℕ → Node
open_wait_bar x top end = rectangle (codes "wait open") (x - 8) top 16 (end - top)

-- a straight line of a class: from a point across, or down
unfoldable pub across : List ℕ → ℕ → ℕ → ℕ → Node
across class x y end =
    element (codes "path") (attribute (codes "class") class (attribute (codes "d")
    (codes "M" ++ decimal x ++ codes "," ++ decimal y ++ codes "H" ++ decimal end) no_attributes)) (nodes [])

unfoldable pub down : List ℕ → ℕ → ℕ → ℕ → Node
down class x y end =
    element (codes "path") (attribute (codes "class") class (attribute (codes "d")
    (codes "M" ++ decimal x ++ codes "," ++ decimal y ++ codes "V" ++ decimal end) no_attributes)) (nodes [])

-- how they begin: up to the direction
abbrev pub line_start : List ℕ → ℕ → ℕ → List ℕ
line_start class x y =
    codes "<path class=\"" ++ (class ++ (codes "\" d=\"M" ++ (decimal x ++ (codes "," ++ decimal y))))

-- what a pointer shows
abbrev pub title : List ℕ → Node
title s = element (codes "title") no_attributes (nodes (text s ∷ []))

-- what a pointer shows of an agent: its words, behind its name
abbrev pub agent_words : ℕ → List ℕ → List ℕ
agent_words a words = codes "agent " ++ (decimal a ++ (codes ": " ++ words))

-- some pieces with one title
unfoldable pub group : List ℕ → List Node → Node
group s pieces = element (codes "g") no_attributes (nodes (title s ∷ pieces))

-- how they begin: up to the first of them
unfoldable pub group_start : List ℕ → List ℕ
group_start s = codes "<g>" ++ node_text (title s)

abbrev pub newline : Node
newline = text (codes "\n")
