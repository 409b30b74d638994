-- The texts of pieces.
use Rattle.std.proofs.Common.{◌≡◌, ℕ, List, [], ◌∷◌, ◌++◌, refl, sym, ap, ◌∙◌, append_assoc, append-nil}
use Rattle.std.specs.Prelude.{codes, decimal}
use Rattle.sab_svg.specs.Xml.Xml.{Node, element, text, nodes, Attributes, no_attributes, attribute, attributes_text, char_text, text_of, node_text, nodes_text}
use Rattle.sab_svg.proofs.OfXml.Texts.{text_of_both, text_of_decimal}
use Rattle.sab_svg.specs.declared.class.Class.{Class}
use Rattle.sab_svg.specs.declared.class.Class.TheVariants as C
use Rattle.sab_svg.specs.Pieces.{measure, class_text, label, label_attributes, label_start, rectangle, across, down, line_start, title, agent_words, group, group_start, newline}

pub class_plain : (c : Class) → text_of (class_text c) ≡ class_text c
unfolding char_text
class_plain C.Answer = refl
class_plain C.Band = refl
class_plain C.Call = refl
class_plain C.Dim = refl
class_plain C.Error = refl
class_plain C.Head = refl
class_plain C.Ink = refl
class_plain C.Lane = refl
class_plain C.OpenCall = refl
class_plain C.OpenWait = refl
class_plain C.Paper = refl
class_plain C.Row = refl
class_plain C.Rows = refl
class_plain C.Wait = refl
class_plain C.Wake = refl

-- ---- elements

-- an attribute, and what comes behind it
pub attribute_then : (name value : List ℕ) (rest : Attributes) (end : List ℕ)
    → attributes_text (attribute name value rest) ++ end
    ≡ codes " " ++ (name ++ (codes "=\"" ++ (text_of value ++ (codes "\"" ++ (attributes_text rest ++ end)))))
attribute_then name value rest end = simp append_assoc

-- the same where the value stands as it is
pub plain_then : (name value : List ℕ) (rest : Attributes) (end : List ℕ) → text_of value ≡ value
    → attributes_text (attribute name value rest) ++ end
    ≡ codes " " ++ (name ++ (codes "=\"" ++ (value ++ (codes "\"" ++ (attributes_text rest ++ end)))))
plain_then name value rest end h = rw (attribute_then name value rest end, h) refl

pub measure_then : (name : List ℕ) (n : ℕ) (rest : Attributes) (end : List ℕ)
    → attributes_text (measure name n rest) ++ end
    ≡ codes " " ++ (name ++ (codes "=\"" ++ (decimal n ++ (codes "\"" ++ (attributes_text rest ++ end)))))
measure_then name n rest end = plain_then name (decimal n) rest end (text_of_decimal n)

-- an element that has a text and nothing else
around : (start close middle ender name : List ℕ) → start ++ (close ++ middle ++ [] ++ ender ++ name ++ close)
    ≡ (start ++ close) ++ (middle ++ (ender ++ (name ++ close)))
around start close middle ender name = rw append-nil (simp append_assoc)

pub text_within : (name : List ℕ) (more : Attributes) (s : List ℕ) → node_text (element name more (nodes (text s ∷ [])))
    ≡ (codes "<" ++ name ++ attributes_text more ++ codes ">") ++ (text_of s ++ (codes "</" ++ (name ++ codes ">")))
text_within name more s = around (codes "<" ++ name ++ attributes_text more) (codes ">") (text_of s) (codes "</") name

-- ---- labels

pub label_start_text : (c : Class) (x y : ℕ) → label_start (class_text c) x y
    ≡ codes "<text class=\"" ++ (class_text c ++ (codes "\" x=\"" ++ (decimal x ++ (codes "\" y=\"" ++ (decimal y
    ++ codes "\">")))))
unfolding label_start
label_start_text c x y =
    let end = codes ">" in
    let from_y = measure (codes "y") y no_attributes in
    rw (
      plain_then (codes "class") (class_text c) (measure (codes "x") x from_y) end (class_plain c),
      measure_then (codes "x") x from_y end,
      measure_then (codes "y") y no_attributes end,
    ) refl

pub label_text : (class : List ℕ) (x y : ℕ) (s : List ℕ)
    → node_text (label class x y s) ≡ label_start class x y ++ (text_of s ++ codes "</text>")
unfolding label label_start
label_text class x y s = text_within (codes "text") (label_attributes class x y) s

pub title_text : (s : List ℕ) → node_text (title s) ≡ codes "<title>" ++ (text_of s ++ codes "</title>")
title_text s = text_within (codes "title") no_attributes s

-- ---- rectangles and lines

pub rectangle_text : (c : Class) (x y width height : ℕ) → node_text (rectangle (class_text c) x y width height)
    ≡ codes "<rect class=\"" ++ (class_text c ++ (codes "\" x=\"" ++ (decimal x ++ (codes "\" y=\"" ++ (decimal y
    ++ (codes "\" width=\"" ++ (decimal width ++ (codes "\" height=\"" ++ (decimal height ++ codes "\"/>")))))))))
unfolding rectangle
rectangle_text c x y width height =
    let end = codes "/>" in
    let from_height = measure (codes "height") height no_attributes in
    let from_width = measure (codes "width") width from_height in
    let from_y = measure (codes "y") y from_width in
    rw (
      plain_then (codes "class") (class_text c) (measure (codes "x") x from_y) end (class_plain c),
      measure_then (codes "x") x from_y end,
      measure_then (codes "y") y from_width end,
      measure_then (codes "width") width from_height end,
      measure_then (codes "height") height no_attributes end,
    ) refl

pub text_of_five : (a b c d e : List ℕ)
    → text_of (a ++ b ++ c ++ d ++ e) ≡ text_of a ++ text_of b ++ text_of c ++ text_of d ++ text_of e
text_of_five a b c d e =
    rw (text_of_both (a ++ b ++ c ++ d) e, text_of_both (a ++ b ++ c) d, text_of_both (a ++ b) c, text_of_both a b) refl

text_of_six : (a b c d e f : List ℕ)
    → text_of (a ++ b ++ c ++ d ++ e ++ f) ≡ text_of a ++ text_of b ++ text_of c ++ text_of d ++ text_of e ++ text_of f
text_of_six a b c d e f =
    text_of_both (a ++ b ++ c ++ d ++ e) f ∙ ap (λ (s : List ℕ). s ++ text_of f) (text_of_five a b c d e)

-- a way from a point, straight in a direction
abbrev way : ℕ → ℕ → List ℕ → ℕ → List ℕ
way x y direction end = codes "M" ++ decimal x ++ codes "," ++ decimal y ++ direction ++ decimal end

way_plain : (x y end : ℕ) (direction : List ℕ) → text_of direction ≡ direction
    → text_of (way x y direction end) ≡ way x y direction end
unfolding char_text
way_plain x y end direction h =
    text_of_six (codes "M") (decimal x) (codes ",") (decimal y) direction (decimal end)
    ∙ rw (text_of_decimal x, text_of_decimal y, text_of_decimal end, h) refl

regroup : (a b c d e f : List ℕ) → (a ++ b ++ c ++ d ++ e) ++ f ≡ a ++ (b ++ (c ++ (d ++ (e ++ f))))
regroup a b c d e f = simp append_assoc

regroup_all : (a b c d e f : List ℕ) → (a ++ (b ++ (c ++ (d ++ e)))) ++ f ≡ a ++ (b ++ (c ++ (d ++ (e ++ f))))
regroup_all a b c d e f = simp append_assoc

line_text : (c : Class) (x y end : ℕ) (direction : List ℕ) → text_of direction ≡ direction
    → codes "<path" ++ (attributes_text (attribute (codes "class") (class_text c)
    (attribute (codes "d") (way x y direction end) no_attributes)) ++ codes "/>")
    ≡ line_start (class_text c) x y ++ (direction ++ (decimal end ++ codes "\"/>"))
line_text c x y end direction h =
    let d = way x y direction end in
    rw (
      plain_then (codes "class") (class_text c) (attribute (codes "d") d no_attributes) (codes "/>") (class_plain c),
      plain_then (codes "d") d no_attributes (codes "/>") (way_plain x y end direction h),
    ) (ap (λ (s : List ℕ). codes "<path class=\"" ++ (class_text c ++ (codes "\" d=\"M" ++ s)))
    (regroup (decimal x) (codes ",") (decimal y) direction (decimal end) (codes "\"/>"))
    ∙ sym (regroup_all (codes "<path class=\"") (class_text c) (codes "\" d=\"M") (decimal x)
    (codes "," ++ decimal y) (direction ++ (decimal end ++ codes "\"/>"))))

pub across_text : (c : Class) (x y end : ℕ) → node_text (across (class_text c) x y end)
    ≡ line_start (class_text c) x y ++ (codes "H" ++ (decimal end ++ codes "\"/>"))
unfolding across char_text
across_text c x y end = line_text c x y end (codes "H") refl

pub down_text : (c : Class) (x y end : ℕ) → node_text (down (class_text c) x y end)
    ≡ line_start (class_text c) x y ++ (codes "V" ++ (decimal end ++ codes "\"/>"))
unfolding down char_text
down_text c x y end = line_text c x y end (codes "V") refl

-- ---- groups

within_group : (start pieces : List ℕ) → start ++ pieces ++ codes "</" ++ codes "g" ++ codes ">"
    ≡ start ++ (pieces ++ codes "</g>")
within_group start pieces = simp append_assoc

pub group_text : (s : List ℕ) (pieces : List Node)
    → node_text (group s pieces) ≡ group_start s ++ (nodes_text (nodes pieces) ++ codes "</g>")
unfolding group group_start
group_text s pieces = within_group (codes "<g>" ++ node_text (title s)) (nodes_text (nodes pieces))

-- a group on a line of its own
pub group_line_text : (s : List ℕ) (pieces : List Node) → nodes_text (nodes (group s pieces ∷ newline ∷ []))
    ≡ group_start s ++ (nodes_text (nodes pieces) ++ codes "</g>\n")
unfolding char_text
group_line_text s pieces =
    ap (λ (t : List ℕ). t ++ codes "\n") (group_text s pieces)
    ∙ (append_assoc (group_start s) (nodes_text (nodes pieces) ++ codes "</g>") (codes "\n")
    ∙ ap (λ (t : List ℕ). group_start s ++ t) (append_assoc (nodes_text (nodes pieces)) (codes "</g>") (codes "\n")))

-- the words of an agent, behind its name
pub words_behind : (a : ℕ) (words : List ℕ) → agent_words a [] ++ words ≡ agent_words a words
words_behind a words =
    ap (λ (s : List ℕ). codes "agent " ++ s) (append_assoc (decimal a) (codes ": ") words)
