-- The texts of what stands behind and around the moves of a picture.
use Rattle.std.proofs.Common.{◌≡◌, ℕ, List, [], ◌∷◌, ◌++◌, refl, ap, ◌∙◌, append_assoc, append-nil}
use Rattle.std.specs.Prelude.{codes, decimal}
use Rattle.std.specs.Fmt.{digits}
use Rattle.sab_svg.specs.Xml.Xml.{Node, no_attributes, attribute, char_text, text_of, node_text, nodes, nodes_text}
use Rattle.sab_svg.proofs.OfXml.Texts.{text_of_both, text_of_decimal}
use Rattle.sab_svg.specs.declared.shape.Shape.{Shape}
use Rattle.sab_svg.specs.Shape.{width, height}
use Rattle.sab_svg.specs.Pieces.{measure, rectangle, newline}
use Rattle.sab_svg.specs.Frame.{root_attributes, root_start, style_text, style, tip, bands, drawn_defs}
use Rattle.sab_svg.proofs.Texts.{plain_then, measure_then, text_within}

-- ---- the tag that begins a picture

text_of_four : (a b c d : List ℕ) → text_of (a ++ b ++ c ++ d) ≡ text_of a ++ text_of b ++ text_of c ++ text_of d
text_of_four a b c d = rw (text_of_both (a ++ b ++ c) d, text_of_both (a ++ b) c, text_of_both a b) refl

box_plain : (w h : ℕ) → text_of (codes "0 0 " ++ decimal w ++ codes " " ++ decimal h)
    ≡ codes "0 0 " ++ decimal w ++ codes " " ++ decimal h
unfolding char_text
box_plain w h =
    text_of_four (codes "0 0 ") (decimal w) (codes " ") (decimal h) ∙ rw (text_of_decimal w, text_of_decimal h) refl

box_apart : (w h end : List ℕ) → (codes "0 0 " ++ w ++ codes " " ++ h) ++ end
    ≡ codes "0 0 " ++ (w ++ (codes " " ++ (h ++ end)))
box_apart w h end = simp append_assoc

pub root_text : (shape : Shape) → root_start shape ≡ codes "<svg xmlns=\"http://www.w3.org/2000/svg\" width=\""
    ++ (decimal (width shape) ++ (codes "\" height=\"" ++ (decimal (height shape) ++ (codes "\" viewBox=\"0 0 "
    ++ (decimal (width shape) ++ (codes " " ++ (decimal (height shape) ++ codes "\">")))))))
unfolding root_start root_attributes char_text
root_text shape =
    let end = codes ">" in
    let box = codes "0 0 " ++ decimal (width shape) ++ codes " " ++ decimal (height shape) in
    let from_box = attribute (codes "viewBox") box no_attributes in
    let from_height = measure (codes "height") (height shape) from_box in
    let from_width = measure (codes "width") (width shape) from_height in
    rw (
      plain_then (codes "xmlns") (codes "http://www.w3.org/2000/svg") from_width end
          refl,
      measure_then (codes "width") (width shape) from_height end,
      measure_then (codes "height") (height shape) from_box end,
      plain_then (codes "viewBox") box no_attributes end (box_plain (width shape) (height shape)),
      box_apart (decimal (width shape)) (decimal (height shape)) (codes "\">"),
    ) refl

-- ---- what it stands on

-- the start of what is defined for a picture: the tip of an arrow, and a pattern up to its first number
abbrev pub defs_start : List ℕ
defs_start =
    codes "<defs><marker id=\"tip\" viewBox=\"0 0 8 8\" refX=\"7\" refY=\"4\" markerWidth=\"5\" markerHeight=\"5\""
    ++ codes " orient=\"auto\"><path class=\"tip\" d=\"M0,0L8,4L0,8z\"/></marker><pattern id=\"rows\""
    ++ codes " patternUnits=\"userSpaceOnUse\" y=\""

pub style_element : node_text style ≡ codes "<style>" ++ (text_of style_text ++ codes "</style>")
style_element = text_within (codes "style") no_attributes style_text

seven : decimal 7 ≡ codes "7"
unfolding digits
seven = refl

four : decimal 4 ≡ codes "4"
unfolding digits
four = refl

five : decimal 5 ≡ codes "5"
unfolding digits
five = refl

-- a pattern of three numbers and a piece, within the last of some elements
pattern_apart : (y w h piece quote by high close slash pattern end defs : List ℕ)
    → y ++ quote ++ (by ++ (w ++ quote ++ (high ++ (h ++ quote ++ []))))
    ++ (close ++ (piece ++ [] ++ slash ++ pattern ++ end)) ++ [] ++ slash ++ defs ++ end
    ≡ y ++ (quote ++ (by ++ (w ++ (quote ++ (high ++ (h ++ (quote ++ (close ++ (piece ++ (slash ++ (pattern
    ++ (end ++ (slash ++ (defs ++ end))))))))))))))
pattern_apart y w h piece quote by high close slash pattern end defs = simp (append_assoc, append-nil)

pub defs_text : (shape : Shape) → node_text (drawn_defs shape)
    ≡ defs_start
    ++ (decimal 56 ++ (codes "\" width=\"" ++ (decimal (width shape) ++ (codes "\" height=\"" ++ (decimal 40
    ++ (codes "\">" ++ (node_text (rectangle (codes "band") 0 0 (width shape) 20) ++ codes "</pattern></defs>")))))))
unfolding tip bands char_text
defs_text shape =
    rw (
      text_of_decimal 7,
      text_of_decimal 4,
      text_of_decimal 5,
      text_of_decimal 56,
      text_of_decimal 40,
      text_of_decimal (width shape),
      seven,
      four,
      five,
    ) (ap (λ (s : List ℕ). defs_start ++ s)
    (pattern_apart (decimal 56) (decimal (width shape)) (decimal 40)
    (node_text (rectangle (codes "band") 0 0 (width shape) 20)) (codes "\"") (codes " width=\"") (codes " height=\"")
    (codes ">") (codes "</") (codes "pattern") (codes ">") (codes "defs")))

-- ---- nodes on lines of their own

pub line_then : (n : Node) (ns : List Node)
    → nodes_text (nodes (n ∷ newline ∷ ns)) ≡ node_text n ++ (codes "\n" ++ nodes_text (nodes ns))
unfolding char_text
line_then n ns = refl

pub last_line : (n : Node) → nodes_text (nodes (n ∷ newline ∷ [])) ≡ node_text n ++ codes "\n"
unfolding char_text
last_line n = refl
