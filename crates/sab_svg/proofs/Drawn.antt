-- The texts of what is drawn of entries.
use Rattle.std.proofs.Common.{◌≡◌, ℕ, Bool, true, false, List, [], ◌∷◌, ◌++◌, refl, ◌∙◌, append_assoc}
use Rattle.std.specs.Prelude.{codes, decimal, if◌then◌else◌}
use Rattle.std.specs.Fmt.{digits, signed_decimal}
use Rattle.sab_block.specs.declared.operand.Operand.{Operand}
use Rattle.sab_block.specs.Operand.{is_bigint, whole_of}
use Rattle.sab_plan.specs.declared.entry.Entry.{Entry}
use Rattle.sab_plan.specs.declared.fact.Fact.{Fact}
use Rattle.sab_report_text.specs.Text.Text.{operand_text}
use Rattle.sab_svg.specs.Xml.Xml.{Node, nodes, char_text, text_of, node_text, nodes_text}
use Rattle.sab_svg.proofs.OfXml.Texts.{text_of_both, text_of_signed_decimal, nodes_text_both}
use Rattle.sab_svg.specs.declared.shape.Shape.{Shape}
use Rattle.sab_svg.specs.Shape.{label_x, row_text}
use Rattle.sab_svg.specs.Pieces.{label}
use Rattle.sab_svg.specs.Moves.{bars_of, done_label, change_of, arrows, pieces_of}
use Rattle.sab_svg.proofs.Texts.{text_of_five}

-- ---- changes

big_plain : (b : Bool) → text_of (if b then codes "n" else []) ≡ (if b then codes "n" else [])
unfolding char_text
big_plain true = refl
big_plain false = refl

operand_plain : (x : Operand) → text_of (operand_text x) ≡ operand_text x
operand_plain x =
    rw (
      text_of_both (signed_decimal (whole_of x)) (if is_bigint x then codes "n" else []),
      text_of_signed_decimal (whole_of x),
      big_plain (is_bigint x),
    ) refl

arrow_text : text_of (codes " → ") ≡ codes " &#8594; "
unfolding char_text digits
arrow_text = refl

regroup : (a b c d e : List ℕ) → a ++ b ++ c ++ d ++ e ≡ a ++ (b ++ (c ++ (d ++ e)))
regroup a b c d e = simp append_assoc

pub change_text : (element : List ℕ) (x y : Operand)
    → text_of (element ++ codes ": " ++ operand_text x ++ codes " → " ++ operand_text y)
    ≡ text_of element ++ (codes ": " ++ (operand_text x ++ (codes " &#8594; " ++ operand_text y)))
unfolding char_text
change_text element x y =
    text_of_five element (codes ": ") (operand_text x) (codes " → ") (operand_text y)
    ∙ rw (operand_plain x, operand_plain y, arrow_text)
    (regroup (text_of element) (codes ": ") (operand_text x) (codes " &#8594; ") (operand_text y))

-- ---- entries

five_texts : (n : Node) (a b c d : List Node) → nodes_text (nodes (n ∷ (a ++ b ++ c ++ d)))
    ≡ node_text n ++ (nodes_text (nodes a) ++ (nodes_text (nodes b) ++ (nodes_text (nodes c) ++ nodes_text (nodes d))))
five_texts n a b c d =
    rw (nodes_text_both (a ++ b ++ c) d, nodes_text_both (a ++ b) c, nodes_text_both a b) (simp append_assoc)

pub pieces_text : (names : List (List ℕ)) (shape : Shape) (k : ℕ) (e : Entry) (fact : Fact)
    → nodes_text (nodes (pieces_of names shape k e fact))
    ≡ node_text (label (codes "row") 48 (row_text k) (decimal k))
    ++ (nodes_text (nodes (bars_of shape k e.agent fact.since e.what))
    ++ (nodes_text (nodes (done_label names (label_x shape e.agent) (row_text k) fact.call e.what))
    ++ (nodes_text (nodes (change_of names shape k fact.call fact.found))
    ++ nodes_text (nodes (arrows shape k e fact.found)))))
pieces_text names shape k e fact =
    five_texts (label (codes "row") 48 (row_text k) (decimal k)) (bars_of shape k e.agent fact.since e.what)
    (done_label names (label_x shape e.agent) (row_text k) fact.call e.what)
    (change_of names shape k fact.call fact.found) (arrows shape k e fact.found)
