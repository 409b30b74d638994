-- The texts of who isn't done, and of blocks.
use Rattle.std.proofs.Common.{◌≡◌, ℕ, ◌*◌, List, [], ◌∷◌, ◌++◌, length, take, refl, ap, ◌∙◌, arith, append_assoc, append-nil}
use Rattle.std.specs.Prelude.{codes, decimal, flat_map}
use Rattle.sab_plan.specs.declared.standing.Standing.{Standing}
use Rattle.sab_report_text.specs.Text.Text.{hex_byte}
use Rattle.sab_report_text.specs.Words.Explained.{standing_words}
use Rattle.sab_svg.specs.Xml.Xml.{nodes, node_text, nodes_text}
use Rattle.sab_svg.proofs.OfXml.Texts.{nodes_text_both}
use Rattle.sab_svg.specs.declared.shape.Shape.{Shape}
use Rattle.sab_svg.specs.Shape.{label_x, row_text}
use Rattle.sab_svg.specs.Pieces.{agent_words, label, group_start, newline}
use Rattle.sab_svg.specs.Ends.{open_bar, end_text, end_class, drawn_standing, more_text, block_text}
use Rattle.sab_svg.proofs.Texts.{group_line_text}

-- ---- who isn't done

last_apart : (a b c : List ℕ) → a ++ (b ++ []) ++ c ≡ a ++ (b ++ c)
last_apart a b c = rw append-nil (append_assoc a b c)

pub standing_text : (names : List (List ℕ)) (shape : Shape) (a : ℕ) (s : Standing)
    → nodes_text (nodes (drawn_standing names shape a s ∷ newline ∷ []))
    ≡ group_start (agent_words a (standing_words names s)) ++ (nodes_text (nodes (open_bar shape a s.since s.at))
    ++ (node_text (label (end_class s.at) (label_x shape a) (row_text shape.rows) (end_text s.at)) ++ codes "</g>\n"))
standing_text names shape a s =
    let bar = open_bar shape a s.since s.at in
    let end_label = label (end_class s.at) (label_x shape a) (row_text shape.rows) (end_text s.at) in
    let words = agent_words a (standing_words names s) in
    group_line_text words (bar ++ end_label ∷ [])
    ∙ ap (λ (t : List ℕ). group_start words ++ t)
    (ap (λ (t : List ℕ). t ++ codes "</g>\n") (nodes_text_both bar (end_label ∷ []))
    ∙ last_apart (nodes_text (nodes bar)) (node_text end_label) (codes "</g>\n"))

-- ---- blocks

pub hex_length : (bytes : List ℕ) → length (flat_map hex_byte bytes) ≡ 2 * length bytes
hex_length [] = refl
hex_length (b ∷ bytes) = let e = hex_length bytes in omega (arith, e)

apart : (a b c d e : List ℕ) → a ++ (b ++ c) ++ d ++ e ≡ a ++ (b ++ (c ++ (d ++ e)))
apart a b c d e = simp append_assoc

pub block_apart : (b : ℕ) (bytes : List ℕ) → block_text b bytes ≡ codes "block " ++ (decimal b ++ (codes " "
    ++ (flat_map hex_byte (take 32 bytes) ++ more_text (length bytes))))
block_apart b bytes =
    apart (codes "block ") (decimal b) (codes " ") (flat_map hex_byte (take 32 bytes)) (more_text (length bytes))

-- ---- labels

pub label_same : (class class2 : List ℕ) (x x2 y y2 : ℕ) (s s2 : List ℕ) → class ≡ class2 → x ≡ x2 → y ≡ y2 → s ≡ s2
    → node_text (label class x y s) ≡ node_text (label class2 x2 y2 s2)
label_same class class2 x x2 y y2 s s2 p q r t = rw (p, q, r, t) refl
