-- The text of a tree whose names are names is a well-formed document.
use Rattle.std.proofs.Common.{◌≡◌, ℕ, ◌==◌, Bool, true, false, cond, List, [], ◌∷◌, ◌++◌, refl, arith, append_assoc, append-nil}
use Rattle.std.specs.Prelude.{IsTrue, codes, nat_lt, ◌&&◌}
use Rattle.std.proofs.lemmas.Bool.Decides.{nat_tests}
use Rattle.sab_svg.specs.Xml.Xml.{Node, element, text, Nodes, no_nodes, node, nodes, Attributes, no_attributes, attribute, is_plain, char_text, text_of, attributes_text, node_text, nodes_text}
use Rattle.sab_svg.specs.Xml.WellFormed.{is_char, is_data, IsName, IsText, empty, character, reference, less, greater, ampersand, quote, numbered, AreAttributes, none, one, IsElement, empty_tag, tags, IsContent, nothing, some_text, child, IsDocument, attribute_names, AreAttributeNames, IsNamed, AreNamed}

-- ---- texts

data_plain : (c : ℕ) → is_plain c ≡ true → IsTrue (is_data c)
data_plain c h = grind (arith, nat_tests)

char_numbered : (c : ℕ) → (nat_lt 126 c && nat_lt c 0xd800) ≡ true → IsTrue (is_char c)
char_numbered c h = grind (arith, nat_tests)

-- one of two texts, before a rest
chosen : (b : Bool) (x y rest : List ℕ) → (b ≡ true → IsText (x ++ rest)) → (b ≡ false → IsText (y ++ rest))
    → IsText (cond b x y ++ rest)
chosen true x y rest p q = p refl
chosen false x y rest p q = q refl

char_before : (c : ℕ) (rest : List ℕ) → IsText rest → IsText (char_text c ++ rest)
unfolding char_text
char_before c rest p =
    chosen (is_plain c) _ _ rest (λ h. character c rest (data_plain c h) p) (λ _.
    chosen (c == 60) _ _ rest (λ _. reference _ rest less p) (λ _.
    chosen (c == 62) _ _ rest (λ _. reference _ rest greater p) (λ _.
    chosen (c == 38) _ _ rest (λ _. reference _ rest ampersand p) (λ _.
    chosen (c == 34) _ _ rest (λ _. reference _ rest quote p) (λ _.
    chosen (nat_lt 126 c && nat_lt c 0xd800) _ _ rest (λ h. reference _ rest (numbered c (char_numbered c h)) p) (λ _.
    reference _ rest (numbered 0xfffd refl) p))))))

pub char_is_text : (c : ℕ) → IsText (char_text c)
char_is_text c = rw append-nil at (char_before c [] empty)

pub text_is_text : (s : List ℕ) → IsText (text_of s)
text_is_text [] = empty
text_is_text (c ∷ s) = char_before c (text_of s) (text_is_text s)

-- ---- elements

pub attributes_written : (a : Attributes) → AreAttributeNames (attribute_names a)
    → AreAttributes (attribute_names a) (attributes_text a)
attributes_written no_attributes h = none
attributes_written (attribute name value rest) h =
    one name (text_of value) (attributes_text rest) (attribute_names rest) h.0 h.1 (text_is_text value)
    (attributes_written rest h.2)

-- what stands behind the attributes, put behind them one by one
one_by_one : (before close first others slash name end : List ℕ)
    → before ++ close ++ (first ++ others) ++ slash ++ name ++ end
    ≡ before ++ (close ++ first ++ others ++ slash ++ name ++ end)
one_by_one before close first others slash name end = simp append_assoc refl

-- an element whose parts are known
element_written : (name : List ℕ) (a : Attributes) (content : Nodes) → IsName name → AreAttributeNames (attribute_names a)
    → IsContent (nodes_text content) → IsElement (node_text (element name a content))
element_written name a no_nodes h g p = empty_tag name (attributes_text a) (attribute_names a) h (attributes_written a g)
element_written name a (node n ns) h g p =
    rw (one_by_one (codes "<" ++ name ++ attributes_text a) (codes ">") (node_text n) (nodes_text ns) (codes "</") name
    (codes ">")) at
    (tags name (attributes_text a) (node_text n ++ nodes_text ns) (attribute_names a) h (attributes_written a g) p)

-- an element's text is an element, and a text's a text
abbrev pub IsWrittenNode : Node → Type 0
IsWrittenNode (element name a content) = IsElement (node_text (element name a content))
IsWrittenNode (text s) = IsText (text_of s)

node_before : (n : Node) (rest : List ℕ) → IsWrittenNode n → IsContent rest → IsContent (node_text n ++ rest)
node_before (element name a content) rest p q = child (node_text (element name a content)) rest p q
node_before (text s) rest p q = some_text (text_of s) rest p q

mutual
  pub node_written : (n : Node) → IsNamed n → IsWrittenNode n
  node_written (element name a content) h = element_written name a content h.0 h.1 (nodes_written content h.2)
  node_written (text s) h = text_is_text s

  pub nodes_written : (ns : Nodes) → AreNamed ns → IsContent (nodes_text ns)
  nodes_written no_nodes h = nothing
  nodes_written (node n ns) h = node_before n (nodes_text ns) (node_written n h.0) (nodes_written ns h.1)

-- ---- documents

pub document : (name : List ℕ) (attributes : Attributes) (content : Nodes) → IsNamed (element name attributes content)
    → IsDocument (node_text (element name attributes content) ++ codes "\n")
document name attributes content h =
    (node_text (element name attributes content), node_written (element name attributes content) h, refl)

pub named_both : (a b : List Node) → AreNamed (nodes a) → AreNamed (nodes b) → AreNamed (nodes (a ++ b))
named_both [] b p q = q
named_both (n ∷ a) b p q = (p.0, named_both a b p.1 q)
