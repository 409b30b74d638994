-- Elements of XML as trees, and their text (Extensible Markup Language 1.0, fifth edition).
use Rattle.std.specs.Prelude.{ℕ, ◌==◌, ◌&&◌, ◌||◌, not, nat_lt, Bool, if◌then◌else◌, List, [], ◌∷◌, ◌++◌, flat_map, codes, decimal}

-- names with values
pub data Attributes : Type 0 where
  no_attributes : Attributes
  attribute : List ℕ → List ℕ → Attributes → Attributes

mutual
  pub data Node : Type 0 where
    element : List ℕ → Attributes → Nodes → Node
    text : List ℕ → Node

  pub data Nodes : Type 0 where
    no_nodes : Nodes
    node : Node → Nodes → Nodes

-- a list of nodes as an element has it
abbrev pub nodes : List Node → Nodes
nodes [] = no_nodes
nodes (n ∷ ns) = node n (nodes ns)

-- the characters that mean something other than themselves in a text or between quotation marks
abbrev pub is_mark : ℕ → Bool
is_mark c = (c == 60) || (c == 62) || (c == 38) || (c == 34)

-- a line feed, a space, or a visible character of ASCII that has no meaning of its own there
abbrev pub is_plain : ℕ → Bool
is_plain c = not (is_mark c) && ((c == 10) || (nat_lt 31 c && nat_lt c 127))

-- the reference to a character (CharRef)
abbrev pub reference : ℕ → List ℕ
reference c = codes "&#" ++ decimal c ++ codes ";"

-- what stands in a text for a character: itself, or a reference to it (EntityRef, CharRef); for a control character of
-- ASCII, few of which a document can hold, and from the surrogates on, a reference to the replacement character
unfoldable pub char_text : ℕ → List ℕ
char_text c =
    if is_plain c then c ∷ []
    else if c == 60 then codes "&lt;"
    else if c == 62 then codes "&gt;"
    else if c == 38 then codes "&amp;"
    else if c == 34 then codes "&quot;"
    else if nat_lt 126 c && nat_lt c 0xd800 then reference c
    else reference 0xfffd

abbrev pub text_of : List ℕ → List ℕ
text_of = flat_map char_text

-- each attribute, behind a space (Attribute, AttValue)
abbrev pub attributes_text : Attributes → List ℕ
attributes_text no_attributes = []
attributes_text (attribute name value rest) =
    codes " " ++ name ++ codes "=\"" ++ text_of value ++ codes "\"" ++ attributes_text rest

-- an element with no content is one tag (EmptyElemTag), and else two around it (STag, content, ETag)
abbrev mutual
  pub node_text : Node → List ℕ
  node_text (element name attributes content) =
      codes "<" ++ name ++ attributes_text attributes ++ content_text name content
  node_text (text s) = text_of s

  pub content_text : List ℕ → Nodes → List ℕ
  content_text name no_nodes = codes "/>"
  content_text name (node n ns) = codes ">" ++ node_text n ++ nodes_text ns ++ codes "</" ++ name ++ codes ">"

  pub nodes_text : Nodes → List ℕ
  nodes_text no_nodes = []
  nodes_text (node n ns) = node_text n ++ nodes_text ns
