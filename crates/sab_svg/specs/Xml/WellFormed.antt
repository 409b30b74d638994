-- Well-formed documents of XML, by the productions of Extensible Markup Language 1.0, fifth edition; those of ASCII
-- alone, whose bytes are their characters.
use Rattle.std.specs.Prelude.{◌≡◌, ℕ, ◌==◌, ◌&&◌, ◌||◌, not, nat_lt, Bool, IsTrue, ⊤, List, [], ◌∷◌, ◌++◌, All, codes, decimal}
use Rattle.std.specs.Char.{is_ascii_alphabetic, is_ascii_alphanumeric}
use Rattle.sab_svg.specs.Xml.Xml.{Node, element, text, Nodes, no_nodes, node, Attributes, no_attributes, attribute}

-- a character that a document can hold (Char)
abbrev pub is_char : ℕ → Bool
is_char c =
    (c == 9) || (c == 10) || (c == 13) || (nat_lt 31 c && nat_lt c 0xd800) || (nat_lt 0xdfff c && nat_lt c 0xfffe)
    || (nat_lt 0xffff c && nat_lt c 0x110000)

-- a name of letters of ASCII, digits, `-` and `_` that begins with a letter (Name)
abbrev pub is_name_char : ℕ → Bool
is_name_char c = is_ascii_alphanumeric c || (c == 45) || (c == 95)

abbrev pub IsName : List ℕ → Type 0
IsName [] = ⊥
IsName (c ∷ cs) = IsTrue (is_ascii_alphabetic c) × All (λ d. IsTrue (is_name_char d)) cs

-- a reference to a character, by one of the names that need no declaration or by its number (EntityRef, CharRef)
pub data IsReference : List ℕ → Type 0 where
  less : IsReference (codes "&lt;")
  greater : IsReference (codes "&gt;")
  ampersand : IsReference (codes "&amp;")
  quote : IsReference (codes "&quot;")
  numbered : (c : ℕ) → IsTrue (is_char c) → IsReference (codes "&#" ++ decimal c ++ codes ";")

-- a character that stands for itself in a text and between quotation marks (CharData, AttValue); one of ASCII, so that
-- it is one byte
abbrev pub is_data : ℕ → Bool
is_data c = is_char c && nat_lt c 128 && not ((c == 60) || (c == 62) || (c == 38) || (c == 34))

-- such characters and references
pub data IsText : List ℕ → Type 0 where
  empty : IsText []
  character : (c : ℕ) (rest : List ℕ) → IsTrue (is_data c) → IsText rest → IsText (c ∷ rest)
  reference : (r rest : List ℕ) → IsReference r → IsText rest → IsText (r ++ rest)

-- attributes, each name once (Attribute; Unique Att Spec)
pub data AreAttributes : List (List ℕ) → List ℕ → Type 0 where
  none : AreAttributes [] []
  one : (name value rest : List ℕ) (names : List (List ℕ)) → IsName name → All (λ other. name ≡ other → ⊥) names
      → IsText value → AreAttributes names rest
      → AreAttributes (name ∷ names) (codes " " ++ name ++ codes "=\"" ++ value ++ codes "\"" ++ rest)

-- an element, as one tag, or as two of the same name around its content (EmptyElemTag, STag, content, ETag)
mutual
  pub data IsElement : List ℕ → Type 0 where
    empty_tag : (name attributes : List ℕ) (names : List (List ℕ)) → IsName name → AreAttributes names attributes
        → IsElement (codes "<" ++ name ++ attributes ++ codes "/>")
    tags : (name attributes content : List ℕ) (names : List (List ℕ)) → IsName name → AreAttributes names attributes
        → IsContent content
        → IsElement (codes "<" ++ name ++ attributes ++ codes ">" ++ content ++ codes "</" ++ name ++ codes ">")

  pub data IsContent : List ℕ → Type 0 where
    nothing : IsContent []
    some_text : (s rest : List ℕ) → IsText s → IsContent rest → IsContent (s ++ rest)
    child : (e rest : List ℕ) → IsElement e → IsContent rest → IsContent (e ++ rest)

-- an element and a line feed behind it (document, Misc)
abbrev pub IsDocument : List ℕ → Type 0
IsDocument s = (e : List ℕ) × IsElement e × (s ≡ e ++ codes "\n")

-- all names in a tree are names, and no element has two attributes of one name
abbrev pub attribute_names : Attributes → List (List ℕ)
attribute_names no_attributes = []
attribute_names (attribute name value rest) = name ∷ attribute_names rest

abbrev pub AreAttributeNames : List (List ℕ) → Type 0
AreAttributeNames [] = ⊤
AreAttributeNames (name ∷ names) = IsName name × All (λ other. name ≡ other → ⊥) names × AreAttributeNames names

abbrev mutual
  pub IsNamed : Node → Type 0
  IsNamed (element name attributes content) =
      IsName name × AreAttributeNames (attribute_names attributes) × AreNamed content
  IsNamed (text s) = ⊤

  pub AreNamed : Nodes → Type 0
  AreNamed no_nodes = ⊤
  AreNamed (node n ns) = IsNamed n × AreNamed ns
