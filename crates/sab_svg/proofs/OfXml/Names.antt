-- Names that a test finds to be names: it computes where they are given as they are.
use Rattle.std.proofs.Common.{◌≡◌, ℕ, Bool, true, false, List, [], ◌∷◌, refl, arith}
use Rattle.std.specs.Prelude.{IsTrue, All, not, nat_eq, ◌&&◌}
use Rattle.std.specs.List.{list_all}
use Rattle.std.specs.Char.{is_ascii_alphabetic}
use Rattle.std.specs.Cmp.Lexicographic.{pointwise, other_text}
use Rattle.std.proofs.lemmas.List.Elements.{All-nil, All-cons}
use Rattle.sab_svg.specs.Xml.Xml.{Node, element, text, Nodes, no_nodes, node}
use Rattle.sab_svg.specs.Xml.WellFormed.{is_name_char, IsName, attribute_names, AreAttributeNames, IsNamed, AreNamed}

both : (a b : Bool) → (a && b) ≡ true → IsTrue a × IsTrue b
both true b h = (refl, h)
both false b h = grind arith

all_tested : {X : Type 0} (p : X → Bool) (P : X → Type 0) → ((x : X) → p x ≡ true → P x) → (xs : List X)
    → list_all p xs ≡ true → All P xs
all_tested p P implied [] h = All-nil P
all_tested p P implied (x ∷ xs) h =
    let t = both (p x) (list_all p xs) h in
    All-cons P x xs (implied x t.0) (all_tested p P implied xs t.1)

-- ---- one name

abbrev pub is_name : List ℕ → Bool
is_name [] = false
is_name (c ∷ cs) = is_ascii_alphabetic c && list_all is_name_char cs

pub name_tested : (s : List ℕ) → is_name s ≡ true → IsName s
name_tested [] h = grind arith
name_tested (c ∷ cs) h =
    let t = both (is_ascii_alphabetic c) (list_all is_name_char cs) h in
    (t.0, all_tested is_name_char (λ d. IsTrue (is_name_char d)) (λ d g. g) cs t.1)

-- ---- names of attributes

abbrev is_other : List ℕ → List ℕ → Bool
is_other name other = not (pointwise nat_eq name other)

other_tested : (name other : List ℕ) → is_other name other ≡ true → name ≡ other → ⊥
other_tested name other h = other_text name other (grind (arith, h))

-- names, each of which stands once
abbrev pub are_attribute_names : List (List ℕ) → Bool
are_attribute_names [] = true
are_attribute_names (name ∷ names) = is_name name && list_all (is_other name) names && are_attribute_names names

pub attribute_names_tested : (names : List (List ℕ)) → are_attribute_names names ≡ true → AreAttributeNames names
attribute_names_tested [] h = tt
attribute_names_tested (name ∷ names) h =
    let t = both (is_name name && list_all (is_other name) names) (are_attribute_names names) h in
    let u = both (is_name name) (list_all (is_other name) names) t.0 in (
      name_tested name u.0,
      all_tested (is_other name) (λ other. name ≡ other → ⊥) (other_tested name) names u.1,
      attribute_names_tested names t.1,
    )

-- ---- trees

abbrev mutual
  pub is_named : Node → Bool
  is_named (element name attributes content) =
      is_name name && are_attribute_names (attribute_names attributes) && are_named content
  is_named (text s) = true

  pub are_named : Nodes → Bool
  are_named no_nodes = true
  are_named (node n ns) = is_named n && are_named ns

mutual
  pub node_tested : (n : Node) → is_named n ≡ true → IsNamed n
  node_tested (element name attributes content) h =
      let own = is_name name && are_attribute_names (attribute_names attributes) in
      let t = both own (are_named content) h in
      let u = both (is_name name) (are_attribute_names (attribute_names attributes)) t.0 in
      (name_tested name u.0, attribute_names_tested (attribute_names attributes) u.1, nodes_tested content t.1)
  node_tested (text s) h = tt

  pub nodes_tested : (ns : Nodes) → are_named ns ≡ true → AreNamed ns
  nodes_tested no_nodes h = tt
  nodes_tested (node n ns) h =
      let t = both (is_named n) (are_named ns) h in
      (node_tested n t.0, nodes_tested ns t.1)
