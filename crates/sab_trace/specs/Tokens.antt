-- What was read of the tokens of a line.
use Rattle.std.specs.Prelude.{◌≡◌, ℕ, ◌≤◌, List, [], ◌∷◌, codes, Bool, Option, Some, None, option_map, if◌then◌else◌, ℤ}
use Rattle.json.specs.Token.{Token}
use Rattle.json.specs.Json as text
use Rattle.json.specs.Tree.{json_tokens, members_tokens, depth, members_depth}
use Rattle.serde_json.specs.Data.{Data, boolean, number, string, Members, no_members, member, put}
use Rattle.serde_json.specs.Find.{of_integer}
use Rattle.serde_json.specs.Read.{of_json, of_members}
use Rattle.sab_trace.specs.declared.found.Found.{Found}
use Rattle.sab_trace.specs.declared.numbers.Numbers.{Numbers}
use Rattle.sab_trace.specs.Deeds.{word_of}
use Rattle.sab_trace.specs.Members.{source_data}

-- the token is a value by itself, and reads as this tree
pub record ReadsTo (token : Token) (tree : Data) : Type 0 where
  pub value : text.Json
  pub one : json_tokens value ≡ token ∷ []
  pub flat : depth value ≡ 0
  pub is : of_json value ≡ Some tree

-- names of members, each with its tree if it was read
abbrev pub Slots : Type 0
Slots = List (List ℕ × Option Data)

abbrev pub whole : ℤ → Data
whole z = number (of_integer z)

-- the members of an event's object by the order of their names
abbrev pub slots_of : Found → Option (List ℕ) → Slots
slots_of found source =
    (codes "agent", option_map whole found.agent) ∷ (codes "atomic", option_map boolean found.atomic)
    ∷ (codes "block", option_map whole found.block) ∷ (codes "byte", option_map whole found.byte)
    ∷ (codes "call", option_map whole found.call)
    ∷ (codes "does", option_map (λ deed. string (word_of deed)) found.does)
    ∷ (codes "event", option_map whole found.event) ∷ (codes "read", option_map boolean found.read)
    ∷ (codes "size", option_map whole found.size)
    ∷ (codes "source", if found.has_source then Some (source_data source) else None)
    ∷ (codes "waiters", option_map boolean found.waiters) ∷ (codes "write", option_map boolean found.write) ∷ []

abbrev pub with_tree : List ℕ → Option Data → Members → Members
with_tree name None rest = rest
with_tree name (Some tree) rest = member name tree rest

-- the members that were read
abbrev pub members_of : Slots → Members
members_of [] = no_members
members_of (slot ∷ slots) = with_tree slot.0 slot.1 (members_of slots)

-- one more member was read
abbrev pub Takes : List ℕ → Token → Found → Found → Type 0
Takes name token old new = (tree : Data) × ReadsTo token tree × ((source : Option (List ℕ))
    → (source_found : Option (List ℕ)) × (put name tree (members_of (slots_of old source)) ≡ members_of (slots_of new source_found)))

-- the numbers that were read
pub record HasNumbersOf (found : Found) (numbers : Numbers) : Type 0 where
  pub agent : found.agent ≡ Some numbers.agent
  pub block : found.block ≡ Some numbers.block
  pub byte : found.byte ≡ Some numbers.byte
  pub call : found.call ≡ Some numbers.call
  pub event : found.event ≡ Some numbers.event
  pub size : found.size ≡ Some numbers.size

-- these tokens are an object's members, and read as what was found
pub record AreRead (tokens : List Token) (found : Found) : Type 0 where
  pub members : text.Members
  pub source : Option (List ℕ)
  pub tokens_are : tokens ≡ members_tokens members
  pub flat : members_depth members ≤ 0
  pub read : of_members members no_members ≡ Some (members_of (slots_of found source))
