-- The members of an event's object.
use Rattle.std.specs.Prelude.{◌≡◌, ℕ, List, codes, Bool, Option, Some, None}
use Rattle.serde_json.specs.Data.{Data, Num, null, boolean, number, string, object, Members, no_members, member}
use Rattle.sab_trace.specs.declared.deed.Deed.{Deed}
use Rattle.sab_trace.specs.declared.flags.Flags.{Flags}
use Rattle.sab_trace.specs.Deeds.{word_of, CanHave}

-- a place in the code, if one is given
abbrev pub source_data : Option (List ℕ) → Data
source_data None = null
source_data (Some text) = string text

-- the members by the order of their names: the first four, then four more, then the last four
abbrev pub agent_to_byte : Num → Bool → Num → Num → Members → Members
agent_to_byte agent atomic block byte rest =
    member (codes "agent") (number agent) (member (codes "atomic") (boolean atomic)
    (member (codes "block") (number block) (member (codes "byte") (number byte) rest)))

abbrev pub call_to_read : Num → Deed → Num → Bool → Members → Members
call_to_read call does event read rest =
    member (codes "call") (number call) (member (codes "does") (string (word_of does))
    (member (codes "event") (number event) (member (codes "read") (boolean read) rest)))

abbrev pub size_to_write : Num → Option (List ℕ) → Bool → Bool → Members
size_to_write size source waiters write =
    member (codes "size") (number size) (member (codes "source") (source_data source)
    (member (codes "waiters") (boolean waiters) (member (codes "write") (boolean write) no_members)))

-- what the members say, except the source
pub record Values : Type 0 where
  pub does : Deed
  pub flags : Flags
  pub agent : Num
  pub block : Num
  pub byte : Num
  pub call : Num
  pub event : Num
  pub size : Num

-- the object of these values, with a source
abbrev pub event_object : Values → Option (List ℕ) → Data
event_object v source =
    object (agent_to_byte v.agent v.flags.atomic v.block v.byte (call_to_read v.call v.does v.event v.flags.read
    (size_to_write v.size source v.flags.waiters v.flags.write)))

-- the tree is an object with exactly the members of an event, each of its type
pub record HasMembers (tree : Data) (values : Values) : Type 0 where
  pub source : Option (List ℕ)
  pub is : tree ≡ event_object values source

-- and its flags are ones that such an event can have
pub record IsShaped (tree : Data) (values : Values) : Type 0 where
  pub members : HasMembers tree values
  pub can : CanHave values.does values.flags
