-- Where in a script a value is.
use Rattle.std.specs.Prelude.{ℕ, List, ◌++◌, codes, decimal}
use Rattle.sab_refusal.specs.declared.location.Location.{Location}
use Rattle.sab_refusal.specs.declared.location.Location.TheVariants as at
use Rattle.sab_refusal.specs.declared.member.Member.{Member}
use Rattle.sab_refusal.specs.declared.member.Member.TheVariants as M

-- the table of members
abbrev pub member_name : Member → List ℕ
member_name M.Agents = codes "agents"
member_name M.Block = codes "block"
member_name M.Blocks = codes "blocks"
member_name M.Bytes = codes "bytes"
member_name M.Calls = codes "calls"
member_name M.Kind = codes "kind"
member_name M.Length = codes "length"
member_name M.Name = codes "name"
member_name M.Offset = codes "offset"
member_name M.Schedule = codes "schedule"
member_name M.Timeout = codes "timeout"
member_name M.Views = codes "views"

-- the member of the object that is there
abbrev pub member_at : Location → Member → Location
member_at at.Script m = at.Member m
member_at (at.Item list i) m = at.Part list i m
member_at location m = location

-- the item of the array that is there
abbrev pub item_at : Location → ℕ → Location
item_at (at.Member list) i = at.Item list i
item_at (at.Part list i part) j = at.Call list i part j
item_at (at.Call list i part j) k = at.Element list i part j k
item_at location i = location

-- an index in brackets
abbrev pub index_text : ℕ → List ℕ
index_text i = codes "[" ++ (decimal i ++ codes "]")

-- the text of a location, as in agents[3].calls[37][1]
abbrev pub location_text : Location → List ℕ
location_text at.Script = codes "script"
location_text (at.Member list) = member_name list
location_text (at.Item list i) = member_name list ++ index_text i
location_text (at.Part list i part) = member_name list ++ (index_text i ++ (codes "." ++ member_name part))
location_text (at.Call list i part j) =
    member_name list ++ (index_text i ++ (codes "." ++ (member_name part ++ index_text j)))
location_text (at.Element list i part j k) =
    member_name list ++ (index_text i ++ (codes "." ++ (member_name part ++ (index_text j ++ index_text k))))
