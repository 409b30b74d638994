-- What stands below an array, and how many items it has.
use Rattle.std.proofs.Common.{◌≡◌, ℕ, zero, suc, ◌<◌, List, [], ◌∷◌, length, get_or, Some, refl, sym, ap, ◌∙◌, arith}
use Rattle.serde_json.specs.Data.{Data, array, object, Items, Members}
use Rattle.serde_json.specs.Events.{items_len}
use Rattle.serde_json.specs.Find.{get_item, get_member}
use Rattle.serde_json.specs.View.{view, items_view}
use Rattle.serde_json.specs.declared.value.Value.{Value}
use Rattle.sab_refusal.specs.declared.location.Location.{Location}
use Rattle.sab_refusal.specs.declared.location.Location.TheVariants as at
use Rattle.sab_refusal.specs.declared.member.Member.{Member}
use Rattle.sab_refusal.specs.declared.member.Member.TheVariants as M
use Rattle.sab_refusal.specs.declared.reason.Unit.{Unit as Units}
use Rattle.sab_refusal.specs.declared.reason.Unit.TheVariants as unit
use Rattle.sab_refusal.specs.Location.{member_name, member_at, item_at}
use Rattle.sab_reader.specs.Script.Places.{Stands, part_of, item_of}
use Rattle.sab_reader.specs.Script.Truth.{HasMany, IsListOf}

pub items_count : (ts : List Value) → items_len (items_view ts) ≡ length ts
items_count [] = refl
items_count (t ∷ ts) = ap (λ n. suc n) (items_count ts)

pub item_seen : (ts : List Value) (i : ℕ) (t : Value) → i < length ts → t ≡ get_or ts i t
    → get_item i (items_view ts) ≡ Some (view t)
item_seen [] i t lt e = absurd (omega arith)
item_seen (s ∷ ts) zero t lt e = ap (λ v. Some (view v)) (sym e)
item_seen (s ∷ ts) (suc i) t lt e = item_seen ts i t (omega arith) e

-- there are so many of them, where they stand in an array
pub has_many : (of : Units) (root : Data) (place : Location) (ts : List Value) → IsListOf of place
    → Stands root place (array (items_view ts)) → HasMany root place of (length ts)
has_many unit.Bytes root place ts list stands = absurd list
has_many unit.Blocks root place ts list stands = (list, (items_view ts, stands, items_count ts))
has_many unit.Views root place ts list stands = (list, (items_view ts, stands, items_count ts))
has_many unit.Agents root place ts list stands = (list, (items_view ts, stands, items_count ts))
has_many unit.Calls root place ts list stands = (list, (items_view ts, stands, items_count ts))
has_many unit.Moves root place ts list stands = (list, (items_view ts, stands, items_count ts))

-- an item of a member of the script
item_of_member : (list : Member) (root : Data) (place : Location) (ds : Items) (i : ℕ) (d : Data)
    → place ≡ at.Member list → Stands root place (array ds) → get_item i ds ≡ Some d → Stands root (item_at place i) d
item_of_member list root place ds i d e stands item =
    let there : part_of list (Some root) ≡ Some (array ds) = rw e at stands in
    rw e (ap (item_of i) there ∙ item)

-- an item of an agent's calls
item_of_calls : (a : ℕ) (root : Data) (place : Location) (ds : Items) (i : ℕ) (d : Data)
    → place ≡ at.Part M.Agents a M.Calls → Stands root place (array ds) → get_item i ds ≡ Some d
    → Stands root (item_at place i) d
item_of_calls a root place ds i d e stands item =
    let there : part_of M.Calls (item_of a (part_of M.Agents (Some root))) ≡ Some (array ds) = rw e at stands in
    rw e (ap (item_of i) there ∙ item)

pub item_of_list : (of : Units) (root : Data) (place : Location) (ds : Items) (i : ℕ) (d : Data) → IsListOf of place
    → Stands root place (array ds) → get_item i ds ≡ Some d → Stands root (item_at place i) d
item_of_list unit.Bytes root place ds i d list stands item = absurd list
item_of_list unit.Blocks root place ds i d list stands item = item_of_member M.Blocks root place ds i d list stands item
item_of_list unit.Views root place ds i d list stands item = item_of_member M.Views root place ds i d list stands item
item_of_list unit.Agents root place ds i d list stands item = item_of_member M.Agents root place ds i d list stands item
item_of_list unit.Calls root place ds i d list stands item =
    item_of_calls list.0 root place ds i d list.1 stands item
item_of_list unit.Moves root place ds i d list stands item =
    item_of_member M.Schedule root place ds i d list stands item

-- a member of an item of a member of the script
pub part_of_item : (list part : Member) (i : ℕ) (root : Data) (place : Location) (d x : Data) (ms : Members)
    → place ≡ at.Item list i → Stands root place d → d ≡ object ms → get_member (member_name part) ms ≡ Some x
    → Stands root (member_at place part) x
part_of_item list part i root place d x ms e stands is there =
    let item : item_of i (part_of list (Some root)) ≡ Some d = rw e at stands in
    rw e (ap (part_of part) (item ∙ ap Some is) ∙ there)
