-- The reasons that are given about the members of agents.
use Rattle.std.proofs.Common.{◌≡◌, ℕ, [], ◌∷◌, Some, None, codes, refl, ap, ◌∙◌, arith}
use Rattle.serde_json.specs.Data.{Data, object, Members, member}
use Rattle.sab_refusal.specs.declared.location.Location.{Location}
use Rattle.sab_refusal.specs.declared.location.Location.TheVariants as at
use Rattle.sab_refusal.specs.declared.member.Member.TheVariants as M
use Rattle.sab_refusal.specs.declared.reason.Reason.{Reason}
use Rattle.sab_reader.specs.Script.Places.{Stands, members_at, form_of}
use Rattle.sab_reader.specs.Script.Truth.{IsTrueAt}
use Rattle.sab_reader.specs.Script.Known.{AreInOrder, IsFirst, LackMember}
use Rattle.sab_reader.proofs.OfScript.Unread.{Unread, none_read, one_read, member_reported, end_reported}
use Rattle.sab_reader.proofs.OfScript.Ordered.{order_behind}

block_read : (ms rest : Members) (block : Data) → AreInOrder ms → ms ≡ member (codes "block") block rest
    → Unread ms (Some (codes "block")) rest
block_read ms rest block order e = one_read ms None ms (codes "block") block rest e (none_read ms order)

pub block_missing_reported : (root : Data) (i : ℕ) (place : Location) (d : Data) (ms : Members) (reason : Reason)
    → place ≡ at.Item M.Agents i → Stands root place d → d ≡ object ms → AreInOrder ms
    → LackMember M.Block ms reason → IsTrueAt root place reason
block_missing_reported root i place d ms reason is stands is_object order lacks =
    member_reported root place (M.Block ∷ M.Calls ∷ []) ms None ms M.Block reason (stands ∙ ap Some is_object)
    (ap (members_at (form_of root)) is) (none_read ms order) (0, omega arith, refl) tt refl lacks

pub calls_missing_reported : (root : Data) (i : ℕ) (place : Location) (d block : Data) (ms rest : Members) (reason : Reason)
    → place ≡ at.Item M.Agents i → Stands root place d → d ≡ object ms → AreInOrder ms
    → ms ≡ member (codes "block") block rest → (AreInOrder rest → LackMember M.Calls rest reason)
    → IsTrueAt root place reason
calls_missing_reported root i place d block ms rest reason is stands is_object order e lacks =
    let read = block_read ms rest block order e in
    member_reported root place (M.Block ∷ M.Calls ∷ []) ms (Some (codes "block")) rest M.Calls reason
    (stands ∙ ap Some is_object) (ap (members_at (form_of root)) is) read (1, omega arith, refl) refl refl
    (lacks (order_behind (codes "block") rest read.behind))

pub agent_end_reported : (root : Data) (i : ℕ) (place : Location) (d block calls : Data) (ms m1 m2 : Members) (reason : Reason)
    → place ≡ at.Item M.Agents i → Stands root place d → d ≡ object ms → AreInOrder ms
    → ms ≡ member (codes "block") block m1 → m1 ≡ member (codes "calls") calls m2 → IsFirst m2 reason
    → IsTrueAt root place reason
agent_end_reported root i place d block calls ms m1 m2 reason is stands is_object order e1 e2 first =
    end_reported root place (M.Block ∷ M.Calls ∷ []) ms (codes "calls") m2 reason (stands ∙ ap Some is_object)
    (ap (members_at (form_of root)) is)
    (one_read ms (Some (codes "block")) m1 (codes "calls") calls m2 e2 (block_read ms m1 block order e1)) refl first
