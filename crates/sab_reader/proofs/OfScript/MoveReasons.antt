-- The reasons that are given about the moves of a schedule.
use Rattle.std.proofs.Common.{◌≡◌, ℕ, [], ◌∷◌, Some, None, codes, inl, inr, refl, ap, ◌∙◌, arith}
use Rattle.serde_json.specs.Data.{Data, object, Members, member}
use Rattle.sab_refusal.specs.declared.location.Location.{Location}
use Rattle.sab_refusal.specs.declared.location.Location.TheVariants as at
use Rattle.sab_refusal.specs.declared.member.Member.TheVariants as M
use Rattle.sab_refusal.specs.declared.reason.Counted.TheVariants.{Agent}
use Rattle.sab_refusal.specs.declared.reason.Wanted.TheVariants as wanted
use Rattle.sab_refusal.specs.declared.reason.Reason.{Reason}
use Rattle.sab_reader.specs.Script.Places.{Stands, CallsFor, members_at, form_of}
use Rattle.sab_reader.specs.Script.Truth.{HasItems, IsCountedAt, IsTrueAt}
use Rattle.sab_reader.specs.Script.Known.{AreInOrder, IsFirst, LackMember, IsNumberAs}
use Rattle.sab_reader.proofs.OfScript.Unread.{none_read, one_read, member_reported, end_reported}

pub timeout_missing_reported : (root : Data) (k : ℕ) (place : Location) (d : Data) (ms : Members) (reason : Reason)
    → place ≡ at.Item M.Schedule k → Stands root place d → d ≡ object ms → AreInOrder ms
    → LackMember M.Timeout ms reason → IsTrueAt root place reason
timeout_missing_reported root k place d ms reason is stands is_object order lacks =
    member_reported root place (M.Timeout ∷ []) ms None ms M.Timeout reason (stands ∙ ap Some is_object)
    (ap (members_at (form_of root)) is) (none_read ms order) (0, omega arith, refl) tt refl lacks

pub move_end_reported : (root : Data) (k : ℕ) (place : Location) (d t : Data) (ms rest : Members) (reason : Reason)
    → place ≡ at.Item M.Schedule k → Stands root place d → d ≡ object ms → AreInOrder ms
    → ms ≡ member (codes "timeout") t rest → IsFirst rest reason → IsTrueAt root place reason
move_end_reported root k place d t ms rest reason is stands is_object order e first =
    end_reported root place (M.Timeout ∷ []) ms (codes "timeout") rest reason (stands ∙ ap Some is_object)
    (ap (members_at (form_of root)) is) (one_read ms None ms (codes "timeout") t rest e (none_read ms order)) refl first

-- what is known where the agent of a move is read
pub timeout_known : (root : Data) (k agents : ℕ) (place : Location) (d : Data) → place ≡ at.Part M.Schedule k M.Timeout
    → HasItems root (at.Member M.Agents) agents
    → CallsFor root place wanted.Whole × IsNumberAs wanted.Whole d × IsCountedAt root place Agent agents
timeout_known root k agents place d is many = (rw is refl, (λ n. n, λ n. n), ((k, inr is), many))

pub step_known : (root : Data) (k agents : ℕ) (place : Location) (d : Data) → place ≡ at.Item M.Schedule k
    → ((ms : Members) → d ≡ object ms → ⊥) → HasItems root (at.Member M.Agents) agents
    → CallsFor root place wanted.Move × IsNumberAs wanted.Move d × IsCountedAt root place Agent agents
step_known root k agents place d is none many = (
  rw is refl,
  (
    λ o. elim o [
      | inl n ↦ n
      | inr e ↦ absurd (none e.0 e.1)
    ],
    λ n. inl n,
  ),
  ((k, inl is), many),
)
