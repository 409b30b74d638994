-- The reasons that are given about the members of a script.
use Rattle.std.proofs.Common.{◌≡◌, [], ◌∷◌, List, true, false, option_map, Option, Some, None, is_some, true≢false, codes, refl, sym, ap, arith}
use Rattle.serde_json.specs.Data.{Data, object, Members, member}
use Rattle.sab_refusal.specs.declared.location.Location.TheVariants as at
use Rattle.sab_refusal.specs.declared.member.Member.{Member}
use Rattle.sab_refusal.specs.declared.member.Member.TheVariants as M
use Rattle.sab_refusal.specs.declared.reason.Reason.{Reason}
use Rattle.sab_reader.specs.declared.script.form.Form.{Form}
use Rattle.sab_reader.specs.declared.script.form.Form.TheVariants.{Bytes, Blocks}
use Rattle.sab_reader.specs.Script.Blocks.{lens_name}
use Rattle.sab_reader.specs.Script.Places.{Stands, part_of, lens_member, members_at, form_by, form_of}
use Rattle.sab_reader.specs.Script.Setup.{script_object}
use Rattle.sab_reader.specs.Script.Truth.{IsTrueAt}
use Rattle.sab_reader.specs.Script.Known.{AreInOrder, IsFirst, LackMember}
use Rattle.sab_reader.proofs.OfScript.Ordered.{order_behind}
use Rattle.sab_reader.proofs.OfScript.Unread.{Unread, none_read, one_read, member_reported, end_reported}

-- the form of a script
pub form_bytes : {T : Type 0} (f : T → Data) (o : Option T) (found : Option Data) → option_map f o ≡ found
    → is_some o ≡ true → form_by found ≡ Bytes
form_bytes f (Some x) found e is = ap form_by (sym e)
form_bytes f None found e is = absurd (true≢false (sym is))

pub form_blocks : {T : Type 0} (f : T → Data) (o : Option T) (found : Option Data) → option_map f o ≡ found
    → is_some o ≡ false → form_by found ≡ Blocks
form_blocks f (Some x) found e is = absurd (true≢false is)
form_blocks f None found e is = ap form_by (sym e)

-- what stands in its members
pub agents_stand : (form : Form) (root a l s v : Data) → root ≡ script_object form a l s v
    → Stands root (at.Member M.Agents) a
agents_stand form root a l s v e = ap (λ d. part_of M.Agents (Some d)) e

pub lens_stand : (form : Form) (root a l s v : Data) → root ≡ script_object form a l s v
    → Stands root (at.Member (lens_member form)) l
lens_stand Bytes root a l s v e = ap (λ d. part_of M.Bytes (Some d)) e
lens_stand Blocks root a l s v e = ap (λ d. part_of M.Blocks (Some d)) e

pub schedule_stands : (form : Form) (root a l s v : Data) → root ≡ script_object form a l s v
    → Stands root (at.Member M.Schedule) s
schedule_stands Bytes root a l s v e = ap (λ d. part_of M.Schedule (Some d)) e
schedule_stands Blocks root a l s v e = ap (λ d. part_of M.Schedule (Some d)) e

pub views_stand : (form : Form) (root a l s v : Data) → root ≡ script_object form a l s v
    → Stands root (at.Member M.Views) v
views_stand Bytes root a l s v e = ap (λ d. part_of M.Views (Some d)) e
views_stand Blocks root a l s v e = ap (λ d. part_of M.Views (Some d)) e

-- its members, read one after another
abbrev names_of : Form → List Member
names_of form = M.Agents ∷ lens_member form ∷ M.Schedule ∷ M.Views ∷ []

abbrev Called : Form → Data → Members → Type 0
Called form root ms = (root ≡ object ms) × (form_of root ≡ form) × AreInOrder ms

called : (form : Form) (root : Data) → form_of root ≡ form → members_at (form_of root) at.Script ≡ names_of form
called form root e = ap (λ (f : Form). members_at f at.Script) e

agents_read : (ms m1 : Members) (a : Data) → AreInOrder ms → ms ≡ member (codes "agents") a m1
    → Unread ms (Some (codes "agents")) m1
agents_read ms m1 a order e1 = one_read ms None ms (codes "agents") a m1 e1 (none_read ms order)

lens_read : (form : Form) (ms m1 m2 : Members) (a l : Data) → AreInOrder ms → ms ≡ member (codes "agents") a m1
    → m1 ≡ member (lens_name form) l m2 → Unread ms (Some (lens_name form)) m2
lens_read form ms m1 m2 a l order e1 e2 =
    one_read ms (Some (codes "agents")) m1 (lens_name form) l m2 e2 (agents_read ms m1 a order e1)

schedule_read : (form : Form) (ms m1 m2 m3 : Members) (a l s : Data) → AreInOrder ms
    → ms ≡ member (codes "agents") a m1 → m1 ≡ member (lens_name form) l m2 → m2 ≡ member (codes "schedule") s m3
    → Unread ms (Some (codes "schedule")) m3
schedule_read form ms m1 m2 m3 a l s order e1 e2 e3 =
    one_read ms (Some (lens_name form)) m2 (codes "schedule") s m3 e3 (lens_read form ms m1 m2 a l order e1 e2)

views_read : (form : Form) (ms m1 m2 m3 m4 : Members) (a l s v : Data) → AreInOrder ms
    → ms ≡ member (codes "agents") a m1 → m1 ≡ member (lens_name form) l m2 → m2 ≡ member (codes "schedule") s m3
    → m3 ≡ member (codes "views") v m4 → Unread ms (Some (codes "views")) m4
views_read form ms m1 m2 m3 m4 a l s v order e1 e2 e3 e4 =
    one_read ms (Some (codes "schedule")) m3 (codes "views") v m4 e4
    (schedule_read form ms m1 m2 m3 a l s order e1 e2 e3)

-- what is reported where one of them is missing, or isn't called for

pub agents_missing_reported : (form : Form) (root : Data) (ms : Members) (reason : Reason) → Called form root ms
    → (AreInOrder ms → LackMember M.Agents ms reason) → IsTrueAt root at.Script reason
agents_missing_reported Bytes root ms reason h lacks =
    member_reported root at.Script (names_of Bytes) ms None ms M.Agents reason (ap Some h.0) (called Bytes root h.1)
    (none_read ms h.2) (0, omega arith, refl) tt refl (lacks h.2)
agents_missing_reported Blocks root ms reason h lacks =
    member_reported root at.Script (names_of Blocks) ms None ms M.Agents reason (ap Some h.0) (called Blocks root h.1)
    (none_read ms h.2) (0, omega arith, refl) tt refl (lacks h.2)

pub lens_missing_reported : (form : Form) (root a : Data) (ms m1 : Members) (reason : Reason) → Called form root ms
    → ms ≡ member (codes "agents") a m1 → (AreInOrder m1 → LackMember (lens_member form) m1 reason)
    → IsTrueAt root at.Script reason
lens_missing_reported Bytes root a ms m1 reason h e1 lacks =
    let read = agents_read ms m1 a h.2 e1 in
    member_reported root at.Script (names_of Bytes) ms (Some (codes "agents")) m1 M.Bytes reason (ap Some h.0)
    (called Bytes root h.1) read (1, omega arith, refl) refl refl (lacks (order_behind (codes "agents") m1 read.behind))
lens_missing_reported Blocks root a ms m1 reason h e1 lacks =
    let read = agents_read ms m1 a h.2 e1 in
    member_reported root at.Script (names_of Blocks) ms (Some (codes "agents")) m1 M.Blocks reason (ap Some h.0)
    (called Blocks root h.1) read (1, omega arith, refl) refl refl (lacks (order_behind (codes "agents") m1 read.behind))

pub schedule_missing_reported : (form : Form) (root a l : Data) (ms m1 m2 : Members) (reason : Reason) → Called form root ms
    → ms ≡ member (codes "agents") a m1 → m1 ≡ member (lens_name form) l m2
    → (AreInOrder m2 → LackMember M.Schedule m2 reason) → IsTrueAt root at.Script reason
schedule_missing_reported Bytes root a l ms m1 m2 reason h e1 e2 lacks =
    let read = lens_read Bytes ms m1 m2 a l h.2 e1 e2 in
    member_reported root at.Script (names_of Bytes) ms (Some (codes "bytes")) m2 M.Schedule reason (ap Some h.0)
    (called Bytes root h.1) read (2, omega arith, refl) refl refl (lacks (order_behind (codes "bytes") m2 read.behind))
schedule_missing_reported Blocks root a l ms m1 m2 reason h e1 e2 lacks =
    let read = lens_read Blocks ms m1 m2 a l h.2 e1 e2 in
    member_reported root at.Script (names_of Blocks) ms (Some (codes "blocks")) m2 M.Schedule reason (ap Some h.0)
    (called Blocks root h.1) read (2, omega arith, refl) refl refl
    (lacks (order_behind (codes "blocks") m2 read.behind))

pub views_missing_reported : (form : Form) (root a l s : Data) (ms m1 m2 m3 : Members) (reason : Reason) → Called form root ms
    → ms ≡ member (codes "agents") a m1 → m1 ≡ member (lens_name form) l m2 → m2 ≡ member (codes "schedule") s m3
    → (AreInOrder m3 → LackMember M.Views m3 reason) → IsTrueAt root at.Script reason
views_missing_reported Bytes root a l s ms m1 m2 m3 reason h e1 e2 e3 lacks =
    let read = schedule_read Bytes ms m1 m2 m3 a l s h.2 e1 e2 e3 in
    member_reported root at.Script (names_of Bytes) ms (Some (codes "schedule")) m3 M.Views reason (ap Some h.0)
    (called Bytes root h.1) read (3, omega arith, refl) refl refl
    (lacks (order_behind (codes "schedule") m3 read.behind))
views_missing_reported Blocks root a l s ms m1 m2 m3 reason h e1 e2 e3 lacks =
    let read = schedule_read Blocks ms m1 m2 m3 a l s h.2 e1 e2 e3 in
    member_reported root at.Script (names_of Blocks) ms (Some (codes "schedule")) m3 M.Views reason (ap Some h.0)
    (called Blocks root h.1) read (3, omega arith, refl) refl refl
    (lacks (order_behind (codes "schedule") m3 read.behind))

pub script_end_reported : (form : Form) (root a l s v : Data) (ms m1 m2 m3 m4 : Members) (reason : Reason)
    → Called form root ms → ms ≡ member (codes "agents") a m1 → m1 ≡ member (lens_name form) l m2
    → m2 ≡ member (codes "schedule") s m3 → m3 ≡ member (codes "views") v m4 → IsFirst m4 reason
    → IsTrueAt root at.Script reason
script_end_reported Bytes root a l s v ms m1 m2 m3 m4 reason h e1 e2 e3 e4 first =
    end_reported root at.Script (names_of Bytes) ms (codes "views") m4 reason (ap Some h.0) (called Bytes root h.1)
    (views_read Bytes ms m1 m2 m3 m4 a l s v h.2 e1 e2 e3 e4) refl first
script_end_reported Blocks root a l s v ms m1 m2 m3 m4 reason h e1 e2 e3 e4 first =
    end_reported root at.Script (names_of Blocks) ms (codes "views") m4 reason (ap Some h.0) (called Blocks root h.1)
    (views_read Blocks ms m1 m2 m3 m4 a l s v h.2 e1 e2 e3 e4) refl first

-- the member about the blocks, by another spelling
pub lacks_lens : (form : Form) (m : Member) (ms : Members) (reason : Reason) → m ≡ lens_member form
    → (AreInOrder ms → LackMember m ms reason) → AreInOrder ms → LackMember (lens_member form) ms reason
lacks_lens form m ms reason same lacks order = rw same at (lacks order)
