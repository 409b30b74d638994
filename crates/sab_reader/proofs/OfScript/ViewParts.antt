-- The parts of a view where they stand in a script, and what is reported about them.
use Rattle.std.proofs.Common.{◌≡◌, ℕ, pos, List, length, true, Option, Some, None, Result, Ok, Err, refl, sym, ap, ◌∙◌, subst, codes, arith}
use Rattle.std.proofs.lemmas.Grind.{common_steps}
use Rattle.std.specs.Prelude.{Contains, IfErr, slice_get}
use Rattle.serde_json.specs.Data.{Data, string, object, Members, member}
use Rattle.serde_json.specs.Find.{get_member}
use Rattle.sab_block.specs.Kind.{kind_name}
use Rattle.sab_refusal.specs.declared.located.Located.{Located}
use Rattle.sab_refusal.specs.declared.location.Location.{Location}
use Rattle.sab_refusal.specs.declared.location.Location.TheVariants as at
use Rattle.sab_refusal.specs.declared.member.Member.{Member}
use Rattle.sab_refusal.specs.declared.member.Member.TheVariants as M
use Rattle.sab_refusal.specs.declared.reason.Wanted.{Wanted}
use Rattle.sab_refusal.specs.Location.{member_name, member_at}
use Rattle.sab_reader.specs.declared.script.form.Form.{Form}
use Rattle.sab_reader.specs.declared.script.form.Form.TheVariants.{Bytes, Blocks}
use Rattle.sab_reader.specs.declared.script.view_spec.ViewSpec.{ViewSpec}
use Rattle.sab_reader.specs.Script.Blocks.{with_block, IsBlockIn}
use Rattle.sab_reader.specs.Script.Numbers.{whole, whole_or_null}
use Rattle.sab_reader.specs.Script.Views.{description}
use Rattle.sab_reader.specs.Script.Places.{Stands, part_of, form_of, members_at, view_members, view_part_type, CallsFor}
use Rattle.sab_reader.specs.Script.Truth.{IsTrueAt, IsTrueOf, IsTrueWhere, HasBlockLen}
use Rattle.sab_reader.specs.Script.Known.{AreInOrder, IsFirst, LackMember, HasLens}
use Rattle.sab_reader.specs.Script.ViewPlaces.{HasBlocks, HasView, IsTrueOfView}
use Rattle.sab_reader.proofs.OfScript.Unread.{IsBehind, Unread, none_read, one_read, rest_order, none_between, none_behind, member_reported, end_reported}

-- ---- parts

pub part_stands : (root : Data) (i : ℕ) (ms : Members) (m : Member) (d : Data) → Stands root (at.Item M.Views i) (object ms)
    → get_member (member_name m) ms ≡ Some d → Stands root (at.Part M.Views i m) d
part_stands root i ms m d stands g = ap (part_of m) stands ∙ g

part_place : (place part : Location) (i : ℕ) (m : Member) → part ≡ member_at place m → place ≡ at.Item M.Views i
    → part ≡ at.Part M.Views i m
part_place place part i m e is = e ∙ ap (λ l. member_at l m) is

-- what is reported about a part is true of each script that has the view
pub reported_of_part : (place part : Location) (m : Member) (ms : Members) (d : Data) (e : Located)
    (Known PartKnown : Data → Type 0)
    → part ≡ member_at place m → get_member (member_name m) ms ≡ Some d
    → ((root : Data) (i : ℕ) → part ≡ at.Part M.Views i m → Known root → PartKnown root)
    → IsTrueWhere part d PartKnown e → IsTrueOfView place ms Known e
reported_of_part place part m ms d e Known PartKnown part_is there known_of reported = grind (arith, common_steps)

-- the members of a view that is described
pub kind_there : (form : Form) (block : ℕ) (rest : Members) (k l n o : Data) → rest ≡ description k l n o
    → get_member (codes "kind") (with_block form block rest) ≡ Some k
kind_there Bytes block rest k l n o e = rw e refl
kind_there Blocks block rest k l n o e = rw e refl

pub length_there : (form : Form) (block : ℕ) (rest : Members) (k l n o : Data) → rest ≡ description k l n o
    → get_member (codes "length") (with_block form block rest) ≡ Some l
length_there Bytes block rest k l n o e = rw e refl
length_there Blocks block rest k l n o e = rw e refl

pub name_there : (form : Form) (block : ℕ) (rest : Members) (k l n o : Data) → rest ≡ description k l n o
    → get_member (codes "name") (with_block form block rest) ≡ Some n
name_there Bytes block rest k l n o e = rw e refl
name_there Blocks block rest k l n o e = rw e refl

pub offset_there : (form : Form) (block : ℕ) (rest : Members) (k l n o : Data) → rest ≡ description k l n o
    → get_member (codes "offset") (with_block form block rest) ≡ Some o
offset_there Bytes block rest k l n o e = rw e refl
offset_there Blocks block rest k l n o e = rw e refl

-- ---- members that are missing or surplus

member_of_view : (form : Form) (place : Location) (ms : Members) (last : Option (List ℕ)) (rest : Members) (m : Member)
    (e : Located)
    → e.at ≡ place → (AreInOrder rest → LackMember m rest e.why) → (AreInOrder ms → Unread ms last rest)
    → Contains (view_members form) m → IsBehind last (member_name m)
    → none_between last (member_name m) (view_members form) ≡ true
    → IsTrueOfView place ms (λ root. form_of root ≡ form) e
member_of_view form place ms last rest m e at_is lacks unread_of here behind none = λ order root stands known.
    let unread = unread_of order in
    let called : members_at (form_of root) place ≡ view_members form =
    ap (λ l. members_at (form_of root) l) known.0.1 ∙ ap view_members known.1 in
    let reported = member_reported root place (view_members form) ms last rest m e.why stands called unread here behind none
    (lacks (rest_order ms last rest unread)) in
    subst (λ l. IsTrueAt root l e.why) (sym at_is) reported

-- where the block that is called for doesn't come first
pub block_reported : (place : Location) (ms : Members) (e : Located) → e.at ≡ place
    → (AreInOrder ms → LackMember M.Block ms e.why) → IsTrueOfView place ms (λ root. form_of root ≡ Blocks) e
block_reported place ms e at_is lacks =
    member_of_view Blocks place ms None ms M.Block e at_is lacks (none_read ms) (0, omega arith, refl) tt refl

-- the last member that is read before the description
abbrev pub block_read : Form → Option (List ℕ)
block_read Bytes = None
block_read Blocks = Some (codes "block")

description_unread : (form : Form) (block : ℕ) (m0 : Members) → AreInOrder (with_block form block m0)
    → Unread (with_block form block m0) (block_read form) m0
description_unread Bytes block m0 order = none_read m0 order
description_unread Blocks block m0 order =
    let ms = with_block Blocks block m0 in
    one_read ms None ms (codes "block") (whole (pos block)) m0 refl (none_read ms order)

kind_read : (form : Form) (block : ℕ) (m0 m1 : Members) (k : Data) → m0 ≡ member (codes "kind") k m1
    → AreInOrder (with_block form block m0) → Unread (with_block form block m0) (Some (codes "kind")) m1
kind_read form block m0 m1 k e1 order =
    one_read (with_block form block m0) (block_read form) m0 (codes "kind") k m1 e1
    (description_unread form block m0 order)

length_read : (form : Form) (block : ℕ) (m0 m1 m2 : Members) (k l : Data) → m0 ≡ member (codes "kind") k m1
    → m1 ≡ member (codes "length") l m2
    → AreInOrder (with_block form block m0) → Unread (with_block form block m0) (Some (codes "length")) m2
length_read form block m0 m1 m2 k l e1 e2 order =
    one_read (with_block form block m0) (Some (codes "kind")) m1 (codes "length") l m2 e2
    (kind_read form block m0 m1 k e1 order)

name_read : (form : Form) (block : ℕ) (m0 m1 m2 m3 : Members) (k l n : Data) → m0 ≡ member (codes "kind") k m1
    → m1 ≡ member (codes "length") l m2 → m2 ≡ member (codes "name") n m3
    → AreInOrder (with_block form block m0) → Unread (with_block form block m0) (Some (codes "name")) m3
name_read form block m0 m1 m2 m3 k l n e1 e2 e3 order =
    one_read (with_block form block m0) (Some (codes "length")) m2 (codes "name") n m3 e3
    (length_read form block m0 m1 m2 k l e1 e2 order)

offset_read : (form : Form) (block : ℕ) (m0 m1 m2 m3 m4 : Members) (k l n o : Data) → m0 ≡ member (codes "kind") k m1
    → m1 ≡ member (codes "length") l m2 → m2 ≡ member (codes "name") n m3 → m3 ≡ member (codes "offset") o m4
    → AreInOrder (with_block form block m0) → Unread (with_block form block m0) (Some (codes "offset")) m4
offset_read form block m0 m1 m2 m3 m4 k l n o e1 e2 e3 e4 order =
    one_read (with_block form block m0) (Some (codes "name")) m3 (codes "offset") o m4 e4
    (name_read form block m0 m1 m2 m3 k l n e1 e2 e3 order)

pub kind_reported : (form : Form) (block : ℕ) (place : Location) (m0 : Members) (e : Located) → e.at ≡ place
    → (AreInOrder m0 → LackMember M.Kind m0 e.why)
    → IsTrueOfView place (with_block form block m0) (λ root. form_of root ≡ form) e
kind_reported Bytes block place m0 e at_is lacks =
    member_of_view Bytes place m0 None m0 M.Kind e at_is lacks (description_unread Bytes block m0)
    (0, omega arith, refl) tt refl
kind_reported Blocks block place m0 e at_is lacks =
    member_of_view Blocks place (with_block Blocks block m0) (Some (codes "block")) m0 M.Kind e at_is lacks
    (description_unread Blocks block m0) (1, omega arith, refl) refl refl

length_called : (form : Form) → Contains (view_members form) M.Length
    × (none_between (Some (codes "kind")) (codes "length") (view_members form) ≡ true)
length_called Bytes = ((1, omega arith, refl), refl)
length_called Blocks = ((2, omega arith, refl), refl)

name_called : (form : Form) → Contains (view_members form) M.Name
    × (none_between (Some (codes "length")) (codes "name") (view_members form) ≡ true)
name_called Bytes = ((2, omega arith, refl), refl)
name_called Blocks = ((3, omega arith, refl), refl)

offset_called : (form : Form) → Contains (view_members form) M.Offset
    × (none_between (Some (codes "name")) (codes "offset") (view_members form) ≡ true)
offset_called Bytes = ((3, omega arith, refl), refl)
offset_called Blocks = ((4, omega arith, refl), refl)

all_called : (form : Form) → none_behind (codes "offset") (view_members form) ≡ true
all_called Bytes = refl
all_called Blocks = refl

pub length_reported : (form : Form) (block : ℕ) (place : Location) (m0 m1 : Members) (k : Data) (e : Located)
    → m0 ≡ member (codes "kind") k m1 → e.at ≡ place → (AreInOrder m1 → LackMember M.Length m1 e.why)
    → IsTrueOfView place (with_block form block m0) (λ root. form_of root ≡ form) e
length_reported form block place m0 m1 k e e1 at_is lacks =
    member_of_view form place (with_block form block m0) (Some (codes "kind")) m1 M.Length e at_is lacks
    (kind_read form block m0 m1 k e1) (length_called form).0 refl (length_called form).1

pub name_reported : (form : Form) (block : ℕ) (place : Location) (m0 m1 m2 : Members) (k l : Data) (e : Located)
    → m0 ≡ member (codes "kind") k m1 → m1 ≡ member (codes "length") l m2 → e.at ≡ place
    → (AreInOrder m2 → LackMember M.Name m2 e.why)
    → IsTrueOfView place (with_block form block m0) (λ root. form_of root ≡ form) e
name_reported form block place m0 m1 m2 k l e e1 e2 at_is lacks =
    member_of_view form place (with_block form block m0) (Some (codes "length")) m2 M.Name e at_is lacks
    (length_read form block m0 m1 m2 k l e1 e2) (name_called form).0 refl (name_called form).1

pub offset_reported : (form : Form) (block : ℕ) (place : Location) (m0 m1 m2 m3 : Members) (k l n : Data) (e : Located)
    → m0 ≡ member (codes "kind") k m1 → m1 ≡ member (codes "length") l m2 → m2 ≡ member (codes "name") n m3
    → e.at ≡ place → (AreInOrder m3 → LackMember M.Offset m3 e.why)
    → IsTrueOfView place (with_block form block m0) (λ root. form_of root ≡ form) e
offset_reported form block place m0 m1 m2 m3 k l n e e1 e2 e3 at_is lacks =
    member_of_view form place (with_block form block m0) (Some (codes "name")) m3 M.Offset e at_is lacks
    (name_read form block m0 m1 m2 m3 k l n e1 e2 e3) (offset_called form).0 refl (offset_called form).1

pub further_reported : (form : Form) (block : ℕ) (place : Location) (m0 m1 m2 m3 m4 : Members) (k l n o : Data) (e : Located)
    → m0 ≡ member (codes "kind") k m1 → m1 ≡ member (codes "length") l m2 → m2 ≡ member (codes "name") n m3
    → m3 ≡ member (codes "offset") o m4 → e.at ≡ place → IsFirst m4 e.why
    → IsTrueOfView place (with_block form block m0) (λ root. form_of root ≡ form) e
further_reported form block place m0 m1 m2 m3 m4 k l n o e e1 e2 e3 e4 at_is first = λ order root stands known.
    let ms = with_block form block m0 in
    let unread = offset_read form block m0 m1 m2 m3 m4 k l n o e1 e2 e3 e4 order in
    let called : members_at (form_of root) place ≡ view_members form =
    ap (λ l. members_at (form_of root) l) known.0.1 ∙ ap view_members known.1 in
    let reported = end_reported root place (view_members form) ms (codes "offset") m4 e.why stands called unread
    (all_called form) first in
    subst (λ l. IsTrueAt root l e.why) (sym at_is) reported

-- ---- the view and its block

pub form_from : (root : Data) (form : Form) (lens : List ℕ) → HasLens root form lens → form_of root ≡ form
form_from root Bytes lens h = h.0
form_from root Blocks lens h = h.0

len_there : (root : Data) (form : Form) (lens : List ℕ) (i block len : ℕ) (rest : Members) → HasLens root form lens
    → IsBlockIn form block → slice_get lens block ≡ Some len
    → Stands root (at.Item M.Views i) (object (with_block form block rest)) → HasBlockLen form root i len
len_there root Bytes lens i block len rest h has g stands = grind (arith, common_steps, slice_get, whole, pos)
len_there root Blocks lens i block len rest h has g stands =
    (block, part_stands root i (with_block Blocks block rest) M.Block (whole (pos block)) stands refl, h.2 block len g)

pub has_view : (root : Data) (form : Form) (lens : List ℕ) (i block len : ℕ) (rest : Members) (name : List ℕ)
    (v : ViewSpec)
    → HasLens root form lens → IsBlockIn form block → slice_get lens block ≡ Some len
    → Stands root (at.Item M.Views i) (object (with_block form block rest))
    → rest ≡ description (string (kind_name v.kind)) (whole_or_null v.length) (string name) (whole v.offset)
    → HasView root i len v
has_view root form lens i block len rest name v h has g stands e = grind (
  arith,
  common_steps,
  part_stands,
  kind_there,
  length,
  length_there,
  offset_there,
  form_from,
  len_there,
)

-- what is reported about a view that doesn't fit its block
pub misfit_reported : (place : Location) (form : Form) (lens : List ℕ) (block len : ℕ) (rest : Members) (name : List ℕ)
    (v : ViewSpec) (e : Located)
    → IsBlockIn form block → slice_get lens block ≡ Some len
    → rest ≡ description (string (kind_name v.kind)) (whole_or_null v.length) (string name) (whole v.offset)
    → ((root : Data) (i n : ℕ) → place ≡ at.Item M.Views i → slice_get lens block ≡ Some n → HasView root i n v
    → IsTrueOf root e)
    → IsTrueOfView place (with_block form block rest) (λ root. HasLens root form lens) e
misfit_reported place form lens block len rest name v e has g is reported = λ order root stands known.
    let here = subst (λ l. Stands root l (object (with_block form block rest))) known.0.1 stands in
    reported root known.0.0 len known.0.1 g (has_view root form lens known.0.0 block len rest name v known.1 has g here is)

-- what is reported about a description, behind the block
abbrev pub IsDescriptionReported : Location → List ℕ → ℕ → Members → Located → Type 0
IsDescriptionReported place lens block rest e =
    (form : Form) → IsBlockIn form block → IsTrueOfView place (with_block form block rest) (λ root. HasLens root form lens) e

-- ---- the tree of a view

pub blocks_from : (root : Data) (form : Form) (lens : List ℕ) → HasLens root form lens → HasBlocks root form (length lens)
blocks_from root Bytes lens h = h.0
blocks_from root Blocks lens h = (h.0, h.1)

pub block_missing : (form : Form) (count : ℕ) (place : Location) (ms : Members) (e : Located) → form ≡ Blocks
    → e.at ≡ place → (AreInOrder ms → LackMember M.Block ms e.why)
    → IsTrueOfView place ms (λ root. HasBlocks root form count) e
block_missing Bytes count place ms e is at_is lacks = absurd cc
block_missing Blocks count place ms e is at_is lacks = λ order root stands known.
    block_reported place ms e at_is lacks order root stands (known.0, known.1.0)

-- a value of its type is called for where a part of a view stands
pub part_calls : (root : Data) (part : Location) (i : ℕ) (m : Member) (w : Wanted) → part ≡ at.Part M.Views i m
    → view_part_type m ≡ Some w → CallsFor root part w
part_calls root part i m w is e = subst (λ l. CallsFor root l w) (sym is) e

abbrev pub IsViewReported : Location → Data → (Data → Type 0) → Located → Type 0
IsViewReported place d Known e =
    IsTrueWhere place d (λ root. ((i : ℕ) × (place ≡ at.Item M.Views i)) × Known root) e

pub reported_of_view : (place : Location) (d : Data) (ms : Members) (e : Located) (Known Given : Data → Type 0)
    → d ≡ object ms → AreInOrder ms → ((root : Data) → Given root → Known root) → IsTrueOfView place ms Known e
    → IsViewReported place d Given e
reported_of_view place d ms e Known Given is order known_from reported = λ root stands given.
    reported order root (subst (λ x. Stands root place x) is stands) (given.0, known_from root given.1)

pub if_err_more : {X : Type 0} (P Q : Located → Type 0) (r : Result X Located) → ((e : Located) → P e → Q e)
    → IfErr r P → IfErr r Q
if_err_more P Q (Ok x) more h = tt
if_err_more P Q (Err e) more h = more e h
