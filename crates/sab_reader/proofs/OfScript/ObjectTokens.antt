-- Objects of a script, by what the tokens of their parts hold.
use Rattle.std.proofs.Common.{◌≡◌, ℕ, suc, ◌≤◌, List, [], ◌∷◌, map, Some, codes, refl, ap, subst}
use Rattle.std.specs.Prelude.{IsTrue, is_some}
use Rattle.json.specs.Token.{Token}
use Rattle.json.specs.Json as text
use Rattle.json.specs.Tree.{depth}
use Rattle.json.specs.Find.{BeginsWith}
use Rattle.serde_json.specs.Data.{Data, object, member, no_members}
use Rattle.serde_json.specs.Read.{of_json}
use Rattle.sab_plan.specs.declared.plan_view.PlanView.{PlanView}
use Rattle.sab_refusal.specs.Location.{member_name}
use Rattle.sab_reader.specs.declared.script.form.Form.{Form}
use Rattle.sab_reader.specs.declared.script.form.Form.TheVariants.{Bytes, Blocks}
use Rattle.sab_reader.specs.declared.script.view_spec.ViewSpec.{ViewSpec}
use Rattle.sab_reader.specs.Script.Agents.{agent_object}
use Rattle.sab_reader.specs.Script.Blocks.{lens_name}
use Rattle.sab_reader.specs.Script.Places.{view_members}
use Rattle.sab_reader.specs.Script.Plain.{HoldsTree, AreNamed, IsObjectOf, HoldsBlock, HoldsDescription, agent_members, description_members, script_members}
use Rattle.sab_reader.specs.Script.Setup.{script_object}
use Rattle.sab_reader.specs.Script.Views.{SpellsView, IsDescribed, count_on, description}
use Rattle.sab_reader.proofs.OfScript.AnyOrder.{Before, object_read, before}

-- the value reads as this tree, and nests so deep at most
abbrev pub ReadsSo : ℕ → text.Json → Data → Type 0
ReadsSo n j d = (of_json j ≡ Some d) × (depth j ≤ n)

pub time_up_read : (n : ℕ) (j t : text.Json) (d : Data) → IsObjectOf ((codes "timeout", t) ∷ []) j → ReadsSo n t d
    → ReadsSo (suc n) j (object (member (codes "timeout") d no_members))
time_up_read n j t d is read =
    object_read n ((codes "timeout", t) ∷ []) ((codes "timeout", d) ∷ []) j (tt, tt) is (refl, read, tt)

pub agent_read : (n : ℕ) (j b c : text.Json) (db dc : Data) → IsObjectOf (agent_members b c) j → ReadsSo n b db
    → ReadsSo n c dc → ReadsSo (suc n) j (agent_object db dc)
agent_read n j b c db dc is rb rc =
    object_read n (agent_members b c) ((codes "block", db) ∷ (codes "calls", dc) ∷ []) j
    ((before (codes "block") (codes "calls") refl refl, tt), (tt, tt)) is (refl, rb, (refl, rc, tt))

-- a view: its block, if the form has one, comes first

description_read : (n : ℕ) (j k l m o : text.Json) (dk dl dm df : Data) → IsObjectOf (description_members k l m o) j
    → ReadsSo n k dk → ReadsSo n l dl → ReadsSo n m dm → ReadsSo n o df
    → ReadsSo (suc n) j (object (description dk dl dm df))
description_read n j k l m o dk dl dm df is rk rl rm ro =
    let kind = codes "kind" in
    let long = codes "length" in
    let name = codes "name" in
    let offset = codes "offset" in
    object_read n (description_members k l m o) ((kind, dk) ∷ (long, dl) ∷ (name, dm) ∷ (offset, df) ∷ []) j
    ((before kind long refl refl, (before kind name refl refl, (before kind offset refl refl, tt))), ((before long name refl refl, (before long offset refl refl, tt)), ((before name offset refl refl, tt), (tt, tt))))
    is (refl, rk, (refl, rl, (refl, rm, (refl, ro, tt))))

view_read : (n : ℕ) (j b k l m o : text.Json) (db dk dl dm df : Data)
    → IsObjectOf ((codes "block", b) ∷ description_members k l m o) j
    → ReadsSo n b db → ReadsSo n k dk → ReadsSo n l dl → ReadsSo n m dm → ReadsSo n o df
    → ReadsSo (suc n) j (object (member (codes "block") db (description dk dl dm df)))
view_read n j b k l m o db dk dl dm df is rb rk rl rm ro =
    let block = codes "block" in
    let kind = codes "kind" in
    let long = codes "length" in
    let name = codes "name" in
    let offset = codes "offset" in
    object_read n ((block, b) ∷ description_members k l m o)
    ((block, db) ∷ (kind, dk) ∷ (long, dl) ∷ (name, dm) ∷ (offset, df) ∷ []) j
    ((before block kind refl refl, (before block long refl refl, (before block name refl refl, (before block offset refl refl, tt)))), ((before kind long refl refl, (before kind name refl refl, (before kind offset refl refl, tt))), ((before long name refl refl, (before long offset refl refl, tt)), ((before name offset refl refl, tt), (tt, tt)))))
    is (refl, rb, (refl, rk, (refl, rl, (refl, rm, (refl, ro, tt)))))

view_made : (lens : List ℕ) (v : ViewSpec) (p : PlanView) → IsDescribed lens v p → IsTrue (is_some (count_on lens v))
view_made lens v p h = rw (h.there, h.counted) refl

-- the value that the tokens begin with is an object, each member of which has one of these names
abbrev pub IsNamedObject : List (List ℕ) → List Token → Type 0
IsNamedObject names ts =
    (j : text.Json) → BeginsWith ts j → (ms : text.Members) × (j ≡ text.object ms) × AreNamed names ms

pub view_reported : (form : Form) (lens : List ℕ) (ts : List Token) (v : List ℕ × ViewSpec) (w : PlanView)
    → IsNamedObject (map member_name (view_members form)) ts → HoldsBlock form ts v.1.block → HoldsDescription ts v
    → IsDescribed lens v.1 w → HoldsTree 1 (λ d. SpellsView form lens d v) ts
view_reported Bytes lens ts v w named block reported made = λ j begins.
    let o = named j begins in
    let is_object = subst (BeginsWith ts) o.1 begins in
    let kind = reported.kind o.0 is_object in
    let long = reported.length o.0 is_object in
    let name = reported.name o.0 is_object in
    let offset = reported.offset o.0 is_object in
    let rest = description kind.2.0 long.2.0 name.2.0 offset.2.0 in (
      object rest,
      description_read 0 j kind.0 long.0 name.0 offset.0 kind.2.0 long.2.0 name.2.0 offset.2.0
          (o.0, o.1, o.2, (kind.1, (long.1, (name.1, (offset.1, tt))))) kind.2.1 long.2.1 name.2.1 offset.2.1,
      record {
        rest = rest;
        tree = refl;
        block = block;
        description = record {
          members = λ i. description (kind.2.2 i) (long.2.2.0 i) (name.2.2 i) (offset.2.2.0 i);
          name = reported.is_name;
          length = long.2.2.1;
          offset = offset.2.2.1;
          made = view_made lens v.1 w made;
        };
      },
    )
view_reported Blocks lens ts v w named reported_block reported made = λ j begins.
    let o = named j begins in
    let is_object = subst (BeginsWith ts) o.1 begins in
    let block = reported_block o.0 is_object in
    let kind = reported.kind o.0 is_object in
    let long = reported.length o.0 is_object in
    let name = reported.name o.0 is_object in
    let offset = reported.offset o.0 is_object in
    let rest = description kind.2.0 long.2.0 name.2.0 offset.2.0 in (
      object (member (codes "block") block.2.0 rest),
      view_read 0 j block.0 kind.0 long.0 name.0 offset.0 block.2.0 kind.2.0 long.2.0 name.2.0 offset.2.0
          (o.0, o.1, o.2, (block.1, (kind.1, (long.1, (name.1, (offset.1, tt)))))) block.2.1 kind.2.1 long.2.1
          name.2.1 offset.2.1,
      record {
        rest = rest;
        tree = ap (λ d. object (member (codes "block") d rest)) block.2.2;
        block = tt;
        description = record {
          members = λ i. description (kind.2.2 i) (long.2.2.0 i) (name.2.2 i) (offset.2.2.0 i);
          name = reported.is_name;
          length = long.2.2.1;
          offset = offset.2.2.1;
          made = view_made lens v.1 w made;
        };
      },
    )

-- a script: the member about its blocks comes second, in either form

agents_first : (form : Form) → Before (codes "agents") (lens_name form)
agents_first Bytes = before (codes "agents") (codes "bytes") refl refl
agents_first Blocks = before (codes "agents") (codes "blocks") refl refl

lens_then_schedule : (form : Form) → Before (lens_name form) (codes "schedule")
lens_then_schedule Bytes = before (codes "bytes") (codes "schedule") refl refl
lens_then_schedule Blocks = before (codes "blocks") (codes "schedule") refl refl

lens_then_views : (form : Form) → Before (lens_name form) (codes "views")
lens_then_views Bytes = before (codes "bytes") (codes "views") refl refl
lens_then_views Blocks = before (codes "blocks") (codes "views") refl refl

pub script_read : (form : Form) (n : ℕ) (j a l s v : text.Json) (da dl ds dv : Data)
    → IsObjectOf (script_members form a l s v) j
    → ReadsSo n a da → ReadsSo n l dl → ReadsSo n s ds → ReadsSo n v dv
    → ReadsSo (suc n) j (script_object form da dl ds dv)
script_read form n j a l s v da dl ds dv is ra rl rs rv =
    let agents = codes "agents" in
    let schedule = codes "schedule" in
    let views = codes "views" in
    object_read n (script_members form a l s v) ((agents, da) ∷ (lens_name form, dl) ∷ (schedule, ds) ∷ (views, dv) ∷ []) j
    ((agents_first form, (before agents schedule refl refl, (before agents views refl refl, tt))), ((lens_then_schedule form, (lens_then_views form, tt)), ((before schedule views refl refl, tt), (tt, tt))))
    is (refl, ra, (refl, rl, (refl, rs, (refl, rv, tt))))
