-- What a part of a spelling spells.
use Rattle.std.proofs.Common.{◌≡◌, ℕ, List, codes, pos, refl, sym, ap, ◌∙◌, arith}
use Rattle.std.proofs.lemmas.Grind.{common_steps}
use Rattle.serde_json.specs.Data.{Data, object, Members, no_members, member}
use Rattle.sab_plan.specs.declared.schedule.Move.{Move}
use Rattle.sab_plan.specs.declared.schedule.Move.TheVariants.{Step, TimeUp}
use Rattle.std.proofs.Common.{Result, Ok, Err, OnErr}
use Rattle.sab_reader.specs.declared.script.form.Form.{Form}
use Rattle.sab_reader.specs.declared.script.form.Form.TheVariants.{Bytes, Blocks}
use Rattle.sab_reader.specs.Script.Blocks.{lens_name}
use Rattle.sab_reader.specs.Script.Numbers.{whole, SpellsPosition}
use Rattle.sab_reader.specs.Script.Views.{description}
use Rattle.sab_reader.specs.Script.Schedule.{SpellsMove}
use Rattle.sab_reader.specs.Script.Setup.{script_object}

pub timeout_part : (agents : ℕ) (d x : Data) (rest : Members) → d ≡ object (member (codes "timeout") x rest)
    → (m : Move) → SpellsMove agents d m → (a : ℕ) × SpellsPosition agents x a
timeout_part agents d x rest e (Step a) h =
    let bad : object (member (codes "timeout") x rest) ≡ whole (pos a) = sym e ∙ h.0 in cc
timeout_part agents d x rest e (TimeUp a) h = grind (arith, common_steps, object, member, codes, whole, pos, no_members)

pub on_err : {X E P : Type 0} (r : Result X E) → P → OnErr r P
on_err (Ok x) p = tt
on_err (Err e) p = p

-- the members of an object
abbrev inner : Data → Members
inner (object members) = members
inner _ = no_members

-- the members behind the first
abbrev rest_of : Members → Members
rest_of (member name d rest) = rest
rest_of no_members = no_members

inside : (m rest : Members) (d : Data) → d ≡ object m → d ≡ object rest → m ≡ rest
inside m rest d e f = ap inner (sym e ∙ f)

behind : (m r s : Members) (n k : List ℕ) (b d : Data) → m ≡ member n b r → m ≡ member k d s → r ≡ s
behind m r s n k b d e f = ap rest_of (sym e ∙ f)

-- the members of a view, from the first that isn't read on
length_on : (m0 m1 : Members) (k kind length name offset : Data) → m0 ≡ member (codes "kind") k m1
    → m0 ≡ description kind length name offset
    → m1 ≡ member (codes "length") length (member (codes "name") name (member (codes "offset") offset no_members))
length_on m0 m1 k kind length name offset e1 e = behind _ _ _ _ _ _ _ e1 e

name_on : (m0 m1 m2 : Members) (k l kind length name offset : Data) → m0 ≡ member (codes "kind") k m1
    → m1 ≡ member (codes "length") l m2 → m0 ≡ description kind length name offset
    → m2 ≡ member (codes "name") name (member (codes "offset") offset no_members)
name_on m0 m1 m2 k l kind length name offset e1 e2 e =
    behind _ _ _ _ _ _ _ e2 (length_on m0 m1 k kind length name offset e1 e)

offset_on : (m0 m1 m2 m3 : Members) (k l n kind length name offset : Data) → m0 ≡ member (codes "kind") k m1
    → m1 ≡ member (codes "length") l m2 → m2 ≡ member (codes "name") n m3 → m0 ≡ description kind length name offset
    → m3 ≡ member (codes "offset") offset no_members
offset_on m0 m1 m2 m3 k l n kind length name offset e1 e2 e3 e =
    behind _ _ _ _ _ _ _ e3 (name_on m0 m1 m2 k l kind length name offset e1 e2 e)

pub length_missing : (m0 m1 : Members) (k : Data) → m0 ≡ member (codes "kind") k m1
    → ((o : Data) (rest : Members) → m1 ≡ member (codes "length") o rest → ⊥) → (kind length name offset : Data)
    → m0 ≡ description kind length name offset → ⊥
length_missing m0 m1 k e1 missing kind length name offset e =
    missing length _ (length_on m0 m1 k kind length name offset e1 e)

pub name_missing : (m0 m1 m2 : Members) (k l : Data) → m0 ≡ member (codes "kind") k m1
    → m1 ≡ member (codes "length") l m2
    → ((o : Data) (rest : Members) → m2 ≡ member (codes "name") o rest → ⊥) → (kind length name offset : Data)
    → m0 ≡ description kind length name offset → ⊥
name_missing m0 m1 m2 k l e1 e2 missing kind length name offset e =
    missing name _ (name_on m0 m1 m2 k l kind length name offset e1 e2 e)

pub offset_missing : (m0 m1 m2 m3 : Members) (k l n : Data) → m0 ≡ member (codes "kind") k m1
    → m1 ≡ member (codes "length") l m2 → m2 ≡ member (codes "name") n m3
    → ((o : Data) (rest : Members) → m3 ≡ member (codes "offset") o rest → ⊥) → (kind length name offset : Data)
    → m0 ≡ description kind length name offset → ⊥
offset_missing m0 m1 m2 m3 k l n e1 e2 e3 missing kind length name offset e =
    missing offset _ (offset_on m0 m1 m2 m3 k l n kind length name offset e1 e2 e3 e)

pub not_described : (m0 m1 m2 m3 m4 : Members) (k l n o : Data) → m0 ≡ member (codes "kind") k m1
    → m1 ≡ member (codes "length") l m2 → m2 ≡ member (codes "name") n m3 → m3 ≡ member (codes "offset") o m4
    → (m4 ≡ no_members → ⊥) → (kind length name offset : Data)
    → m0 ≡ description kind length name offset → ⊥
not_described m0 m1 m2 m3 m4 k l n o e1 e2 e3 e4 more kind length name offset e =
    more (behind _ _ _ _ _ _ _ e4 (offset_on m0 m1 m2 m3 k l n kind length name offset e1 e2 e3 e))

pub described : (m0 m1 m2 m3 m4 : Members) (k l n o : Data) → m0 ≡ member (codes "kind") k m1
    → m1 ≡ member (codes "length") l m2 → m2 ≡ member (codes "name") n m3 → m3 ≡ member (codes "offset") o m4
    → m4 ≡ no_members → m0 ≡ description k l n o
described m0 m1 m2 m3 m4 k l n o e1 e2 e3 e4 e5 =
    rw (← e5, ← e4, ← e3, ← e2) e1

-- the members of a script, from the first that isn't read on
lens_on : (form : Form) (d : Data) (m0 m1 : Members) (a agents lens schedule views : Data) → d ≡ object m0
    → m0 ≡ member (codes "agents") a m1 → d ≡ script_object form agents lens schedule views
    → m1 ≡ member (lens_name form) lens
    (member (codes "schedule") schedule (member (codes "views") views no_members))
lens_on form d m0 m1 a agents lens schedule views e0 e1 e = behind _ _ _ _ _ _ _ e1 (inside _ _ _ e0 e)

schedule_on : (form : Form) (d : Data) (m0 m1 m2 : Members) (a l agents lens schedule views : Data) → d ≡ object m0
    → m0 ≡ member (codes "agents") a m1 → m1 ≡ member (lens_name form) l m2
    → d ≡ script_object form agents lens schedule views
    → m2 ≡ member (codes "schedule") schedule (member (codes "views") views no_members)
schedule_on form d m0 m1 m2 a l agents lens schedule views e0 e1 e2 e =
    behind _ _ _ _ _ _ _ e2 (lens_on form d m0 m1 a agents lens schedule views e0 e1 e)

views_on : (form : Form) (d : Data) (m0 m1 m2 m3 : Members) (a l s agents lens schedule views : Data) → d ≡ object m0
    → m0 ≡ member (codes "agents") a m1 → m1 ≡ member (lens_name form) l m2 → m2 ≡ member (codes "schedule") s m3
    → d ≡ script_object form agents lens schedule views → m3 ≡ member (codes "views") views no_members
views_on form d m0 m1 m2 m3 a l s agents lens schedule views e0 e1 e2 e3 e =
    behind _ _ _ _ _ _ _ e3 (schedule_on form d m0 m1 m2 a l agents lens schedule views e0 e1 e2 e)

pub agents_missing : (form : Form) (d : Data) (m0 : Members) → d ≡ object m0
    → ((o : Data) (rest : Members) → m0 ≡ member (codes "agents") o rest → ⊥) → (agents lens schedule views : Data)
    → d ≡ script_object form agents lens schedule views → ⊥
agents_missing form d m0 e0 missing agents lens schedule views e = missing agents _ (inside _ _ _ e0 e)

pub lens_missing : (form : Form) (d : Data) (m0 m1 : Members) (a : Data) → d ≡ object m0
    → m0 ≡ member (codes "agents") a m1
    → ((o : Data) (rest : Members) → m1 ≡ member (lens_name form) o rest → ⊥) → (agents lens schedule views : Data)
    → d ≡ script_object form agents lens schedule views → ⊥
lens_missing form d m0 m1 a e0 e1 missing agents lens schedule views e =
    missing lens _ (lens_on form d m0 m1 a agents lens schedule views e0 e1 e)

pub schedule_missing : (form : Form) (d : Data) (m0 m1 m2 : Members) (a l : Data) → d ≡ object m0
    → m0 ≡ member (codes "agents") a m1 → m1 ≡ member (lens_name form) l m2
    → ((o : Data) (rest : Members) → m2 ≡ member (codes "schedule") o rest → ⊥) → (agents lens schedule views : Data)
    → d ≡ script_object form agents lens schedule views → ⊥
schedule_missing form d m0 m1 m2 a l e0 e1 e2 missing agents lens schedule views e =
    missing schedule _ (schedule_on form d m0 m1 m2 a l agents lens schedule views e0 e1 e2 e)

pub views_missing : (form : Form) (d : Data) (m0 m1 m2 m3 : Members) (a l s : Data) → d ≡ object m0
    → m0 ≡ member (codes "agents") a m1 → m1 ≡ member (lens_name form) l m2 → m2 ≡ member (codes "schedule") s m3
    → ((o : Data) (rest : Members) → m3 ≡ member (codes "views") o rest → ⊥) → (agents lens schedule views : Data)
    → d ≡ script_object form agents lens schedule views → ⊥
views_missing form d m0 m1 m2 m3 a l s e0 e1 e2 e3 missing agents lens schedule views e =
    missing views _ (views_on form d m0 m1 m2 m3 a l s agents lens schedule views e0 e1 e2 e3 e)

pub no_script : (form : Form) (d : Data) (m0 m1 m2 m3 m4 : Members) (a l s v : Data) → d ≡ object m0
    → m0 ≡ member (codes "agents") a m1 → m1 ≡ member (lens_name form) l m2 → m2 ≡ member (codes "schedule") s m3
    → m3 ≡ member (codes "views") v m4 → (m4 ≡ no_members → ⊥) → (agents lens schedule views : Data)
    → d ≡ script_object form agents lens schedule views → ⊥
no_script form d m0 m1 m2 m3 m4 a l s v e0 e1 e2 e3 e4 more agents lens schedule views e =
    more (behind _ _ _ _ _ _ _ e4 (views_on form d m0 m1 m2 m3 a l s agents lens schedule views e0 e1 e2 e3 e))

pub whole_script : (form : Form) (d : Data) (m0 m1 m2 m3 m4 : Members) (a l s v : Data) → d ≡ object m0
    → m0 ≡ member (codes "agents") a m1 → m1 ≡ member (lens_name form) l m2 → m2 ≡ member (codes "schedule") s m3
    → m3 ≡ member (codes "views") v m4 → m4 ≡ no_members → d ≡ script_object form a l s v
whole_script form d m0 m1 m2 m3 m4 a l s v e0 e1 e2 e3 e4 e5 = rw (← e5, ← e4, ← e3, ← e2, ← e1) e0

-- the member of a script about its blocks, by another spelling of its name
pub named : (n k : List ℕ) (m rest : Members) (d : Data) → n ≡ k → m ≡ member n d rest → m ≡ member k d rest
named n k m rest d same e = e ∙ ap (λ (x : List ℕ). member x d rest) same

pub none_named : (n k : List ℕ) (m : Members) → n ≡ k → ((d : Data) (rest : Members) → m ≡ member n d rest → ⊥)
    → (d : Data) (rest : Members) → m ≡ member k d rest → ⊥
none_named n k m same missing d rest e = missing d rest (named k n m rest d (sym same) e)

same_form : (f g : Form) → lens_name f ≡ lens_name g → f ≡ g
same_form Bytes Bytes e = refl
same_form Bytes Blocks e = cc
same_form Blocks Bytes e = cc
same_form Blocks Blocks e = refl

-- an object of a script has one form, and one value for each member
pub script_parts : (f g : Form) (a l s v b m t w : Data) → script_object f a l s v ≡ script_object g b m t w
    → (f ≡ g) × (a ≡ b) × (l ≡ m) × (s ≡ t) × (v ≡ w)
script_parts f g a l s v b m t w e = grind (arith, common_steps, lens_name, same_form)
