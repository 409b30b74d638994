-- A line spells one event at most, and one with a fault spells none.
use Rattle.std.proofs.Common.{◌≡◌, ℕ, zero, suc, ℤ, pos, negsuc, List, [], refl, ap, sym, ◌∙◌, arith}
use Rattle.std.proofs.lemmas.Grind.{common_steps}
use Rattle.std.specs.Prelude.{IsTrue, codes, if◌then◌else◌}
use Rattle.std.specs.Str.{bytes_eq}
use Rattle.serde_json.specs.Data.{Data, Num, Members, no_members, member}
use Rattle.serde_json.specs.Data as json
use Rattle.serde_json.specs.Find.{of_integer}
use Rattle.sab_judge.specs.declared.event.Event.{Event}
use Rattle.sab_judge.specs.declared.place.Place.{Place}
use Rattle.sab_trace.specs.declared.deed.Deed.{Deed}
use Rattle.sab_trace.specs.declared.deed.Deed.TheVariants.{Load, Store, Add, Sub, And, Or, Xor, Exchange, CompareExchange, Wait, Notify, Leave, TimeUp, Read, Write}
use Rattle.sab_trace.specs.declared.line_fault.LineFault.{LineFault}
use Rattle.sab_trace.specs.declared.line_fault.LineFault.TheVariants.{TooMany, OutOfMemory, BadShape, BadNumber, BadAgent, NotJson, TooLong, ReadFailed, BadBytes}
use Rattle.sab_trace.specs.declared.numbers.Numbers.{Numbers}
use Rattle.sab_trace.specs.Deeds.{word_of, acts}
use Rattle.sab_trace.specs.Members.{Values, HasMembers, event_object}
use Rattle.sab_trace.specs.Numbers.{IsWhole, AreNumbers, AreWhole, IsAgent, AreBytes}
use Rattle.sab_trace.specs.Spelling.{SpellsEvent, SpellsLine, ReadsAs}
use Rattle.sab_trace.specs.LineFault.{IsTreeFault, IsLineFault}
use Rattle.sab_trace.specs.Reading.{IsOfLine}

-- a line reads as one tree
same_tree : (line : List ℕ) (d e : Data) → ReadsAs line d → ReadsAs line e → d ≡ e
same_tree line d e p q = let a = p.is in let b = q.is in cc

-- the values of an object's members, by their positions
abbrev members_in : Data → Members
members_in json.null = no_members
members_in (json.boolean b) = no_members
members_in (json.number n) = no_members
members_in (json.string s) = no_members
members_in (json.array ds) = no_members
members_in (json.object ms) = ms

abbrev value_at : ℕ → Members → Data
value_at k no_members = json.null
value_at zero (member name d ms) = d
value_at (suc k) (member name d ms) = value_at k ms

abbrev text_in : Data → List ℕ
text_in json.null = []
text_in (json.boolean b) = []
text_in (json.number n) = []
text_in (json.string s) = s
text_in (json.array ds) = []
text_in (json.object ms) = []

-- a word says one thing

abbrev deed_of : List ℕ → Deed
deed_of word =
    if bytes_eq (codes "load") word then Load
    else if bytes_eq (codes "store") word then Store
    else if bytes_eq (codes "add") word then Add
    else if bytes_eq (codes "sub") word then Sub
    else if bytes_eq (codes "and") word then And
    else if bytes_eq (codes "or") word then Or
    else if bytes_eq (codes "xor") word then Xor
    else if bytes_eq (codes "exchange") word then Exchange
    else if bytes_eq (codes "compareExchange") word then CompareExchange
    else if bytes_eq (codes "wait") word then Wait
    else if bytes_eq (codes "notify") word then Notify
    else if bytes_eq (codes "leave") word then Leave
    else if bytes_eq (codes "time-up") word then TimeUp
    else if bytes_eq (codes "read") word then Read
    else Write

deed_back : (d : Deed) → deed_of (word_of d) ≡ d
deed_back Load = refl
deed_back Store = refl
deed_back Add = refl
deed_back Sub = refl
deed_back And = refl
deed_back Or = refl
deed_back Xor = refl
deed_back Exchange = refl
deed_back CompareExchange = refl
deed_back Wait = refl
deed_back Notify = refl
deed_back Leave = refl
deed_back TimeUp = refl
deed_back Read = refl
deed_back Write = refl

same_deed : (d e : Deed) → word_of d ≡ word_of e → d ≡ e
same_deed d e same = sym (deed_back d) ∙ ap deed_of same ∙ deed_back e

-- a tree has one value for each member
pub same_values : (tree : Data) (v w : Values) → HasMembers tree v → HasMembers tree w → v ≡ w
same_values tree v w p q = grind (arith, common_steps, event_object, word_of, same_deed)

-- a number is one whole number
one_integer : (y z : ℤ) → of_integer y ≡ of_integer z → y ≡ z
one_integer (pos m) (pos n) e = let same : m ≡ n = cc in ap pos same
one_integer (pos m) (negsuc n) e = cc
one_integer (negsuc m) (pos n) e = cc
one_integer (negsuc m) (negsuc n) e = cc

pub same_whole : (x : Num) (y z : ℤ) → IsWhole x y → IsWhole x z → y ≡ z
same_whole x y z p q = one_integer y z (sym p.is ∙ q.is)

pub same_numbers : (v : Values) (m n : Numbers) → AreNumbers v m → AreNumbers v n → m ≡ n
same_numbers v m n p q = grind (arith, common_steps, same_whole)

same_agent : (n : Numbers) (a b : ℕ) → IsAgent n a → IsAgent n b → a ≡ b
same_agent n a b p q = let e : pos a ≡ pos b = sym p.is ∙ q.is in cc

same_place : (n : Numbers) (p q : Place) (k l : ℕ) → AreBytes n p k → AreBytes n q l → p ≡ q
same_place n p q k l g h = grind (arith, common_steps, pos)

same_len : (n : Numbers) (p q : Place) (k l : ℕ) → AreBytes n p k → AreBytes n q l → k ≡ l
same_len n p q k l g h = let sizes : pos k ≡ pos l = sym g.size ∙ h.size in cc

pub one_event : (position : ℕ) (tree : Data) (e f : Event) → SpellsEvent position tree e → SpellsEvent position tree f
    → e ≡ f
one_event position tree e f p q = grind (arith, common_steps)

pub one_line : (position : ℕ) (line : List ℕ) (e f : Event) → SpellsLine position line e → SpellsLine position line f
    → e ≡ f
one_line position line e f p q = grind (arith, common_steps, same_tree, one_event)

-- a tree with a fault spells no event
tree_fault : (position : ℕ) (tree : Data) (fault : LineFault) (e : Event) → IsTreeFault position tree fault
    → IsOfLine fault → SpellsEvent position tree e → ⊥
tree_fault position tree BadShape e h of s = h s.values s.shaped
tree_fault position tree BadNumber e h of s =
    let values = same_values tree h.0 s.values h.1.members s.shaped.members in h.2 s.numbers (rw values s.whole)
tree_fault position tree BadAgent e h of s =
    let found = h.0 in
    let values = same_values tree found.values s.values found.shaped.members s.shaped.members in
    let whole : AreWhole position found.values s.numbers = rw values s.whole in
    let numbers = same_numbers found.values found.numbers s.numbers found.whole.are whole.are in
    h.1 s.agent (rw numbers s.by)
tree_fault position tree BadBytes e h of s =
    let found = h.0 in
    let values = same_values tree found.values s.values found.shaped.members s.shaped.members in
    let whole : AreWhole position found.values s.numbers = rw values s.whole in
    let numbers = same_numbers found.values found.numbers s.numbers found.whole.are whole.are in
    let needed : IsTrue (acts s.values.flags) = rw (← values) h.3 in
    h.4 s.place s.len (rw numbers (s.bytes needed))
tree_fault position tree OutOfMemory e h of s = h
tree_fault position tree TooMany e h of s = h
tree_fault position tree NotJson e h of s = h
tree_fault position tree TooLong e h of s = h
tree_fault position tree ReadFailed e h of s = h

read_fault : (position : ℕ) (line : List ℕ) (fault : LineFault) (e : Event)
    → (tree : Data) × ReadsAs line tree × IsTreeFault position tree fault → IsOfLine fault
    → SpellsLine position line e → ⊥
read_fault position line fault e h of s =
    let trees = same_tree line h.0 s.tree h.1 s.reading in
    tree_fault position h.0 fault e h.2 of (rw trees s.spelled)

pub fault_spells_none : (position : ℕ) (line : List ℕ) (fault : LineFault) (e : Event)
    → IsLineFault position line fault → IsOfLine fault → SpellsLine position line e → ⊥
fault_spells_none position line TooLong e h of s = let short = s.short in omega arith
fault_spells_none position line TooMany e h of s = let few = s.few in let many = h.1 in omega arith
fault_spells_none position line NotJson e h of s = h.2 s.tree s.reading
fault_spells_none position line OutOfMemory e h of s = of
fault_spells_none position line ReadFailed e h of s = of
fault_spells_none position line BadShape e h of s = read_fault position line BadShape e h.2 of s
fault_spells_none position line BadNumber e h of s = read_fault position line BadNumber e h.2 of s
fault_spells_none position line BadAgent e h of s = read_fault position line BadAgent e h.2 of s
fault_spells_none position line BadBytes e h of s = read_fault position line BadBytes e h.2 of s
