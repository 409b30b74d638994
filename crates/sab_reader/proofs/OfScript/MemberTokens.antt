-- Members of objects, one after another, as their tokens spell them.
use Rattle.std.proofs.Common.{◌≡◌, ℕ, zero, suc, ◌<◌, List, [], ◌∷◌, map, length, get_or, Option, Some, None, true, false, is_some, refl, sym, ◌∙◌, inl, inr, arith}
use Rattle.std.specs.Prelude.{IfSome}
use Rattle.std.specs.Str.{bytes_eq}
use Rattle.std.proofs.lemmas.Slice.Eq.{bytes_eq-Decides}
use Rattle.json.specs.Token.{Token}
use Rattle.json.specs.Json as text
use Rattle.json.specs.Find.{BeginsWith, InMembers, NextMember}
use Rattle.sab_refusal.specs.declared.member.Member.{Member}
use Rattle.sab_refusal.specs.Location.{member_name}
use Rattle.serde_json.specs.Data.{Data}
use Rattle.sab_reader.specs.Script.Plain.{IsAmong, AreNamed, HasNone, HasOnly, HoldsTree, HoldsMember}

pub among_at : (names : List Member) (i : ℕ) (d : Member) (name : List ℕ) → i < length names
    → name ≡ member_name (get_or names i d) → IsAmong name (map member_name names)
among_at [] i d name lt is = absurd (omega (arith, lt))
among_at (n ∷ names) zero d name lt is = inl is
among_at (n ∷ names) (suc i) d name lt is = inr (among_at names i d name (omega (arith, lt)) is)

named_by : (names : List (List ℕ)) (ms ks : text.Members) → ms ≡ ks → AreNamed names ks → AreNamed names ms
named_by names ms ks e h = rw e h

only_by : (name : List ℕ) (j : text.Json) (ms ks : text.Members) → ms ≡ ks → HasOnly name j ks → HasOnly name j ms
only_by name j ms ks e h = rw e h

none_by : (name : List ℕ) (ms ks : text.Members) → ms ≡ ks → HasNone name ks → HasNone name ms
none_by name ms ks e h = rw e h

abbrev pub IsObjectAt : List Token → List Token → Type 0
IsObjectAt ts rest = (j : text.Json) → BeginsWith ts j → (ms : text.Members) × (j ≡ text.object ms) × InMembers rest ms

-- the members before `rest` have these names

abbrev pub NamedSoFar : List (List ℕ) → List Token → List Token → Type 0
NamedSoFar names ts rest = (j : text.Json) → BeginsWith ts j → (ms : text.Members) × (j ≡ text.object ms)
    × ((left : text.Members) × InMembers rest left × (AreNamed names left → AreNamed names ms))

pub none_named : (names : List (List ℕ)) (ts rest : List Token) → IsObjectAt ts rest → NamedSoFar names ts rest
none_named names ts rest is = λ j begins. let o = is j begins in (o.0, o.1, (o.0, o.2, λ h. h))

pub more_named : (names : List (List ℕ)) (ts rest value new : List Token) (name : List ℕ)
    → NextMember rest (Some (name, value)) new → IsAmong name names → NamedSoFar names ts rest → NamedSoFar names ts new
more_named names ts rest value new name next among so_far = λ j begins.
    let s = so_far j begins in
    let m = next s.2.0 s.2.1 in (s.0, s.1, (m.1, m.4, λ h. s.2.2 (named_by names s.2.0 _ m.2 (among, h))))

pub all_named : (names : List (List ℕ)) (ts rest new : List Token) → NextMember rest None new → NamedSoFar names ts rest
    → (j : text.Json) → BeginsWith ts j → (ms : text.Members) × (j ≡ text.object ms) × AreNamed names ms
all_named names ts rest new next so_far = λ j begins.
    let s = so_far j begins in
    let end = next s.2.0 s.2.1 in (s.0, s.1, s.2.2 (named_by names s.2.0 _ end tt))

-- the members before `rest`, where so much was found of a name

abbrev pub OnlySoFar : List ℕ → List Token → List Token → Option (List Token) → Type 0
OnlySoFar name ts rest None = (ms : text.Members) → BeginsWith ts (text.object ms)
    → (left : text.Members) × InMembers rest left × ((j : text.Json) → HasOnly name j left → HasOnly name j ms)
OnlySoFar name ts rest (Some value) = (ms : text.Members) → BeginsWith ts (text.object ms)
    → (left : text.Members) × InMembers rest left × ((j : text.Json) × BeginsWith value j × (HasNone name left → HasOnly name j ms))

pub none_found : (name : List ℕ) (ts rest : List Token) → IsObjectAt ts rest → OnlySoFar name ts rest None
none_found name ts rest is = λ ms begins.
    let o = is (text.object ms) begins in
    let same : ms ≡ o.0 = same_members ms o.0 o.1 in (o.0, o.2, λ j h. rw same h)
  where
    same_members : (x y : text.Members) → text.object x ≡ text.object y → x ≡ y
    same_members x y e = cc

pub one_found : (name : List ℕ) (ts rest value new : List Token) (found : List ℕ) (o : Option (List Token))
    → NextMember rest (Some (found, value)) new → found ≡ name → false ≡ is_some o → OnlySoFar name ts rest o
    → OnlySoFar name ts new (Some value)
one_found name ts rest value new found None next is none so_far = λ ms begins.
    let s = so_far ms begins in
    let m = next s.0 s.1 in (m.1, m.4, (m.0, m.3, λ h. s.2 m.0 (only_by name m.0 s.0 _ m.2 (inl (is, refl, h)))))
one_found name ts rest value new found (Some v) next is none so_far = cc

pub other_passed : (name : List ℕ) (ts rest value new : List Token) (found : List ℕ) (o : Option (List Token))
    → NextMember rest (Some (found, value)) new → (found ≡ name → ⊥) → OnlySoFar name ts rest o
    → OnlySoFar name ts new o
other_passed name ts rest value new found None next other so_far = λ ms begins.
    let s = so_far ms begins in
    let m = next s.0 s.1 in (m.1, m.4, λ j only. s.2 j (only_by name j s.0 _ m.2 (inr (other, only))))
other_passed name ts rest value new found (Some v) next other so_far = λ ms begins.
    let s = so_far ms begins in
    let m = next s.0 s.1 in (m.1, m.4, (s.2.0, s.2.1, λ none. s.2.2 (none_by name s.0 _ m.2 (other, none))))

pub only_found : (name : List ℕ) (ts rest new : List Token) (o : Option (List Token)) → NextMember rest None new
    → OnlySoFar name ts rest o → IfSome o (λ value. (ms : text.Members) → BeginsWith ts (text.object ms)
    → (j : text.Json) × HasOnly name j ms × BeginsWith value j)
only_found name ts rest new None next so_far = tt
only_found name ts rest new (Some value) next so_far = λ ms begins.
    let s = so_far ms begins in
    let end = next s.0 s.1 in (s.2.0, s.2.2 (none_by name s.0 _ end tt), s.2.1)

pub differ : (x y z : List ℕ) → false ≡ bytes_eq x y → y ≡ z → x ≡ z → ⊥
differ x y z differs is same =
    let alike : bytes_eq x y ≡ true = (bytes_eq-Decides x y).1 (same ∙ sym is) in
    let bad : false ≡ true = differs ∙ alike in cc

pub alike : (x y z : List ℕ) → true ≡ bytes_eq x y → y ≡ z → x ≡ z
alike x y z e is = (bytes_eq-Decides x y).0 (sym e) ∙ is

-- the value of the only member of a name, by its own tokens
pub member_reported : {P : Data → Type 0} (name : List ℕ) (ts value : List Token)
    → ((ms : text.Members) → BeginsWith ts (text.object ms) → (j : text.Json) × HasOnly name j ms × BeginsWith value j)
    → HoldsTree 0 P value → HoldsMember name P ts
member_reported name ts value only holds = λ ms begins. let m = only ms begins in (m.0, m.1, holds m.0 m.2)
