-- An object's members that are read one after another: what is reported where one is missing, or isn't called for.
use Rattle.std.proofs.Common.{◌≡◌, ℕ, zero, suc, List, [], ◌∷◌, Bool, true, false, not, ◌&&◌, Option, Some, None, refl, sym, ap, ◌∙◌, subst, arith, true≢false}
use Rattle.std.proofs.lemmas.Grind.{common_steps}
use Rattle.std.specs.Prelude.{Contains}
use Rattle.std.specs.Ordering.{nat_cmp, ordering_reverse, match_ordering, is_lt}
use Rattle.std.specs.declared.cmp.Ordering.TheVariants.{Equal, Greater}
use Rattle.std.specs.Cmp.Lexicographic.{slice_cmp}
use Rattle.std.proofs.lemmas.Cmp.{nat_list_cmp_total, tied_itself}
use Rattle.serde_json.specs.Data.{Data, object, Members, member}
use Rattle.serde_json.specs.Find.{get_member}
use Rattle.sab_refusal.specs.declared.location.Location.{Location}
use Rattle.sab_refusal.specs.declared.member.Member.{Member}
use Rattle.sab_refusal.specs.declared.reason.Reason.{Reason}
use Rattle.sab_refusal.specs.declared.reason.Reason.TheVariants as why
use Rattle.sab_refusal.specs.Location.{member_name}
use Rattle.sab_reader.specs.Script.Places.{Stands, members_at, form_of}
use Rattle.sab_reader.specs.Script.Truth.{IsTrueAt}
use Rattle.sab_reader.proofs.OfScript.Ordered.{order_behind}
use Rattle.sab_reader.specs.Script.Known.{IsBefore, FollowInOrder, AreInOrder, IsFirst, LackMember}

-- a name stands behind the last that was read, if one was
abbrev pub IsBehind : Option (List ℕ) → List ℕ → Type 0
IsBehind None name = Unit {0}
IsBehind (Some k) name = IsBefore k name

abbrev pub Follow : Option (List ℕ) → Members → Type 0
Follow None rest = AreInOrder rest
Follow (Some k) rest = FollowInOrder k rest

-- the rest of an object's members, behind the last that was read
pub record Unread (ms : Members) (last : Option (List ℕ)) (rest : Members) : Type 0 where
  pub same : (name : List ℕ) → IsBehind last name → get_member name ms ≡ get_member name rest
  pub behind : Follow last rest

pub none_read : (ms : Members) → AreInOrder ms → Unread ms None ms
none_read ms order = record { same = λ name h. refl; behind = order }

itself : (k : List ℕ) → slice_cmp nat_cmp k k ≡ Equal
itself k = tied_itself nat_list_cmp_total k

-- behind a name
later : (name k : List ℕ) → IsBefore k name → slice_cmp nat_cmp name k ≡ Greater
later name k h = nat_list_cmp_total.antisymm name k ∙ ap ordering_reverse h

first_behind : (last : Option (List ℕ)) (k : List ℕ) (d : Data) (rest : Members) → Follow last (member k d rest)
    → IsBehind last k
first_behind None k d rest h = tt
first_behind (Some l) k d rest h = h.0

then_behind : (last : Option (List ℕ)) (k : List ℕ) (d : Data) (rest : Members) → Follow last (member k d rest)
    → FollowInOrder k rest
then_behind None k d rest h = h
then_behind (Some l) k d rest h = h.1

further : (last : Option (List ℕ)) (k name : List ℕ) → IsBehind last k → IsBefore k name → IsBehind last name
further None k name h lt = tt
further (Some l) k name h lt = nat_list_cmp_total.trans l k name h lt

pub one_read : (ms : Members) (last : Option (List ℕ)) (whole : Members) (k : List ℕ) (d : Data) (rest : Members)
    → whole ≡ member k d rest → Unread ms last whole → Unread ms (Some k) rest
one_read ms last whole k d rest e h = grind (arith, common_steps, later, further, first_behind, then_behind)

pub rest_order : (ms : Members) (last : Option (List ℕ)) (rest : Members) → Unread ms last rest → AreInOrder rest
rest_order ms None rest h = h.behind
rest_order ms (Some k) rest h = order_behind k rest h.behind

-- the member that is read next
pub next_there : (ms : Members) (last : Option (List ℕ)) (whole : Members) (k : List ℕ) (d : Data) (rest : Members)
    → whole ≡ member k d rest → Unread ms last whole → get_member k ms ≡ Some d
next_there ms last whole k d rest e h = grind (arith, common_steps, first_behind, get_member, match_ordering, itself)

-- no member of these names stands behind the last that was read, before a name
abbrev pub is_behind : Option (List ℕ) → List ℕ → Bool
is_behind None name = true
is_behind (Some k) name = is_lt (slice_cmp nat_cmp k name)

abbrev pub none_between : Option (List ℕ) → List ℕ → List Member → Bool
none_between last k [] = true
none_between last k (x ∷ xs) =
    not (is_behind last (member_name x) && is_lt (slice_cmp nat_cmp (member_name x) k)) && none_between last k xs

abbrev pub none_behind : List ℕ → List Member → Bool
none_behind k [] = true
none_behind k (x ∷ xs) = not (is_lt (slice_cmp nat_cmp k (member_name x))) && none_behind k xs

behind_so : (last : Option (List ℕ)) (name : List ℕ) → IsBehind last name → is_behind last name ≡ true
behind_so None name h = refl
behind_so (Some k) name h = ap is_lt h

split : (a b : Bool) → (a && b) ≡ true → (a ≡ true) × (b ≡ true)
split true b e = (refl, e)
split false b e = absurd (true≢false (sym e))

not_both : (a b : Bool) → not (a && b) ≡ true → a ≡ true → b ≡ true → ⊥
not_both true true e p q = true≢false (sym e)
not_both true false e p q = true≢false (sym q)
not_both false b e p q = true≢false (sym p)

gap : (last : Option (List ℕ)) (k : List ℕ) (xs : List Member) → none_between last k xs ≡ true → (x : Member)
    → Contains xs x → IsBehind last (member_name x) → IsBefore (member_name x) k → ⊥
gap last k [] e x c p q = absurd (omega (arith, c.1))
gap last k (y ∷ xs) e x (zero, within, is) p q = grind (arith, common_steps, split, not_both, behind_so)
gap last k (y ∷ xs) e x (suc i, within, is) p q =
    gap last k xs (split _ _ e).1 x (i, omega (arith, within), is) p q

no_more : (k : List ℕ) (xs : List Member) → none_behind k xs ≡ true → (x : Member) → Contains xs x
    → IsBefore k (member_name x) → ⊥
no_more k [] e x c p = absurd (omega (arith, c.1))
no_more k (y ∷ xs) e x (zero, within, is) p =
    let parts = split _ _ e in
    not_both true _ parts.0 refl (ap (λ z. is_lt (slice_cmp nat_cmp k (member_name z))) is ∙ ap is_lt p)
no_more k (y ∷ xs) e x (suc i, within, is) p = no_more k xs (split _ _ e).1 x (i, omega (arith, within), is) p

-- what is reported where a member that is called for doesn't come next; none that is called for before it is unread
pub member_reported : (root : Data) (place : Location) (names : List Member) (ms : Members) (last : Option (List ℕ))
    (rest : Members) (m : Member) (reason : Reason)
    → Stands root place (object ms) → members_at (form_of root) place ≡ names → Unread ms last rest → Contains names m
    → IsBehind last (member_name m) → none_between last (member_name m) names ≡ true → LackMember m rest reason
    → IsTrueAt root place reason
member_reported root place names ms last rest m (why.Missing n) stands called unread here behind none h = grind (
  arith,
  common_steps,
  get_member,
  member_name,
)
member_reported root place names ms last rest m (why.Surplus reported) stands called unread here behind none h =
    let name = h.0 in
    let order = subst (λ (r : Members). Follow last r) h.3 unread.behind in
    let after = first_behind last name h.1 h.2 order in
    record {
      members = ms;
      stands = stands;
      name = name;
      reported_name = h.4;
      member = h.1;
      there = next_there ms last rest name h.1 h.2 h.3 unread;
      uncalled = λ x c e.
          gap last (member_name m) names none x (subst (λ xs. Contains xs x) called c)
          (subst (λ k. IsBehind last k) e after) (subst (λ k. IsBefore k (member_name m)) e h.5);
    }
member_reported root place names ms last rest m reason stands called unread here behind none h = absurd h

-- what is reported about a member behind all that are called for
pub end_reported : (root : Data) (place : Location) (names : List Member) (ms : Members) (k : List ℕ) (rest : Members)
    (reason : Reason)
    → Stands root place (object ms) → members_at (form_of root) place ≡ names → Unread ms (Some k) rest
    → none_behind k names ≡ true → IsFirst rest reason → IsTrueAt root place reason
end_reported root place names ms k rest (why.Surplus reported) stands called unread none h =
    let name = h.0 in
    let order = subst (λ (r : Members). Follow (Some k) r) h.3 unread.behind in
    record {
      members = ms;
      stands = stands;
      name = name;
      reported_name = h.4;
      member = h.1;
      there = next_there ms (Some k) rest name h.1 h.2 h.3 unread;
      uncalled = λ x c e.
          no_more k names none x (subst (λ xs. Contains xs x) called c) (subst (λ n. IsBefore k n) e order.0);
    }
end_reported root place names ms k rest reason stands called unread none h = absurd h
