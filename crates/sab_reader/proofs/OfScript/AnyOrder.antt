-- An object is read the same in whatever order its members stand.
use Rattle.std.proofs.Common.{◌≡◌, ◌≤◌, ℕ, suc, List, [], ◌∷◌, map, Option, Some, None, Less, Greater, refl, sym, ap, ◌∙◌, inl, inr, arith, nat_cmp}
use Rattle.std.proofs.lemmas.Grind.{common_steps}
use Rattle.std.specs.Cmp.Lexicographic.{slice_cmp}
use Rattle.json.specs.Json as text
use Rattle.json.specs.Tree.{depth, members_depth}
use Rattle.serde_json.specs.Data.{Data, object, Members, no_members, member, put}
use Rattle.serde_json.specs.Read.{of_json, of_members}
use Rattle.sab_reader.specs.Script.Plain.{IsAmong, AreNamed, HasNone, HasOnly, HasEach, IsObjectOf}

-- names of members, with the trees of those that were read
abbrev Slots : Type 0
Slots = List (List ℕ × Option Data)

abbrev with_tree : List ℕ → Option Data → Members → Members
with_tree name None ms = ms
with_tree name (Some d) ms = member name d ms

abbrev built : Slots → Members
built [] = no_members
built (s ∷ ss) = with_tree s.0 s.1 (built ss)

abbrev names_of : Slots → List (List ℕ)
names_of [] = []
names_of (s ∷ ss) = s.0 ∷ names_of ss

-- one name comes before another one
pub record Before (k l : List ℕ) : Type 0 where
  pub less : slice_cmp nat_cmp k l ≡ Less
  pub greater : slice_cmp nat_cmp l k ≡ Greater
  pub other : k ≡ l → ⊥

pub before : (k l : List ℕ) → slice_cmp nat_cmp k l ≡ Less → slice_cmp nat_cmp l k ≡ Greater → Before k l
before k l p q = grind (arith, common_steps, slice_cmp, nat_cmp)

abbrev BeforeAll : List ℕ → List (List ℕ) → Type 0
BeforeAll k [] = Unit {0}
BeforeAll k (l ∷ ls) = Before k l × BeforeAll k ls

abbrev pub AreSorted : List (List ℕ) → Type 0
AreSorted [] = Unit {0}
AreSorted (k ∷ ks) = BeforeAll k ks × AreSorted ks

-- what is put before all goes first
put_first : (k : List ℕ) (d : Data) (ss : Slots) → BeforeAll k (names_of ss) → put k d (built ss) ≡ member k d (built ss)
put_first k d [] h = refl
put_first k d ((l, None) ∷ ss) h = put_first k d ss h.1
put_first k d ((l, Some e) ∷ ss) h = rw h.0.less refl

-- trees that were read, and the members that are left, each of which nests so deep at most
abbrev Pending : ℕ → Slots → List (List ℕ × Data) → text.Members → Type 0
Pending n [] [] ms = Unit {0}
Pending n [] (f ∷ fs) ms = ⊥
Pending n (s ∷ ss) [] ms = ⊥
Pending n ((k, Some e) ∷ ss) (f ∷ fs) ms = (k ≡ f.0) × (e ≡ f.1) × HasNone k ms × Pending n ss fs ms
Pending n ((k, None) ∷ ss) (f ∷ fs) ms =
    (k ≡ f.0) × ((j : text.Json) × HasOnly k j ms × (of_json j ≡ Some f.1) × (depth j ≤ n)) × Pending n ss fs ms

abbrev read_slots : List (List ℕ × Data) → Slots
read_slots [] = []
read_slots (f ∷ fs) = (f.0, Some f.1) ∷ read_slots fs

-- where no member is left all were read
all_read : (n : ℕ) (ss : Slots) (fs : List (List ℕ × Data)) → Pending n ss fs text.no_members → ss ≡ read_slots fs
all_read n [] [] h = refl
all_read n [] (f ∷ fs) h = absurd h
all_read n (s ∷ ss) [] h = absurd h
all_read n ((k, Some e) ∷ ss) (f ∷ fs) h = λ i. (h.0 i, Some (h.1 i)) ∷ all_read n ss fs h.3 i
all_read n ((k, None) ∷ ss) (f ∷ fs) h = absurd h.1.1

-- a member that is none of these leaves them as they are
passed : (n : ℕ) (k : List ℕ) (j : text.Json) (ms : text.Members) (ss : Slots) (fs : List (List ℕ × Data))
    → BeforeAll k (names_of ss) → Pending n ss fs (text.member k j ms) → Pending n ss fs ms
passed n k j ms [] [] b h = tt
passed n k j ms [] (f ∷ fs) b h = absurd h
passed n k j ms (s ∷ ss) [] b h = absurd h
passed n k j ms ((l, Some e) ∷ ss) (f ∷ fs) b h = (h.0, h.1, h.2.1, passed n k j ms ss fs b.1 h.3)
passed n k j ms ((l, None) ∷ ss) (f ∷ fs) b h =
    (h.0, (h.1.0, left_over h.1.1, h.1.2, h.1.3), passed n k j ms ss fs b.1 h.2)
  where
    left_over : HasOnly l h.1.0 (text.member k j ms) → HasOnly l h.1.0 ms
    left_over (inl x) = absurd (b.0.other x.0)
    left_over (inr x) = x.1

-- a member that is taken: its tree goes into its slot
record Taken (n : ℕ) (k : List ℕ) (j : text.Json) (ms : text.Members) (ss : Slots) (fs : List (List ℕ × Data)) : Type 0 where
  tree : Data
  slots : Slots
  read : of_json j ≡ Some tree
  shallow : depth j ≤ n
  placed : put k tree (built ss) ≡ built slots
  names : names_of slots ≡ names_of ss
  pending : Pending n slots fs ms

among_before : (k l : List ℕ) (ls : List (List ℕ)) → BeforeAll k ls → IsAmong l ls → Before k l
among_before k l [] b a = absurd a
among_before k l (m ∷ ls) b (inl e) = rw e b.0
among_before k l (m ∷ ls) b (inr a) = among_before k l ls b.1 a

only_here : (n : ℕ) (k l : List ℕ) (i j : text.Json) (ms : text.Members) → k ≡ l → HasOnly l i (text.member k j ms)
    → (j ≡ i) × HasNone l ms
only_here n k l i j ms e (inl x) = (x.1, x.2)
only_here n k l i j ms e (inr x) = absurd (x.0 e)

only_later : (k l : List ℕ) (i j : text.Json) (ms : text.Members) → (k ≡ l → ⊥) → HasOnly l i (text.member k j ms)
    → HasOnly l i ms
only_later k l i j ms other (inl x) = absurd (other x.0)
only_later k l i j ms other (inr x) = x.1

put_later : (k l : List ℕ) (d : Data) (o : Option Data) (ms : Members) → Before l k
    → put k d (with_tree l o ms) ≡ with_tree l o (put k d ms)
put_later k l d None ms b = refl
put_later k l d (Some e) ms b = rw b.greater refl

take_one : (n : ℕ) (k : List ℕ) (j : text.Json) (ms : text.Members) (ss : Slots) (fs : List (List ℕ × Data))
    → AreSorted (names_of ss) → IsAmong k (names_of ss) → Pending n ss fs (text.member k j ms) → Taken n k j ms ss fs
take_one n k j ms [] fs s a h = absurd a
take_one n k j ms (t ∷ ss) [] s a h = absurd h
take_one n k j ms ((l, Some e) ∷ ss) (f ∷ fs) s (inl is) h = absurd (h.2.0 is)
take_one n k j ms ((l, None) ∷ ss) (f ∷ fs) s (inl is) h =
    let o = only_here n k l h.1.0 j ms is h.1.1 in record {
      tree = f.1;
      slots = (l, Some f.1) ∷ ss;
      read = ap of_json o.0 ∙ h.1.2;
      shallow = rw o.0 h.1.3;
      placed = rw is (put_first l f.1 ss s.0);
      names = refl;
      pending = (h.0, refl, o.1, passed n k j ms ss fs (rw is s.0) h.2);
    }
take_one n k j ms ((l, Some e) ∷ ss) (f ∷ fs) s (inr a) h =
    let b = among_before l k (names_of ss) s.0 a in
    let t = take_one n k j ms ss fs s.1 a h.3 in record {
      tree = t.tree;
      slots = (l, Some e) ∷ t.slots;
      read = t.read;
      shallow = t.shallow;
      placed = put_later k l t.tree (Some e) (built ss) b ∙ ap (member l e) t.placed;
      names = ap (λ ns. l ∷ ns) t.names;
      pending = (h.0, h.1, h.2.1, t.pending);
    }
take_one n k j ms ((l, None) ∷ ss) (f ∷ fs) s (inr a) h =
    let b = among_before l k (names_of ss) s.0 a in
    let t = take_one n k j ms ss fs s.1 a h.2 in record {
      tree = t.tree;
      slots = (l, None) ∷ t.slots;
      read = t.read;
      shallow = t.shallow;
      placed = t.placed;
      names = ap (λ ns. l ∷ ns) t.names;
      pending =
          (h.0, (h.1.0, only_later k l h.1.0 j ms (λ e. b.other (sym e)) h.1.1, h.1.2, h.1.3), t.pending);
    }

all_taken : (n : ℕ) (ms : text.Members) (ss : Slots) (fs : List (List ℕ × Data)) → AreSorted (names_of ss)
    → AreNamed (names_of ss) ms → Pending n ss fs ms
    → (of_members ms (built ss) ≡ Some (built (read_slots fs))) × (members_depth ms ≤ n)
all_taken n text.no_members ss fs s named h = (ap (λ x. Some (built x)) (all_read n ss fs h), omega arith)
all_taken n (text.member k j ms) ss fs s named h =
    let t = take_one n k j ms ss fs s named.0 h in
    let rest = all_taken n ms t.slots fs (rw t.names s) (rw t.names named.1) t.pending in
    (rw t.read (rw t.placed rest.0), omega (arith, t.shallow, rest.1))

-- the values of members, as they are read
abbrev pub ReadAs : ℕ → List (List ℕ × text.Json) → List (List ℕ × Data) → Type 0
ReadAs n [] [] = Unit {0}
ReadAs n [] (f ∷ fs) = ⊥
ReadAs n (p ∷ ps) [] = ⊥
ReadAs n (p ∷ ps) (f ∷ fs) = (p.0 ≡ f.0) × ((of_json p.1 ≡ Some f.1) × (depth p.1 ≤ n)) × ReadAs n ps fs

abbrev unread : List (List ℕ × text.Json) → Slots
unread [] = []
unread (p ∷ ps) = (p.0, None) ∷ unread ps

none_built : (ps : List (List ℕ × text.Json)) → built (unread ps) ≡ no_members
none_built [] = refl
none_built (p ∷ ps) = none_built ps

unread_names : (ps : List (List ℕ × text.Json)) → names_of (unread ps) ≡ map (λ p. p.0) ps
unread_names [] = refl
unread_names (p ∷ ps) = ap (λ ns. p.0 ∷ ns) (unread_names ps)

all_pending : (n : ℕ) (ps : List (List ℕ × text.Json)) (fs : List (List ℕ × Data)) (ms : text.Members) → HasEach ps ms
    → ReadAs n ps fs → Pending n (unread ps) fs ms
all_pending n [] [] ms each read = tt
all_pending n [] (f ∷ fs) ms each read = absurd read
all_pending n (p ∷ ps) [] ms each read = absurd read
all_pending n (p ∷ ps) (f ∷ fs) ms each read =
    (read.0, (p.1, each.0, read.1.0, read.1.1), all_pending n ps fs ms each.1 read.2)

abbrev pub members_of : List (List ℕ × Data) → Members
members_of [] = no_members
members_of (f ∷ fs) = member f.0 f.1 (members_of fs)

read_built : (fs : List (List ℕ × Data)) → built (read_slots fs) ≡ members_of fs
read_built [] = refl
read_built (f ∷ fs) = ap (member f.0 f.1) (read_built fs)

pub object_read : (n : ℕ) (ps : List (List ℕ × text.Json)) (fs : List (List ℕ × Data)) (j : text.Json)
    → AreSorted (map (λ p. p.0) ps) → IsObjectOf ps j → ReadAs n ps fs
    → (of_json j ≡ Some (object (members_of fs))) × (depth j ≤ suc n)
object_read n ps fs j sorted is read = grind (
  arith,
  common_steps,
  unread_names,
  all_taken,
  all_pending,
  none_built,
  read_built,
)
