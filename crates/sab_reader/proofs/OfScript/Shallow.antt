-- A value that nests less deep than it may is read at a lower limit too.
use Rattle.std.proofs.Common.{◌≡◌, ℕ, zero, suc, ◌≤◌, max, List, [], ◌∷◌, length, Option, Some, None, option_and_then, refl, ap, ◌∙◌, arith}
use Rattle.std.proofs.lemmas.Grind.{common_steps}
use Rattle.std.specs.Prelude.{⊤}
use Rattle.json.specs.Token.{Token}
use Rattle.json.specs.Lex.{tokens}
use Rattle.json.specs.Json.{Json, array, object, Items, item, Members, member, Parse, parse_map, after_end_array, read_key, items_step, members_step, items, members, value_with, value, if_last, document}
use Rattle.json.specs.Tree.{depth, items_depth, members_depth}
use Rattle.serde_json.specs.Data.{Data}
use Rattle.serde_json.specs.Read.{of_json, read}

-- where o is an answer that nests so deep at most, p is the same
abbrev KeptTo : {A : Type 0} → (A → ℕ) → ℕ → Option (A × List Token) → Option (A × List Token) → Type 0
KeptTo f n None p = ⊤
KeptTo f n (Some a) p = f a.0 ≤ n → p ≡ Some a

abbrev BelowTo : {A : Type 0} → (A → ℕ) → ℕ → Parse A → Parse A → Type 0
BelowTo f n p q = (ts : List Token) → KeptTo f n (p ts) (q ts)

mapped : {A B : Type 0} (f : A → ℕ) (g : B → ℕ) (m n : ℕ) (h : A → B) → ((a : A) → g (h a) ≤ n → f a ≤ m)
    → (o p : Option (A × List Token)) → KeptTo f m o p → KeptTo g n (parse_map h o) (parse_map h p)
mapped f g m n h less None p k = tt
mapped f g m n h less (Some a) p k = λ le. ap (parse_map h) (k (less a.0 le))

and_more : {B : Type 0} (g : B → ℕ) (n : ℕ) (h : Json → B → B)
    → ((j : Json) (b : B) → g (h j b) ≡ max (depth j) (g b)) → (more less : Parse B) → BelowTo g n more less
    → (o p : Option (Json × List Token)) → KeptTo depth n o p
    → KeptTo g n (option_and_then (λ q. parse_map (h q.0) (more q.1)) o)
    (option_and_then (λ q. parse_map (h q.0) (less q.1)) p)
and_more g n h is more less below None p k = tt
and_more {B = B} g n h is more less below (Some q) p k = grind (arith, common_steps, parse_map, option_and_then, depth)

module _ (n : ℕ) (p q : Parse Json) (below : BelowTo depth n p q) where
  item_turn : (more less : Parse Items) → BelowTo items_depth n more less → (ts : List Token) (o : Option (List Token))
      → KeptTo items_depth n (items_step p more ts o) (items_step q less ts o)
  item_turn more less again ts (Some r) = λ le. refl
  item_turn more less again ts None =
      and_more items_depth n item (λ j b. refl) more less again (p ts) (q ts) (below ts)

  items_below : (m : ℕ) → BelowTo items_depth n (items p m) (items q m)
  unfolding items
  items_below zero ts = tt
  items_below (suc m) ts = item_turn (items p m) (items q m) (items_below m) ts (after_end_array ts)

  member_turn : (more less : Parse Members) → BelowTo members_depth n more less
      → (o : Option (Option (List ℕ) × List Token))
      → KeptTo members_depth n (option_and_then (λ x. members_step p more x.0 x.1) o)
      (option_and_then (λ x. members_step q less x.0 x.1) o)
  member_turn more less again None = tt
  member_turn more less again (Some (None, s)) = λ le. refl
  member_turn more less again (Some (Some k, s)) =
      and_more members_depth n (member k) (λ j b. refl) more less again (p s) (q s) (below s)

  members_below : (m : ℕ) → BelowTo members_depth n (members p m) (members q m)
  unfolding members
  members_below zero ts = tt
  members_below (suc m) ts = member_turn (members p m) (members q m) (members_below m) (read_key ts)

one_level : (n : ℕ) (a b : Parse Items) (o p : Parse Members)
    → ((ts : List Token) → KeptTo depth n (parse_map array (a ts)) (parse_map array (b ts)))
    → ((ts : List Token) → KeptTo depth n (parse_map object (o ts)) (parse_map object (p ts)))
    → BelowTo depth n (value_with a o) (value_with b p)
one_level n a b o p x y [] = tt
one_level n a b o p x y (Token.begin_object ∷ ts) = y ts
one_level n a b o p x y (Token.end_object ∷ ts) = tt
one_level n a b o p x y (Token.begin_array ∷ ts) = x ts
one_level n a b o p x y (Token.end_array ∷ ts) = tt
one_level n a b o p x y (Token.key s ∷ ts) = tt
one_level n a b o p x y (Token.string s ∷ ts) = λ le. refl
one_level n a b o p x y (Token.number s ∷ ts) = λ le. refl
one_level n a b o p x y (Token.boolean t ∷ ts) = λ le. refl
one_level n a b o p x y (Token.null ∷ ts) = λ le. refl
one_level n a b o p x y (Token.bad ∷ ts) = tt

abbrev inner_items : ℕ → Parse Items
inner_items d ts = items (value d) (length ts) ts

abbrev inner_members : ℕ → Parse Members
inner_members d ts = members (value d) (length ts) ts

no_array : (o : Option (Items × List Token)) → KeptTo depth 0 (parse_map array o) None
no_array None = tt
no_array (Some a) = λ le. absurd (omega (arith, le))

no_object : (o : Option (Members × List Token)) → KeptTo depth 0 (parse_map object o) None
no_object None = tt
no_object (Some a) = λ le. absurd (omega (arith, le))

value_below : (n : ℕ) → BelowTo depth n (value (suc n)) (value n)
unfolding value
value_below zero =
    one_level 0 (inner_items 0) (λ ts. None) (inner_members 0) (λ ts. None) (λ ts. no_array (inner_items 0 ts))
    (λ ts. no_object (inner_members 0 ts))
value_below (suc n) =
    one_level (suc n) (inner_items (suc n)) (inner_items n) (inner_members (suc n)) (inner_members n)
    (λ ts. mapped items_depth depth n (suc n) array (λ js le. omega (arith, le)) _ _
    (items_below n (value (suc n)) (value n) (value_below n) (length ts) ts))
    (λ ts. mapped members_depth depth n (suc n) object (λ ms le. omega (arith, le)) _ _
    (members_below n (value (suc n)) (value n) (value_below n) (length ts) ts))

the_last : (o p : Option (Json × List Token)) (j : Json) → KeptTo depth 127 o p → depth j ≤ 127
    → option_and_then (λ x. if_last x.0 x.1) o ≡ Some j → option_and_then (λ x. if_last x.0 x.1) p ≡ Some j
the_last None p j k le e = cc
the_last (Some (i, [])) p j k le e = let same : i ≡ j = cc in rw (k (rw same le)) e
the_last (Some (i, t ∷ r)) p j k le e = cc

-- the reading of a text that nests less deep than a document may
pub shallow_read : (text : List ℕ) (j : Json) (d : Data) → document text ≡ Some j → depth j ≤ 127 → of_json j ≡ Some d
    → read text ≡ Some d
shallow_read text j d is shallow tree =
    ap (option_and_then of_json)
    (the_last (value 128 (tokens text)) (value 127 (tokens text)) j (value_below 127 (tokens text)) shallow is) ∙ tree
