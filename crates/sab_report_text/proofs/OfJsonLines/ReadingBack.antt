-- The text of a tree is read as the tree, where its keys stand in order and its numbers fit 64 bits.
use Rattle.std.proofs.Common.{◌≡◌, ℕ, zero, suc, ◌≤◌, pos, negsuc, List, [], Some, refl, sym, ap, ◌∙◌, arith, append-nil, option_map, option_and_then}
use Rattle.std.specs.Prelude.{⊤}
use Rattle.std.specs.Ordering.{nat_cmp, ordering_reverse}
use Rattle.std.specs.declared.cmp.Ordering.TheVariants.{Less, Greater}
use Rattle.std.specs.Cmp.Lexicographic.{slice_cmp, nat_list_cmp_total}
use Rattle.json.specs.Lex.{tokens}
use Rattle.json.specs.Json as json
use Rattle.json.specs.Tree as tree
use Rattle.json.specs.Tree.{json_tokens, HasNumbers, ItemsHaveNumbers, MembersHaveNumbers}
use Rattle.json.proofs.Printed.Decimals.{IsNumber-decimal, IsNumber-signed_decimal}
use Rattle.json.proofs.Printed.Tokens.{tokens-print}
use Rattle.json.proofs.Printed.Trees.{value-json_tokens, ArePrintable-json_tokens}
use Rattle.serde_json.specs.Data.{unsigned, negative, float, Data, null, boolean, number, string, array, object, Items, no_items, item, Members, no_members, member, put}
use Rattle.serde_json.specs.Read.{of_json, of_items, of_members, read, max_depth}
use Rattle.serde_json.specs.Written.{outline, items_outline, members_outline, compact_text}
use Rattle.serde_json.proofs.Numbers.{number_of-decimal, number_of-negative}
use Rattle.serde_json.proofs.Texts.{print-outline}
use Rattle.sab_report_text.proofs.OfJsonLines.ShortNumbers.{HasShortNumbers, ItemsHaveShortNumbers, MembersHaveShortNumbers}

abbrev pub IsBefore : List ℕ → List ℕ → Type 0
IsBefore k l = slice_cmp nat_cmp k l ≡ Less

-- objects have each key once and in order, and arrays and objects nest at most so deep
abbrev mutual
  pub IsInOrder : ℕ → Data → Type 0
  IsInOrder n null = ⊤
  IsInOrder n (boolean b) = ⊤
  IsInOrder n (number x) = ⊤
  IsInOrder n (string s) = ⊤
  IsInOrder zero (array ds) = ⊥
  IsInOrder (suc n) (array ds) = AreInOrder n ds
  IsInOrder zero (object ms) = ⊥
  IsInOrder (suc n) (object ms) = BeginInOrder n ms

  pub AreInOrder : ℕ → Items → Type 0
  AreInOrder n no_items = ⊤
  AreInOrder n (item d ds) = IsInOrder n d × AreInOrder n ds

  pub BeginInOrder : ℕ → Members → Type 0
  BeginInOrder n no_members = ⊤
  BeginInOrder n (member k d ms) = IsInOrder n d × FollowInOrder n k ms

  -- behind a key
  pub FollowInOrder : ℕ → List ℕ → Members → Type 0
  FollowInOrder n k no_members = ⊤
  FollowInOrder n k (member l d ms) = IsBefore k l × (IsInOrder n d × FollowInOrder n l ms)

-- ---- tokens

mutual
  has_numbers : (d : Data) → HasShortNumbers d → HasNumbers (outline d)
  has_numbers null h = tt
  has_numbers (boolean b) h = tt
  has_numbers (number (unsigned n)) h = IsNumber-decimal n h
  has_numbers (number (negative (pos n))) h = absurd h
  has_numbers (number (negative (negsuc n))) h = IsNumber-signed_decimal (negsuc n) h
  has_numbers (number (float x)) h = absurd h
  has_numbers (string s) h = tt
  has_numbers (array ds) h = items_have_numbers ds h
  has_numbers (object ms) h = members_have_numbers ms h

  items_have_numbers : (ds : Items) → ItemsHaveShortNumbers ds → ItemsHaveNumbers (items_outline ds)
  items_have_numbers no_items h = tt
  items_have_numbers (item d ds) h = (has_numbers d h.0, items_have_numbers ds h.1)

  members_have_numbers : (ms : Members) → MembersHaveShortNumbers ms → MembersHaveNumbers (members_outline ms)
  members_have_numbers no_members h = tt
  members_have_numbers (member k d ms) h = (has_numbers d h.0, members_have_numbers ms h.1)

mutual
  depth_most : (n : ℕ) (d : Data) → IsInOrder n d → tree.depth (outline d) ≤ n
  depth_most n null h = omega arith
  depth_most n (boolean b) h = omega arith
  depth_most n (number x) h = omega arith
  depth_most n (string s) h = omega arith
  depth_most zero (array ds) h = absurd h
  depth_most (suc n) (array ds) h = let d = items_depth_most n ds h in omega (arith, d)
  depth_most zero (object ms) h = absurd h
  depth_most (suc n) (object ms) h = let d = begin_depth_most n ms h in omega (arith, d)

  items_depth_most : (n : ℕ) (ds : Items) → AreInOrder n ds → tree.items_depth (items_outline ds) ≤ n
  items_depth_most n no_items h = omega arith
  items_depth_most n (item d ds) h =
      let first = depth_most n d h.0 in
      let others = items_depth_most n ds h.1 in
      omega (arith, first, others)

  begin_depth_most : (n : ℕ) (ms : Members) → BeginInOrder n ms → tree.members_depth (members_outline ms) ≤ n
  begin_depth_most n no_members h = omega arith
  begin_depth_most n (member k d ms) h =
      let first = depth_most n d h.0 in
      let others = follow_depth_most n k ms h.1 in
      omega (arith, first, others)

  follow_depth_most : (n : ℕ) (k : List ℕ) (ms : Members) → FollowInOrder n k ms
      → tree.members_depth (members_outline ms) ≤ n
  follow_depth_most n k no_members h = omega arith
  follow_depth_most n k (member l d ms) h =
      let first = depth_most n d h.1.0 in
      let others = follow_depth_most n l ms h.1.1 in
      omega (arith, first, others)

-- ---- members that are put one after the other

abbrev join : Members → Members → Members
join no_members ms = ms
join (member k d others) ms = member k d (join others ms)

join_assoc : (a b c : Members) → join (join a b) c ≡ join a (join b c)
join_assoc no_members b c = refl
join_assoc (member k d a) b c = ap (member k d) (join_assoc a b c)

-- each key of the members is before k
abbrev AreBefore : Members → List ℕ → Type 0
AreBefore no_members k = ⊤
AreBefore (member l d ms) k = IsBefore l k × AreBefore ms k

before_more : (ms : Members) (k l : List ℕ) (d : Data) → AreBefore ms k → IsBefore k l
    → AreBefore (join ms (member k d no_members)) l
before_more no_members k l d h lt = (lt, tt)
before_more (member m e ms) k l d h lt = (nat_list_cmp_total.trans m k l h.0 lt, before_more ms k l d h.1 lt)

put_last : (ms : Members) (k : List ℕ) (d : Data) → AreBefore ms k → put k d ms ≡ join ms (member k d no_members)
put_last no_members k d h = refl
put_last (member l e ms) k d h =
    let above : slice_cmp nat_cmp k l ≡ Greater = nat_list_cmp_total.antisymm k l ∙ ap ordering_reverse h.0 in
    rw above (ap (member l e) (put_last ms k d h.1))

-- ---- what the tokens are read as

mutual
  of_outline : (n : ℕ) (d : Data) → HasShortNumbers d → IsInOrder n d → of_json (outline d) ≡ Some d
  of_outline n null h o = refl
  of_outline n (boolean b) h o = refl
  of_outline n (number (unsigned x)) h o = ap (option_map number) (number_of-decimal x h)
  of_outline n (number (negative (pos x))) h o = absurd h
  of_outline n (number (negative (negsuc x))) h o = ap (option_map number) (number_of-negative x h)
  of_outline n (number (float x)) h o = absurd h
  of_outline n (string s) h o = refl
  of_outline zero (array ds) h o = absurd o
  of_outline (suc n) (array ds) h o = ap (option_map array) (of_items_outline n ds h o)
  of_outline zero (object ms) h o = absurd o
  of_outline (suc n) (object ms) h o = ap (option_map object) (of_members_outline n ms h o)

  of_items_outline : (n : ℕ) (ds : Items) → ItemsHaveShortNumbers ds → AreInOrder n ds
      → of_items (items_outline ds) ≡ Some ds
  of_items_outline n no_items h o = refl
  of_items_outline n (item d ds) h o =
      ap (option_and_then (λ (x : Data). option_map (item x) (of_items (items_outline ds)))) (of_outline n d h.0 o.0)
      ∙ ap (option_map (item d)) (of_items_outline n ds h.1 o.1)

  of_members_outline : (n : ℕ) (ms : Members) → MembersHaveShortNumbers ms → BeginInOrder n ms
      → of_members (members_outline ms) no_members ≡ Some ms
  of_members_outline n no_members h o = refl
  of_members_outline n (member k d ms) h o =
      ap (option_and_then (λ (x : Data). of_members (members_outline ms) (put k x no_members)))
      (of_outline n d h.0 o.0) ∙ of_members_behind n no_members k d ms tt h.1 o.1

  -- members are put behind those that were found, of which k is the last
  of_members_behind : (n : ℕ) (found : Members) (k : List ℕ) (d : Data) (ms : Members) → AreBefore found k
      → MembersHaveShortNumbers ms → FollowInOrder n k ms
      → of_members (members_outline ms) (join found (member k d no_members)) ≡ Some (join found (member k d ms))
  of_members_behind n found k d no_members b h o = refl
  of_members_behind n found k d (member l e ms) b h o =
      let all = join found (member k d no_members) in
      let before = before_more found k l d b o.0 in
      ap (option_and_then (λ (x : Data). of_members (members_outline ms) (put l x all))) (of_outline n e h.0 o.1.0)
      ∙ ap (of_members (members_outline ms)) (put_last all l e before)
      ∙ of_members_behind n all l e ms before h.1 o.1.1
      ∙ ap Some (join_assoc found (member k d no_members) (member l e ms))

pub reads_back : (d : Data) → IsInOrder max_depth d → HasShortNumbers d → read (compact_text d) ≡ Some d
reads_back d o h =
    let printed : tokens (compact_text d) ≡ json_tokens (outline d) = ap tokens (sym (print-outline d))
    ∙ tokens-print (json_tokens (outline d)) (ArePrintable-json_tokens (outline d) (has_numbers d h)) in
    ap (λ ts. option_and_then of_json (option_and_then (λ p. json.if_last p.0 p.1) (json.value max_depth ts)))
    (printed ∙ sym (append-nil (json_tokens (outline d))))
    ∙ ap (λ o. option_and_then of_json (option_and_then (λ p. json.if_last p.0 p.1) o))
    (value-json_tokens (outline d) max_depth [] (depth_most max_depth d o))
    ∙ of_outline max_depth d h o
