-- The members of an object stand in the order of their names.
use Rattle.std.proofs.Common.{◌≡◌, ℕ, List, [], ◌∷◌, None, Ordering, Less, Equal, Greater, false, is_eq, is_lt, bytes_eq, true≢false, refl, ap, ◌∙◌}
use Rattle.std.proofs.lemmas.Map.Text.{is_eq-slice_cmp}
use Rattle.std.specs.Prelude.{String, string_bytes}
use Rattle.std.specs.List.{AllByRecursion}
use Rattle.std.specs.List.Sorted.{IsStrictlySortedBy}
use Rattle.std.specs.Map.{keys_of}
use Rattle.std.specs.String.{string_cmp}
use Rattle.std.specs.Ordering.{nat_cmp, ordering_reverse}
use Rattle.std.specs.Cmp.Lexicographic.{slice_cmp, nat_list_cmp_total}
use Rattle.std.specs.declared.alloc.Global.{Global}
use Rattle.serde_json.specs.Data.{Data, Members, no_members, member}
use Rattle.serde_json.specs.Find.{get_member}
use Rattle.serde_json.specs.View.{members_view}
use Rattle.serde_json.specs.declared.value.Value.{Value}
use Rattle.sab_reader.specs.Script.Known.{IsBefore, FollowInOrder, AreInOrder}

-- the entries of a map
follow_in_order : (k : String Global) (es : List (String Global × Value))
    → AllByRecursion (λ y. string_cmp k y ≡ Less) (keys_of es) → IsStrictlySortedBy string_cmp (keys_of es)
    → FollowInOrder (string_bytes k) (members_view es)
unfolding IsStrictlySortedBy
follow_in_order k [] above sorted = tt
follow_in_order k (e ∷ es) above sorted = (above.0, follow_in_order e.0 es sorted.0 sorted.1)

pub are_in_order : (es : List (String Global × Value)) → IsStrictlySortedBy string_cmp (keys_of es)
    → AreInOrder (members_view es)
unfolding IsStrictlySortedBy
are_in_order [] sorted = tt
are_in_order (e ∷ es) sorted = follow_in_order e.0 es sorted.0 sorted.1

-- members behind a name are in order
pub order_behind : (k : List ℕ) (ms : Members) → FollowInOrder k ms → AreInOrder ms
order_behind k no_members h = tt
order_behind k (member l d ms) h = h.1

-- a name before the first is none of theirs
pub none_before : (k l : List ℕ) (ms : Members) → IsBefore k l → FollowInOrder l ms → get_member k ms ≡ None
none_before k l no_members lt h = refl
none_before k l (member m d ms) lt h =
    let less : IsBefore k m = nat_list_cmp_total.trans k l m lt h.0 in
    rw less (none_before k m ms less h.1)

pub none_from_first : (k l : List ℕ) (d : Data) (ms : Members) → IsBefore k l → FollowInOrder l ms
    → get_member k (member l d ms) ≡ None
none_from_first k l d ms lt h = rw lt (none_before k l ms lt h)

-- of two names that are neither the same nor in order, the second is before the first
pub before_from_tests : (k l : List ℕ) → bytes_eq k l ≡ false → is_lt (slice_cmp nat_cmp k l) ≡ false → IsBefore l k
before_from_tests k l other late =
    nat_list_cmp_total.antisymm l k ∙ ap ordering_reverse (by (slice_cmp nat_cmp k l) (is_eq-slice_cmp k l ∙ other) late)
  where
    by : (o : Ordering) → is_eq o ≡ false → is_lt o ≡ false → o ≡ Greater
    by Less e l = absurd (true≢false l)
    by Equal e l = absurd (true≢false e)
    by Greater e l = refl
