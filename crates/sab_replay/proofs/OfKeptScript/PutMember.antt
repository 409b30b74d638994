-- A member that is put in brings no float and nests no deeper than it does itself.
use Rattle.std.proofs.Common.{◌≡◌, ℕ, ◌≤◌, max, List, false, refl, arith}
use Rattle.std.proofs.lemmas.Bool.{or_parts}
use Rattle.std.specs.Ordering.{nat_cmp, match_ordering}
use Rattle.std.specs.declared.cmp.Ordering.{Ordering}
use Rattle.std.specs.declared.cmp.Ordering.TheVariants.{Less, Equal, Greater}
use Rattle.std.specs.Cmp.Lexicographic.{slice_cmp}
use Rattle.serde_json.specs.Data.{Data, Members, no_members, member, put, depth, members_depth}
use Rattle.serde_json.specs.Written.{has_float, members_have_float}

pub float_put : (k : List ℕ) (d : Data) (ms : Members) → has_float d ≡ false → members_have_float ms ≡ false
    → members_have_float (put k d ms) ≡ false
float_put k d no_members p q = rw p refl
float_put k d (member l e ms) p q =
    let parts = or_parts (has_float e) (members_have_float ms) q in
    let rest = float_put k d ms p parts.1 in
    go (slice_cmp nat_cmp k l) parts rest
  where
    go : (o : Ordering) → (has_float e ≡ false) × (members_have_float ms ≡ false)
        → members_have_float (put k d ms) ≡ false
        → members_have_float (match_ordering o (member k d (member l e ms)) (member l d ms) (member l e (put k d ms)))
        ≡ false
    go Less parts rest = rw (p, parts.0, parts.1) refl
    go Equal parts rest = rw (p, parts.1) refl
    go Greater parts rest = rw (parts.0, rest) refl

pub depth_put : (k : List ℕ) (d : Data) (ms : Members) → members_depth (put k d ms) ≤ max (depth d) (members_depth ms)
depth_put k d no_members = omega arith
depth_put k d (member l e ms) = go (slice_cmp nat_cmp k l) (depth_put k d ms)
  where
    go : (o : Ordering) → members_depth (put k d ms) ≤ max (depth d) (members_depth ms)
        → members_depth (match_ordering o (member k d (member l e ms)) (member l d ms) (member l e (put k d ms)))
        ≤ max (depth d) (max (depth e) (members_depth ms))
    go Less rest = omega arith
    go Equal rest = omega arith
    go Greater rest = omega arith
