-- What is known of two events that race: they are in the trace, and have accesses that overlap.
use Rattle.std.proofs.Common.{◌≡◌, ◌+◌, ◌<◌, ◌≤◌, ◌==◌, ◌&&◌, ◌||◌, not, true, List, length, Option, Some, None, refl, arith}
use Rattle.std.proofs.lemmas.Bool.{false≢true, and_parts, ltb-true}
use Rattle.std.specs.Prelude.{IsTrue, nat_lt, is_some}
use Rattle.sab_judge.specs.declared.access.Access.{Access}
use Rattle.sab_judge.specs.declared.event.Event.{Event}
use Rattle.sab_judge.specs.declared.race.Race.{Race}
use Rattle.sab_judge.specs.Access.{overlap, conflict, are_atomic_alike}
use Rattle.sab_judge.specs.Event.{event_at, both_are}
use Rattle.sab_judge.specs.Verdict.{IsReported}
use Rattle.sab_verdict.specs.declared.side.Side.{Side}
use Rattle.sab_verdict.specs.Events.{has_access, access_in, side_at, range_of, overlap_of, Overlap}

pub first_within : (trace : List Event) (race : Race) → IsReported trace race → race.first < length trace
first_within trace race t =
    let early = t.is_race.earlier in
    let late = t.is_race.within in
    omega (arith, early, late)

pub second_within : (trace : List Event) (race : Race) → IsReported trace race → race.second < length trace
second_within trace race t = t.is_race.within

-- ---- accesses

first_has : (x y : Option Access) → both_are conflict x y ≡ true → is_some x ≡ true
first_has x None e = absurd (false≢true e)
first_has None (Some b) e = absurd (false≢true e)
first_has (Some a) (Some b) e = refl

second_has : (x y : Option Access) → both_are conflict x y ≡ true → is_some y ≡ true
second_has x None e = absurd (false≢true e)
second_has x (Some b) e = refl

both_overlap : (x y : Option Access) → both_are conflict x y ≡ true → overlap (access_in x) (access_in y) ≡ true
both_overlap x None e = absurd (false≢true e)
both_overlap None (Some b) e = absurd (false≢true e)
both_overlap (Some a) (Some b) e =
    (and_parts (overlap a b) ((a.writes || b.writes) && not (are_atomic_alike a b)) e).0

pub first_accesses : (trace : List Event) (race : Race) → IsReported trace race
    → IsTrue (has_access (event_at trace race.first))
first_accesses trace race t =
    first_has (event_at trace race.first).access (event_at trace race.second).access t.is_race.conflict

pub second_accesses : (trace : List Event) (race : Race) → IsReported trace race
    → IsTrue (has_access (event_at trace race.second))
second_accesses trace race t =
    second_has (event_at trace race.first).access (event_at trace race.second).access t.is_race.conflict

pub they_overlap : (trace : List Event) (race : Race) → IsReported trace race
    → Overlap (side_at trace race.first) (side_at trace race.second)
they_overlap trace race t =
    both_overlap (event_at trace race.first).access (event_at trace race.second).access t.is_race.conflict

-- ---- ranges

begins_before : (a b : Access) → overlap a b ≡ true
    → (a.place.byte < b.place.byte + b.len) × (b.place.byte < a.place.byte + a.len)
begins_before a b e =
    let x = and_parts (a.place.block == b.place.block)
    (nat_lt a.place.byte (b.place.byte + b.len) && nat_lt b.place.byte (a.place.byte + a.len)) e in
    let y = and_parts (nat_lt a.place.byte (b.place.byte + b.len)) (nat_lt b.place.byte (a.place.byte + a.len)) x.1 in (
      ltb-true a.place.byte (b.place.byte + b.len) y.0,
      ltb-true b.place.byte (a.place.byte + a.len) y.1,
    )

pub first_ends : (first second : Side) → Overlap first second → 0 < (range_of first.access).end
first_ends first second h = let o = begins_before first.access second.access h in omega (arith, o.1)

pub second_ends : (first second : Side) → Overlap first second → 0 < (range_of second.access).end
second_ends first second h = let o = begins_before first.access second.access h in omega (arith, o.0)

pub shared_ends : (first second : Side) → Overlap first second → 0 < (overlap_of first.access second.access).end
shared_ends first second h =
    let o = begins_before first.access second.access h in
    omega (arith, o.0, o.1)

pub shared_begins : (first second : Side) → Overlap first second
    → (overlap_of first.access second.access).start ≤ (overlap_of first.access second.access).end
shared_begins first second h =
    let o = begins_before first.access second.access h in
    omega (arith, o.0, o.1)
