-- What tests of events show.
use Rattle.std.proofs.Common.{◌≡◌, ℕ, ◌==◌, ◌&&◌, ◌+◌, ◌-◌, ◌<◌, true, Option, Some, None, sym, arith}
use Rattle.std.proofs.lemmas.Grind.{common_steps}
use Rattle.std.proofs.lemmas.Bool.{false≢true, eqb-true, eq-eqb, and_parts, and_from, leb-true, le-leb, ltb-true, lt-ltb}
use Rattle.sab_judge.specs.declared.place.Place.{Place}
use Rattle.sab_judge.specs.declared.access.Access.{Access}
use Rattle.sab_judge.specs.Place.{same_place}
use Rattle.std.specs.Prelude.{nat_le, nat_lt}
use Rattle.sab_judge.specs.Access.{covers}
use Rattle.sab_judge.specs.Event.{share_waiters}

-- two places that are a third are one
same_place-joined : (p q r : Place) → same_place p r ≡ true → same_place q r ≡ true → same_place p q ≡ true
same_place-joined p q r e f = grind (arith, common_steps, and_parts, and_from, eq-eqb, eqb-true)

-- two that are among the waiters of a place are among those of one place
pub share_waiters-joined : (x y : Option Place) (p : Place) → share_waiters x (Some p) ≡ true
    → share_waiters y (Some p) ≡ true → share_waiters x y ≡ true
share_waiters-joined None y p e f = absurd (false≢true e)
share_waiters-joined (Some q) None p e f = absurd (false≢true f)
share_waiters-joined (Some q) (Some r) p e f = same_place-joined q r p e f

-- a byte in the range of an access, by how far it is from the first
pub record IsByteOf (a : Access) (block byte : ℕ) : Type 0 where
  pub offset : ℕ
  pub inside : offset < a.len
  pub block_is : block ≡ a.place.block
  pub byte_is : byte ≡ a.place.byte + offset

pub covered_byte : (a : Access) (block byte : ℕ) → covers a block byte ≡ true → IsByteOf a block byte
covered_byte a block byte e =
    let x = and_parts (a.place.block == block) (nat_le a.place.byte byte && nat_lt byte (a.place.byte + a.len)) e in
    let y = and_parts (nat_le a.place.byte byte) (nat_lt byte (a.place.byte + a.len)) x.1 in
    let low = leb-true a.place.byte byte y.0 in
    let high = ltb-true byte (a.place.byte + a.len) y.1 in
    record {
      offset = byte - a.place.byte;
      inside = omega (arith, low, high);
      block_is = sym (eqb-true a.place.block block x.0);
      byte_is = omega (arith, low);
    }

pub byte_covered : (a : Access) (block byte : ℕ) → IsByteOf a block byte → covers a block byte ≡ true
byte_covered a block byte its = grind (arith, common_steps, and_from, nat_le, nat_lt, eq-eqb, le-leb, lt-ltb)
