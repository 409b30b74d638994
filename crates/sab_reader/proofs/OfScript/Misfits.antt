-- Why a view can't be made on its block.
use Rattle.std.proofs.Common.{◌≡◌, ℕ, ◌-◌, ◌/◌, ◌%◌, ◌<◌, ◌≤◌, ℤ, pos, negsuc, true, Option, Some, None, refl, sym, ap, ◌∙◌, arith, inl, inr}
use Rattle.std.proofs.lemmas.Grind.{common_steps}
use Rattle.std.specs.Prelude.{◌<ℤ◌, ◌==◌, nat_le, nat_abs, FitsSigned}
use Rattle.std.specs.Int.{w64, FitsUnsignedBits}
use Rattle.std.proofs.lemmas.Int.{ints}
use Rattle.std.proofs.lemmas.Bool.{eq-eqb, le-leb, leb-false}
use Rattle.std.proofs.Math.Nat.{mul-mod_left, div-lt_iff_lt-mul}
use Rattle.serde_json.specs.Data.{Data}
use Rattle.sab_block.specs.declared.kind.Kind.{Kind}
use Rattle.sab_block.specs.declared.kind.Kind.TheVariants.{Int8, Uint8, Uint8Clamped, Int16, Uint16, Int32, Uint32, Float32, Float64, BigInt64, BigUint64}
use Rattle.sab_block.specs.Kind.{element_size}
use Rattle.sab_block.specs.View.{count, given_count, rest_count}
use Rattle.sab_refusal.specs.declared.location.Location.TheVariants as at
use Rattle.sab_refusal.specs.declared.member.Member.TheVariants as M
use Rattle.sab_reader.specs.declared.script.view_spec.ViewSpec.{ViewSpec}
use Rattle.sab_reader.specs.Script.Numbers.{whole, whole_or_null}
use Rattle.sab_reader.specs.Script.Truth.{IsMultiple, IsViewBelowZero, IsUneven, IsBehind, IsTooLong, IsUnevenBlock}
use Rattle.sab_reader.specs.Script.ViewPlaces.{HasView}

-- a whole number of 64 bits that isn't one without a sign
pub not_unsigned : (z : ℤ) → FitsSigned w64 z → (FitsUnsignedBits 64 z → ⊥) → z <ℤ pos 0
not_unsigned (pos n) fits not_there = absurd (not_there (omega (arith, ints, fits)))
not_unsigned (negsuc n) fits not_there = omega (arith, ints)

pub unsigned : (z : ℤ) (n : ℕ) → FitsUnsignedBits 64 z → n ≡ nat_abs z → z ≡ pos n
unsigned (pos m) n fits e = ap (λ k. pos k) (sym e)
unsigned (negsuc m) n fits e = absurd fits

pub offset_below : (root : Data) (i len : ℕ) (v : ViewSpec) (z : ℤ) → z ≡ v.offset → z <ℤ pos 0 → HasView root i len v
    → IsViewBelowZero root (at.Part M.Views i M.Offset) z
offset_below root i len v z e below there =
    ((i, inl refl), there.offset ∙ ap (λ x. Some (whole x)) (sym e), below)

pub length_below : (root : Data) (i len : ℕ) (v : ViewSpec) (z : ℤ) → v.length ≡ Some z → z <ℤ pos 0
    → HasView root i len v → IsViewBelowZero root (at.Part M.Views i M.Length) z
length_below root i len v z e below there =
    ((i, inr refl), there.length ∙ ap (λ x. Some (whole_or_null x)) e, below)

size_positive : (kind : Kind) → 0 < element_size kind
size_positive Int8 = omega arith
size_positive Uint8 = omega arith
size_positive Uint8Clamped = omega arith
size_positive Int16 = omega arith
size_positive Uint16 = omega arith
size_positive Int32 = omega arith
size_positive Uint32 = omega arith
size_positive Float32 = omega arith
size_positive Float64 = omega arith
size_positive BigInt64 = omega arith
size_positive BigUint64 = omega arith

no_rest : (size n : ℕ) → IsMultiple size n → n % size ≡ 0
no_rest size n k = ap (λ x. x % size) k.1 ∙ mul-mod_left k.0 size

pub uneven : (root : Data) (i len : ℕ) (v : ViewSpec) (n size : ℕ) → v.offset ≡ pos n → size ≡ element_size v.kind
    → (n % size ≡ 0 → ⊥) → HasView root i len v → IsUneven root (at.Part M.Views i M.Offset) size
uneven root i len v n size e size_is odd there = grind (arith, common_steps, whole, no_rest)

pub behind : (root : Data) (i len : ℕ) (v : ViewSpec) (n : ℕ) → v.offset ≡ pos n → len < n → HasView root i len v
    → IsBehind root (at.Part M.Views i M.Offset) len
behind root i len v n e beyond there =
    (i, refl, (n, there.offset ∙ ap (λ x. Some (whole x)) e, beyond), there.on)

-- the count of a view whose offset is a multiple of the size
even_count : (kind : Kind) (len n : ℕ) (length : Option ℤ) → n % element_size kind ≡ 0
    → count kind len (pos n) length ≡ None → (z : ℤ) → length ≡ Some z
    → given_count (element_size kind) len n z ≡ None
even_count kind len n length even none z e =
    let test : (n % element_size kind == 0) ≡ true = eq-eqb _ _ even in
    let found = rw (e, test) at none in found

even_rest : (kind : Kind) (len n : ℕ) (length : Option ℤ) → n % element_size kind ≡ 0
    → count kind len (pos n) length ≡ None → length ≡ None → rest_count (element_size kind) len n ≡ None
even_rest kind len n length even none e =
    let test : (n % element_size kind == 0) ≡ true = eq-eqb _ _ even in
    let found = rw (e, test) at none in found

odd_block : (size len n : ℕ) → rest_count size len n ≡ None → n ≤ len → len % size ≡ 0 → ⊥
odd_block size len n none within even = grind (arith, common_steps, eq-eqb, nat_le, le-leb)

pub uneven_block : (root : Data) (i len : ℕ) (v : ViewSpec) (n size : ℕ) → v.offset ≡ pos n
    → size ≡ element_size v.kind → n % size ≡ 0 → n ≤ len → v.length ≡ None
    → count v.kind len v.offset v.length ≡ None → HasView root i len v
    → IsUnevenBlock root (at.Part M.Views i M.Length) len size
uneven_block root i len v n size e size_is even within no_length none there = grind (arith, common_steps)

-- there is room for fewer elements
few : (size len n m : ℕ) → 0 < size → n ≤ len → given_count size len n (pos m) ≡ None → (len - n) / size < m
few size len n m some within none = grind (arith, common_steps, nat_le, leb-false, div-lt_iff_lt-mul)

room_for : (size len n : ℕ) (z : ℤ) → 0 < size → n ≤ len → (z <ℤ pos 0 → ⊥) → given_count size len n z ≡ None
    → pos ((len - n) / size) <ℤ z
room_for size len n (pos m) some within not_below none =
    let h = few size len n m some within none in omega (arith, ints, h)
room_for size len n (negsuc m) some within not_below none = absurd (not_below (omega (arith, ints)))

pub too_long : (root : Data) (i len : ℕ) (v : ViewSpec) (n size room : ℕ) (z : ℤ) → v.offset ≡ pos n
    → size ≡ element_size v.kind → n % size ≡ 0 → n ≤ len → v.length ≡ Some z → (z <ℤ pos 0 → ⊥)
    → room ≡ (len - n) / size → count v.kind len v.offset v.length ≡ None → HasView root i len v
    → IsTooLong root (at.Part M.Views i M.Length) z room
too_long root i len v n size room z e size_is even within length not_below room_is none there = grind (
  arith,
  common_steps,
  count,
  pos,
  even_count,
  element_size,
  whole_or_null,
  room_for,
  size_positive,
  whole,
)
