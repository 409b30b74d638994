-- Kinds have different names, and numbers that may be left out have different trees.
use Rattle.std.proofs.Common.{◌≡◌, ℕ, ℤ, List, [], ◌∷◌, Option, Some, None, sym, ap, ◌∙◌, refl}
use Rattle.std.specs.Prelude.{if◌then◌else◌}
use Rattle.std.specs.Str.{bytes_eq}
use Rattle.sab_block.specs.declared.kind.Kind.{Kind}
use Rattle.sab_block.specs.declared.kind.Kind.TheVariants.{Int8, Uint8, Uint8Clamped, Int16, Uint16, Int32, Uint32, Float32, Float64, BigInt64, BigUint64}
use Rattle.sab_block.specs.Kind.{kind_name}
use Rattle.sab_reader.specs.Script.Numbers.{whole_or_null}
use Rattle.sab_reader.proofs.OfScript.WholeCall.{same_whole}

first_kind : List Kind → List ℕ → Option Kind
first_kind [] name = None
first_kind (k ∷ ks) name = if bytes_eq (kind_name k) name then Some k else first_kind ks name

kinds : List Kind
kinds = Int8 ∷ Uint8 ∷ Uint8Clamped ∷ Int16 ∷ Uint16 ∷ Int32 ∷ Uint32 ∷ Float32 ∷ Float64 ∷ BigInt64 ∷ BigUint64 ∷ []

found : (k : Kind) → first_kind kinds (kind_name k) ≡ Some k
unfolding first_kind kinds
found Int8 = refl
found Uint8 = refl
found Uint8Clamped = refl
found Int16 = refl
found Uint16 = refl
found Int32 = refl
found Uint32 = refl
found Float32 = refl
found Float64 = refl
found BigInt64 = refl
found BigUint64 = refl

pub same_kind : (a b : Kind) → kind_name a ≡ kind_name b → a ≡ b
same_kind a b e =
    let same : Some a ≡ Some b = sym (found a) ∙ ap (first_kind kinds) e ∙ found b in cc

pub same_optional : (a b : Option ℤ) → whole_or_null a ≡ whole_or_null b → a ≡ b
same_optional None None e = refl
same_optional None (Some z) e = cc
same_optional (Some y) None e = cc
same_optional (Some y) (Some z) e = ap (λ (x : ℤ). Some x) (same_whole y z e)
