-- The bytes that an access leaves.
use Rattle.std.proofs.Common.{◌≡◌, Some, None, Option, ◌∷◌, map, refl, ◌⊎◌, inl, inr, ℕ, ◌+◌, ◌-◌, ◌*◌, ◌^◌, ◌<◌, ◌≤◌, Bool, true, false, ◌&&◌, nat_le, nat_lt, ℤ, pos, ◌+ℤ◌, ◌-ℤ◌, List, ◌++◌, length, take, drop, slice_index, cond, ap, sym, ◌∙◌, arith, rules, eq-eqb}
use Rattle.std.proofs.lemmas.Bool.{cases_eq}
use Rattle.std.proofs.lemmas.Bool.Decides.{nat_tests}
use Rattle.std.proofs.lemmas.Int.{ints}
use Rattle.std.proofs.Math.Nat.{mod-eq_of_lt, pow-le-pow_right}
use Rattle.std.proofs.Math.ListN.{get_or-append}
use Rattle.std.proofs.lemmas.List.{length-take, get_or-take, get_or-append_right, get_or-drop}
use Rattle.std.specs.Int.{w128}
use Rattle.std.specs.Prelude.{FitsSigned, ◌==◌, option_map}
use Rattle.sab_block.specs.declared.kind.Kind.{Kind}
use Rattle.sab_block.specs.declared.access.Access.{Access}
use Rattle.sab_block.specs.declared.access.Access.TheVariants as X
use Rattle.sab_block.specs.declared.operand.Operand.{Operand}
use Rattle.sab_block.specs.declared.view.View.{View}
use Rattle.sab_block.specs.Block.{digits, put}
use Rattle.sab_block.specs.Kind.{element_size, is_atomic, is_signed, is_big, raw_count}
use Rattle.sab_block.specs.Operand.{raw, value, modulo, whole_of, operand}
use Rattle.sab_block.specs.View.{kind_of}
use Rattle.sab_block.specs.declared.check.Check.{Check}
use Rattle.sab_block.specs.declared.check.Check.TheVariants as K
use Rattle.sab_block.specs.Check.{thrown_by, first_failed}
use Rattle.sab_block.specs.Access.{ActsAt, access_verdict, element, index_check, index_of, operand_check, operands_of, raw_of}
use Rattle.sab_block.proofs.RawElements.{modulo-pow, raw-lt, element_bits}
use Rattle.sab_block.proofs.WholeNumbers.{kept}
use Rattle.sab_block.proofs.Lengths.{length-front}
use Rattle.sab_replay.specs.declared.events.target.Target.{Target}
use Rattle.sab_replay.specs.Events.Events.{access_of}

-- a write leaves the bytes before and after the element as they were
pub put-before : (mem : List ℕ) (p size r byte : ℕ) → p + size ≤ length mem → byte < p
    → slice_index (put mem p size r) byte ≡ slice_index mem byte
unfolding put
put-before mem p size r byte h b =
    get_or-append (take p mem ++ digits size r) (drop (p + size) mem) 0 byte
    (omega (arith, length-front mem p size r h))
    ∙ (get_or-append (take p mem) (digits size r) 0 byte (omega (arith, length-take p mem)) ∙ get_or-take p mem byte 0 b)

pub put-after : (mem : List ℕ) (p size r byte : ℕ) → p + size ≤ length mem → p + size ≤ byte
    → slice_index (put mem p size r) byte ≡ slice_index mem byte
unfolding put
put-after mem p size r byte h b =
    let at : p + size + (byte - (p + size)) ≡ byte = omega arith in
    get_or-append_right (take p mem ++ digits size r) (drop (p + size) mem) (p + size) byte 0
    (length-front mem p size r h) b
    ∙ (get_or-drop (p + size) mem (byte - (p + size)) 0 ∙ ap (λ n. slice_index mem n) at)

-- and the element has the digits of what was written
pub put-inside : (mem : List ℕ) (p size r byte : ℕ) → p + size ≤ length mem → p ≤ byte → byte < p + size
    → slice_index (put mem p size r) byte ≡ slice_index (digits size r) (byte - p)
unfolding put
put-inside mem p size r byte h from below =
    get_or-append (take p mem ++ digits size r) (drop (p + size) mem) 0 byte
    (omega (arith, length-front mem p size r h))
    ∙ get_or-append_right (take p mem) (digits size r) p byte 0 (omega (arith, length-take p mem)) from

-- a raw element is read as a value that is written as it
raw-unsigned : (n r : ℕ) → r < 2 ^ n → modulo (pos r) (2 ^ n) ≡ r
raw-unsigned n r h = mod-eq_of_lt h

back : (r m : ℕ) → pos r -ℤ pos m +ℤ pos m ≡ pos r
back r m = omega (arith, ints)

raw-signed : (n r : ℕ) → r < 2 ^ n → modulo (pos r -ℤ pos (2 ^ n)) (2 ^ n) ≡ r
raw-signed n r h =
    let same : 0 + n ≡ n = omega arith in
    let power : 2 ^ (0 + n) ≡ 2 ^ n = ap (λ k. 2 ^ k) same in
    modulo-pow (pos r -ℤ pos (2 ^ n)) 0 n r (rw power (back r (2 ^ n))) ∙ mod-eq_of_lt h

pub raw-value : (kind : Kind) (r : ℕ) → r < raw_count kind → raw kind (value kind r) ≡ r
unfolding raw value
raw-value kind r h =
    elim (is_signed kind && nat_le (2 ^ (8 * element_size kind - 1)) r)
    as (λ b. modulo (cond b (pos r -ℤ pos (raw_count kind)) (pos r)) (raw_count kind) ≡ r) [
      | true ↦ raw-signed (8 * element_size kind) r h
      | false ↦ raw-unsigned (8 * element_size kind) r h
    ]

fits-unsigned : (r m : ℕ) → r < m → m ≤ 2 ^ 64 → FitsSigned w128 (pos r)
fits-unsigned r m h most = record { sfits = omega (arith, ints) }

fits-signed : (r m : ℕ) → r < m → m ≤ 2 ^ 64 → FitsSigned w128 (pos r -ℤ pos m)
fits-signed r m h most = search (ints, rules)

pub fits-value : (kind : Kind) (r : ℕ) → r < raw_count kind → FitsSigned w128 (value kind r)
unfolding value
fits-value kind r h =
    let most : raw_count kind ≤ 2 ^ 64 = pow-le-pow_right (omega arith) (element_bits kind) in
    elim (is_signed kind && nat_le (2 ^ (8 * element_size kind - 1)) r)
    as (λ b. FitsSigned w128 (cond b (pos r -ℤ pos (raw_count kind)) (pos r))) [
      | true ↦ fits-signed r (raw_count kind) h most
      | false ↦ fits-unsigned r (raw_count kind) h most
    ]

-- the byte is one of the element's
abbrev pub is_inside : ℕ → ℕ → ℕ → Bool
is_inside p size byte = nat_le p byte && nat_lt byte (p + size)

-- a write leaves the bytes that aren't
put-outside : (mem : List ℕ) (p size r byte : ℕ) → p + size ≤ length mem → is_inside p size byte ≡ false
    → slice_index (put mem p size r) byte ≡ slice_index mem byte
put-outside mem p size r byte h e = elim (side p size byte e) [
  | inl b ↦ put-before mem p size r byte h b
  | inr b ↦ put-after mem p size r byte h b
]
  where
    side : (p size byte : ℕ) → is_inside p size byte ≡ false → (byte < p) ⊎ (p + size ≤ byte)
    side p size byte e = grind (arith, nat_tests)

-- an access whose checks pass is of a kind that the functions of Atomics take
passing : (b : Bool) (o : Option Check) → option_map thrown_by (cond b o (Some K.AtomicKind)) ≡ None → b ≡ true
passing true o h = refl
passing false o h = absurd (cc)

pub atomic-kind : (view : View) (access : Access) → access_verdict view access ≡ None
    → is_atomic (kind_of view) ≡ true
atomic-kind view access h =
    passing (is_atomic (kind_of view))
    (first_failed (index_check view (index_of access) ∷ map (operand_check view) (operands_of access))) h

-- where an exchange was made, the answer is the element expected
exchanged : (view : View) (y x : Operand) (r : ℕ) → is_atomic (kind_of view) ≡ true → r ≡ raw_of view y
    → x ≡ operand (kind_of view) r
    → (is_atomic (kind_of view) && (raw_of view y == raw_of view x)) ≡ true
exchanged view y x r atomic e f =
    let kind = kind_of view in
    let fits : r < raw_count kind = rw e (raw-lt kind (whole_of y)) in
    let whole : whole_of x ≡ value kind r = ap whole_of f ∙ kept (is_big kind) (value kind r) (fits-value kind r fits) in
    let back : raw_of view x ≡ r = ap (raw kind) whole ∙ raw-value kind r fits in
    ap (λ b. b && (raw_of view y == raw_of view x)) atomic
    ∙ eq-eqb (raw_of view y) (raw_of view x) (sym e ∙ sym back)

-- an access leaves the bytes that its event doesn't write
pub ActsAt-outside : (t : Target) (access : Access) (p : ℕ) (mem : List ℕ) (x : Operand) (mem' : List ℕ) (byte : ℕ)
    → is_atomic (kind_of t.view) ≡ true → p + element_size (kind_of t.view) ≤ length mem
    → ActsAt t.view access p mem x mem'
    → ((access_of access x t).writes && is_inside p (element_size (kind_of t.view)) byte) ≡ false
    → slice_index mem' byte ≡ slice_index mem byte
ActsAt-outside t (X.Load index) p mem x mem' byte atomic h acts e = ap (λ bytes. slice_index bytes byte) acts.1
ActsAt-outside t (X.Store index y) p mem x mem' byte atomic h acts e =
    ap (λ bytes. slice_index bytes byte) acts.1 ∙ put-outside mem p (element_size (kind_of t.view)) _ byte h e
ActsAt-outside t (X.Rmw op index y) p mem x mem' byte atomic h acts e =
    ap (λ bytes. slice_index bytes byte) acts.1 ∙ put-outside mem p (element_size (kind_of t.view)) _ byte h e
ActsAt-outside t (X.CompareExchange index y z) p mem x mem' byte atomic h acts e =
    elim (cases_eq (element t.view mem p) (raw_of t.view y)) [
      | inl same ↦
          let writes = exchanged t.view y x (element t.view mem p) atomic same acts.0 in
          ap (λ bytes. slice_index bytes byte) (acts.1 same)
          ∙ put-outside mem p (element_size (kind_of t.view)) _ byte h
          (sym (ap (λ b. b && is_inside p (element_size (kind_of t.view)) byte) writes) ∙ e)
      | inr other ↦ ap (λ bytes. slice_index bytes byte) (acts.2 other)
    ]
