-- All checks of a wait passed, and the raw element was compared.
use Rattle.std.proofs.Common.{◌≡◌, ℕ, zero, suc, ℤ, Bool, true, false, cond, refl, List, [], ◌∷◌, length, map, slice_get, get_or, Option, Some, None, Result, Ok, Err, sym, ap, subst, ◌∙◌, rules}
use Rattle.std.specs.Prelude.{option_map}
use Rattle.std.specs.Result.{MatchResult}
use Rattle.std.proofs.lemmas.Int.{to_z-of_z}
use Rattle.std.specs.Int.{w64, w128}
use Rattle.sab_block.specs.declared.check.Check.{Check}
use Rattle.sab_block.specs.declared.check.Check.TheVariants as C
use Rattle.sab_block.specs.declared.thrown.Thrown.{Thrown}
use Rattle.sab_block.specs.declared.kind.Kind.{Kind}
use Rattle.sab_block.specs.declared.kind.Kind.TheVariants as K
use Rattle.sab_block.specs.declared.view.View.{View}
use Rattle.sab_block.specs.declared.operand.Operand.{Operand}
use Rattle.sab_block.specs.Operand.{raw, whole_of}
use Rattle.sab_block.specs.Kind.{element_size, is_atomic, is_waitable}
use Rattle.sab_block.specs.View.{kind_of, place}
use Rattle.sab_block.specs.Block.{number}
use Rattle.sab_block.specs.Check.{Checked, thrown_by, first_failed, first_thrown, Places}
use Rattle.sab_plan.specs.declared.plan_view.PlanView.{PlanView}
use Rattle.sab_plan.specs.Check.{wait_checks}
use Rattle.sab_plan.specs.declared.place.Place.{Place}
use Rattle.sab_plan.specs.Place.{place_of}
use Rattle.sab_object.specs.Object.{bytes_of, element_at}
use Rattle.sab_object.proofs.act.find_wait.Goals as goal

-- a block that is there has its bytes
bytes_is : (mem : List (List ℕ)) (b len : ℕ) (bytes : List ℕ) → slice_get (map (length {A = ℕ}) mem) b ≡ Some len
    → bytes ≡ get_or mem b bytes → bytes ≡ bytes_of mem b
bytes_is [] b len bytes there e = absurd (cc)
bytes_is (first ∷ mem) zero len bytes there e = e
bytes_is (first ∷ mem) (suc b) len bytes there e = bytes_is mem b len bytes there e

-- the place of a byte of a view's block
abbrev at_byte : PlanView → ℕ → Place
at_byte v byte = record { block = v.block; byte = byte }

-- this byte was answered
abbrev AnswersByte : Result ℕ Check → ℕ → Type 0
AnswersByte answer byte = MatchResult answer (λ p. ◌≡◌ {A = Result ℕ Thrown} (Ok byte) (Ok p)) (λ e. ⊥)

-- all checks passed where a byte was answered
passed_by : (checks : List Checked) (o : Option ℕ) (answer : Result ℕ Check) (byte : ℕ)
    → AnswersByte answer byte → Places checks o answer
    → (first_failed checks ≡ None) × (o ≡ Some byte)
passed_by checks o (Ok p) byte is h = (h.0, rw h.1 (cc))
passed_by checks o (Err check) byte is h = absurd is

-- the kind of an element that is waited at is one that the functions of Atomics take
waitable_is_atomic : (kind : Kind) → is_waitable kind ≡ true → is_atomic kind ≡ true
waitable_is_atomic K.Int32 h = refl
waitable_is_atomic K.BigInt64 h = refl
waitable_is_atomic kind h = absurd (cc)

first_passes : (passes : Bool) (check : Check) (rest : Option Check) → cond passes rest (Some check) ≡ None → passes ≡ true
first_passes true check rest h = refl
first_passes false check rest h = absurd (cc)

-- the kind of a view on which a wait's byte was answered
atomic_by : (can_block : Bool) (view : View) (z : ℤ) (x : Operand) (kind : Kind) (answer : Result ℕ Check) (byte : ℕ)
    → kind ≡ kind_of view → AnswersByte answer byte → Places (wait_checks can_block view z x) (place view z) answer
    → is_atomic kind ≡ true
atomic_by can_block view z x kind answer byte same answers placed =
    waitable_is_atomic kind
    (ap is_waitable same
    ∙ first_passes (is_waitable (kind_of view)) C.WaitableKind _
    (passed_by (wait_checks can_block view z x) (place view z) answer byte answers placed).0)

-- all checks pass, and the element at the index was read
record HasRead (can_block : Bool) (v : PlanView) (index : ℤ) (x : Operand) (mem : List (List ℕ)) (byte r read : ℕ) :
    Type 0 where
  pub checks : first_thrown (wait_checks can_block v.view index x) ≡ None
  pub place_is : place_of v index ≡ Some (record { block = v.block; byte = byte })
  pub raw_is : raw (kind_of v.view) (whole_of x) ≡ r
  pub element_is : element_at v mem (record { block = v.block; byte = byte }) ≡ read

has_read : (can_block : Bool) (v : PlanView) (index z : ℤ) (x : Operand) (mem : List (List ℕ)) (kind : Kind) (w : ℤ)
    (byte r size read len : ℕ) (bytes : List ℕ)
    → kind ≡ kind_of v.view → z ≡ index
    → (answer : Result ℕ Check) → AnswersByte answer byte
    → Places (wait_checks can_block v.view z x) (place v.view z) answer
    → w ≡ whole_of x → r ≡ raw kind w
    → slice_get (map (length {A = ℕ}) mem) v.block ≡ Some len → bytes ≡ get_or mem v.block bytes
    → size ≡ element_size kind → read ≡ number bytes byte size
    → HasRead can_block v index x mem byte r read
has_read can_block v index z x mem kind w byte r size read len bytes kind_is same answer answers placed whole_is raw_is block_is bytes_are
    size_is read_is =
    let passed = passed_by (wait_checks can_block v.view z x) (place v.view z) answer byte answers placed in
    record {
      checks =
          ap (option_map thrown_by)
          (subst (λ (i : ℤ). first_failed (wait_checks can_block v.view i x) ≡ None) same passed.0);
      place_is =
          ap (option_map (at_byte v))
          (subst (λ (i : ℤ). place v.view i ≡ Some byte) same passed.1);
      raw_is =
          ap (λ (k : Kind). raw k (whole_of x)) (sym kind_is) ∙ (ap (raw kind) (sym whole_is) ∙ sym raw_is);
      element_is =
          ap (λ (b : List ℕ). number b byte (element_size (kind_of v.view)))
          (sym (bytes_is mem v.block len bytes block_is bytes_are))
          ∙ (ap (λ (k : Kind). number bytes byte (element_size k)) (sym kind_is)
          ∙ (ap (number bytes byte) (sym size_is) ∙ sym read_is));
    }

pub wrapped-requires : goal.wrapped-requires
wrapped-requires c =
    atomic_by c.args.can_block c.args.view.now.view _ c.args.value c.kind-kind.result c.wait_place.result c.in_ok-byte.byte
    c.kind-kind.ensures c.in_ok-byte.ensures.cases c.wait_place.ensures.place

pub returns-then-element-wrapped : goal.returns-then-element-wrapped
returns-then-element-wrapped c =
    let found = has_read c.args.can_block c.args.view.now c.args.index _ c.args.value c.args.blocks.now
    c.kind-kind.result _ c.in_ok-byte.byte c.wrapped.result c.size.result c.read-element.result _
    c.index-blocks-view.result c.kind-kind.ensures (to_z-of_z w64 c.args.index (search rules))
    c.wait_place.result c.in_ok-byte.ensures.cases c.wait_place.ensures.place
    (to_z-of_z w128 c.whole.result (search rules) ∙ c.whole.ensures) c.wrapped.ensures.value c.requires
    c.index-blocks-view.is c.size.ensures c.read-element.ensures.value in (
      found.checks,
      (
        at_byte c.args.view.now c.in_ok-byte.byte,
        found.place_is,
        λ same.
            c.if-element-wrapped.true (sym found.element_is ∙ (sym same ∙ found.raw_is)),
      ),
    )

pub returns : goal.returns
returns c =
    let found = has_read c.args.can_block c.args.view.now c.args.index _ c.args.value c.args.blocks.now
    c.kind-kind.result _ c.in_ok-byte.byte c.wrapped.result c.size.result c.read-element.result _
    c.index-blocks-view.result c.kind-kind.ensures (to_z-of_z w64 c.args.index (search rules))
    c.wait_place.result c.in_ok-byte.ensures.cases c.wait_place.ensures.place
    (to_z-of_z w128 c.whole.result (search rules) ∙ c.whole.ensures) c.wrapped.ensures.value c.requires
    c.index-blocks-view.is c.size.ensures c.read-element.ensures.value in
    (found.checks, found.place_is, found.raw_is ∙ (sym c.if-element-wrapped.false ∙ sym found.element_is))
