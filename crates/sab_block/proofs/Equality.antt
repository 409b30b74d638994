-- Equality of kinds, operations, errors, checks, operands, views and accesses: values that a derived `==` finds equal are the same.
use Rattle.std.proofs.Common.{◌&&◌, ◌≡◌, ◌+◌, ◌*◌, ◌≤◌, ℤ, Bool, true, ap, rules}
use Rattle.std.proofs.Props.{props}
use Rattle.std.specs.Cmp.{signed_Decides}
use Rattle.std.specs.Ordering.{int_eq}
use Rattle.std.proofs.lemmas.Bool.{false≢true, and_parts}
use borrow.Author.Tests.{eqb-true}
use denote.Enum.Bare.{same_true}
use mathlib.Core.HLevel.{is_prop→PathP}
use Rattle.sab_block.specs.Kind.{element_size}
use Rattle.sab_block.specs.declared.kind.Kind.{Kind}
use Rattle.sab_block.specs.declared.rmw_op.RmwOp.{RmwOp}
use Rattle.sab_block.specs.declared.thrown.Thrown.{Thrown}
use Rattle.sab_block.specs.declared.check.Check.{Check}
use Rattle.sab_block.specs.declared.operand.Operand.{Operand}
use Rattle.sab_block.specs.declared.view.View.{View}
use Rattle.sab_block.specs.declared.access.Access.{Access}
use Rattle.sab_block.specs.declared.access.Access.TheVariants as A
use Rattle.sab_block.specs.contracts.kind.Kind.{the_type as kind_type}
use Rattle.sab_block.specs.contracts.kind.KindPartialEq.TheImpl as kind
use Rattle.sab_block.specs.contracts.rmw_op.RmwOpPartialEq.TheImpl as rmw_op
use Rattle.sab_block.specs.contracts.thrown.Thrown.{the_type as thrown_type}
use Rattle.sab_block.specs.contracts.thrown.ThrownPartialEq.TheImpl as thrown
use Rattle.sab_block.specs.contracts.check.Check.{the_type as check_type}
use Rattle.sab_block.specs.contracts.check.CheckPartialEq.TheImpl as check
use Rattle.sab_block.specs.contracts.operand.OperandPartialEq.TheImpl as operand
use Rattle.sab_block.specs.contracts.view.ViewPartialEq.TheImpl as view
use Rattle.sab_block.specs.contracts.access.AccessPartialEq.TheImpl as access

pub same_int : (x y : ℤ) → int_eq x y ≡ true → x ≡ y
same_int x y = (signed_Decides x y).0

-- two tests at once
pub same_pair : {A B : Type 0} {x y : A} {u v : B} {s t : Bool} → (s ≡ true → x ≡ y) → (t ≡ true → u ≡ v)
    → (s && t) ≡ true → ◌≡◌ {A = A × B} (x, u) (y, v)
same_pair {s = s} {t = t} f g e = let h = and_parts s t e in λ i. (f h.0 i, g h.1 i)

pub same_operand : (a b : Operand) → (operand.ghosts).eq a b ≡ true → a ≡ b
same_operand a b e = search rules

same_rmw_op : (a b : RmwOp) → (rmw_op.ghosts).eq a b ≡ true → a ≡ b
same_rmw_op a b e = search rules

pub same_kind : (a b : Kind) → (kind.ghosts).eq a b ≡ true → a ≡ b
same_kind = same_true kind_type (search rules)

pub same_thrown : (a b : Thrown) → (thrown.ghosts).eq a b ≡ true → a ≡ b
same_thrown = same_true thrown_type (search rules)

same_check : (a b : Check) → (check.ghosts).eq a b ≡ true → a ≡ b
same_check = same_true check_type (search rules)

pub same_view : (a b : View) → (view.ghosts).eq a b ≡ true → a ≡ b
same_view a b e =
    let kinds = and_parts _ _ e in
    let block_lens = and_parts _ _ kinds.1 in
    let offsets = and_parts _ _ block_lens.1 in
    let kind = same_kind a.kind b.kind kinds.0 in
    let block_len = eqb-true a.block_len b.block_len block_lens.0 in
    let offset = eqb-true a.offset b.offset offsets.0 in
    let len = eqb-true a.len b.len offsets.1 in
    λ i. record {
      kind = kind i;
      block_len = block_len i;
      offset = offset i;
      len = len i;
      inside =
          is_prop→PathP (λ j. offset j + len j * element_size (kind j) ≤ block_len j) (λ j. hlevel props) a.inside
          b.inside i;
    }

pub same_access : (a b : Access) → (access.ghosts).eq a b ≡ true → a ≡ b
same_access (A.Load i) (A.Load j) e = ap A.Load (same_int i j e)
same_access (A.Store i x) (A.Store j y) e =
    ap (λ p. A.Store p.0 p.1) (same_pair (same_int i j) (same_operand x y) e)
same_access (A.Rmw op i x) (A.Rmw other j y) e =
    ap (λ p. A.Rmw p.0 p.1.0 p.1.1) (same_pair (same_rmw_op op other) (same_pair (same_int i j) (same_operand x y)) e)
same_access (A.CompareExchange i x y) (A.CompareExchange j z w) e =
    ap (λ p. A.CompareExchange p.0 p.1.0 p.1.1)
    (same_pair (same_int i j) (same_pair (same_operand x z) (same_operand y w)) e)
same_access _ _ e = absurd (false≢true e)
