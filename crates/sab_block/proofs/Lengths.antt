-- How many bytes an access leaves.
use Rattle.std.proofs.Common.{◌≡◌, Some, ℕ, ◌+◌, ◌≤◌, ℤ, pos, negsuc, List, ◌++◌, length, take, drop, ap, ◌∙◌, ◌*◌, nat_lt, arith, length-append, length-drop}
use Rattle.std.proofs.lemmas.Grind.{common_steps}
use Rattle.std.proofs.lemmas.Bool.{cases_eq}
use Rattle.std.proofs.lemmas.Option.{cond_some}
use borrow.Author.Tests.{ltb-true}
use Rattle.std.proofs.Math.Nat.{mul-le-mul_right}
use Rattle.std.proofs.lemmas.List.{length-map, length-take}
use Rattle.std.proofs.lemmas.List.FromFn.{length-range_with_len}
use Rattle.sab_block.specs.declared.access.Access.{Access}
use Rattle.sab_block.specs.declared.access.Access.TheVariants as X
use Rattle.sab_block.specs.declared.operand.Operand.{Operand}
use Rattle.sab_block.specs.declared.view.View.{View}
use Rattle.sab_block.specs.Block.{digits, put}
use Rattle.sab_block.specs.Kind.{element_size}
use Rattle.sab_block.specs.View.{kind_of, block_len_of, offset_of, len_of, place}
use Rattle.sab_block.specs.Access.{ActsAt, element, raw_of}

-- up to the end of the element
pub length-front : (mem : List ℕ) (p size r : ℕ) → p + size ≤ length mem
    → length (take p mem ++ digits size r) ≡ p + size
unfolding digits
length-front mem p size r h = simp (length-append, length-map, length-range_with_len, length-take) (omega arith)

-- a write leaves as many bytes
pub length-put : (mem : List ℕ) (p size r : ℕ) → p + size ≤ length mem → length (put mem p size r) ≡ length mem
unfolding put
length-put mem p size r h =
    omega (
      arith,
      length-append (take p mem ++ digits size r) (drop (p + size) mem),
      length-front mem p size r h,
      length-drop (p + size) mem,
    )

-- a place of a view is inside its block
pub place-inside : (view : View) (index : ℤ) (p : ℕ) → place view index ≡ Some p
    → p + element_size (kind_of view) ≤ block_len_of view
place-inside view (pos i) p e =
    let is = cond_some (nat_lt i (len_of view)) (offset_of view + i * element_size (kind_of view)) p e in
    let within : i + 1 ≤ len_of view = omega (arith, ltb-true i (len_of view) is.0) in
    let whole : offset_of view + len_of view * element_size (kind_of view) ≤ block_len_of view = view.inside in
    let most = mul-le-mul_right (element_size (kind_of view)) within in
    omega (arith, is.1, most, whole)
place-inside view (negsuc i) p e = absurd (cc)

-- an access leaves as many bytes
pub ActsAt-length : (view : View) (access : Access) (p : ℕ) (mem : List ℕ) (x : Operand) (mem' : List ℕ)
    → p + element_size (kind_of view) ≤ length mem → ActsAt view access p mem x mem' → length mem' ≡ length mem
ActsAt-length view (X.Load index) p mem x mem' h acts = ap length acts.1
ActsAt-length view (X.Store index y) p mem x mem' h acts =
    ap length acts.1 ∙ length-put mem p (element_size (kind_of view)) _ h
ActsAt-length view (X.Rmw op index y) p mem x mem' h acts =
    ap length acts.1 ∙ length-put mem p (element_size (kind_of view)) _ h
ActsAt-length view (X.CompareExchange index y z) p mem x mem' h acts =
    grind (arith, common_steps, cases_eq, element, raw_of, length, length-put, element_size, kind_of)
