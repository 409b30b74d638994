-- Access calls: the checks that they make in order, and what they do.
use Rattle.std.specs.Prelude.{◌≡◌, ◌≢◌, ℕ, ◌*◌, is_some, ℤ, List, [], ◌∷◌, map, Option, Some, codes}
use Rattle.sab_block.specs.declared.thrown.Thrown.{Thrown}
use Rattle.sab_block.specs.declared.check.Check.TheVariants as K
use Rattle.sab_block.specs.declared.operand.Operand.{Operand}
use Rattle.sab_block.specs.declared.view.View.{View}
use Rattle.sab_block.specs.declared.access.Access.{Access}
use Rattle.sab_block.specs.declared.access.Access.TheVariants.{Load, Store, Rmw, CompareExchange}
use Rattle.sab_block.specs.Check.{Checked, first_thrown}
use Rattle.sab_block.specs.Kind.{element_size, is_atomic}
use Rattle.sab_block.specs.Operand.{whole_of, agrees, raw, operand}
use Rattle.sab_block.specs.View.{kind_of, place}
use Rattle.sab_block.specs.Block.{number, put}
use Rattle.sab_block.specs.RmwOp.{combined, function_of_op}

-- the function of Atomics that it is a call of
abbrev pub function_of_access : Access → List ℕ
function_of_access (Load index) = codes "load"
function_of_access (Store index x) = codes "store"
function_of_access (Rmw op index x) = function_of_op op
function_of_access (CompareExchange index x y) = codes "compareExchange"

-- the index that an access names
abbrev pub index_of : Access → ℤ
index_of (Load index) = index
index_of (Store index x) = index
index_of (Rmw op index x) = index
index_of (CompareExchange index x y) = index

-- the operands, from left to right
abbrev pub operands_of : Access → List Operand
operands_of (Load index) = []
operands_of (Store index x) = x ∷ []
operands_of (Rmw op index x) = x ∷ []
operands_of (CompareExchange index x y) = x ∷ y ∷ []

-- the kind is one that the functions of Atomics take (ValidateIntegerTypedArray)
abbrev pub kind_check : View → Checked
kind_check view = record { check = K.AtomicKind; passes = is_atomic (kind_of view) }

-- there is an element at the index (ValidateAtomicAccess)
abbrev pub index_check : View → ℤ → Checked
index_check view index = record { check = K.Index; passes = is_some (place view index) }

-- the operand is a BigInt exactly if the elements are (ToBigInt, ToIntegerOrInfinity)
abbrev pub operand_check : View → Operand → Checked
operand_check view x = record { check = K.Operand; passes = agrees (kind_of view) x }

abbrev pub access_checks : View → Access → List Checked
access_checks view access =
    kind_check view ∷ index_check view (index_of access) ∷ map (operand_check view) (operands_of access)

-- what an access throws, or none where all checks pass
abbrev pub access_verdict : View → Access → Option Thrown
access_verdict view access = first_thrown (access_checks view access)

-- how many bits an element has
abbrev pub bits_of : View → ℕ
bits_of view = 8 * element_size (kind_of view)

-- the raw element that an operand is written as (NumericToRawBytes)
abbrev pub raw_of : View → Operand → ℕ
raw_of view x = raw (kind_of view) (whole_of x)

-- the raw element at a place (GetValueFromBuffer)
abbrev pub element : View → List ℕ → ℕ → ℕ
element view mem p = number mem p (element_size (kind_of view))

-- the operand that the raw element at a place is read as (RawBytesToNumeric)
abbrev pub value_at : View → List ℕ → ℕ → Operand
value_at view mem p = operand (kind_of view) (element view mem p)

-- the bytes after a raw element was written at a place (SetValueInBuffer)
abbrev pub written : View → List ℕ → ℕ → ℕ → List ℕ
written view mem p r = put mem p (element_size (kind_of view)) r

-- at the place p of its element, the access returns x, and leaves the bytes mem as mem'
abbrev pub ActsAt : View → Access → ℕ → List ℕ → Operand → List ℕ → Type 0
-- Atomics.load
ActsAt view (Load index) p mem x mem' = (x ≡ value_at view mem p) × (mem' ≡ mem)
-- Atomics.store
ActsAt view (Store index y) p mem x mem' = (x ≡ y) × (mem' ≡ written view mem p (raw_of view y))
-- AtomicReadModifyWrite, GetModifySetValueInBuffer
ActsAt view (Rmw op index y) p mem x mem' =
    (x ≡ value_at view mem p)
    × (mem' ≡ written view mem p (combined op (bits_of view) (element view mem p) (raw_of view y)))
-- Atomics.compareExchange, ByteListEqual
ActsAt view (CompareExchange index y z) p mem x mem' =
    (x ≡ value_at view mem p)
    × (element view mem p ≡ raw_of view y → mem' ≡ written view mem p (raw_of view z))
    × (element view mem p ≢ raw_of view y → mem' ≡ mem)

-- the access has an element, and acts at its place
abbrev pub Acts : View → Access → List ℕ → Operand → List ℕ → Type 0
Acts view access mem x mem' = (p : ℕ) × (place view (index_of access) ≡ Some p) × ActsAt view access p mem x mem'
