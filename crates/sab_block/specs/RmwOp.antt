-- Read-modify-writes: what each makes of two raw elements, and its function of Atomics.
use Rattle.std.specs.Prelude.{ℕ, ◌+◌, ◌%◌, ◌^◌, List, codes, pos, ◌-ℤ◌, bit_and, bit_or, bit_xor}
use Rattle.sab_block.specs.declared.rmw_op.RmwOp.{RmwOp}
use Rattle.sab_block.specs.declared.rmw_op.RmwOp.TheVariants.{Exchange, Add, Sub, And, Or, Xor}
use Rattle.sab_block.specs.Operand.{modulo}

-- the new raw element, of an old one of n bits and the operand's
abbrev pub combined : RmwOp → ℕ → ℕ → ℕ → ℕ
-- Atomics.exchange: second
combined Exchange n old x = x
-- Atomics.add: add
combined Add n old x = (old + x) % 2 ^ n
-- Atomics.sub: subtract
combined Sub n old x = modulo (pos old -ℤ pos x) (2 ^ n)
-- Atomics.and, Atomics.or, Atomics.xor: ByteListBitwiseOp
combined And n old x = bit_and old x
combined Or n old x = bit_or old x
combined Xor n old x = bit_xor old x

-- the function of Atomics that it is
abbrev pub function_of_op : RmwOp → List ℕ
function_of_op Exchange = codes "exchange"
function_of_op Add = codes "add"
function_of_op Sub = codes "sub"
function_of_op And = codes "and"
function_of_op Or = codes "or"
function_of_op Xor = codes "xor"
