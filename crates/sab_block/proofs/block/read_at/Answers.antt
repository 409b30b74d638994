use Rattle.std.proofs.Common.{◌≡◌, ◌∙◌, arith}
use Rattle.sab_block.proofs.ElementBytes.{number-read}
use Rattle.sab_block.proofs.block.read_at.Goals as goal

pub returns-in-1-clause-value : goal.returns-in-1-clause-value
returns-in-1-clause-value c = number-read _ _ _ _ _ c.in-1.is c.read_uint.ensures

pub returns-in-2-clause-value : goal.returns-in-2-clause-value
returns-in-2-clause-value c = number-read _ _ _ _ _ c.in-2.is (c.from.ensures ∙ c.read_u16.ensures)

pub returns-in-4-clause-value : goal.returns-in-4-clause-value
returns-in-4-clause-value c = number-read _ _ _ _ _ c.in-4.is (c.from-in-4.ensures ∙ c.read_u32.ensures)

pub returns-in_default-clause-value : goal.returns-in_default-clause-value
returns-in_default-clause-value c =
    let eight : c.args.size ≡ 8 = omega arith in
    number-read _ _ _ _ _ eight c.read_u64.ensures
