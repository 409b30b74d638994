use Rattle.std.proofs.Common.{◌≡◌, to_z, of_z, rules}
use Rattle.std.specs.Int.{w128}
use Rattle.sab_block.proofs.RawElements.{masked}
use Rattle.sab_block.proofs.operand.wrapped.Goals as goal

pub returns-clause-value : goal.returns-clause-value
returns-clause-value c =
    let same : to_z w128 (of_z w128 c.args.v) ≡ c.args.v = search rules in
    rw (c.cast_unsigned.ensures, same, c.from.ensures)
    (masked c.args.kind c.args.v c.max_raw.result (search rules) c.max_raw.ensures)
