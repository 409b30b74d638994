-- A write of as many bytes keeps the lengths of the blocks.
use Rattle.std.proofs.Common.{ℕ, length}
use Rattle.std.proofs.Math.Seq.{map-set_same}
use Rattle.sab_object.proofs.act.act_access.Goals as goal

pub returns-in-Ok-clause-lens : goal.returns-in-Ok-clause-lens
returns-in-Ok-clause-lens c =
    map-set_same (length {A = ℕ}) c.args.blocks.now _ _ _ c.access.ensures.len
