-- The last of those that begin at the byte or before it has it.
use Rattle.std.proofs.Common.{leb, rules}
use Rattle.std.proofs.lemmas.List.Sorted.{IsPartitionPoint-from_clause}
use Rattle.sab_judge.proofs.Stretching.{parted, some_begin, last_has}
use Rattle.sab_judge.proofs.stretch.position_of.Goals as goal

pub overflow_sub-result : goal.overflow_sub-result
overflow_sub-result c = some_begin c.args.byte c.partition_point.result c.requires
    (IsPartitionPoint-from_clause (λ s. leb s.start c.args.byte) _ _ c.partition_point.ensures.partitioned
    (parted c.args.byte c.requires) (λ a r q k. search rules))

pub returns : goal.returns
returns c = last_has c.args.byte c.partition_point.result c.requires c.partition_point.ensures.bound
    (IsPartitionPoint-from_clause (λ s. leb s.start c.args.byte) _ _ c.partition_point.ensures.partitioned
    (parted c.args.byte c.requires) (λ a r q k. search rules))
