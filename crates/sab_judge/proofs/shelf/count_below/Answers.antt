-- The list is parted where its numbers are no longer below the one.
use Rattle.std.proofs.Common.{ltb, rules}
use Rattle.std.proofs.lemmas.List.Sorted.{IsPartitionPoint-from_clause}
use Rattle.sab_judge.proofs.Shelving.{numbers_parted, count_is}
use Rattle.sab_judge.proofs.shelf.count_below.Goals as goal

pub returns : goal.returns
returns c = count_is c.args.index c.partition_point.result c.partition_point.ensures.bound
    (IsPartitionPoint-from_clause (λ x. ltb x c.args.index) _ _ c.partition_point.ensures.partitioned
    (numbers_parted c.args.shelf.now c.args.index c.requires) (λ a r q k. search rules))
