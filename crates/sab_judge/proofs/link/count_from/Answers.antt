-- The events from the earliest on are as many as their ranks say.
use Rattle.std.proofs.Common.{arith}
use Rattle.sab_judge.proofs.Linking.{counts_from, linked_at, rank_grows, rank_small}
use Rattle.sab_judge.proofs.link.count_from.Goals as goal

pub returns : goal.returns
returns c = counts_from c.requires.links c.requires.within c.requires.access c.requires.bound c.earliest_from-earliest.ensures

pub overflow_sub-result : goal.overflow_sub-result
overflow_sub-result c = rank_grows c.requires.links c.requires.within c.requires.access c.earliest_from-earliest.ensures

pub overflow_add-result : goal.overflow_add-result
overflow_add-result c =
    let small = rank_small (linked_at c.requires.links c.args.position c.requires.within c.requires.access) in
    omega (arith, small, c.requires.within, c.requires.small)
