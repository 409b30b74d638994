-- One event more is like it.
use Rattle.std.proofs.lemmas.Grind.{common_steps}
use Rattle.std.proofs.Common.{arith}
use Rattle.sab_judge.proofs.Linking.{access_of_like, like_through, linked_at, linked_behind, rank_small}
use Rattle.sab_judge.proofs.link.Link.behind.Goals as goal

pub overflow_add-result : goal.overflow_add-result
overflow_add-result c =
    let last = linked_at c.requires.links c.args.previous c.requires.previous.before
    (access_of_like c.requires.access c.requires.previous.like) in
    omega (arith, rank_small last, c.requires.previous.before, c.requires.small)

pub returns : goal.returns
returns c access = grind (arith, common_steps, linked_at, access_of_like, linked_behind, like_through)
