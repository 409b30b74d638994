-- A rank is less than 2^20.
use Rattle.std.proofs.Common.{arith}
use Rattle.sab_judge.proofs.Linking.{access_of_like, linked_at, rank_small}
use Rattle.sab_judge.proofs.link.jump_behind.Goals as goal

pub overflow_add-last : goal.overflow_add-last
overflow_add-last c =
    let last = linked_at c.requires.links c.args.previous c.requires.previous c.requires.access in
    let back = last.jump (omega (arith, c.if-last-eq0.false)) in
    let middle = linked_at c.requires.links _ (omega (arith, back.0, c.requires.previous))
    (access_of_like c.requires.access back.1) in
    let further = middle.jump (omega (arith, c.if-middle-eq0.false)) in
    let far = linked_at c.requires.links _ (omega (arith, back.0, further.0, c.requires.previous))
    (access_of_like (access_of_like c.requires.access back.1) further.1) in
    omega (arith, rank_small last, rank_small far, back.0, further.0, c.requires.previous, c.requires.small)

pub overflow_mul-middle : goal.overflow_mul-middle
overflow_mul-middle c =
    let last = linked_at c.requires.links c.args.previous c.requires.previous c.requires.access in
    let back = last.jump (omega (arith, c.if-last-eq0.false)) in
    let middle = linked_at c.requires.links _ (omega (arith, back.0, c.requires.previous))
    (access_of_like c.requires.access back.1) in
    omega (arith, rank_small middle, back.0, c.requires.previous, c.requires.small)
