use Rattle.std.proofs.Common.{rules}
use Rattle.std.specs.Int.{w64}
use Rattle.std.proofs.lemmas.Int.{to_z-of_z}
use Rattle.sab_reader.proofs.OfScript.Tokens.{items_by, none_left, next_holds, one_then}
use Rattle.sab_reader.proofs.script.plain.operands.last_limit.Goals as goal

pub returns-in-None : goal.returns-in-None
returns-in-None c =
    items_by c.args.rest.now (λ ds none. rw none tt) (none_left c.args.rest.now c.next.new.self c.in-None.ensures.value)

pub returns-in_ok-no_more_items-in-Some : goal.returns-in_ok-no_more_items-in-Some
returns-in_ok-no_more_items-in-Some c =
    one_then c.args.rest.now c.next.new.self
    (next_holds c.args.rest.now c.in-Some.item c.next.new.self c.in-Some.ensures.value c.in_ok-limit-in-Some.ensures)
    c.in_ok-no_more_items-in-Some.ensures
    (λ d ds h none. (rw (to_z-of_z w64 c.in_ok-limit-in-Some.limit (search rules)) h, rw none tt))
