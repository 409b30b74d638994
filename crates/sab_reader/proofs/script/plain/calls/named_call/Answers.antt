use Rattle.std.proofs.Common.{refl, rules}
use Rattle.std.specs.Int.{w64}
use Rattle.std.proofs.lemmas.Int.{to_z-of_z}
use Rattle.sab_reader.proofs.OfScript.Tokens.{if_some, items_by}
use Rattle.sab_reader.proofs.script.plain.calls.named_call.Goals as goal

pub returns-in_ok-no_more_items-in-load : goal.returns-in_ok-no_more_items-in-load
returns-in_ok-no_more_items-in-load c =
    items_by c.args.rest.now
    (λ ds none. record { name = c.in-load.is; view = refl; index = search rules; arguments = rw none tt })
    c.in_ok-no_more_items-in-load.ensures

pub returns-in_ok-value-in-store : goal.returns-in_ok-value-in-store
returns-in_ok-value-in-store c =
    items_by c.args.rest.now
    (λ ds h. record { name = c.in-store.is; view = refl; index = search rules; arguments = h })
    c.in_ok-value-in-store.ensures

pub returns-in-compareExchange : goal.returns-in-compareExchange
returns-in-compareExchange c =
    let same = to_z-of_z w64 c.args.index (search rules) in
    let reported = rw same at c.compare_exchange_call.ensures in
    if_some c.compare_exchange_call.result
    (λ x h. items_by c.args.rest.now (λ ds p. rw c.in-compareExchange.is p) h) reported

pub returns-in-wait : goal.returns-in-wait
returns-in-wait c =
    let same = to_z-of_z w64 c.args.index (search rules) in
    let reported = rw same at c.wait_call.ensures in
    if_some c.wait_call.result (λ x h. items_by c.args.rest.now (λ ds p. rw c.in-wait.is p) h) reported

pub returns-in_ok-count-in-notify : goal.returns-in_ok-count-in-notify
returns-in_ok-count-in-notify c =
    items_by c.args.rest.now
    (λ ds h. record { name = c.in-notify.is; view = refl; index = search rules; arguments = h })
    c.in_ok-count-in-notify.ensures

pub returns-in_ok-op_of-in_default : goal.returns-in_ok-op_of-in_default
returns-in_ok-op_of-in_default c =
    let same = to_z-of_z w64 c.args.index (search rules) in
    let reported = rw same at c.rmw_call.ensures in
    if_some c.rmw_call.result
    (λ x h. items_by c.args.rest.now (λ ds p. rw c.in_ok-op_of-in_default.ensures p) h) reported
