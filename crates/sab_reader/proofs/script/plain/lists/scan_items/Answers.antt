use Rattle.std.proofs.Common.{arith}
use Rattle.sab_reader.proofs.OfScript.Tokens.{holds_by, items_none, items_more, items_all}
use Rattle.sab_reader.proofs.script.plain.lists.scan_items.Goals as goal

pub loop-item-init : goal.loop-item-init
loop-item-init g c =
    rw c.new-found.ensures.items (items_none (g.R.Scanner.nests c.args.scanner.now) (g.R.Scanner.Spells c.args.scanner.now) c.args.element.now
    c.in-Some.items c.in-Some.ensures)

pub loop-item-smaller : goal.loop-item-smaller
loop-item-smaller g c = c.in-Some-next.ensures.shorter

pub loop-item-preserved : goal.loop-item-preserved
loop-item-preserved g c =
    rw c.in_default-push.ensures.items (items_more (g.R.Scanner.nests c.args.scanner.now) (g.R.Scanner.Spells c.args.scanner.now) c.args.element.now
    c.loop-item.items c.in-Some-next.item c.next.new.self c.loop-item.found.items c.in_ok-scan.field-0
    c.in-Some-next.ensures.value c.in_ok-scan.ensures c.loop-item.invariant)

pub returns : goal.returns
returns g c =
    holds_by c.args.element.now (λ d h. (h.0, h.1, (h.2, omega (arith, c.if-len-most.false))))
    (items_all (g.R.Scanner.nests c.args.scanner.now) (g.R.Scanner.Spells c.args.scanner.now) c.args.element.now c.loop-item.items c.next.new.self
    c.loop-item.found.items c.in_default-next.ensures.value c.loop-item.invariant)
