use Rattle.std.proofs.Common.{◌∷◌, ap, ◌∙◌}
use Rattle.json.specs.Reads.{token_of}
use Rattle.sab_trace.proofs.PlainLines.{read_none, read_more, read_all}
use Rattle.sab_trace.proofs.plain.scan_members.Goals as goal

pub loop-name-init : goal.loop-name-init
loop-name-init c = read_none _ c.new-found.result c.new-found.ensures

pub loop-name-preserved : goal.loop-name-preserved
loop-name-preserved c =
    read_more _ c.loop-name.reader c.next.new.self c.next-in-Key.new.self c.in-Key.name.now
    (token_of c.in_ok-next-in-Key.field-0) c.loop-name.found c.take.new.self
    (c.in_ok-name.ensures.value ∙ ap (λ t. token_of t ∷ c.next.new.self) c.in-Key.is)
    c.in_ok-next-in-Key.ensures.value c.in_ok-take-in-Key.ensures c.loop-name.invariant

pub returns-in-EndObject : goal.returns-in-EndObject
returns-in-EndObject c =
    read_all c.args.reader.now c.loop-name.reader c.next.new.self c.loop-name.found
    (c.in_ok-name.ensures.value ∙ ap (λ t. token_of t ∷ c.next.new.self) c.in-EndObject.is) c.loop-name.invariant
