use Rattle.std.proofs.Common.{ap, ◌∙◌}
use Rattle.serde_json.specs.Data.{string}
use Rattle.sab_reader.proofs.OfScript.Tokens.{if_some, holds_by, holds_string}
use Rattle.sab_reader.proofs.script.plain.views.scan_kind.Goals as goal

pub returns : goal.returns
returns c =
    if_some c.kind_named.result (λ k named. holds_by c.args.element.now (λ d is. is ∙ ap string named)
    (holds_string c.args.element.now c.in_ok-as_str.field-0.now c.in_ok-as_str.ensures)) c.kind_named.ensures
