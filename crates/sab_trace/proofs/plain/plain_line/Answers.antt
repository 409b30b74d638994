use Rattle.std.proofs.Common.{ap, sym, ◌∙◌}
use Rattle.json.specs.Lex.{tokens}
use Rattle.serde_json.specs.Data.{object}
use Rattle.sab_trace.specs.Tokens.{slots_of, members_of}
use Rattle.sab_trace.proofs.PlainLines.{object_read}
use Rattle.sab_trace.proofs.TokenReads.{if_some}
use Rattle.sab_trace.proofs.plain.plain_line.Goals as goal

pub returns : goal.returns
returns c =
    let is = c.in-Ok.ensures.cases in
    let found = c.in_ok-scan_object.field-0 in
    let a = c.in_ok-scan_object.ensures in
    if_some c.said.result (λ said h. (
      object (members_of (slots_of found a.2.source)),
      record {
        utf8 = is.1;
        is = object_read c.args.line.now a.0 found (ap tokens (sym is.0) ∙ sym c.in-Ok-new.ensures.ok ∙ a.1) a.2;
      },
      h a.2.source,
    )) c.said.ensures
