use Rattle.sab_reader.proofs.OfScript.Tokens.{holds_string}
use Rattle.sab_reader.proofs.script.plain.views.scan_name.Goals as goal

pub returns-then-is_name : goal.returns-then-is_name
returns-then-is_name c =
    (holds_string c.args.element.now c.in_ok-name.name.now c.in_ok-name.ensures, c.is_name.ensures.0 c.if-is_name.true)
