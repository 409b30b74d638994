use Rattle.sab_reader.proofs.OfScript.PlainScripts.{plain_read}
use Rattle.sab_reader.proofs.OfScript.Tokens.{if_ok}
use Rattle.sab_reader.proofs.script.plain.setup.plain_setup.Goals as goal

pub returns-in-Ok-parse : goal.returns-in-Ok-parse
returns-in-Ok-parse c =
    let is = c.in-Ok.ensures.cases in
    let parsed = c.in-Ok-parse.ensures in
    if_ok c.scan_setup.result
    (λ setup holds. plain_read c.args.script.now setup c.root.result is.1 (rw is.0 at parsed.ok.1)
    (rw (← is.0, c.root.ensures.same) parsed.value) holds) c.scan_setup.ensures
