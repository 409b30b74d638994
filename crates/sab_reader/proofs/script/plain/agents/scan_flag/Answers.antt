use Rattle.sab_reader.proofs.OfScript.Tokens.{holds_boolean}
use Rattle.sab_reader.proofs.script.plain.agents.scan_flag.Goals as goal

pub returns : goal.returns
returns c = holds_boolean c.args.element.now c.in_ok-flag.flag c.in_ok-flag.ensures
