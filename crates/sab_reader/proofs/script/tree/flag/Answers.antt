use Rattle.std.proofs.lemmas.Grind.{common_steps}
use Rattle.std.proofs.Common.{arith}
use Rattle.serde_json.specs.Find.{as_bool}
use Rattle.serde_json.specs.View.{view}
use Rattle.sab_reader.proofs.OfScript.Exits.{none_reported}
use Rattle.sab_reader.proofs.script.tree.flag.Goals as goal

pub returns-clause-reported : goal.returns-clause-reported
returns-clause-reported c =
    grind (arith, common_steps, view, none_reported, as_bool, c.as_bool.ensures, c.ok_or.ensures.value)
