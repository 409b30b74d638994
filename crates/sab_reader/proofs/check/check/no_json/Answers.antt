use Rattle.std.proofs.Common.{rules}
use Rattle.std.specs.Prelude.{string_bytes}
use Rattle.std.proofs.lemmas.Result.{IfOk-weaker}
use Rattle.sab_reader.proofs.OfCheck.Saying.{says_foreign}
use Rattle.sab_reader.proofs.check.check.no_json.Goals as goal

pub returns : goal.returns
returns c =
    IfOk-weaker c.format-2.result _ _
    (λ text said.
    says_foreign c.args.script.now c.args.place c.in-Some.found
    c.after-spot.result (string_bytes text) c.in-Some.ensures.first c.after-spot.ensures (search rules) said)
    c.format-2.ensures.ok
