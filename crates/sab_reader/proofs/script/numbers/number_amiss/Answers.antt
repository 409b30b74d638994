use Rattle.std.proofs.Common.{sym, ◌∙◌}
use Rattle.serde_json.specs.View.{number_view}
use Rattle.sab_reader.proofs.OfScript.Floats.{far_unless_float}
use Rattle.sab_reader.proofs.script.numbers.number_amiss.Goals as goal

pub returns-in_default-2-clause-amiss : goal.returns-in_default-2-clause-amiss
returns-in_default-2-clause-amiss c =
    far_unless_float (number_view c.args.number.now) (sym c.is_f64.ensures ∙ c.if-is_f64.false) c.requires
