use Rattle.std.proofs.Common.{◌∙◌, ap, Some}
use Rattle.sab_reader.specs.Script.Truth.{IsStart}
use Rattle.sab_reader.proofs.script.views.view_of.Goals as goal

pub returns-in-None-clause-reported : goal.returns-in-None-clause-reported
returns-in-None-clause-reported c = λ root stands known.
    let text = c.in_ok-name.ensures.reads in
    let start : IsStart c.of.result c.in_ok-name.name.now =
    record { bytes = c.of.ensures.bytes; cut = c.of.ensures.cut } in (
      known.0.0,
      known.0.1,
      known.0.2,
      (
        c.in_ok-name.name.now,
        (stands ∙ ap Some text, start),
        λ v there. c.in-None.ensures.none v (known.1 v c.in_ok-name.name.now there),
      ),
    )
