use Rattle.serde_json.proofs.Numbers.{number_of-plus}
use Rattle.sab_reader.proofs.script.numbers.spelled.Goals as goal

pub returns : goal.returns
returns c =
    let text = c.format_finite_with_plus.result.now in
    let reported = c.format_finite_with_plus.ensures in (
      text,
      number_of-plus _ _ text c.args.x reported.layout reported.parses c.requires,
      record { bytes = c.of.ensures.bytes; cut = c.of.ensures.cut },
    )
