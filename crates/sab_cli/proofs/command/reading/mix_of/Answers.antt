use Rattle.std.specs.Str.Parse.{ParsesUnsigned, ExplainsUnsignedError, HasUnsignedDigitsIfOk}
use Rattle.sab_cli.proofs.OfCommand.Spelled.{reads_number}
use Rattle.sab_cli.proofs.command.reading.mix_of.Goals as goal

pub returns : goal.returns
returns c = (
  c.get_one.ensures.none,
  λ text n is spelled small. reads_number 64
      (λ bs r. ParsesUnsigned 64 10 bs r × ExplainsUnsignedError 10 bs r × HasUnsignedDigitsIfOk bs r)
      (λ bs r g. g.0) text n spelled small c.get_one.result (c.get_one.ensures.value text is),
)
