use Rattle.std.proofs.Common.{arith, rules, ◌≡◌, ◌≤◌, Some}
use Rattle.std.specs.Str.Parse.{ParsesUnsigned, ExplainsUnsignedError, HasUnsignedDigitsIfOk}
use Rattle.sab_cli.proofs.OfCommand.Spelled.{reads_number}
use Rattle.sab_cli.proofs.command.reading.spins_of.Goals as goal

pub returns-clause-number : goal.returns-clause-number
returns-clause-number c = λ text n is spelled small.
    let few : n ≤ 1000 = small in
    let read : c.get_one.result ≡ Some n = reads_number 32
    (λ bs r. ParsesUnsigned 32 10 bs r × ExplainsUnsignedError 10 bs r × HasUnsignedDigitsIfOk bs r)
    (λ bs r g. g.0) text n spelled (omega arith) c.get_one.result (c.get_one.ensures.value text is) in
    search rules
