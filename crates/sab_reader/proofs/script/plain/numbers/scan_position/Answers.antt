use Rattle.std.proofs.Common.{pos, ap, ◌∙◌, arith}
use Rattle.std.proofs.lemmas.Int.{ints}
use Rattle.sab_reader.specs.Script.Numbers.{whole}
use Rattle.sab_reader.proofs.OfScript.Tokens.{holds_by}
use Rattle.sab_reader.proofs.script.plain.numbers.scan_position.Goals as goal

pub returns-then-n-from-clause-reported : goal.returns-then-n-from-clause-reported
returns-then-n-from-clause-reported c =
    holds_by c.args.element.now
    (λ d h. (h.0 ∙ ap whole {y = pos _} (omega (arith, ints)), omega (arith, ints, c.ranges.count.fits))) c.in_ok-n.ensures
