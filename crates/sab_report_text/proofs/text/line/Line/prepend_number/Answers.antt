use Rattle.std.proofs.lemmas.Grind.{common_steps}
use Rattle.std.proofs.Common.{rules, length, drop, ap, ◌∙◌, length-drop, length-append, arith}
use Rattle.std.specs.Fmt.{decimal}
use Rattle.sab_report_text.proofs.OfText.Digits.{number_short}
use Rattle.sab_report_text.proofs.text.line.Line.prepend_number.Goals as goal

pub write_digits-self-inside-requires : goal.write_digits-self-inside-requires
write_digits-self-inside-requires c = grind (arith, common_steps, length-drop, number_short)

pub returns-clause-len : goal.returns-clause-len
returns-clause-len c =
    let short = number_short c.args.n c.ranges.n.fits in
    let len = ap length c.write_digits-self-inside.ensures.written
    ∙ length-append (decimal c.args.n) (drop c.self.inside.start c.self.inside.bytes) in
    search (rules, len, short)
