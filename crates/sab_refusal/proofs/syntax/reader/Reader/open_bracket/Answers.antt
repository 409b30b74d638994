use Rattle.std.proofs.Common.{◌≡◌, length, false, sym, ◌∙◌, arith}
use Rattle.std.specs.Prelude.{◌==◌}
use Rattle.std.proofs.lemmas.Bool.{eqb-false}
use Rattle.sab_refusal.proofs.syntax.reader.Reader.open_bracket.Goals as goal

pub push-requires : goal.push-requires
push-requires c =
    let other = eqb-false (length c.args.self.now.brackets) 127 (sym c.is_full.ensures.value ∙ c.if-is_full.false) in
    omega (arith, other, c.is_full.ensures.few)
