use Rattle.std.proofs.Common.{ℕ, pos, arith}
use Rattle.std.proofs.lemmas.Int.{ints}
use Rattle.serde_json.specs.View.{view}
use Rattle.sab_reader.specs.Script.Numbers.{SpellsWhole, SpellsPosition}
use Rattle.sab_reader.proofs.OfScript.Refusing.{exit_refuses}
use Rattle.sab_reader.proofs.script.tree.position.Goals as goal

pub returns-in_err-n-clause-reads : goal.returns-in_err-n-clause-reads
returns-in_err-n-clause-reads c =
    let d = view c.args.tree.now in
    exit_refuses (λ (n : ℕ). n) (SpellsWhole d) (SpellsPosition c.args.count d) c.from_residual.result
    c.in_err-n.field-0.0 c.from_residual.ensures.1 c.in_err-n.ensures.reads
    (λ n h. (pos n, (h.0, (omega (arith, ints), omega (arith, ints, h.1, c.ranges.count.fits)))))
