use Rattle.std.proofs.Common.{ℕ, pos, arith}
use Rattle.std.proofs.lemmas.Int.{ints}
use Rattle.serde_json.specs.View.{view}
use Rattle.sab_reader.specs.Script.Numbers.{SpellsWhole}
use Rattle.sab_reader.specs.Script.Blocks.{SpellsLen}
use Rattle.sab_reader.proofs.OfScript.Refusing.{exit_refuses}
use Rattle.sab_reader.proofs.script.blocks.read_len.Goals as goal

pub returns-in_err-len-clause-found : goal.returns-in_err-len-clause-found
returns-in_err-len-clause-found c =
    let d = view c.args.tree.now in
    exit_refuses (λ (n : ℕ). n) (SpellsWhole d) (SpellsLen d) c.from_residual.result c.in_err-len.field-0.0
    c.from_residual.ensures.1 c.in_err-len.ensures.reads
    (λ n h. (pos n, (h.0, (omega (arith, ints), omega (arith, ints, h.1)))))
