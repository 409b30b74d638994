use Rattle.std.proofs.Common.{rules}
use Rattle.sab_refusal.proofs.Starts.{copied_start}
use Rattle.sab_refusal.proofs.excerpt.Excerpt.of.Goals as goal

pub returns-clause-bytes : goal.returns-clause-bytes
returns-clause-bytes c =
    copied_start c.if-is_cut.len 32 c.args.text.now c.copy_from_slice.new.self _ (search rules) (search rules)
    (search rules) (search rules)
