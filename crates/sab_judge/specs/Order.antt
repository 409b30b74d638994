-- Orders of accesses ([[Order]]; Shared Data Block Events).
use Rattle.std.specs.Prelude.{Bool, true, false}
use Rattle.sab_judge.specs.declared.order.Order.{Order}
use Rattle.sab_judge.specs.declared.order.Order.TheVariants.{Unordered, SeqCst}

abbrev pub is_seq_cst : Order → Bool
is_seq_cst Unordered = false
is_seq_cst SeqCst = true
