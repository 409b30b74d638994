use Rattle.std.proofs.Common.{ℕ, ◌<◌, get_or}
use Rattle.sab_block.specs.declared.kind.Kind.TheVariants.{Int8}
use Rattle.sab_reader.specs.Script.Views.{IsLike}
use Rattle.sab_reader.proofs.OfScript.Every.{kinds}
use Rattle.sab_reader.proofs.script.near.near_kind.Given as goal

-- none of the kinds before is like the name
abbrev pub invariant-loop-kind : goal.invariant-loop-kind
invariant-loop-kind l = (k : ℕ) → k < l.kind-index → IsLike l.name (get_or kinds k Int8) → ⊥
