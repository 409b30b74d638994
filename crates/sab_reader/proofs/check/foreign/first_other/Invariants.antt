use Rattle.std.proofs.Common.{◌≡◌, drop}
use Rattle.std.specs.Prelude.{find, not}
use Rattle.sab_reader.specs.Check.Foreign.{is_white}
use Rattle.sab_reader.proofs.check.foreign.first_other.Given as goal

abbrev pub invariant-loop-byte : goal.invariant-loop-byte
invariant-loop-byte l =
    find (λ b. not (is_white b)) (drop l.byte-index l.text) ≡ find (λ b. not (is_white b)) l.text
