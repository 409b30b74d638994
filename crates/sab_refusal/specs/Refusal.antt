-- What is wrong with bytes that are no script.
use Rattle.std.specs.Prelude.{◌≡◌, ℕ, List, ◌++◌, Option, Some, None, codes}
use Rattle.sab_refusal.specs.declared.syntax.fault.Fault.{Fault}
use Rattle.sab_refusal.specs.Syntax.Fault.{fault_text}
use Rattle.sab_refusal.specs.Syntax.Spot.{spot_text}
use Rattle.sab_refusal.specs.declared.read_fault.ReadFault.TheVariants.{OutOfMemory}
use Rattle.sab_refusal.specs.declared.refusal.Refusal.{Refusal}
use Rattle.sab_refusal.specs.declared.refusal.Refusal.TheVariants.{NotJson, Tree}
use Rattle.sab_refusal.specs.Reason.{fault_of}
use Rattle.sab_refusal.specs.Located.{located_text}

-- memory ran out
abbrev pub IsMemory : Refusal → Type 0
IsMemory (NotJson place) = ⊥
IsMemory (Tree e) = fault_of e.why ≡ OutOfMemory

-- what is wrong with a text
abbrev pub amiss_text : Option Fault → List ℕ
amiss_text None = codes ": 16 NotJson: the text ends too early"
amiss_text (Some fault) = codes ": 16 NotJson: " ++ fault_text fault

-- where, what, and why
abbrev pub refusal_text : Refusal → List ℕ
refusal_text (NotJson place) = spot_text place.spot ++ amiss_text place.fault
refusal_text (Tree e) = located_text e
