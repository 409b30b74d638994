-- Refusals with their place.
use Rattle.std.specs.Prelude.{ℕ, List, ◌++◌, codes, decimal}
use Rattle.sab_refusal.specs.declared.located.Located.{Located}
use Rattle.sab_refusal.specs.declared.read_fault.ReadFault.{ReadFault}
use Rattle.sab_refusal.specs.ReadFault.{number_of, name_of}
use Rattle.sab_refusal.specs.Location.{location_text}
use Rattle.sab_refusal.specs.Reason.{fault_of, why_text}

-- a fault's number and name
abbrev pub label_text : ReadFault → List ℕ
label_text fault = decimal (number_of fault) ++ (codes " " ++ name_of fault)

-- where, what, and why
abbrev pub located_text : Located → List ℕ
located_text e = location_text e.at ++ (codes ": " ++ (label_text (fault_of e.why) ++ (codes ": " ++ why_text e.why)))
