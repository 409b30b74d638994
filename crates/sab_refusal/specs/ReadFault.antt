-- The texts, numbers and names of a script's refusals.
use Rattle.std.specs.Prelude.{ℕ, List, codes}
use Rattle.sab_refusal.specs.declared.read_fault.ReadFault.{ReadFault}
use Rattle.sab_refusal.specs.declared.read_fault.ReadFault.TheVariants.{TooMany, BadShape, BadName, BadNumber, BadCall, BadView, BadAgent, NoBlock, OutOfMemory}

-- the table of texts
abbrev pub text_of : ReadFault → List ℕ
text_of TooMany = codes "the script has more of something than it can have"
text_of BadShape = codes "a value of the script has another shape than its place asks for"
text_of BadName = codes "a view's name has a wrong form or is given twice, or a call is on a name that no view has"
text_of BadNumber = codes "a number of the script isn't whole, or out of range"
text_of BadCall = codes "a call's name isn't there, or it has a wrong number of elements"
text_of BadView = codes "a view has a kind that isn't there, or doesn't fit its block"
text_of BadAgent = codes "a move names an agent that isn't there"
text_of NoBlock = codes "the script has no block, or a view names one that isn't there"
text_of OutOfMemory = codes "there is no memory for the script"

-- what a fault is called
pub record Label : Type 0 where
  pub number : ℕ
  pub name : List ℕ

abbrev pub label : ℕ → List ℕ → Label
label number name = record { number = number; name = name }

-- the table of numbers and names
abbrev pub label_of : ReadFault → Label
label_of TooMany = label 3 (codes "TooMany")
label_of OutOfMemory = label 5 (codes "OutOfMemory")
label_of BadShape = label 10 (codes "BadShape")
label_of BadName = label 11 (codes "BadName")
label_of BadNumber = label 12 (codes "BadNumber")
label_of BadCall = label 13 (codes "BadCall")
label_of BadView = label 14 (codes "BadView")
label_of BadAgent = label 15 (codes "BadAgent")
label_of NoBlock = label 20 (codes "NoBlock")

abbrev pub number_of : ReadFault → ℕ
number_of fault = (label_of fault).number

abbrev pub name_of : ReadFault → List ℕ
name_of fault = (label_of fault).name
