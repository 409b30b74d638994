-- Scripts as bytes.
use Rattle.std.specs.Prelude.{◌≡◌, ℕ, List, Some, IsUtf8}
use Rattle.serde_json.specs.Data.{Data}
use Rattle.serde_json.specs.Read.{read}
use Rattle.sab_refusal.specs.declared.read_fault.ReadFault.{ReadFault}
use Rattle.sab_refusal.specs.declared.read_fault.ReadFault.TheVariants.{OutOfMemory}
use Rattle.sab_refusal.specs.declared.reason.Reason.TheVariants.{Memory}
use Rattle.sab_refusal.specs.declared.refusal.Refusal.{Refusal}
use Rattle.sab_refusal.specs.declared.refusal.Refusal.TheVariants.{NotJson, Tree}
use Rattle.sab_refusal.specs.Reason.{fault_of}
use Rattle.sab_refusal.specs.Syntax.Place.{IsPlace}
use Rattle.sab_reader.specs.Script.Setup.{SetupParts, Spells, IsOnlySetup}
use Rattle.sab_reader.specs.Script.Truth.{IsTrueOf}

-- the bytes are a JSON text in UTF-8, which reads as the tree
abbrev pub ReadsAs : List ℕ → Data → Type 0
ReadsAs script tree = IsUtf8 script × (read script ≡ Some tree)

-- the script reads as a tree that spells the setup, and no other
pub record IsScriptOf (script : List ℕ) (setup : SetupParts) : Type 0 where
  pub tree : Data
  pub reading : ReadsAs script tree
  pub spelled : Spells tree setup
  pub only : IsOnlySetup tree setup

-- the script reads as a tree, and that one spells no setup
pub record SpellsNone (script : List ℕ) : Type 0 where
  pub tree : Data
  pub reading : ReadsAs script tree
  pub unspelled : (setup : SetupParts) → Spells tree setup → ⊥

-- a fault of a tree: it spells no setup, or memory ran out
abbrev pub IsTreeFault : List ℕ → ReadFault → Type 0
IsTreeFault script OutOfMemory = Unit {0}
IsTreeFault script _ = SpellsNone script

-- the script has no reading, or memory ran out before its tree was made
abbrev pub IsUnread : List ℕ → Refusal → Type 0
IsUnread script (NotJson place) = (tree : Data) → ReadsAs script tree → ⊥
IsUnread script (Tree e) = e.why ≡ Memory

-- the script has no reading, or the fault is one of its tree
abbrev pub IsRefusedBy : List ℕ → Refusal → Type 0
IsRefusedBy script (NotJson place) = (tree : Data) → ReadsAs script tree → ⊥
IsRefusedBy script (Tree e) = IsTreeFault script (fault_of e.why)

-- the place that a refusal has is where the script stops being JSON
abbrev pub IsPlaced : List ℕ → Refusal → Type 0
IsPlaced script (NotJson place) = IsPlace script place
IsPlaced script (Tree e) = Unit {0}

-- what a refusal says is true of the tree that the script reads as; of a text that isn't JSON its place is the true one
abbrev pub IsTrueRefusal : List ℕ → Refusal → Type 0
IsTrueRefusal script (NotJson place) = IsPlace script place
IsTrueRefusal script (Tree e) = (tree : Data) → ReadsAs script tree → IsTrueOf tree e
