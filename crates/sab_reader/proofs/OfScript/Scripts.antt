-- Scripts that are refused.
use Rattle.std.proofs.Common.{◌≡◌, ℕ, List, Some, None, subst, sym}
use Rattle.std.specs.Prelude.{IsUtf8}
use Rattle.serde_json.specs.Data.{Data}
use Rattle.serde_json.specs.Read.{read}
use Rattle.sab_refusal.specs.declared.located.Located.{Located}
use Rattle.sab_refusal.specs.declared.read_fault.ReadFault.{ReadFault}
use Rattle.sab_refusal.specs.declared.read_fault.ReadFault.TheVariants.{TooMany, OutOfMemory, BadShape, BadName, BadNumber, BadCall, BadView, BadAgent, NoBlock}
use Rattle.sab_refusal.specs.declared.refusal.Refusal.{Refusal}
use Rattle.sab_refusal.specs.declared.refusal.Refusal.TheVariants.{NotJson, Tree}
use Rattle.sab_refusal.specs.Reason.{fault_of}
use Rattle.sab_reader.specs.Script.Reading.{Refuses}
use Rattle.sab_reader.specs.Script.Setup.{Spells}
use Rattle.sab_reader.specs.Script.Script.{ReadsAs, IsTreeFault, IsUnread, IsPlaced, IsRefusedBy, IsTrueRefusal}
use Rattle.sab_reader.specs.Script.Truth.{IsTrueAt, IsTrueOf}

-- bytes without a reading
pub no_reading : (script : List ℕ) (tree : Data) → (IsUtf8 script → read script ≡ None) → ReadsAs script tree → ⊥
no_reading script tree none r = let e = none r.0 in let s = r.1 in cc

-- bytes without a tree

pub unread : (script : List ℕ) (r : Refusal) → IsUnread script r → IsRefusedBy script r
unread script (NotJson place) h = h
unread script (Tree e) h = subst (λ why. IsTreeFault script (fault_of why)) (sym h) tt

pub unread_true : (script : List ℕ) (r : Refusal) → IsUnread script r → IsPlaced script r → IsTrueRefusal script r
unread_true script (NotJson place) h p = p
unread_true script (Tree e) h p = λ tree reads. subst (λ why. IsTrueAt tree e.at why) (sym h) tt

-- a tree that is refused
pub refused_tree : (script : List ℕ) (d : Data) (e : ReadFault) → ReadsAs script d → Refuses (Spells d) e
    → IsTreeFault script e
refused_tree script d OutOfMemory r h = tt
refused_tree script d TooMany r h = record { tree = d; reading = r; unspelled = h }
refused_tree script d BadShape r h = record { tree = d; reading = r; unspelled = h }
refused_tree script d BadName r h = record { tree = d; reading = r; unspelled = h }
refused_tree script d BadNumber r h = record { tree = d; reading = r; unspelled = h }
refused_tree script d BadCall r h = record { tree = d; reading = r; unspelled = h }
refused_tree script d BadView r h = record { tree = d; reading = r; unspelled = h }
refused_tree script d BadAgent r h = record { tree = d; reading = r; unspelled = h }
refused_tree script d NoBlock r h = record { tree = d; reading = r; unspelled = h }

-- what is true of the tree that a script was read as is true of each that it reads as
pub reported_tree : (script : List ℕ) (d : Data) (e : Located) → read script ≡ Some d → IsTrueOf d e → (tree : Data)
    → ReadsAs script tree → IsTrueOf tree e
reported_tree script d e was reported tree reads =
    let is = reads.1 in
    let same : d ≡ tree = cc in
    subst (λ t. IsTrueOf t e) same reported
