-- What a check says of a script.
use Rattle.std.specs.Prelude.{◌≡◌, ℕ, List, ◌++◌, take, Option, Some, None, codes, string_bytes, if◌then◌else◌}
use Rattle.sab_refusal.specs.declared.refusal.Refusal.{Refusal}
use Rattle.sab_refusal.specs.declared.refusal.Refusal.TheVariants.{NotJson, Tree}
use Rattle.sab_reader.specs.Script.Setup.{SetupParts}
use Rattle.sab_refusal.specs.Refusal.{IsMemory, refusal_text}
use Rattle.sab_reader.specs.Script.Script.{IsScriptOf, IsRefusedBy, IsTrueRefusal}
use Rattle.sab_reader.specs.declared.check.check.Checked.{Checked}
use Rattle.sab_reader.specs.declared.check.check.Checked.TheVariants.{Accepted, Refused}
use Rattle.sab_reader.specs.declared.check.scanning.ForeignAt.{ForeignAt}
use Rattle.sab_refusal.specs.Syntax.Spot.{spot_after, is_by}
use Rattle.sab_reader.specs.Check.Foreign.{FindsFirst, foreign_line}
use Rattle.sab_reader.specs.Check.Text.{accepted_text}

-- the script spells one setup, and the text is what is said of it
pub record IsAccepted (script text : List ℕ) : Type 0 where
  pub setup : SetupParts
  pub spelled : IsScriptOf script setup
  pub said : text ≡ accepted_text setup

-- what is said about a refusal if this was found, which JSON hasn't: it is reported if it begins at the place where the
-- text stops being JSON, or before
abbrev pub said_of : List ℕ → Refusal → Option ForeignAt → List ℕ
said_of script (NotJson place) (Some found) =
    if is_by (spot_after (take found.at script)) place.spot
    then foreign_line (spot_after (take found.at script)) found.what
    else refusal_text (NotJson place)
said_of script (NotJson place) None = refusal_text (NotJson place)
said_of script (Tree e) found = refusal_text (Tree e)

-- what is said of a refusal: where the script is no JSON text, of the first thing in it that JSON hasn't
abbrev pub Says : List ℕ → Refusal → List ℕ → Type 0
Says script (NotJson place) text =
    (found : Option ForeignAt) × FindsFirst script found
    × (text ≡ said_of script (NotJson place) found ++ codes "\n")
Says script (Tree e) text = text ≡ refusal_text (Tree e) ++ codes "\n"

-- the script spells none, and the text says where and why, which is true of the script
pub record IsRefused (script text : List ℕ) : Type 0 where
  pub refusal : Refusal
  pub refused : IsRefusedBy script refusal
  pub reported : IsTrueRefusal script refusal
  pub known : IsMemory refusal → ⊥
  pub said : Says script refusal text

abbrev pub IsChecked : List ℕ → Checked → Type 0
IsChecked script (Accepted text) = IsAccepted script (string_bytes text)
IsChecked script (Refused text) = IsRefused script (string_bytes text)
