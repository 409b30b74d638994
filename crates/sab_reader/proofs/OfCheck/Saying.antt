-- What is said of a text that isn't JSON.
use Rattle.std.proofs.Common.{◌≡◌, ℕ, true, List, ◌++◌, take, Some, codes}
use Rattle.sab_refusal.specs.declared.syntax.place.Place.{Place}
use Rattle.sab_refusal.specs.declared.syntax.spot.Spot.{Spot}
use Rattle.sab_refusal.specs.Syntax.Spot.{spot_after, is_by}
use Rattle.sab_refusal.specs.declared.refusal.Refusal.TheVariants.{NotJson}
use Rattle.sab_reader.specs.declared.check.scanning.ForeignAt.{ForeignAt}
use Rattle.sab_reader.specs.Check.Foreign.{FindsFirst, foreign_line}
use Rattle.sab_reader.specs.Check.Checked.{Says}

-- what JSON hasn't begins where the text stops being JSON, or before
pub says_foreign : (script : List ℕ) (place : Place) (found : ForeignAt) (spot : Spot) (text : List ℕ)
    → FindsFirst script (Some found) → spot ≡ spot_after (take found.at script)
    → is_by spot place.spot ≡ true → text ≡ foreign_line spot found.what ++ codes "\n"
    → Says script (NotJson place) text
says_foreign script place found spot text first p near said = (Some found, first, rw (← p, near) said)
