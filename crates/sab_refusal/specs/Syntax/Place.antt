-- The place where a text stops being JSON, by line and column.
use Rattle.std.specs.Prelude.{◌≡◌, ℕ, List, take, Some, None}
use Rattle.sab_refusal.specs.declared.syntax.place.Place.{Place}
use Rattle.sab_refusal.specs.declared.syntax.stop.Stop.{Stop}
use Rattle.sab_refusal.specs.declared.syntax.stop.Stop.TheVariants.{Token, End}
use Rattle.sab_refusal.specs.Syntax.Spot.{spot_after}
use Rattle.sab_refusal.specs.Syntax.Begins.{StopsAt}
use Rattle.sab_refusal.specs.Syntax.Stop.{stop_of}

-- the place of a stop
abbrev pub place_by : List ℕ → Stop → Place
place_by text (Token at fault) = record { spot = spot_after (take at text); fault = Some fault }
place_by text End = record { spot = spot_after text; fault = None }

-- it is the place of the text's stop, where no text that is read goes on
pub record IsPlace (text : List ℕ) (place : Place) : Type 0 where
  pub is : place ≡ place_by text (stop_of text)
  pub stops : StopsAt text (stop_of text)
