-- The lines of races, one after the other.
use Rattle.std.proofs.Common.{◌≡◌, ℕ, ◌+◌, ◌<◌, List, ◌++◌, length, get_or, drop, Option, refl, add-one, drop-cons, flat_map}
use Rattle.std.specs.Io.KnownBytes.{Appends, Keeps, append_known}
use Rattle.sab_judge.specs.declared.race.Race.{Race}
use Rattle.sab_report_text.proofs.OfText.Appending.{left_after}

races_left : (text : Race → List ℕ) (races : List Race) (k : ℕ) (d : Race) → k < length races
    → flat_map text (drop k races) ≡ text (get_or races k d) ++ flat_map text (drop (k + 1) races)
races_left text races k d h = rw (drop-cons races k d, add-one) refl

pub races_after : (text : Race → List ℕ) (races : List Race) (k : ℕ) (d : Race) (a b y : Option (List ℕ))
    (chunk all : List ℕ)
    → k < length races → Appends a (append_known (append_known b chunk) (flat_map text (drop k races))) all
    → Keeps (append_known b (chunk ++ text (get_or races k d))) y
    → Appends a (append_known y (flat_map text (drop (k + 1) races))) all
races_after text races k d a b y chunk all h p q =
    left_after a b y chunk (text (get_or races k d)) (flat_map text (drop (k + 1) races)) all
    (rw (races_left text races k d h) at p) q
