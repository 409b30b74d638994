-- Which entries of a journal have a line.
use Rattle.std.specs.Prelude.{Bool, true, false, List, [], if◌then◌else◌, ℕ}
use Rattle.sab_plan.specs.declared.entry.What.{What}
use Rattle.sab_plan.specs.declared.entry.What.TheVariants.{Began, Returned}
use Rattle.sab_report_text.specs.declared.text.lines.Lines.{Lines}
use Rattle.sab_report_text.specs.declared.text.lines.Lines.TheVariants as L

-- an entry that did this has a line
abbrev pub has_line : Lines → What → Bool
has_line L.All what = true
has_line L.Acts Began = false
has_line L.Acts (Returned x) = false
has_line L.Acts what = true

-- the line of an entry that did this, if it has one
abbrev pub line_if : Lines → What → List ℕ → List ℕ
line_if lines what line = if has_line lines what then line else []
