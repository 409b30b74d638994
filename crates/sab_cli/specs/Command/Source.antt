-- Where a script is read from.
use Rattle.std.specs.Prelude.{◌≡◌, ◌≢◌, ℕ, List, Option, Some, None, codes, ⊤}
use Rattle.sab_cli.specs.declared.command.request.Source.{Source}
use Rattle.sab_cli.specs.declared.command.request.Source.TheVariants.{Standard, File}

-- no name and the name - are those of standard input, and every other one is that of a file
abbrev pub Names : Option (List ℕ) → Source → Type 0
Names None Standard = ⊤
Names None (File name) = ⊥
Names (Some word) Standard = word ≡ codes "-"
Names (Some word) (File name) = (name.now ≡ word) × (word ≢ codes "-")
