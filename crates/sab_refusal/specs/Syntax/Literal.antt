-- The words of JSON.
use Rattle.std.specs.Prelude.{ℕ, List, Option, Some, None, codes, ◌==◌, if◌then◌else◌}
use Rattle.sab_refusal.specs.declared.syntax.literal.Literal.{Literal}
use Rattle.sab_refusal.specs.declared.syntax.literal.Literal.TheVariants.{True, False, Null}

abbrev pub letters_of : Literal → List ℕ
letters_of True = codes "true"
letters_of False = codes "false"
letters_of Null = codes "null"

-- the one that begins with a letter
abbrev pub literal_at : ℕ → Option Literal
literal_at b = if b == 116 then Some True else if b == 102 then Some False else if b == 110 then Some Null else None
