-- The brackets that are open, the innermost first.
use Rattle.std.specs.Prelude.{Bool, true, false, List, [], ◌∷◌, Option, Some, None}
use Rattle.sab_refusal.specs.declared.syntax.brackets.Bracket.{Bracket}
use Rattle.sab_refusal.specs.declared.syntax.brackets.Bracket.TheVariants.{Array, Object}

abbrev pub same_bracket : Bracket → Bracket → Bool
same_bracket Array Array = true
same_bracket Object Object = true
same_bracket Array Object = false
same_bracket Object Array = false

abbrev pub innermost : List Bracket → Option Bracket
innermost [] = None
innermost (b ∷ bs) = Some b
