-- Kinds of entries.
use Rattle.std.specs.Prelude.{Bool, true, false}
use Rattle.sab_plan.specs.declared.entry.What.{What}
use Rattle.sab_plan.specs.declared.entry.What.TheVariants.{Acted, Enlisted, Left, Returned, Stuck}

-- it acts on the object
abbrev pub is_act : What → Bool
is_act (Acted x) = true
is_act Enlisted = true
is_act (Left x) = true
is_act _ = false

abbrev pub is_stuck : What → Bool
is_stuck (Stuck why) = true
is_stuck _ = false

abbrev pub is_return : What → Bool
is_return (Returned x) = true
is_return _ = false
