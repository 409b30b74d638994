-- Which scripts stand for a run with ordinary accesses: those that have a view of such a name.
use Rattle.std.specs.Prelude.{ℕ, Bool, List, ◌||◌, codes, nat_eq}
use Rattle.std.specs.List.{list_any, starts_with}
use Rattle.sab_reader.specs.Script.Views.{view_names}
use Rattle.sab_reader.specs.Script.Setup.{SetupParts}

-- the name is that of a view of ordinary writes, or of what was written before the run
abbrev pub is_ordinary_name : List ℕ → Bool
is_ordinary_name name = starts_with nat_eq name (codes "ordinary_") || starts_with nat_eq name (codes "init_")

abbrev pub has_ordinary_data : SetupParts → Bool
has_ordinary_data setup = list_any is_ordinary_name (view_names setup.views)
