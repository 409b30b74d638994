-- Places.
use Rattle.std.specs.Prelude.{◌==◌, ◌&&◌, Bool}
use Rattle.sab_judge.specs.declared.place.Place.{Place}

-- the two are one place
abbrev pub same_place : Place → Place → Bool
same_place p q = (p.block == q.block) && (p.byte == q.byte)
