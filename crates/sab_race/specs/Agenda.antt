-- What agents still have to do in a race.
use Rattle.std.specs.Prelude.{◌≡◌, ℕ, ◌+◌, ◌-◌, ◌<◌, List, [], length, sum_by, slice_get, slice_set, slice_index_or, Some}
use Rattle.sab_plan.specs.declared.schedule.Move.{Move}

-- an agent's moves, and how many of them were made
pub record AgendaParts : Type 0 where
  pub moves : List Move
  pub made : ℕ

abbrev pub no_agenda : AgendaParts
no_agenda = record { moves = []; made = 0 }

abbrev pub agenda_at : List AgendaParts → ℕ → AgendaParts
agenda_at agendas a = slice_index_or agendas a no_agenda

-- none of these was made
abbrev pub unmade : List Move → AgendaParts
unmade moves = record { moves = moves; made = 0 }

-- the agenda once its next move was made
abbrev pub after_next : AgendaParts → AgendaParts
after_next agenda = record { moves = agenda.moves; made = agenda.made + 1 }

-- the agendas once an agent's next move was made
abbrev pub advanced : List AgendaParts → ℕ → List AgendaParts
advanced agendas a = slice_set agendas a (after_next (agenda_at agendas a))

-- how many moves of an agenda are left, and of all
abbrev pub left_in : AgendaParts → ℕ
left_in agenda = length agenda.moves - agenda.made

abbrev pub left_of : List AgendaParts → ℕ
left_of agendas = sum_by left_in agendas

-- an agent has a move left
abbrev pub HasNext : List AgendaParts → ℕ → Type 0
HasNext agendas a = (a < length agendas) × (0 < left_in (agenda_at agendas a))

-- an agent's next move is its k-th one, and is this
abbrev pub IsNext : List AgendaParts → ℕ → ℕ → Move → Type 0
IsNext agendas a k m =
    HasNext agendas a × (k ≡ (agenda_at agendas a).made) × (slice_get (agenda_at agendas a).moves k ≡ Some m)
