-- Size classes of accesses, the cells in which those of a class begin, and what is kept of each cell.
use Rattle.std.specs.Prelude.{Bool, ◌≡◌, ℕ, ◌+◌, ◌-◌, ◌*◌, ◌/◌, ◌^◌, ◌<◌, ◌≤◌, List, slice_get, slice_index_or, Option, Some, None, true, false}
use Rattle.std.specs.Int.{leading_zeros, w32}
use Rattle.std.specs.HashMap.{get}
use Rattle.std.specs.declared.vec.Vec.{Vec}
use Rattle.std.specs.declared.alloc.Global.{Global}
use Rattle.sab_judge.specs.declared.access.Access.{Access}
use Rattle.sab_judge.specs.declared.cell.Cell.{Cell}
use Rattle.sab_judge.specs.declared.event.Event.{Event}
use Rattle.sab_judge.specs.declared.latest.Latest.{Latest}
use Rattle.sab_judge.specs.Event.{event_at, agent_at}
use Rattle.sab_judge.specs.Link.{IsLike}
use Rattle.sab_judge.specs.Lookups.{ByPlace, same_pair}

-- one less than how many binary digits a length has, and 0 for no byte
abbrev pub class_of : ℕ → ℕ
class_of len = (32 - leading_zeros w32 len) - 1

-- the access is of the cell's block and class, and begins in it
pub record IsIn (cell : Cell) (a : Access) : Type 0 where
  pub block : a.place.block ≡ cell.block
  pub class : class_of a.len ≡ cell.class
  pub index : a.place.byte / 2 ^ cell.class ≡ cell.index

abbrev pub key_of : Cell → ℕ × ℕ
key_of cell = (cell.block, cell.index * 32 + cell.class)

-- the i-th event makes an access that begins in the cell
pub record BeginsIn (trace : List Event) (cell : Cell) (i : ℕ) : Type 0 where
  pub access : Access
  pub makes : (event_at trace i).access ≡ Some access
  pub is_in : IsIn cell access

-- of the first n events like it, this one is the last; its access begins in the cell
pub record IsLatest (trace : List Event) (n : ℕ) (cell : Cell) (latest : Latest) : Type 0 where
  pub within : latest.position < n
  pub agent : latest.agent ≡ agent_at trace latest.position
  pub begins : BeginsIn trace cell latest.position
  pub last : (i : ℕ) → latest.position < i → i < n → ¬ IsLike trace latest.position i

-- one of the list is like the i-th event
pub record HasLatest (trace : List Event) (list : List Latest) (i : ℕ) : Type 0 where
  pub place : ℕ
  pub latest : Latest
  pub is : slice_get list place ≡ Some latest
  pub like : IsLike trace latest.position i

-- the list has, of the first n events whose accesses begin in the cell, the last of those that are alike, each once
pub record AreLatest (trace : List Event) (n : ℕ) (cell : Cell) (list : List Latest) : Type 0 where
  pub each : (k : ℕ) (t : Latest) → slice_get list k ≡ Some t → IsLatest trace n cell t
  pub found : (i : ℕ) → i < n → BeginsIn trace cell i → HasLatest trace list i
  pub once : (k l : ℕ) (t u : Latest) → k < l → slice_get list k ≡ Some t → slice_get list l ≡ Some u
      → ¬ IsLike trace t.position u.position

-- what is kept of a cell: nothing, where none of the first n events came to it, or the list
abbrev pub IsKeptAt : List Event → ℕ → Cell → Option (Vec Latest Global) → Type 0
IsKeptAt trace n cell None = (i : ℕ) → i < n → ¬ BeginsIn trace cell i
IsKeptAt trace n cell (Some list) = AreLatest trace n cell list.items

-- of each cell there is what is kept of it
abbrev pub AreKept : List Event → ℕ → ByPlace (Vec Latest Global) → Type 0
AreKept trace n cells = (cell : Cell) → cell.class < 32 → IsKeptAt trace n cell (get same_pair cells (key_of cell))

-- each class that one of the first n events has is noted
abbrev pub AreUsed : List Event → ℕ → List Bool → Type 0
AreUsed trace n used =
    (i : ℕ) (a : Access) → i < n → (event_at trace i).access ≡ Some a → slice_index_or used (class_of a.len) false ≡ true

-- each access of the first n events has less bytes than two of its class's cells
abbrev pub AreShort : List Event → ℕ → Type 0
AreShort trace n = (i : ℕ) (a : Access) → i < n → (event_at trace i).access ≡ Some a → a.len < 2 * 2 ^ class_of a.len

-- the i-th event makes an access of a class, which begins in a cell of the block from one up to another
pub record BeginsBetween (trace : List Event) (block class low high : ℕ) (i : ℕ) : Type 0 where
  pub access : Access
  pub makes : (event_at trace i).access ≡ Some access
  pub block_is : access.place.block ≡ block
  pub class_is : class_of access.len ≡ class
  pub from_low : low ≤ access.place.byte / 2 ^ class
  pub below_high : access.place.byte / 2 ^ class < high

-- the i-th event makes an access of this class
pub record IsOfClass (trace : List Event) (class i : ℕ) : Type 0 where
  pub access : Access
  pub makes : (event_at trace i).access ≡ Some access
  pub class_is : class_of access.len ≡ class

-- the i-th event makes an access of a class below this one
pub record IsOfLowerClass (trace : List Event) (class i : ℕ) : Type 0 where
  pub access : Access
  pub makes : (event_at trace i).access ≡ Some access
  pub below : class_of access.len < class
