-- In which cells of a block and a size class accesses begin.
use Rattle.std.specs.Prelude.{◌≡◌, ℕ, ◌<◌, ◌≤◌, List, length, slice_index, Option, Some, None}
use Rattle.std.specs.HashMap.{get}
use Rattle.std.specs.declared.vec.Vec.{Vec}
use Rattle.std.specs.declared.alloc.Global.{Global}
use Rattle.sab_judge.specs.declared.event.Event.{Event}
use Rattle.sab_judge.specs.Cell.{BeginsIn}
use Rattle.sab_judge.specs.Lookups.{ByPlace, same_pair}

-- each number is below those behind it
abbrev pub AreRising : List ℕ → Type 0
AreRising list = (k m : ℕ) → k < m → m < length list → slice_index list k < slice_index list m

-- the number is one of the list
pub record IsListed (list : List ℕ) (number : ℕ) : Type 0 where
  pub place : ℕ
  pub within : place < length list
  pub is : slice_index list place ≡ number

-- the new list has the number, and what the old one has
pub record IsListedToo (old new : List ℕ) (number : ℕ) : Type 0 where
  pub rising : AreRising new
  pub listed : IsListed new number
  pub others : (other : ℕ) → IsListed old other → IsListed new other

-- so many numbers are below one: the first ones
pub record IsCountBelow (list : List ℕ) (number count : ℕ) : Type 0 where
  pub few : count ≤ length list
  pub below : (k : ℕ) → k < count → slice_index list k < number
  pub behind : (k : ℕ) → count ≤ k → k < length list → number ≤ slice_index list k

-- the list has the index of each cell of the block and class in which one of the first n events begins, in order
pub record IsShelf (trace : List Event) (n block class : ℕ) (list : List ℕ) : Type 0 where
  pub rising : AreRising list
  pub each : (i index : ℕ) → i < n → BeginsIn trace (record { block = block; class = class; index = index }) i
      → IsListed list index

-- what is kept of a block and a class: nothing, where none of the first n events begins in a cell of them, or the list
abbrev pub IsShelvedAt : List Event → ℕ → ℕ → ℕ → Option (Vec ℕ Global) → Type 0
IsShelvedAt trace n block class None =
    (i index : ℕ) → i < n → ¬ BeginsIn trace (record { block = block; class = class; index = index }) i
IsShelvedAt trace n block class (Some list) = IsShelf trace n block class list.items

-- of each block and class there is what is kept of them
abbrev pub AreShelved : List Event → ℕ → ByPlace (Vec ℕ Global) → Type 0
AreShelved trace n shelves = (block class : ℕ) → IsShelvedAt trace n block class (get same_pair shelves (block, class))
