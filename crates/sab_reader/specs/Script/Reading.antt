-- What a reader of a part of a script returns.
use Rattle.std.specs.Prelude.{ℕ, ◌≤◌, List, [], ◌∷◌, length, Result, Ok, Err}
use Rattle.serde_json.specs.Data.{Data, Items, no_items, item}
use Rattle.sab_refusal.specs.declared.read_fault.ReadFault.{ReadFault}
use Rattle.sab_refusal.specs.declared.read_fault.ReadFault.TheVariants.{OutOfMemory}
use Rattle.sab_refusal.specs.declared.located.Located.{Located}
use Rattle.sab_refusal.specs.Reason.{fault_of}

-- a refusal: nothing is spelled, or memory ran out
abbrev pub Refuses : {Y : Type 0} → (Y → Type 0) → ReadFault → Type 0
Refuses Spelled OutOfMemory = Unit {0}
Refuses {Y = Y} Spelled _ = (y : Y) → Spelled y → ⊥

-- the answer, seen as a plain value, is spelled; or it is a refusal
abbrev pub Reads : {X Y : Type 0} → (X → Y) → (Y → Type 0) → Result X ReadFault → Type 0
Reads view Spelled (Ok x) = Spelled (view x)
Reads view Spelled (Err e) = Refuses Spelled e

-- the same of a refusal with its place
abbrev pub Finds : {X Y : Type 0} → (X → Y) → (Y → Type 0) → Result X Located → Type 0
Finds view Spelled (Ok x) = Spelled (view x)
Finds view Spelled (Err e) = Refuses Spelled (fault_of e.why)

-- the items of an array spell the elements of a list, one by one
abbrev pub SpellsEach : {X : Type 0} → (Data → X → Type 0) → Items → List X → Type 0
SpellsEach Spells no_items [] = Unit {0}
SpellsEach Spells no_items (x ∷ xs) = ⊥
SpellsEach Spells (item d ds) [] = ⊥
SpellsEach Spells (item d ds) (x ∷ xs) = Spells d x × SpellsEach Spells ds xs

-- and these are so many at most
abbrev pub SpellsUpTo : {X : Type 0} → ℕ → (Data → X → Type 0) → Items → List X → Type 0
SpellsUpTo most Spells ds xs = SpellsEach Spells ds xs × (length xs ≤ most)
