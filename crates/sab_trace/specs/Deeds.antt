-- What an event can be said to do: the words for it, and the flags and sizes that go with each.
use Rattle.std.specs.Prelude.{◌≡◌, ◌⊎◌, ◌||◌, ℕ, List, codes, Bool, true, false, IsTrue, ℤ, pos, ◌≤ℤ◌}
use Rattle.sab_trace.specs.declared.deed.Deed.{Deed}
use Rattle.sab_trace.specs.declared.deed.Deed.TheVariants.{Load, Store, Add, Sub, And, Or, Xor, Exchange, CompareExchange, Wait, Notify, Leave, TimeUp, Read, Write}
use Rattle.sab_trace.specs.declared.flags.Flags.{Flags}

-- the table of words
abbrev pub word_of : Deed → List ℕ
word_of Load = codes "load"
word_of Store = codes "store"
word_of Add = codes "add"
word_of Sub = codes "sub"
word_of And = codes "and"
word_of Or = codes "or"
word_of Xor = codes "xor"
word_of Exchange = codes "exchange"
word_of CompareExchange = codes "compareExchange"
word_of Wait = codes "wait"
word_of Notify = codes "notify"
word_of Leave = codes "leave"
word_of TimeUp = codes "time-up"
word_of Read = codes "read"
word_of Write = codes "write"

-- whether an event reads and writes its bytes, is atomic, and is in a critical section of waiters
abbrev pub flags : Bool → Bool → Bool → Bool → Flags
flags read write atomic waiters = record { read = read; write = write; atomic = atomic; waiters = waiters }

-- the table of flags, where a compareExchange writes if it exchanges
abbrev pub flags_of : Deed → Bool → Flags
flags_of Load exchanges = flags true false true false
flags_of Store exchanges = flags false true true false
flags_of Add exchanges = flags true true true false
flags_of Sub exchanges = flags true true true false
flags_of And exchanges = flags true true true false
flags_of Or exchanges = flags true true true false
flags_of Xor exchanges = flags true true true false
flags_of Exchange exchanges = flags true true true false
flags_of CompareExchange exchanges = flags true exchanges true false
flags_of Wait exchanges = flags true false true true
flags_of Notify exchanges = flags false false false true
flags_of Leave exchanges = flags false false false true
flags_of TimeUp exchanges = flags false false false true
flags_of Read exchanges = flags true false false false
flags_of Write exchanges = flags false true false false

-- a call of Atomics, which may throw
abbrev pub is_call : Deed → Bool
is_call Leave = false
is_call TimeUp = false
is_call Read = false
is_call Write = false
is_call _ = true

-- an event that does it can have these flags: those of the table, or none if it is a call that throws
abbrev pub CanHave : Deed → Flags → Type 0
CanHave deed found =
    (found ≡ flags_of deed found.write) ⊎ (IsTrue (is_call deed) × (found ≡ flags false false false false))

-- the event reads or writes its bytes
abbrev pub accesses : Flags → Bool
accesses found = found.read || found.write

-- it accesses bytes, or is in a critical section: so the bytes that it is said to be at must be there
abbrev pub acts : Flags → Bool
acts found = accesses found || found.waiters

-- so many bytes are an element that a call can access
abbrev pub IsElement : ℤ → Type 0
IsElement size = (size ≡ pos 1) ⊎ ((size ≡ pos 2) ⊎ ((size ≡ pos 4) ⊎ (size ≡ pos 8)))

-- so many bytes are an element at which agents can wait
abbrev pub IsWaitable : ℤ → Type 0
IsWaitable size = (size ≡ pos 4) ⊎ (size ≡ pos 8)

-- so many bytes are a stretch of a block
abbrev pub IsStretch : ℤ → Type 0
IsStretch size = (pos 1 ≤ℤ size) × (size ≤ℤ pos 65536)

-- an event that does it and acts can be at so many bytes
abbrev pub IsSizeOf : Deed → ℤ → Type 0
IsSizeOf Wait size = IsWaitable size
IsSizeOf Notify size = IsWaitable size
IsSizeOf Leave size = IsWaitable size
IsSizeOf TimeUp size = IsWaitable size
IsSizeOf Read size = IsStretch size
IsSizeOf Write size = IsStretch size
IsSizeOf _ size = IsElement size
