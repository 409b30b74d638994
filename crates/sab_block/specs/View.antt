-- Views, and the places of their elements.
use Rattle.std.specs.Prelude.{◌≡◌, ℕ, ◌+◌, ◌-◌, ◌*◌, ◌/◌, ◌%◌, ◌==◌, nat_lt, nat_le, if◌then◌else◌, ℤ, pos, negsuc, Option, Some, None}
use Rattle.sab_block.specs.declared.kind.Kind.{Kind}
use Rattle.sab_block.specs.declared.view.View.{View}
use Rattle.sab_block.specs.Kind.{element_size}

-- the kind of its elements ([[TypedArrayName]])
abbrev pub kind_of : View → Kind
kind_of view = view.kind

-- the length of the blocks that it is made for
abbrev pub block_len_of : View → ℕ
block_len_of view = view.block_len

-- the byte at which its first element begins ([[ByteOffset]])
abbrev pub offset_of : View → ℕ
offset_of view = view.offset

-- how many elements it has ([[ArrayLength]])
abbrev pub len_of : View → ℕ
len_of view = view.len

-- the given length, where so many elements end within the block
abbrev pub given_count : ℕ → ℕ → ℕ → ℤ → Option ℕ
given_count size block_len offset (pos n) = if nat_le (offset + n * size) block_len then Some n else None
given_count size block_len offset (negsuc n) = None

-- the number of elements from the offset to the block's end, where the block has whole elements only
abbrev pub rest_count : ℕ → ℕ → ℕ → Option ℕ
rest_count size block_len offset =
    if block_len % size == 0 then (if nat_le offset block_len then Some ((block_len - offset) / size) else None) else
    None

abbrev pub count_from : ℕ → ℕ → ℕ → Option ℤ → Option ℕ
count_from size block_len offset (Some length) = given_count size block_len offset length
count_from size block_len offset None = rest_count size block_len offset

-- how many elements a view has, or none where it can't be made (InitializeTypedArrayFromArrayBuffer)
abbrev pub count : Kind → ℕ → ℤ → Option ℤ → Option ℕ
count kind block_len (pos offset) length =
    if offset % element_size kind == 0 then count_from (element_size kind) block_len offset length else None
count kind block_len (negsuc offset) length = None

-- the byte at which the element of an index begins, or none where there is no such element (ValidateAtomicAccess)
abbrev pub place : View → ℤ → Option ℕ
place view (pos i) = if nat_lt i (len_of view) then Some (offset_of view + i * element_size (kind_of view)) else None
place view (negsuc i) = None

-- the view has what was given, and n elements
pub record IsViewOf (kind : Kind) (block_len : ℕ) (offset : ℤ) (n : ℕ) (view : View) : Type 0 where
  pub kind_is : kind_of view ≡ kind
  pub block_len_is : block_len_of view ≡ block_len
  pub offset_is : pos (offset_of view) ≡ offset
  pub len_is : len_of view ≡ n
