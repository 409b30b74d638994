-- Trees whose numbers fit 64 bits.
use Rattle.std.proofs.Common.{ℕ, ◌<◌, ◌≤◌, ◌^◌, ◌+◌, ℤ, pos, negsuc, ◌-ℤ◌, List, Option, Some, None, IfSome, arith}
use Rattle.std.proofs.lemmas.Grind.{common_steps}
use Rattle.std.specs.Prelude.{⊤, ◌-◌}
use Rattle.std.proofs.lemmas.Int.{ints}
use Rattle.serde_json.specs.Data.{Num, unsigned, negative, float, Data, null, boolean, number, string, array, object, Items, no_items, item, Members, no_members, member}
use Rattle.serde_json.specs.Find.{of_integer}
use Rattle.sab_block.specs.Operand.{IsSafeInteger}
use Rattle.sab_report_text.specs.JsonLines.Members.{member_if}

-- a whole number that fits 64 bits
abbrev pub IsShort : Num → Type 0
IsShort (unsigned n) = n < 2 ^ 64
IsShort (negative (pos n)) = ⊥
IsShort (negative (negsuc n)) = n < 2 ^ 63
IsShort (float x) = ⊥

-- each number of a tree is one
abbrev mutual
  pub HasShortNumbers : Data → Type 0
  HasShortNumbers null = ⊤
  HasShortNumbers (boolean b) = ⊤
  HasShortNumbers (number n) = IsShort n
  HasShortNumbers (string s) = ⊤
  HasShortNumbers (array ds) = ItemsHaveShortNumbers ds
  HasShortNumbers (object ms) = MembersHaveShortNumbers ms

  pub ItemsHaveShortNumbers : Items → Type 0
  ItemsHaveShortNumbers no_items = ⊤
  ItemsHaveShortNumbers (item d ds) = HasShortNumbers d × ItemsHaveShortNumbers ds

  pub MembersHaveShortNumbers : Members → Type 0
  MembersHaveShortNumbers no_members = ⊤
  MembersHaveShortNumbers (member k d ms) = HasShortNumbers d × MembersHaveShortNumbers ms

-- a member that may be left out
pub short_if : (key : List ℕ) (o : Option Data) (ms : Members) → IfSome o HasShortNumbers → MembersHaveShortNumbers ms
    → MembersHaveShortNumbers (member_if key o ms)
short_if key None ms h others = others
short_if key (Some d) ms h others = (h, others)

-- ---- whole numbers

abbrev pub IsShortInteger : ℤ → Type 0
IsShortInteger z = IsShort (of_integer z)

pub safe_short : (z : ℤ) → IsSafeInteger z → IsShortInteger z
safe_short (pos n) h = omega (arith, ints, h.1)
safe_short (negsuc n) h = omega (arith, ints, h.0)

pub natural_short : (n : ℕ) → n < 2 ^ 64 → IsShortInteger (pos n)
natural_short n h = h

pub difference_short : (r m : ℕ) → r < m → m ≤ r + 2 ^ 63 → IsShortInteger (pos r -ℤ pos m)
difference_short r m below near = grind (arith, common_steps, pos, negsuc)
