-- Elements in bytes.
use Rattle.std.proofs.Common.{◌≡◌, ℕ, zero, suc, ◌+◌, ◌*◌, ◌/◌, ◌%◌, ◌^◌, ◌<◌, ◌≤◌, List, [], ◌++◌, length, take, drop, map, ◌-◌, length-drop, append_assoc, slice_index, refl, ap, sym, ◌∙◌, add-zero, add-one, arith}
use Rattle.std.proofs.Math.Nat.{pow-suc, pow-succ', mul_left_comm, div-one}
use Rattle.std.proofs.lemmas.List.{get_or-drop, drop-drop, drop_all, append-nil}
use Rattle.std.specs.Int.{bytes_low_first, byte_at}
use Rattle.std.specs.List.{range_with_len}
use Rattle.std.proofs.lemmas.Slice.{between_to_end}
use borrow.Rule.Slice.PartMut.{put_mid}
use Rattle.byteorder.specs.Numbers.{little_from-lt}
use Rattle.std.proofs.lemmas.Nat.{pow-add}
use Rattle.byteorder.specs.Endian.{little_from, little_number, little_bytes}
use Rattle.sab_block.specs.Block.{number, digits, put}

-- Horner's sum with one digit more at its end
pub little_from-more : (i n : ℕ) (xs : List ℕ)
    → little_from i (suc n) xs ≡ little_from i n xs + slice_index xs (i + n) * 256 ^ n
little_from-more i zero xs = rw (add-zero, add-zero) (omega arith)
little_from-more i (suc n) xs =
    let rest = little_from-more (suc i) n xs in
    let at : suc i + n ≡ i + suc n = omega arith in
    let power : 256 ^ suc n ≡ 256 * 256 ^ n = pow-succ' 256 n in
    let moved : 256 * (slice_index xs (i + suc n) * 256 ^ n) ≡ slice_index xs (i + suc n) * (256 * 256 ^ n) =
    mul_left_comm 256 (slice_index xs (i + suc n)) (256 ^ n) in
    let rest' = rw at at rest in
    rw power (omega (arith, rest', moved))

-- a number of byteorder is the sum
pub number_is : (mem : List ℕ) (p s : ℕ) → little_from p s mem ≡ number mem p s
unfolding number
number_is mem p zero = refl
number_is mem p (suc s) = little_from-more p s mem ∙ ap (λ n. n + slice_index mem (p + s) * 256 ^ s) (number_is mem p s)

-- and so from a part of the bytes
pub little_from-drop : (i n p : ℕ) (mem : List ℕ) → little_from i n (drop p mem) ≡ little_from (p + i) n mem
little_from-drop i zero p mem = refl
little_from-drop i (suc n) p mem =
    let rest = little_from-drop (suc i) n p mem in
    let here : slice_index (drop p mem) i ≡ slice_index mem (p + i) = get_or-drop p mem i 0 in
    let at : p + suc i ≡ suc (p + i) = omega arith in
    let rest' = rw at at rest in
    omega (arith, rest', here)

byte_is : (i r : ℕ) → byte_at i r ≡ r / 256 ^ i % 256
byte_is zero r = sym (ap (λ n. n % 256) (div-one r))
byte_is (suc i) r = refl

bytes_from : (i s r : ℕ) → bytes_low_first i s r ≡ map (λ k. r / 256 ^ k % 256) (range_with_len i s)
bytes_from i zero r = refl
bytes_from i (suc s) r = rw (byte_is i r, bytes_from (suc i) s r, add-one) refl

pub digits_are : (s r : ℕ) → little_bytes s r ≡ digits s r
unfolding digits
digits_are s r = bytes_from 0 s r

-- what is read from a part of the bytes
pub number_read : (mem : List ℕ) (p s : ℕ) → little_number s (drop p mem) ≡ number mem p s
number_read mem p s =
    let d = little_from-drop 0 s p mem in let z : p + 0 ≡ p = add-zero p in (rw z at d) ∙ number_is mem p s

-- 256 to the s is 2 to the 8 s
pub power_256 : (s : ℕ) → 256 ^ s ≡ 2 ^ (8 * s)
power_256 zero = refl
power_256 (suc s) =
    let rest = power_256 s in
    let e : 8 * suc s ≡ 8 * s + 8 = omega arith in
    pow-suc 256 s ∙ (ap (λ n. n * 256) rest ∙ sym (ap (λ n. 2 ^ n) e ∙ pow-add 2 (8 * s) 8))

pub number-lt : (mem : List ℕ) (p s : ℕ) → ((k : ℕ) → slice_index mem k < 256) → number mem p s < 2 ^ (8 * s)
number-lt mem p s h =
    let b : little_from p s mem < 256 ^ s = little_from-lt p s mem h in
    let e = number_is mem p s in
    let f = power_256 s in
    omega (arith, b, e, f)

-- what is read from the bytes from a place on
pub number-read : (mem : List ℕ) (p size s x : ℕ) → size ≡ s → x ≡ little_number s (take (length mem - p) (drop p mem))
    → x ≡ number mem p size
number-read mem p size s x same e =
    let rest = between_to_end mem p (length mem) (omega arith) in
    rw same (e ∙ (ap (little_number s) rest ∙ number_read mem p s))

-- what a write to the bytes from a place on leaves
pub put-written : (mem : List ℕ) (p size s r : ℕ) (ys : List ℕ) → size ≡ s → p + size ≤ length mem
    → ys ≡ little_bytes s r ++ drop s (take (length mem - p) (drop p mem))
    → put_mid p (length mem - p) mem ys ≡ put mem p size r
unfolding put
put-written mem p size s r ys same h e =
    let rest = between_to_end mem p (length mem) (omega arith) in
    let none : drop (length mem - p) (drop p mem) ≡ [] =
    drop_all (length mem - p) (drop p mem) (omega (arith, length-drop p mem)) in
    let after : drop s (drop p mem) ≡ drop (p + s) mem = drop-drop s p mem in
    rw (e, rest, none, after, digits_are, append-nil, same)
    (sym (append_assoc (take p mem) (digits s r) (drop (p + s) mem)))
