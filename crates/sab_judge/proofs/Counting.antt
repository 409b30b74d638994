-- How many numbers are such.
use Rattle.std.proofs.Common.{◌≡◌, ◌⊎◌, inl, inr, ℕ, zero, suc, ◌+◌, ◌-◌, ◌≤◌, ◌<◌, refl, sym, subst, arith}
use Rattle.std.proofs.lemmas.Bool.{cases_lt}
use Rattle.sab_judge.specs.Race.{Counts, below_none, one_more, no_more}

-- no more are such than there are
pub few_below : {P : ℕ → Type 0} {n count : ℕ} → Counts P n count → count ≤ n
few_below below_none = omega arith
few_below (one_more h p) = omega (arith, few_below h)
few_below (no_more h p) = omega (arith, few_below h)

-- where one is such, some are
pub some_counted : {P : ℕ → Type 0} {n count : ℕ} → Counts P n count → (k : ℕ) → k < n → P k → 0 < count
some_counted below_none k lt p = absurd (omega (arith, lt))
some_counted (one_more h q) k lt p = omega arith
some_counted {P} (no_more {n = n} h q) k lt p = elim (cases_lt k n) [
  | inl less ↦ some_counted h k less p
  | inr ge ↦ (let same : k ≡ n = omega (arith, lt, ge) in absurd (q (subst P same p)))
]

-- such that are the same below n are as many
pub counts_same : {P Q : ℕ → Type 0} {n count : ℕ} → ((i : ℕ) → i < n → P i → Q i) → ((i : ℕ) → i < n → Q i → P i)
    → Counts P n count → Counts Q n count
counts_same f g below_none = below_none
counts_same {P} {Q} f g (one_more {n = n} h p) =
    one_more (counts_same (λ i lt. f i (omega (arith, lt))) (λ i lt. g i (omega (arith, lt))) h) (f n (omega arith) p)
counts_same {P} {Q} f g (no_more {n = n} h p) =
    no_more (counts_same (λ i lt. f i (omega (arith, lt))) (λ i lt. g i (omega (arith, lt))) h)
    (λ q. p (g n (omega arith) q))

-- none are such
pub counts_none : {P : ℕ → Type 0} (n : ℕ) → ((i : ℕ) → i < n → ¬ P i) → Counts P n 0
counts_none zero none = below_none
counts_none {P} (suc n) none = subst (λ (m : ℕ). Counts P m 0) (let next : n + 1 ≡ suc n = omega arith in next)
    (no_more (counts_none n (λ i lt. none i (omega (arith, lt)))) (none n (omega arith)))

-- those that are such or such, where none is both
both_below : {P Q : ℕ → Type 0} {n m a b : ℕ} → Counts P n a → Counts Q m b → n ≡ m → ((i : ℕ) → P i → Q i → ⊥)
    → Counts (λ i. P i ⊎ Q i) n (a + b)
both_below below_none below_none e apart = below_none
both_below below_none (one_more k q) e apart = absurd (omega (arith, e))
both_below below_none (no_more k q) e apart = absurd (omega (arith, e))
both_below (one_more h p) below_none e apart = absurd (omega (arith, e))
both_below (no_more h p) below_none e apart = absurd (omega (arith, e))
both_below {P} {Q} (one_more {n = n} h p) (one_more {n = m} k q) e apart =
    let same : m ≡ n = omega (arith, e) in absurd (apart n p (subst Q same q))
both_below {P} {Q} (one_more {n = n} {count = a} h p) (no_more {n = m} {count = b} k q) e apart =
    let same : n ≡ m = omega (arith, e) in
    subst (λ (c : ℕ). Counts (λ i. P i ⊎ Q i) (n + 1) c) (let sum : (a + b) + 1 ≡ (a + 1) + b = omega arith in sum)
    (one_more (both_below h k same apart) (inl p))
both_below {P} {Q} (no_more {n = n} {count = a} h p) (one_more {n = m} {count = b} k q) e apart =
    let same : n ≡ m = omega (arith, e) in
    subst (λ (c : ℕ). Counts (λ i. P i ⊎ Q i) (n + 1) c) (let sum : (a + b) + 1 ≡ a + (b + 1) = omega arith in sum)
    (one_more (both_below h k same apart) (inr (subst Q (sym same) q)))
both_below {P} {Q} (no_more {n = n} h p) (no_more {n = m} k q) e apart =
    let same : n ≡ m = omega (arith, e) in
    no_more (both_below h k same apart) (neither n m same p q)
  where
    neither : (n m : ℕ) → n ≡ m → ¬ P n → ¬ Q m → ¬ (P n ⊎ Q n)
    neither n m same p q (inl x) = p x
    neither n m same p q (inr y) = q (subst Q same y)

pub counts_both : {P Q : ℕ → Type 0} {n a b : ℕ} → Counts P n a → Counts Q n b → ((i : ℕ) → P i → Q i → ⊥)
    → Counts (λ i. P i ⊎ Q i) n (a + b)
counts_both h k apart = both_below h k refl apart

-- as many, where none is such further on
pub counts_longer : {P : ℕ → Type 0} {m count : ℕ} (n : ℕ) → Counts P m count → m ≤ n
    → ((k : ℕ) → m ≤ k → k < n → ¬ P k) → Counts P n count
counts_longer {P} {m} {count} zero h le none =
    subst (λ (x : ℕ). Counts P x count) (let same : m ≡ zero = omega (arith, le) in same) h
counts_longer {P} {m} {count} (suc n) h le none = elim (cases_lt m (suc n)) [
  | inl lt ↦ subst (λ (x : ℕ). Counts P x count) (let next : n + 1 ≡ suc n = omega arith in next)
      (no_more (counts_longer n h (omega (arith, lt)) (λ k from below. none k from (omega (arith, below))))
      (none n (omega (arith, lt)) (omega arith)))
  | inr ge ↦ subst (λ (x : ℕ). Counts P x count) (let same : m ≡ suc n = omega (arith, le, ge) in same) h
]

-- there is one count
unique_below : {P : ℕ → Type 0} {n m a b : ℕ} → Counts P n a → Counts P m b → n ≡ m → a ≡ b
unique_below below_none below_none e = refl
unique_below below_none (one_more k q) e = absurd (omega (arith, e))
unique_below below_none (no_more k q) e = absurd (omega (arith, e))
unique_below (one_more h p) below_none e = absurd (omega (arith, e))
unique_below (no_more h p) below_none e = absurd (omega (arith, e))
unique_below (one_more h p) (one_more k q) e = let both = unique_below h k (omega (arith, e)) in omega (arith, both)
unique_below {P} (one_more {n = n} h p) (no_more {n = m} k q) e =
    let same : n ≡ m = omega (arith, e) in absurd (q (subst P same p))
unique_below {P} (no_more {n = n} h p) (one_more {n = m} k q) e =
    let same : m ≡ n = omega (arith, e) in absurd (p (subst P same q))
unique_below (no_more h p) (no_more k q) e = unique_below h k (omega (arith, e))

pub counts_unique : {P : ℕ → Type 0} {n a b : ℕ} → Counts P n a → Counts P n b → a ≡ b
counts_unique h k = unique_below h k refl

-- those below a number, and those from it on
record IsCutAt (P : ℕ → Type 0) (n m count : ℕ) : Type 0 where
  before : ℕ
  behind : ℕ
  counts_before : Counts P m before
  counts_behind : Counts (λ i. P i × (m ≤ i)) n behind
  sum : count ≡ before + behind

cut : {P : ℕ → Type 0} {n count : ℕ} (m : ℕ) → Counts P n count → m ≤ n → IsCutAt P n m count
cut {P} m below_none le = record {
  before = 0;
  behind = 0;
  counts_before = subst (λ (x : ℕ). Counts P x 0) (let same : 0 ≡ m = omega (arith, le) in same) below_none;
  counts_behind = below_none;
  sum = omega arith;
}
cut {P} m (one_more {n = n} {count = c} h p) le = elim (cases_lt n m) [
  | inl lt ↦ (let all : n + 1 ≡ m = omega (arith, le, lt) in record {
    before = c + 1;
    behind = 0;
    counts_before = subst (λ (x : ℕ). Counts P x (c + 1)) all (one_more h p);
    counts_behind = counts_none (n + 1) (λ i below q. omega (arith, below, q.1, all));
    sum = omega arith;
  })
  | inr ge ↦ (let less = cut m h ge in record {
    before = less.before;
    behind = less.behind + 1;
    counts_before = less.counts_before;
    counts_behind = one_more less.counts_behind (p, ge);
    sum = omega (arith, less.sum);
  })
]
cut {P} m (no_more {n = n} {count = c} h p) le = elim (cases_lt n m) [
  | inl lt ↦ (let all : n + 1 ≡ m = omega (arith, le, lt) in record {
    before = c;
    behind = 0;
    counts_before = subst (λ (x : ℕ). Counts P x c) all (no_more h p);
    counts_behind = counts_none (n + 1) (λ i below q. omega (arith, below, q.1, all));
    sum = omega arith;
  })
  | inr ge ↦ (let less = cut m h ge in record {
    before = less.before;
    behind = less.behind;
    counts_before = less.counts_before;
    counts_behind = no_more less.counts_behind (λ q. p q.0);
    sum = less.sum;
  })
]

-- so many of them are below a number, and as many as are left from it on
pub counts_cut : {P : ℕ → Type 0} {n m count before : ℕ} → Counts P n count → Counts P m before → m ≤ n
    → Counts (λ i. P i × (m ≤ i)) n (count - before)
counts_cut {P} {n} {m} {count} {before} h k le =
    let parts = cut m h le in
    let same : parts.before ≡ before = counts_unique parts.counts_before k in
    subst (λ (x : ℕ). Counts (λ i. P i × (m ≤ i)) n x)
    (let rest : parts.behind ≡ count - before = omega (arith, parts.sum, same) in rest) parts.counts_behind

-- there are not fewer below a greater number
pub counts_grow : {P : ℕ → Type 0} {n m count before : ℕ} → Counts P n count → Counts P m before → m ≤ n
    → before ≤ count
counts_grow {P} {n} {m} {count} {before} h k le =
    let parts = cut m h le in
    let same : parts.before ≡ before = counts_unique parts.counts_before k in omega (arith, parts.sum, same)
