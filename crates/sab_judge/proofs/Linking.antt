-- Events that are alike, and the ways back from each.
use Rattle.std.proofs.Common.{◌≡◌, inl, inr, ℕ, ◌+◌, ◌-◌, ◌<◌, ◌≤◌, List, [], ◌∷◌, ◌++◌, length, Option, Some, None, refl, sym, subst, ◌∙◌, arith, length-append}
use Rattle.std.proofs.lemmas.Grind.{common_steps}
use Rattle.std.proofs.Math.ListN.{get_or-append}
use Rattle.std.proofs.Math.Seq.{get_or-append_seam}
use Rattle.std.proofs.lemmas.Bool.{cases_lt}
use Rattle.sab_judge.specs.declared.access.Access.{Access}
use Rattle.sab_judge.specs.declared.event.Event.{Event}
use Rattle.sab_judge.specs.declared.link.Link.{Link}
use Rattle.sab_judge.specs.Event.{event_at}
use Rattle.sab_judge.specs.Race.{Counts, one_more}
use Rattle.sab_judge.specs.Link.{AreLinks, HasAccess, IsEarliest, IsLast, IsLike, IsLink, IsLinked, link_at}
use Rattle.sab_judge.proofs.Counting.{counts_same, counts_none, counts_longer, counts_cut, counts_grow, few_below, some_counted}

pub like_itself : {trace : List Event} (i : ℕ) → IsLike trace i i
like_itself i = record { agent = refl; access = refl }

pub like_back : {trace : List Event} {p i : ℕ} → IsLike trace p i → IsLike trace i p
like_back h = record { agent = sym h.agent; access = sym h.access }

pub like_through : {trace : List Event} {a b c : ℕ} → IsLike trace a b → IsLike trace b c → IsLike trace a c
like_through h k = record { agent = k.agent ∙ h.agent; access = k.access ∙ h.access }

pub access_of_like : {trace : List Event} {p i : ℕ} → HasAccess trace p → IsLike trace p i → HasAccess trace i
access_of_like h like = record { access = h.access; makes = like.access ∙ h.makes }

-- as many are like an event as are like one that is like it
pub counts_alike : {trace : List Event} {a b n count : ℕ} → IsLike trace a b → Counts (λ k. IsLike trace b k) n count
    → Counts (λ k. IsLike trace a k) n count
counts_alike like counted =
    counts_same (λ i lt h. like_through like h) (λ i lt h. like_through (like_back like) h) counted

-- the link of an event before the n-th
pub linked_at : {trace : List Event} {n : ℕ} {links : List Link} → AreLinks trace n links → (i : ℕ) → i < n
    → HasAccess trace i → IsLinked trace i (link_at links i)
linked_at links i lt access = links.each i lt access

-- the link behind the last event that is alike
pub linked_behind : {trace : List Event} {i p r : ℕ} → Counts (λ k. IsLike trace p k) p r → IsLast trace i p
    → Counts (λ k. IsLike trace i k) i (r + 1)
linked_behind {trace} {i} {p} counted last = counts_longer i (one_more (counts_alike last.like counted) last.like)
    (omega (arith, last.before)) (λ k from below. last.between k (omega (arith, from)) below)

-- that of an event like which there is none before
pub linked_first : {trace : List Event} {i : ℕ} {link : Link} → link.rank ≡ 0
    → ((k : ℕ) → k < i → ¬ IsLike trace i k) → IsLink trace i link
linked_first {trace} {i} {link} none never access = grind (arith, common_steps, counts_none)

-- where no event before is like it, it is the earliest
pub earliest_first : {trace : List Event} {position bound at : ℕ} {link : Link} → at ≤ position → IsLike trace position at
    → bound ≤ at → IsLinked trace at link → link.rank ≡ 0 → IsEarliest trace position bound at
earliest_first {trace} {position} {bound} {at} {link} within like from linked none = record {
  within = within;
  like = like;
  from_bound = from;
  below = λ k lt also. absurd (omega (
    arith,
    none,
    some_counted linked.rank k lt (like_through (like_back like) also),
  ));
}

-- the events alike from the bound on are those from the earliest of them on
pub counts_from : {trace : List Event} {n position bound at : ℕ} {links : List Link} → AreLinks trace n links
    → position < n → HasAccess trace position → bound ≤ position → IsEarliest trace position bound at
    → Counts (λ i. IsLike trace position i × (bound ≤ i)) (position + 1)
    ((link_at links position).rank - (link_at links at).rank + 1)
counts_from {trace} {n} {position} {bound} {at} {links} linked within access from earliest =
    let whole = linked_at linked position within access in
    let part = linked_at linked at (omega (arith, earliest.within, within)) (access_of_like access earliest.like) in
    counts_same
    (λ i lt p. (p.0, omega (arith, p.1, earliest.from_bound)))
    (λ i lt p. (
      p.0,
      elim (cases_lt i at) [
        | inl less ↦ absurd (omega (arith, earliest.below i less p.0, p.1))
        | inr ge ↦ ge
      ],
    ))
    (one_more (counts_cut whole.rank (counts_alike earliest.like part.rank) earliest.within)
    (like_itself position, earliest.within))

pub rank_grows : {trace : List Event} {n position bound at : ℕ} {links : List Link} → AreLinks trace n links
    → position < n → HasAccess trace position → IsEarliest trace position bound at
    → (link_at links at).rank ≤ (link_at links position).rank
rank_grows linked within access earliest =
    grind (arith, common_steps, linked_at, access_of_like, counts_grow, counts_alike)

-- a rank is at most the position
pub rank_small : {trace : List Event} {i : ℕ} {link : Link} → IsLinked trace i link → link.rank ≤ i
rank_small linked = few_below linked.rank

-- a link more
pub links_more : {trace : List Event} {j : ℕ} {links more : List Link} {link : Link} → AreLinks trace j links
    → IsLink trace j link → more ≡ links ++ link ∷ [] → AreLinks trace (j + 1) more
links_more {trace} {j} {links} {more} {link} linked is same = rw same (record {
  count = rw (length-append links (link ∷ [])) (omega (arith, linked.count));
  each = λ i lt. elim (cases_lt i j) [
    | inl less ↦ subst (IsLink trace i)
        (sym (get_or-append links (link ∷ []) no_link i (omega (arith, less, linked.count)))) (linked.each i less)
    | inr ge ↦ (let here : j ≡ i = omega (arith, lt, ge) in
        let end : length links ≡ i = omega (arith, lt, ge, linked.count) in
        subst (IsLink trace i) (sym (subst (λ (x : ℕ). link_at (links ++ link ∷ []) x ≡ link) end
        (get_or-append_seam links link [] no_link))) (subst (λ (x : ℕ). IsLink trace x link) here is))
  ];
})
  where
    no_link : Link
    no_link = record { rank = 0; previous = 0; jump = 0 }

-- an event without an access has any link
pub no_access_linked : {trace : List Event} {i : ℕ} {link : Link} → (event_at trace i).access ≡ None
    → IsLink trace i link
no_access_linked none h =
    absurd (let e : ◌≡◌ {A = Option Access} None (Some h.access) = sym none ∙ h.makes in cc)
