-- The number is there, or it is put between those below it and those above it.
use Rattle.std.proofs.Common.{ℕ, List, Result, MatchResult, subst}
use Rattle.std.specs.List.{insert}
use Rattle.std.specs.List.Sorted.{IsBinarySearchResult}
use Rattle.std.specs.Ordering.{nat_cmp}
use Rattle.sab_judge.specs.Shelf.{IsListedToo}
use Rattle.sab_judge.proofs.Shelving.{listed_by_search}
use Rattle.sab_judge.proofs.shelf.put_in_order.Goals as goal

pub returns-in_default : goal.returns-in_default
returns-in_default c =
    let found : IsBinarySearchResult (λ y. nat_cmp y c.args.index) c.args.shelf.now.items c.binary_search.result =
    subst (λ (xs : List ℕ). IsBinarySearchResult (λ y. nat_cmp y c.args.index) xs c.binary_search.result)
    c.deref.ensures.value c.binary_search.ensures.position in
    subst (λ (r : Result ℕ ℕ). MatchResult r (λ _. IsListedToo c.args.shelf.now.items c.args.shelf.now.items c.args.index)
    (λ k. IsListedToo c.args.shelf.now.items (insert c.args.shelf.now.items k c.args.index) c.args.index))
    c.in_default.is (listed_by_search c.args.shelf.now.items c.args.index c.binary_search.result c.requires found)

pub returns-in_ok-insert : goal.returns-in_ok-insert
returns-in_ok-insert c =
    let found : IsBinarySearchResult (λ y. nat_cmp y c.args.index) c.args.shelf.now.items c.binary_search.result =
    subst (λ (xs : List ℕ). IsBinarySearchResult (λ y. nat_cmp y c.args.index) xs c.binary_search.result)
    c.deref.ensures.value c.binary_search.ensures.position in
    rw c.in_ok-insert.ensures.items
    (subst (λ (r : Result ℕ ℕ). MatchResult r (λ _. IsListedToo c.args.shelf.now.items c.args.shelf.now.items c.args.index)
    (λ k. IsListedToo c.args.shelf.now.items (insert c.args.shelf.now.items k c.args.index) c.args.index))
    c.in-Err.is (listed_by_search c.args.shelf.now.items c.args.index c.binary_search.result c.requires found))
