use Rattle.std.proofs.Common.{◌≡◌, ◌+◌, ◌<◌, ◌^◌, ℕ, List, [], ◌∷◌, ◌++◌, length, sym, ap, ◌∙◌, arith, rules}
use Rattle.serde_json.specs.Data.{Data, Items}
use Rattle.serde_json.specs.View.{items_view}
use Rattle.sab_refusal.specs.Location.{item_at}
use Rattle.sab_refusal.specs.declared.reason.Wanted.TheVariants as wanted
use Rattle.sab_reader.specs.Script.Known.{HasArguments}
use Rattle.sab_reader.specs.Script.Truth.{IsTrueOf}
use Rattle.sab_reader.specs.Script.Arguments.{operands, TakesTimed, StandBehind}
use Rattle.sab_reader.proofs.OfScript.Exits.{exit_reported}
use Rattle.serde_json.proofs.Views.{items_len-items_view}
use Rattle.sab_reader.proofs.OfScript.ArgumentReasons.{item_read, behind_count, behind_read, argument_stands, argument_called, limit_there, timed_count, few_timed}
use Rattle.sab_reader.proofs.script.operands.optional_limit.Goals as goal

pub returns-in_err-last-in-len1-clause-reported : goal.returns-in_err-last-in-len1-clause-reported
returns-in_err-last-in-len1-clause-reported c =
    let a = c.args in
    let rest = items_view a.trees.now in
    exit_reported (λ e. (root : Data) (name : List ℕ) (ds : Items) → HasArguments root a.at name ds
    → StandBehind a.operands ds rest → TakesTimed name a.operands → IsTrueOf root e) c.from_residual.result _
    c.from_residual.ensures.1 (λ root name ds h behind takes.
    let few = few_timed name a.operands takes in
    let count : c.saturating_add.result ≡ 3 + a.operands = omega (arith, few, c.saturating_add.ensures) in
    let place : c.item.result ≡ item_at a.at (3 + a.operands) = c.item.ensures ∙ ap (λ (k : ℕ). item_at a.at k) count in
    let there = behind_read a.operands ds rest _ behind
    (item_read a.trees.now 0 c.last-item.result (omega (arith, c.in-len1.len_at_least)) c.last-item.is) in
    c.in_err-last-in-len1.ensures.reported root (rw place (argument_stands root a.at name ds a.operands _ h there)) (
      rw place (argument_called root a.at name ds (operands a.operands ++ wanted.Whole ∷ []) a.operands wanted.Whole h
          takes.longest (limit_there a.operands)),
      ((λ x. x), (λ x. x)),
    ))

pub returns-in_default-clause-reported : goal.returns-in_default-clause-reported
returns-in_default-clause-reported c = λ root name ds h behind takes.
    let n = c.args.operands in
    let trees = c.args.trees.now in
    let fits : length trees < 2 ^ 63 = search rules in
    let few = few_timed name n takes in
    let least = c.in_default.len_at_least in
    let count : c.saturating_add-count.result ≡ n + length trees =
    omega (arith, fits, few, c.saturating_add-count.ensures) in
    let most : c.saturating_add-in_default.result ≡ n + 1 = omega (arith, few, c.saturating_add-in_default.ensures) in
    let same = behind_count n ds (items_view trees) behind ∙ ap (λ (k : ℕ). n + k) (items_len-items_view trees) in
    c.wrong_count.ensures.reported root name ds _ h takes (same ∙ sym count)
    (timed_count n ∙ sym most) (λ _. omega (arith, count, most, least)) (omega (arith, fits, few, count))
