use Rattle.std.proofs.Common.{◌≡◌, pos, true, FitsSigned, sym, ◌∙◌, rules}
use Rattle.std.proofs.lemmas.Int.{ints, to_z-of_z}
use Rattle.std.specs.Int.{w128}
use Rattle.sab_block.specs.Kind.{is_signed}
use Rattle.sab_block.specs.Operand.{value}
use Rattle.sab_block.proofs.RawElements.{lowered, value-unsigned, value-low, value-high}
use Rattle.sab_block.proofs.operand.unwrapped.Goals as goal
use Rattle.sab_block.proofs.operand.unwrapped.Goals.{else-is_signed-via-then-is_signed+else-max_raw-raw, else-is_signed-via-else-is_signed}

pub overflow_sub-result : goal.overflow_sub-result
overflow_sub-result c =
    let w = c.from-whole.result in
    let f = c.from.result in
    let whole : w ≡ pos c.args.raw = c.from-whole.ensures in
    let most : f ≡ pos c.max_raw-max_raw.result = c.from.ensures in
    let fits-w : FitsSigned w128 w = search rules in
    let fits-f : FitsSigned w128 f = search rules in
    rw (to_z-of_z w128 w fits-w, to_z-of_z w128 f fits-f, whole, most) (search (ints, rules))

pub returns-then-max_raw-raw : goal.returns-then-max_raw-raw
returns-then-max_raw-raw c =
    let w = c.from-whole.result in
    let f = c.from.result in
    let m = c.max_raw-max_raw.result in
    let whole : w ≡ pos c.args.raw = c.from-whole.ensures in
    let most : f ≡ pos m = c.from.ensures in
    let signed : is_signed c.args.kind ≡ true = sym c.is_signed.ensures ∙ c.if-is_signed.true in
    let high = value-high c.args.kind c.args.raw m c.max_raw-max_raw.ensures c.if-max_raw-raw.true signed in
    lowered w f c.args.raw m whole most c.ranges.raw.fits c.max_raw-max_raw.type_inv ∙ sym high

pub returns : goal.returns
returns c =
    let w = c.from-whole.result in
    let whole : w ≡ pos c.args.raw = c.from-whole.ensures in
    let fits : FitsSigned w128 w = search rules in
    let low : value c.args.kind c.args.raw ≡ pos c.args.raw = elim c.else-is_signed.branch [
      | else-is_signed-via-then-is_signed+else-max_raw-raw s ↦
          value-low c.args.kind c.args.raw c.max_raw-max_raw.result c.max_raw-max_raw.ensures s.if-max_raw-raw.false
      | else-is_signed-via-else-is_signed s ↦
          value-unsigned c.args.kind c.args.raw (sym c.is_signed.ensures ∙ s.if-is_signed.false)
    ] in
    to_z-of_z w128 w fits ∙ whole ∙ sym low
