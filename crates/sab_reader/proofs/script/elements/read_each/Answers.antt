use Rattle.std.proofs.lemmas.Grind.{common_steps}
use Rattle.std.proofs.Common.{◌≡◌, ℕ, arith}
use Rattle.serde_json.specs.Data.{array}
use Rattle.sab_refusal.specs.Location.{item_at}
use Rattle.sab_reader.specs.Script.Truth.{IsTrueWhere, IsListOf, limit_of}
use Rattle.sab_reader.proofs.OfScript.Standing.{has_many, item_of_list, item_seen}
use Rattle.sab_reader.proofs.OfScript.Exits.{exit_reported, exit_reported_memory}
use Rattle.serde_json.specs.View.{view, items_view}
use Rattle.sab_reader.specs.Script.Reading.{SpellsUpTo}
use Rattle.sab_reader.proofs.OfScript.Each.{length-each, item_part, each_all}
use Rattle.sab_reader.proofs.OfScript.Refusing.{exit_memory, exit_refuses}
use Rattle.sab_reader.proofs.script.elements.read_each.Goals as goal

pub returns-then-trees-most-clause-found : goal.returns-then-trees-most-clause-found
returns-then-trees-most-clause-found g c = λ xs h.
    let count = length-each (g.R.Reader.Spells c.args.reader.now) c.args.trees.now xs h.0 in omega (arith, h.1)

pub returns-in_err-elements-clause-found : goal.returns-in_err-elements-clause-found
returns-in_err-elements-clause-found g c =
    grind (arith, common_steps, exit_memory, items_view, c.from_residual.ensures.1)

pub returns-in_err-read-clause-found : goal.returns-in_err-read-clause-found
returns-in_err-read-clause-found g c =
    let S = g.R.Reader.Spells c.args.reader.now in
    exit_refuses (λ elements. elements.items) (S (view c.tree-item.result))
    (SpellsUpTo c.args.most S (items_view c.args.trees.now)) c.from_residual-in_err-read.result
    c.in_err-read.field-0.0
    c.from_residual-in_err-read.ensures.1 c.in_err-read.ensures.found
    (λ xs h. item_part S c.args.trees.now xs c.loop-tree.tree-index c.tree-item.result c.loop-tree-test.true
    c.tree-item.is h.0)

pub returns-clause-found : goal.returns-clause-found
returns-clause-found g c = grind (arith, common_steps, each_all, length-each, c.loop-tree.invariant.read)

pub returns-then-trees-most-clause-reported : goal.returns-then-trees-most-clause-reported
returns-then-trees-most-clause-reported g c = grind (arith, common_steps, has_many)

pub returns-in_err-elements-clause-reported : goal.returns-in_err-elements-clause-reported
returns-in_err-elements-clause-reported g c =
    exit_reported_memory c.args.at (array (items_view c.args.trees.now)) _ c.from_residual.result c.from_residual.ensures.1

pub returns-in_err-read-clause-reported : goal.returns-in_err-read-clause-reported
returns-in_err-read-clause-reported g c =
    let place = c.args.at in
    let ts = c.args.trees.now in
    let i = c.loop-tree.tree-index in
    let t = c.tree-item.result in
    let there : c.item.result ≡ item_at place i = cc in
    exit_reported (IsTrueWhere place (array (items_view ts)) (λ root. IsListOf c.args.unit place
    × (c.args.most ≡ limit_of c.args.unit)
    × ((n : ℕ) → g.R.Reader.Knows c.args.reader.now root (item_at place n))))
    c.from_residual-in_err-read.result c.in_err-read.field-0.0 c.from_residual-in_err-read.ensures.1
    (λ root stands known. c.in_err-read.ensures.reported root
    (rw there (item_of_list c.args.unit root place (items_view ts) i (view t) known.0 stands
    (item_seen ts i t c.loop-tree-test.true c.tree-item.is)))
    (rw there (known.2 i)))
