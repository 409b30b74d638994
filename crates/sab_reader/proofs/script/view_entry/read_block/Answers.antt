use Rattle.serde_json.specs.View.{members_view}
use Rattle.sab_reader.specs.Script.ViewPlaces.{HasBlocks, IsTrueOfView}
use Rattle.sab_reader.proofs.OfScript.Exits.{exit_reported}
use Rattle.sab_reader.proofs.OfScript.ViewParts.{block_missing}
use Rattle.sab_reader.proofs.script.view_entry.read_block.Goals as goal

pub returns-in_err-block-in-Blocks-clause-reported : goal.returns-in_err-block-in-Blocks-clause-reported
returns-in_err-block-in-Blocks-clause-reported c =
    let e = c.in_err-block-in-Blocks.field-0.0 in
    exit_reported
    (IsTrueOfView c.args.at (members_view c.args.rest.now) (λ root. HasBlocks root c.args.form c.args.blocks))
    c.from_residual.result e c.from_residual.ensures.1
    (block_missing c.args.form c.args.blocks c.args.at (members_view c.args.rest.now) e c.in-Blocks.is
    c.in_err-block-in-Blocks.ensures.place c.in_err-block-in-Blocks.ensures.lacks)
