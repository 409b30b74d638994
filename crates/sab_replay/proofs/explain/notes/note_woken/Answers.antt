-- Each turn of the loop notes one agent more.
use Rattle.std.proofs.Common.{◌∙◌, get_or, arith}
use Rattle.std.proofs.Math.ListN.{length-set}
use Rattle.std.proofs.lemmas.List.{take_more, take_all}
use Rattle.sab_replay.proofs.OfExplain.Noting.{IsNoted-none, IsNoted-more}
use Rattle.sab_replay.proofs.explain.notes.note_woken.Goals as goal

pub loop-a-init : goal.loop-a-init
loop-a-init c = record { size = c.told-wakers; noted = IsNoted-none c.args.entry c.args.wakers.now }

pub loop-a-preserved : goal.loop-a-preserved
loop-a-preserved c =
    let below = c.requires c.loop-a.a-index 0 c.loop-a-test.true in
    record {
      size =
          length-set c.loop-a.wakers (get_or c.args.agents.now c.loop-a.a-index 0) c.args.entry
          ∙ c.loop-a.invariant.size;
      noted =
          rw (take_more c.args.agents.now c.loop-a.a-index 0 c.loop-a-test.true) (IsNoted-more _
          (get_or c.args.agents.now c.loop-a.a-index 0) c.args.entry c.args.wakers.now c.loop-a.wakers
          (omega (arith, below, c.loop-a.invariant.size)) c.loop-a.invariant.noted);
    }

pub returns : goal.returns
returns c = rw (take_all c.loop-a.a-index c.args.agents.now c.loop-a-test.false) at c.loop-a.invariant.noted
