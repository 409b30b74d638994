use Rattle.std.proofs.Common.{◌<◌, ◌∙◌, length, arith, sym}
use Rattle.sab_svg.proofs.OfXml.Runs.{run_longer, run_ended, run_room}
use Rattle.sab_svg.proofs.xml.escaping.push_escaped.Goals as goal
use Rattle.sab_svg.proofs.xml.escaping.push_escaped.Goals.{then-not-stands_for_itself, else-not-stands_for_itself}

pub loop-i-preserved : goal.loop-i-preserved
loop-i-preserved c =
    let text = c.args.text.now in
    let at = c.loop-i in
    let kept = at.invariant in
    let within : at.i < length text = omega arith in
    elim c.if-not-stands_for_itself.branch [
      | then-not-stands_for_itself w ↦
          let run = w.push.new.self in
          let pushed = w.push_reference.ensures in
          let room = run_room text at.start at.i kept.behind within at.chunk run w.push.ensures in
          rw (w.start-is, w.chunk-is) (record {
            behind = omega arith;
            whole = run_ended text at.start at.i kept.behind within at.chunk run _ _ w.push.ensures pushed.bytes
                kept.whole;
            room = omega arith;
          })
      | else-not-stands_for_itself w ↦
          let plain = sym c.stands_for_itself.ensures ∙ w.if-not-stands_for_itself.false in
          rw (w.start-is, w.chunk-is) (record {
            behind = omega arith;
            whole = run_longer text at.start at.i kept.behind within at.chunk _ plain kept.whole;
            room = kept.room;
          })
    ]
