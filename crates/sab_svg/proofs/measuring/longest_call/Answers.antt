-- One script more.
use Rattle.std.proofs.Common.{◌≡◌, List, length, map, arith, ◌∙◌, ap}
use Rattle.std.proofs.lemmas.Grind.{common_steps}
use Rattle.sab_plan.specs.declared.call.Call.{Call}
use Rattle.sab_report_text.specs.Words.CallText.{call_text}
use Rattle.sab_svg.specs.Shape.{greatest, longest_in}
use Rattle.sab_svg.proofs.Greatest.{greatest_left}
use Rattle.sab_svg.proofs.measuring.longest_call.Goals as goal

pub loop-script-preserved : goal.loop-script-preserved
loop-script-preserved c =
    let here : c.longest_in.result ≡ longest_in c.args.names.now c.script-item.result = c.longest_in.ensures.chars
    ∙ (ap (λ (calls : List Call). greatest (map (λ call. length (call_text c.args.names.now call)) calls))
    c.deref.ensures.value
    ∙ ap (longest_in c.args.names.now) c.script.view_is) in
    record {
      chars = grind (arith, common_steps, greatest_left, here);
      few = grind (arith, common_steps);
    }
