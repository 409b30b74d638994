-- A report has as many blocks as its plan.
use Rattle.std.proofs.Common.{◌≡◌, ℕ, ◌<◌, ◌^◌, Bool, List, [], ◌∷◌, length, Some, sym, ap, ◌∙◌, arith, length-set}
use Rattle.std.proofs.lemmas.List.{length-map}
use Rattle.sab_plan.specs.declared.plan_view.PlanView.{PlanView}
use Rattle.sab_plan.specs.declared.call.Call.{Call}
use Rattle.sab_plan.specs.declared.call.Call.TheVariants as C
use Rattle.sab_plan.specs.Plan.{PlanParts, IsPlan}
use Rattle.sab_plan.specs.declared.answer.Answer.TheVariants as A
use Rattle.sab_plan.specs.declared.entry.What.{What}
use Rattle.sab_plan.specs.declared.entry.What.TheVariants.{Acted, Enlisted, Left}
use Rattle.sab_plan.specs.declared.entry.Entry.{Entry}
use Rattle.sab_object.specs.Object.{State, opening, DoesCall}
use Rattle.sab_plan.specs.Journal.{acts_of}
use Rattle.sab_sim.specs.Run.{Run}
use Rattle.sab_plan.specs.Report.{ReportParts}
use Rattle.sab_sim.specs.Fits.{Fits}

abbrev blocks_in : State → ℕ
blocks_in S = length S.mem

-- no call makes or drops a block
call_keeps : (cb : Bool) (a : ℕ) (v : PlanView) (call : Call) (S : State) (w : What) (T : State)
    → DoesCall cb a v call S w T → blocks_in T ≡ blocks_in S
call_keeps cb a v call S (Acted (A.Threw e)) T d = ap blocks_in d.1
call_keeps cb a v (C.Access n access) S (Acted (A.Value x)) T d =
    ap blocks_in d.1.2 ∙ length-set S.mem v.block d.1.0
call_keeps cb a v (C.Notify n index k) S (Acted (A.Count x)) T d = ap blocks_in d.1.3
call_keeps cb a v (C.Wait n index x t) S (Acted A.NotEqual) T d = ap blocks_in d.1.3
call_keeps cb a v (C.Wait n index x t) S Enlisted T d = ap blocks_in d.1.3
call_keeps cb a v (C.Wait n index x t) S (Left A.Woken) T d = ap blocks_in d.1
call_keeps cb a v (C.Wait n index x (Some t)) S (Left A.TimedOut) T d = ap blocks_in d.3
call_keeps cb a v call S w T d = absurd (first_of (assumption, cc))

run_keeps : (plan : PlanParts) (S : State) (es : List Entry) (T : State) → Run plan S es T → blocks_in T ≡ blocks_in S
run_keeps plan S [] T r = ap blocks_in r
run_keeps plan S (e ∷ es) T r =
    run_keeps plan r.0 es T r.2
    ∙ call_keeps r.1.script.can_block e.agent r.1.view r.1.call S e.what r.0 r.1.does

pub few_blocks : (plan : PlanParts) (report : ReportParts) → IsPlan plan → Fits plan report
    → length report.blocks < 2 ^ 32
few_blocks plan report is fits =
    let run = fits.moves.run in
    let same : length report.blocks ≡ length plan.lens =
    ap (λ (mem : List (List ℕ)). length mem) (sym run.2)
    ∙ (run_keeps plan (opening plan.lens) (acts_of report.journal) run.0 run.1 ∙ length-map plan.lens _) in
    let few = is.limits.blocks in
    omega (arith, same, few)
