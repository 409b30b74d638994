-- A journal that fits a plan has few entries, and few agents.
use Rattle.std.proofs.Common.{ℕ, ◌<◌, ◌≤◌, ◌^◌, All, List, length, get_or, arith}
use Rattle.std.proofs.lemmas.Option.{slice_get-get_or}
use Rattle.std.proofs.lemmas.List.Elements.{All-get_or, All-from_get_or}
use Rattle.sab_plan.specs.declared.plan.TheConstants.Plan.{MAX_AGENTS}
use Rattle.sab_plan.specs.declared.schedule.Move.{Move}
use Rattle.sab_plan.specs.declared.schedule.Move.TheVariants.{Step}
use Rattle.sab_plan.specs.Schedule.{agent_of}
use Rattle.sab_plan.specs.Plan.{PlanParts, IsPlan}
use Rattle.sab_plan.specs.declared.entry.Entry.{Entry}
use Rattle.sab_plan.specs.declared.entry.What.TheVariants.{Began}
use Rattle.sab_plan.specs.Report.{ReportParts}
use Rattle.sab_sim.specs.Fits.{FitsMoves, Fits}

-- an entry past the journal's end
none : Entry
none = record { agent = 0; call = 0; what = Began }

pub few_entries : (plan : PlanParts) (moves : List Move) (journal : List Entry) (blocks : List (List ℕ))
    → FitsMoves plan moves journal blocks → length journal ≤ 2 ^ 20
few_entries plan moves journal blocks fits = omega (arith, fits.few, fits.one_each)

pub few_agents : (plan : PlanParts) (moves : List Move) (journal : List Entry) (blocks : List (List ℕ))
    → IsPlan plan → FitsMoves plan moves journal blocks → All (λ (e : Entry). e.agent < MAX_AGENTS) journal
few_agents plan moves journal blocks is_plan fits =
    All-from_get_or (λ (e : Entry). e.agent < MAX_AGENTS) journal none
    (λ k h.
    let within : k < length moves = omega (arith, fits.one_each) in
    let e = get_or journal k none in
    let m = get_or moves k (Step 0) in
    let answers = fits.answers k m e (slice_get-get_or moves k (Step 0) within) (slice_get-get_or journal k none h) in
    let named : agent_of m < length plan.scripts =
    All-get_or (λ (n : Move). agent_of n < length plan.scripts) moves k (Step 0) within fits.named in
    omega (arith, answers.agent, named, is_plan.limits.agents))

-- the same of a report's journal
pub few_in_report : (plan : PlanParts) (report : ReportParts) → Fits plan report → length report.journal ≤ 2 ^ 20
few_in_report plan report fits =
    few_entries plan report.schedule report.journal report.blocks fits.moves

pub agents_in_report : (plan : PlanParts) (report : ReportParts) → IsPlan plan → Fits plan report
    → All (λ (e : Entry). e.agent < MAX_AGENTS) report.journal
agents_in_report plan report is_plan fits =
    few_agents plan report.schedule report.journal report.blocks is_plan fits.moves
