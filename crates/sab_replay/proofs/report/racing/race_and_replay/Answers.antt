-- The moves of a race are its agents'.
use Rattle.std.proofs.Common.{◌≡◌, ◌∙◌, ap}
use Rattle.sab_plan.specs.Report.{ReportParts}
use Rattle.sab_replay.proofs.report.racing.race_and_replay.Goals as goal

pub report_moves-requires-clause-moves : goal.report_moves-requires-clause-moves
report_moves-requires-clause-moves g c =
    let made : c.as_slice.result.now ≡ c.in_ok-report.report.schedule =
    c.as_slice.ensures.value ∙ ap (λ (r : ReportParts). r.schedule) c.report.view_is in
    let moves = c.in_ok-report.ensures.race.race.fits.moves in
    rw (made, c.in_ok-same_plan.ensures) (record { few = moves.few; named = moves.named })
