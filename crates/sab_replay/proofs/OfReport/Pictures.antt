-- What was reported is a picture.
use Rattle.std.proofs.Common.{◌≡◌, ℕ, List, length, Option, ap, sym, subst, ◌∙◌}
use Rattle.std.specs.Io.KnownBytes.{Appends}
use Rattle.sab_plan.specs.declared.schedule.Move.{Move}
use Rattle.sab_plan.specs.Plan.{PlanParts}
use Rattle.sab_plan.specs.Report.{ReportParts}
use Rattle.sab_report_text.specs.Words.FactFormat.{facts_text}
use Rattle.sab_svg.specs.declared.shape.Shape.{Shape}
use Rattle.sab_svg.specs.Shape.{shape_of}
use Rattle.sab_svg.specs.Picture.{svg_text, svg_texts}
use Rattle.sab_svg.proofs.Room.{calls_have_room}
use Rattle.sab_svg.proofs.Named.{picture_document}
use Rattle.sab_svg.proofs.DrawnPicture.{picture_text}
use Rattle.sab_replay.specs.Report.Facts.{ReportsFacts}
use Rattle.sab_replay.specs.Report.Formats.{Draws}

pub draws : (names : List (List ℕ)) (plan : PlanParts) (moves : List Move) (old new : Option (List ℕ))
    (report : ReportParts) → ReportsFacts (svg_texts names (shape_of names plan (length moves))) plan moves old new report
    → Draws names plan moves old new report
draws names plan moves old new report reported =
    let same : shape_of names plan (length moves) ≡ shape_of names plan (length report.schedule) =
    ap (λ (ms : List Move). shape_of names plan (length ms)) (sym reported.is_its.schedule) in
    let text : facts_text (svg_texts names (shape_of names plan (length moves))) plan report reported.facts reported.standings
    ≡ svg_text names plan report reported.facts reported.standings =
    ap (λ (shape : Shape). facts_text (svg_texts names shape) plan report reported.facts reported.standings) same
    ∙ sym (picture_text names plan (shape_of names plan (length report.schedule)) report reported.facts reported.standings) in
    record {
      reported = record {
        is_its = reported.is_its;
        facts = reported.facts;
        facts_are = reported.facts_are;
        standings = reported.standings;
        standings_are = reported.standings_are;
        written = subst (Appends old new) text reported.written;
      };
      well_formed = picture_document names plan report reported.facts reported.standings;
      room = calls_have_room names plan (length report.schedule);
    }
