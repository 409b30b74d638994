-- Choices of lines, formats and forms of a report that the derived `==` finds equal are the same.
use Rattle.std.proofs.Common.{◌≡◌, true, rules, arith}
use Rattle.std.proofs.lemmas.Grind.{common_steps}
use denote.Enum.Bare.{same_true}
use Rattle.std.proofs.lemmas.Bool.{and_parts}
use Rattle.sab_report_text.specs.declared.text.lines.Lines.{Lines}
use Rattle.sab_report_text.specs.contracts.text.lines.Lines.{the_type as lines_type}
use Rattle.sab_report_text.specs.contracts.text.lines.LinesPartialEq.TheImpl as lines
use Rattle.sab_report_text.specs.declared.text.format.Format.{Format}
use Rattle.sab_report_text.specs.contracts.text.format.Format.{the_type as format_type}
use Rattle.sab_report_text.specs.contracts.text.format.FormatPartialEq.TheImpl as format
use Rattle.sab_report_text.specs.declared.text.format.VerdictFormat.{VerdictFormat}
use Rattle.sab_report_text.specs.contracts.text.format.VerdictFormat.{the_type as verdict_format_type}
use Rattle.sab_report_text.specs.contracts.text.format.VerdictFormatPartialEq.TheImpl as verdict_format
use Rattle.sab_report_text.specs.declared.text.format.ReportForm.{ReportForm}
use Rattle.sab_report_text.specs.contracts.text.format.ReportFormPartialEq.TheImpl as report_form

pub same_lines : (x y : Lines) → (lines.ghosts).eq x y ≡ true → x ≡ y
same_lines = same_true lines_type (search rules)

pub same_format : (x y : Format) → (format.ghosts).eq x y ≡ true → x ≡ y
same_format = same_true format_type (search rules)

pub same_verdict_format : (x y : VerdictFormat) → (verdict_format.ghosts).eq x y ≡ true → x ≡ y
same_verdict_format = same_true verdict_format_type (search rules)

pub same_report_form : (x y : ReportForm) → (report_form.ghosts).eq x y ≡ true → x ≡ y
same_report_form x y e = grind (arith, common_steps, and_parts, same_format, same_lines)
