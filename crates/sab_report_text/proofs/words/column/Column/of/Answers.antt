use Rattle.std.proofs.Common.{rules, ◌+◌}
use Rattle.sab_report_text.proofs.OfWords.Measuring.{has_room}
use Rattle.sab_report_text.proofs.words.column.Column.of.Goals as goal

pub returns-clause-room : goal.returns-clause-room
returns-clause-room c = has_room c.args.report.now (c.max-longest.result + 2) (search rules)
