use Rattle.std.proofs.Common.{◌≡◌, ◌≤◌, ◌+◌, length, take}
use Rattle.std.specs.Io.KnownBytes.{append_known}
use Rattle.sab_replay.specs.Report.Facts.{ReportsEntries}
use Rattle.sab_replay.proofs.report.driver.write_entries.Given as goal

abbrev pub invariant-loop-k : goal.invariant-loop-k
invariant-loop-k g l = record {
  plan : l.explainer.plan ≡ l.fn.explainer.plan;
  moves : l.explainer.moves ≡ take l.k l.schedule;
  count : length l.explainer.journal ≡ l.k;
  reserved : length l.schedule ≤ l.explainer.reserved + l.k;
  same : g.F.FactFormat.texts l.format ≡ g.F.FactFormat.texts l.fn.format;
  reported : ReportsEntries (g.F.FactFormat.texts l.fn.format) l.fn.explainer.plan l.explainer.journal
      (append_known (g.W.Write.contents l.fn.w) l.fn.chunk) (append_known (g.W.Write.contents l.w) l.chunk);
}
