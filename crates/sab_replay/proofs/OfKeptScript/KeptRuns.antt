-- Runs that are kept as scripts, and why some aren't.
use Rattle.std.proofs.Common.{◌≡◌, ℕ, List, refl, sym, subst}
use Rattle.std.proofs.lemmas.Result.{err_from_is_err_and}
use Rattle.std.specs.Prelude.{Result, IfErr, IsErrAnd}
use Rattle.serde_json.specs.Data.{Data}
use Rattle.sab_plan.specs.Report.{ReportParts}
use Rattle.sab_sim.specs.Fits.{Fits, IsOnly}
use Rattle.sab_refusal.specs.declared.read_fault.ReadFault.{ReadFault}
use Rattle.sab_refusal.specs.declared.read_fault.ReadFault.TheVariants.{TooMany, OutOfMemory, BadShape, BadName, BadNumber, BadCall, BadView, BadAgent, NoBlock}
use Rattle.sab_refusal.specs.declared.refusal.Refusal.{Refusal}
use Rattle.sab_refusal.specs.declared.refusal.Refusal.TheVariants.{NotJson, Tree}
use Rattle.sab_refusal.specs.Reason.{fault_of}
use Rattle.sab_reader.specs.Script.Reading.{Refuses}
use Rattle.sab_reader.specs.Script.Setup.{SetupParts, Spells}
use Rattle.sab_reader.specs.Script.Script.{ReadsAs, IsScriptOf, IsUnread}
use Rattle.sab_reader.specs.Script.Truth.{IsTrueFault}
use Rattle.sab_reader.proofs.OfScript.OnlySetup.{only_setup}
use Rattle.sab_replay.specs.declared.faults.tool_fault.ToolFault.{ToolFault}
use Rattle.sab_replay.specs.Faults.Conversions.{as_tool_fault, script_as_tool_fault}
use Rattle.sab_replay.specs.ScriptRunner.Replay.{IsRefused}
use Rattle.sab_replay.specs.KeptScript.Rescheduled.{rescheduled, with_schedule}
use Rattle.sab_replay.specs.KeptScript.Keeping.{IsParsed, IsTextWith, IsKept, IsTextFault, IsUnkept}
use Rattle.sab_replay.proofs.OfKeptScript.RescheduledTree.{respelled}
use Rattle.sab_replay.proofs.OfKeptScript.RecordedMoves.{journal_records_schedule}

-- bytes without a tree
pub unread_script : (script : List ℕ) (r : Refusal) → IsUnread script r → IsRefused script (script_as_tool_fault r)
unread_script script (NotJson place) h = h
unread_script script (Tree e) h = subst (λ why. IsRefused script (as_tool_fault (fault_of why))) (sym h) tt

-- a tree that is refused
pub refused_tree : (script : List ℕ) (tree : Data) (e : ReadFault) → ReadsAs script tree → Refuses (Spells tree) e
    → IsTrueFault tree e → IsRefused script (as_tool_fault e)
refused_tree script tree OutOfMemory r h t = tt
refused_tree script tree TooMany r h t = record { tree = tree; reading = r; unspelled = h; is_true = t }
refused_tree script tree BadShape r h t = record { tree = tree; reading = r; unspelled = h; is_true = t }
refused_tree script tree BadName r h t = record { tree = tree; reading = r; unspelled = h; is_true = t }
refused_tree script tree BadNumber r h t = record { tree = tree; reading = r; unspelled = h; is_true = t }
refused_tree script tree BadCall r h t = record { tree = tree; reading = r; unspelled = h; is_true = t }
refused_tree script tree BadView r h t = record { tree = tree; reading = r; unspelled = h; is_true = t }
refused_tree script tree BadAgent r h t = record { tree = tree; reading = r; unspelled = h; is_true = t }
refused_tree script tree NoBlock r h t = record { tree = tree; reading = r; unspelled = h; is_true = t }

-- a script that was read
abbrev pub script_of : (script : List ℕ) (tree : Data) (setup : SetupParts) → IsParsed script tree setup
    → IsScriptOf script setup
script_of script tree setup parsed =
    record { tree = tree; reading = parsed.reading; spelled = parsed.spelled; only = parsed.only }

-- a run that there is a text of
pub kept : (IsRun : SetupParts → ReportParts → Type 0) (script : List ℕ) (tree : Data) (setup : SetupParts)
    (report : ReportParts) (text : List ℕ) → IsParsed script tree setup → IsRun setup report → Fits setup.plan report
    → IsOnly setup.plan report → IsTextWith tree report.schedule text → IsKept IsRun script report text
kept IsRun script tree setup report text parsed run fits one recorded =
    let moves = report.schedule in
    let spells = respelled tree setup moves parsed.spelled recorded.few fits.moves.named in
    record {
      setup = setup;
      spelled = script_of script tree setup parsed;
      run = run;
      canonical = recorded.canonical;
      short = recorded.short;
      reads_back = record {
        tree = rescheduled tree moves;
        reading = recorded.reading;
        spelled = spells;
        only = only_setup (rescheduled tree moves) (with_schedule setup moves) spells;
      };
      its = record { fits = fits; schedule = refl; one = one };
      recorded = journal_records_schedule setup.plan report fits;
    }

-- a run that there is none of
pub unkept : (IsRun : SetupParts → ReportParts → Type 0) (script : List ℕ) (tree : Data) (setup : SetupParts)
    (report : ReportParts) (fault : ToolFault) → IsParsed script tree setup → IsRun setup report
    → IsTextFault tree report.schedule fault → IsUnkept IsRun script fault
unkept IsRun script tree setup report fault parsed run no_text = record {
  setup = setup;
  spelled = script_of script tree setup parsed;
  report = report;
  run = run;
  no_text = no_text;
}

-- at the exit of a `?`
pub exit_fault : {X : Type 0} (P : ToolFault → Type 0) (r : Result X ToolFault) (e : ToolFault)
    → IsErrAnd r (λ y. y ≡ e) → P e → IfErr r P
exit_fault P r e h p = let q = err_from_is_err_and r h in rw (q.1, q.2) p
