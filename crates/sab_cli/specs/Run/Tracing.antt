-- What judging a trace returns.
use Rattle.std.specs.Prelude.{◌≡◌, ◌⊎◌, ℕ, List, Option, IfSome}
use Rattle.std.specs.Io.KnownBytes.{Appends, Keeps}
use Rattle.sab_judge.specs.declared.event.Event.{Event}
use Rattle.sab_judge.specs.declared.race.Race.{Race}
use Rattle.sab_judge.specs.Race.{HaveNoRace}
use Rattle.sab_judge.specs.Verdict.{IsVerdict}
use Rattle.sab_trace.specs.declared.refusal.Refusal.{Refusal}
use Rattle.sab_trace.specs.declared.line_fault.LineFault.{LineFault}
use Rattle.sab_trace.specs.declared.line_fault.LineFault.TheVariants as L
use Rattle.sab_trace.specs.Reading.{SpellsTrace, IsRefusedBy}
use Rattle.sab_report_text.specs.declared.text.format.VerdictFormat.{VerdictFormat}
use Rattle.sab_verdict.specs.Json.{access_side, judged_trace}
use Rattle.sab_verdict.specs.ReadsBack.{LinesReadBack}
use Rattle.sab_verdict.specs.Verdict.{trace_verdict_text}
use Rattle.sab_replay.specs.declared.faults.tool_fault.ToolFault.TheVariants.{TooMany, OutOfMemory, BadShape, BadNumber, BadAgent, NotJson, WriteFailed, TooLong, ReadFailed}
use Rattle.sab_replay.specs.declared.report.judging.TheConstants.{MAX_REPORTED}
use Rattle.sab_cli.specs.declared.exit.outcome.Outcome.{Outcome}
use Rattle.sab_cli.specs.declared.exit.outcome.Outcome.TheVariants.{Done, Racy}
use Rattle.sab_cli.specs.declared.run.failure.Explanation.TheVariants.{AtLine}
use Rattle.sab_cli.specs.declared.run.failure.Failure.{Failure}
use Rattle.sab_cli.specs.Run.Failure.{unexplained}

-- the outcome says truly whether two of the events race
abbrev pub IsOutcomeOf : List Event → Outcome → Type 0
IsOutcomeOf events outcome =
    ((outcome ≡ Done) × HaveNoRace events) ⊎ ((outcome ≡ Racy) × (¬ HaveNoRace events))

-- the bytes spell a trace, just the verdict on it came after what the writer held, and its lines as JSON are read as
-- their trees
pub record JudgesTrace (format : VerdictFormat) (outcome : Outcome) (old new : Option (List ℕ)) (bytes : List ℕ) :
    Type 0 where
  pub events : List Event
  pub spelled : SpellsTrace bytes events
  pub races : List Race
  pub rest : ℕ
  pub data_races : ℕ
  pub verdict : IsVerdict events MAX_REPORTED races rest data_races
  pub written : Appends old new (trace_verdict_text events format races rest data_races)
  pub read_back : LinesReadBack access_side judged_trace events races rest data_races
  pub outcome_is : IsOutcomeOf events outcome

-- what the program reports about a trace that is refused: the fault, and at which line
abbrev pub failure_at : LineFault → ℕ → Failure
failure_at L.OutOfMemory line = unexplained OutOfMemory
failure_at L.ReadFailed line = unexplained ReadFailed
failure_at L.TooMany line = record { fault = TooMany; explanation = AtLine line }
failure_at L.TooLong line = record { fault = TooLong; explanation = AtLine line }
failure_at L.NotJson line = record { fault = NotJson; explanation = AtLine line }
failure_at L.BadShape line = record { fault = BadShape; explanation = AtLine line }
failure_at L.BadNumber line = record { fault = BadNumber; explanation = AtLine line }
failure_at L.BadBytes line = record { fault = BadNumber; explanation = AtLine line }
failure_at L.BadAgent line = record { fault = BadAgent; explanation = AtLine line }

abbrev pub refused_at : Refusal → Failure
refused_at refusal = failure_at refusal.fault refusal.line

-- the bytes are refused at a line and nothing was written, or there was no memory and nothing was written, or a write
-- failed
abbrev pub IsTraceFailure : Option (List ℕ) → Option (List ℕ) → Option (List ℕ) → Failure → Type 0
IsTraceFailure known old new failure =
    ((refusal : Refusal) × (failure ≡ refused_at refusal) × Keeps old new
    × IfSome known (λ bytes. IsRefusedBy bytes refusal))
    ⊎ ((failure ≡ unexplained OutOfMemory) × Keeps old new)
    ⊎ (failure ≡ unexplained WriteFailed)
