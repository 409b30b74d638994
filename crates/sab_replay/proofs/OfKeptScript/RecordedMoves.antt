-- A journal determines its schedule.
use Rattle.std.proofs.Common.{◌≡◌, ℕ, suc, true, cond, List, [], ◌∷◌, length, slice_get, Some, refl, sym, ◌∙◌, arith}
use Rattle.sab_plan.specs.declared.answer.Answer.TheVariants.{TimedOut}
use Rattle.sab_plan.specs.declared.entry.Why.TheVariants.{NotWaiting, Endless}
use Rattle.sab_plan.specs.declared.entry.What.{What}
use Rattle.sab_plan.specs.declared.entry.What.TheVariants.{Left, Stuck}
use Rattle.sab_plan.specs.declared.entry.Entry.{Entry}
use Rattle.sab_plan.specs.declared.schedule.Move.{Move}
use Rattle.sab_plan.specs.declared.schedule.Move.TheVariants.{Step, TimeUp}
use Rattle.sab_plan.specs.Schedule.{agent_of}
use Rattle.sab_plan.specs.Journal.{answers_move, Answers}
use Rattle.sab_replay.specs.KeptScript.RecordedMoves.{is_time_up, move_of, schedule_of, JournalRecordsSchedule}

-- the kind of a move that an entry answers
kind_recorded : (m : Move) (w : What) → answers_move m w ≡ true
    → m ≡ cond (is_time_up w) (TimeUp (agent_of m)) (Step (agent_of m))
kind_recorded (TimeUp a) (Left TimedOut) h = refl
kind_recorded (TimeUp a) (Stuck NotWaiting) h = refl
kind_recorded (TimeUp a) (Stuck Endless) h = refl
kind_recorded (TimeUp a) _ h = cc
kind_recorded (Step a) (Left TimedOut) h = cc
kind_recorded (Step a) (Stuck NotWaiting) h = cc
kind_recorded (Step a) (Stuck Endless) h = cc
kind_recorded (Step a) _ h = refl

-- the move that an entry answers is the one that it records
move_recorded : (before : List Entry) (m : Move) (e : Entry) → Answers before m e → m ≡ move_of e
move_recorded before m e h =
    kind_recorded m e.what h.kind ∙ (λ i. cond (is_time_up e.what) (TimeUp (sym h.agent i)) (Step (sym h.agent i)))

-- moves that their entries record, one each
moves_recorded : (ms : List Move) (es : List Entry) → length es ≡ length ms
    → ((k : ℕ) (m : Move) (e : Entry) → slice_get ms k ≡ Some m → slice_get es k ≡ Some e → m ≡ move_of e)
    → ms ≡ schedule_of es
moves_recorded [] [] n h = refl
moves_recorded [] (e ∷ es) n h = absurd (omega arith)
moves_recorded (m ∷ ms) [] n h = absurd (omega arith)
moves_recorded (m ∷ ms) (e ∷ es) n h =
    let one : m ≡ move_of e = h 0 m e refl refl in
    let rest = moves_recorded ms es (omega (arith, n)) (λ k x y p q. h (suc k) x y p q) in
    λ i. one i ∷ rest i

pub journal_records_schedule : JournalRecordsSchedule
journal_records_schedule plan report fits =
    moves_recorded report.schedule report.journal fits.moves.one_each
    (λ k m e p q. move_recorded _ m e (fits.moves.answers k m e p q))
