-- At most one report of a schedule fits.
use Rattle.std.proofs.Common.{◌≡◌, inl, inr, ℕ, zero, suc, ◌<◌, ◌≤◌, ◌==◌, ◌&&◌, not, Bool, true, false, cond, List, [], ◌∷◌, ◌++◌, length, map, take, drop, slice_get, Some, refl, ap, sym, ◌∙◌, subst, arith, append_assoc, All}
use Rattle.std.proofs.lemmas.Option.{slice_get_cases, slice_get_within, get_or_from_slice_get}
use Rattle.std.proofs.lemmas.List.{map-append, take-append-drop, take_all}
use Rattle.std.proofs.lemmas.List.Elements.{filter-append}
use Rattle.sab_plan.specs.declared.entry.What.{What}
use Rattle.sab_plan.specs.declared.entry.Entry.{Entry}
use Rattle.sab_plan.specs.declared.schedule.Move.{Move}
use Rattle.sab_sim.specs.declared.agent.Agent.{Agent}
use Rattle.sab_plan.specs.declared.progress.Progress.{Progress}
use Rattle.sab_plan.specs.Schedule.{agent_of}
use Rattle.sab_plan.specs.Entry.{is_act, is_stuck}
use Rattle.sab_plan.specs.Plan.{PlanParts, calls_of}
use Rattle.sab_object.specs.Object.{State, opening}
use Rattle.sab_plan.specs.Journal.{acts_of, track, IsTrack, returned_of, Answers}
use Rattle.sab_sim.specs.Run.{Run, Reaches, Justifies}
use Rattle.sab_sim.specs.Agent.{agent_at, IsWhere}
use Rattle.sab_sim.specs.Turn.{Goes}
use Rattle.sab_sim.specs.Kept.{Kept}
use Rattle.sab_plan.specs.Report.{ReportParts, progress_from}
use Rattle.sab_sim.specs.Fits.{FitsMoves, Fits, IsOnly}
use Rattle.sab_sim.specs.Machine.{MachineParts}
use Rattle.sab_sim.specs.Sim.{IsKept}
use Rattle.sab_sim.proofs.OneMoveMore.{its_entry}
use Rattle.sab_sim.proofs.KeptFits.{FitsMoves-kept, IsWhere-agent_at}
use Rattle.sab_sim.proofs.OnlyRun.{Run-one, Run-append}
use Rattle.sab_sim.proofs.OnlyEntry.{IsWhere-next, CanDo, CanDo-one}

take-next : {X : Type 0} (xs : List X) (k : ℕ) (x : X) → slice_get xs k ≡ Some x → take (suc k) xs ≡ take k xs ++ x ∷ []
take-next [] k x e = absurd (cc)
take-next (y ∷ xs) zero x e = let same : y ≡ x = cc in rw same refl
take-next (y ∷ xs) (suc k) x e = ap (λ (r : List _). y ∷ r) (take-next xs k x e)

element_at : {X : Type 0} (xs : List X) (n : ℕ) → n < length xs → (x : X) × (slice_get xs n ≡ Some x)
element_at xs n l = elim (slice_get_cases xs n).1 [
  | inl r ↦ (r.0, r.2)
  | inr r ↦ absurd (omega (arith, l, r.0))
]

-- the front of a track is a track
IsTrack-front : (n : ℕ) (xs ys : List What) → IsTrack n (xs ++ ys) → IsTrack n xs
IsTrack-front n xs ys t = (t.0, ys ++ t.1, t.2, sym (append_assoc xs ys t.1) ∙ t.3)

-- the act of an entry, from the state before it
entry_goes : (plan : PlanParts) (before : List Entry) (e : Entry) (S T : State) → Reaches plan before S
    → Reaches plan (before ++ e ∷ []) T → Justifies plan S e e.what → (U : State) × Goes plan S e U
entry_goes plan before e S T r t j =
    let t' : Run plan (opening plan.lens) (acts_of before ++ cond (is_act e.what) (e ∷ []) []) T =
    rw (filter-append (λ (f : Entry). is_act f.what) before (e ∷ [])) at t in
    let split = Run-append plan (opening plan.lens) (acts_of before) (cond (is_act e.what) (e ∷ []) []) T t' in
    let same : split.0 ≡ S = Run-one plan (opening plan.lens) (acts_of before) split.0 S split.1 r in
    go (is_act e.what) refl (subst (λ (V : State). Run plan V (cond (is_act e.what) (e ∷ []) []) T) same split.2)
  where
    go : (b : Bool) → is_act e.what ≡ b → Run plan S (cond b (e ∷ []) []) T → (U : State) × Goes plan S e U
    go true q d = (d.0, record { acts = rw q d.1; justified = j })
    go false q d = (S, record { acts = rw q refl; justified = j })

-- what is known of an entry of a journal that fits, after those before it
record FitsNext (plan : PlanParts) (m : Move) (before : List Entry) (e : Entry) (S : State) : Type 0 where
  answers : Answers before m e
  target : State
  goes : Goes plan S e target
  on_track : IsTrack (length (calls_of plan e.agent)) (track (before ++ e ∷ []) e.agent)

-- the front of a journal that fits is a run
Reaches-front : (plan : PlanParts) (journal : List Entry) (k : ℕ) (T : State) → Reaches plan journal T
    → (S : State) × Reaches plan (take k journal) S
Reaches-front plan journal k T r =
    let whole = subst (λ (j : List Entry). Reaches plan j T) (sym (take-append-drop k journal)) r in
    let parts : Run plan (opening plan.lens) (acts_of (take k journal) ++ acts_of (drop k journal)) T =
    rw (filter-append (λ (f : Entry). is_act f.what) (take k journal) (drop k journal)) at whole in
    let front = Run-append plan (opening plan.lens) (acts_of (take k journal)) (acts_of (drop k journal)) T parts in
    (front.0, front.1)

-- an agent's track of the front is the front of its track
IsTrack-take : (journal : List Entry) (a n k : ℕ) → IsTrack n (track journal a) → IsTrack n (track (take k journal) a)
IsTrack-take journal a n k t =
    let parts : track journal a ≡ track (take k journal) a ++ track (drop k journal) a =
    ap (λ (j : List Entry). track j a) (sym (take-append-drop k journal))
    ∙ (ap (map (λ (f : Entry). f.what))
    (filter-append (λ (f : Entry). (f.agent == a) && not (is_stuck f.what)) (take k journal) (drop k journal)) ∙
    map-append (λ (f : Entry). f.what) _ _) in
    IsTrack-front n (track (take k journal) a) (track (drop k journal) a) (subst (IsTrack n) parts t)

named_at : (plan : PlanParts) (moves : List Move) (k : ℕ) (m : Move)
    → All (λ (m : Move). agent_of m < length plan.scripts) moves → slice_get moves k ≡ Some m
    → agent_of m < length plan.scripts
named_at plan moves k m all m_is =
    subst (λ (n : Move). agent_of n < length plan.scripts) (get_or_from_slice_get moves k m m m_is)
    (all k m (slice_get_within moves k m m_is))

FitsMoves-next : (plan : PlanParts) (moves : List Move) (journal : List Entry) (mem : List (List ℕ)) (k : ℕ) (m : Move)
    (e : Entry) (S : State)
    → FitsMoves plan moves journal mem → slice_get moves k ≡ Some m → slice_get journal k ≡ Some e
    → Reaches plan (take k journal) S → FitsNext plan m (take k journal) e S
FitsMoves-next plan moves journal mem k m e S f m_is e_is r =
    let next : take (suc k) journal ≡ take k journal ++ e ∷ [] = take-next journal k e e_is in
    let front = Reaches-front plan journal (suc k) f.run.0 f.run.1 in
    let reached = subst (λ (j : List Entry). Reaches plan j front.0) next front.1 in
    let j = f.justified k e e_is in
    let same : j.0 ≡ S = Run-one plan (opening plan.lens) (acts_of (take k journal)) j.0 S j.1 r in
    let g = entry_goes plan (take k journal) e S front.0 r reached
    (subst (λ (V : State). Justifies plan V e e.what) same j.2) in
    let answers = f.answers k m e m_is e_is in
    record {
      answers = answers;
      target = g.0;
      goes = g.1;
      on_track =
          let named : e.agent < length plan.scripts = rw answers.agent (named_at plan moves k m f.named m_is) in
          subst (λ (j : List Entry). IsTrack (length (calls_of plan e.agent)) (track j e.agent)) next
          (IsTrack-take journal e.agent (length (calls_of plan e.agent)) (suc k) (f.tracks e.agent named));
    }

-- after what is kept, two entries of a move that fit are one
FitsNext-one : (plan : PlanParts) (m : Move) (moves : List Move) (before : List Entry) (machine : MachineParts)
    (e e' : Entry) (kept : Kept plan moves before machine)
    → agent_of m < length plan.scripts → FitsNext plan m before e kept.object.0
    → FitsNext plan m before e' kept.object.0 → e ≡ e'
FitsNext-one plan m moves before machine e e' kept named f f' =
    normal e f ∙ (ap (its_entry a g) (CanDo-one plan m machine a g S e.what e'.what g.phase refl there.0 there.1.at_call
    kept.object.2 (can_do e f) (can_do e' f')) ∙ sym (normal e' f'))
  where
    a : ℕ
    a = agent_of m

    S : State
    S = kept.object.0

    g : Agent
    g = agent_at machine.agents (agent_of m)

    there : (slice_get machine.agents (agent_of m) ≡ Some (agent_at machine.agents (agent_of m)))
        × IsWhere plan before (agent_of m) (agent_at machine.agents (agent_of m))
    there = IsWhere-agent_at plan moves before machine (agent_of m) kept named

    normal : (x : Entry) → FitsNext plan m before x S → x ≡ its_entry a g x.what
    normal x k =
        ap (λ (n : ℕ). record { agent = n; call = x.call; what = x.what }) k.answers.agent
        ∙ ap (λ (n : ℕ). record { agent = agent_of m; call = n; what = x.what })
        (k.answers.call ∙ (ap (returned_of before) k.answers.agent ∙ there.1.returned))

    can_do : (x : Entry) (k : FitsNext plan m before x S) → CanDo plan m a g S x.what
    can_do x k =
        let plain = subst (λ (y : Entry). FitsNext plan m before y S) (normal x k) k in
        record {
          kind = k.answers.kind;
          next = IsWhere-next plan before a g x.what there.1 plain.on_track;
          target =
              plain.target;
          goes = plain.goes;
        }

-- a journal that fits the moves of a kept simulator begins as its own
same_front : (plan : PlanParts) (moves : List Move) (journal journal' : List Entry) (machine : MachineParts)
    (mem' : List (List ℕ))
    → IsKept plan moves journal machine → FitsMoves plan moves journal' mem' → (k : ℕ) → k ≤ length moves
    → take k journal ≡ take k journal'
same_front plan moves journal journal' machine mem' own f zero h = refl
same_front plan moves journal journal' machine mem' own f (suc k) h =
    let before = same_front plan moves journal journal' machine mem' own f k (omega (arith, h)) in
    let mine = FitsMoves-kept plan moves journal machine own in
    let m = element_at moves k (omega (arith, h)) in
    let e = element_at journal k (omega (arith, h, mine.one_each)) in
    let e' = element_at journal' k (omega (arith, h, f.one_each)) in
    let old = own.history k (omega (arith, h, mine.one_each)) in
    let S = old.kept.object.0 in
    let reach' = subst (λ (j : List Entry). Reaches plan j S) before old.kept.object.1 in
    let next = FitsMoves-next plan moves journal machine.blocks k m.0 e.0 S mine m.1 e.1 old.kept.object.1 in
    let next' = FitsMoves-next plan moves journal' mem' k m.0 e'.0 S f m.1 e'.1 reach' in
    let next'' = subst (λ (j : List Entry). FitsNext plan m.0 j e'.0 S) (sym before) next' in
    let same : e.0 ≡ e'.0 = FitsNext-one plan m.0 (take k moves) (take k journal) old.machine e.0 e'.0 old.kept
    (named_at plan moves k m.0 mine.named m.1) next next'' in
    take-next journal k e.0 e.1 ∙ (ap (λ (r : List Entry). r ++ e.0 ∷ []) before
    ∙ (ap (λ (x : Entry). take k journal' ++ x ∷ []) same ∙ sym (take-next journal' k e'.0 e'.1)))

-- a journal that fits is its own, and so are the bytes
one_journal : (plan : PlanParts) (moves : List Move) (journal journal' : List Entry) (machine : MachineParts)
    (mem' : List (List ℕ))
    → IsKept plan moves journal machine → FitsMoves plan moves journal' mem'
    → (journal' ≡ journal) × (mem' ≡ machine.blocks)
one_journal plan moves journal journal' machine mem' own f =
    let mine = FitsMoves-kept plan moves journal machine own in
    let fronts = same_front plan moves journal journal' machine mem' own f (length moves) (omega arith) in
    let j : take (length moves) journal ≡ journal = take_all (length moves) journal (omega (arith, mine.one_each)) in
    let j' : take (length moves) journal' ≡ journal' = take_all (length moves) journal' (omega (arith, f.one_each)) in
    let same : journal' ≡ journal = sym j' ∙ (sym fronts ∙ j) in
    let r = subst (λ (x : List Entry). Reaches plan x f.run.0) same f.run.1 in
    let ends = Run-one plan (opening plan.lens) (acts_of journal) f.run.0 mine.run.0 r mine.run.1 in
    (same, sym f.run.2 ∙ (ap (λ (S : State). S.mem) ends ∙ mine.run.2))

-- the report of a kept simulator is the only one of its schedule
pub IsOnly-kept : (plan : PlanParts) (report : ReportParts) (moves : List Move) (journal : List Entry)
    (machine : MachineParts)
    → IsKept plan moves journal machine → report.schedule ≡ moves → report.journal ≡ journal
    → report.blocks ≡ machine.blocks → Fits plan report → IsOnly plan report
IsOnly-kept plan report moves journal machine own m j b fits other f s =
    let fm = subst (λ (ms : List Move). FitsMoves plan ms other.journal other.blocks) (s ∙ m) f.moves in
    let one = one_journal plan moves journal other.journal machine other.blocks own fm in
    let js : other.journal ≡ report.journal = one.0 ∙ sym j in
    let bs : other.blocks ≡ report.blocks = one.1 ∙ sym b in
    let gs : other.agents ≡ report.agents =
    f.agents ∙ (ap (λ (es : List Entry). progress_from es 0 plan.scripts) js ∙ sym fits.agents) in
    ap (λ (x : List Move). record
    { schedule = x; journal = other.journal; blocks = other.blocks; agents = other.agents }) s
    ∙ (ap (λ (x : List Entry). record
    { schedule = report.schedule; journal = x; blocks = other.blocks; agents = other.agents }) js
    ∙ (ap (λ (x : List (List ℕ)). record
    { schedule = report.schedule; journal = report.journal; blocks = x; agents = other.agents }) bs
    ∙ ap (λ (x : List Progress). record
    { schedule = report.schedule; journal = report.journal; blocks = report.blocks; agents = x }) gs))
