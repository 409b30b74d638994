-- What one move keeps.
use Rattle.std.proofs.Common.{◌≡◌, ◌≢◌, inl, inr, ℕ, suc, ◌+◌, ◌≤◌, ◌==◌, ◌&&◌, not, Bool, true, false, cond, List, [], ◌∷◌, ◌++◌, length, map, slice_get, Some, refl, ap, sym, ◌∙◌, subst, arith, length-append, append_assoc, flat_map, MatchBool}
use Rattle.std.proofs.lemmas.Grind.{common_steps}
use Rattle.std.proofs.lemmas.Option.{slice_get_within}
use Rattle.std.proofs.lemmas.List.{map-append, take-append-le, append-nil}
use Rattle.std.proofs.lemmas.List.Elements.{filter-append}
use Rattle.std.proofs.lemmas.Grind.{flat_map-append}
use Rattle.std.proofs.lemmas.Bool.{cases_eq, ne_eqb, eq-eqb}
use Rattle.std.proofs.Math.Seq.{take-append_seam}
use Rattle.sab_plan.specs.declared.answer.Answer.{Answer}
use Rattle.sab_plan.specs.declared.entry.What.{What}
use Rattle.sab_plan.specs.declared.entry.What.TheVariants.{Began, Acted, Enlisted, Left, Returned, Stuck}
use Rattle.sab_plan.specs.declared.entry.Entry.{Entry}
use Rattle.sab_plan.specs.declared.schedule.Move.{Move}
use Rattle.sab_sim.specs.declared.agent.Agent.{Agent}
use Rattle.sab_sim.specs.declared.agent.Phase.{Phase}
use Rattle.sab_sim.specs.declared.agent.Phase.TheVariants as P
use Rattle.sab_plan.specs.Schedule.{agent_of}
use Rattle.sab_plan.specs.Entry.{is_act, is_stuck, is_return}
use Rattle.sab_plan.specs.Plan.{PlanParts, calls_of}
use Rattle.sab_object.specs.Object.{State, opening, Does}
use Rattle.sab_plan.specs.Journal.{Course, AtOnce, InLine, course, acts_of, track, returned_of, answers_move, EachAnswers, Answers, EachAfter}
use Rattle.sab_sim.specs.Run.{Run, IsJustified, Reaches}
use Rattle.sab_sim.specs.Agent.{IsPart, IsAtCall, IsWhere, Advances, IsLike, IsInLine}
use Rattle.sab_sim.specs.Machine.{MachineParts}
use Rattle.sab_sim.specs.Turn.{Goes, Turns}
use Rattle.sab_sim.specs.Kept.{Kept}
use Rattle.sab_sim.proofs.ChangedLists.{slice_get-push}

-- a run goes on by one act
pub Run-push : (plan : PlanParts) (S : State) (es : List Entry) (T : State) (e : Entry) (U : State) → Run plan S es T
    → Does plan T e U → Run plan S (es ++ e ∷ []) U
Run-push plan S [] T e U r d = (U, subst (λ V. Does plan V e U) r d, refl)
Run-push plan S (f ∷ es) T e U r d = (r.0, r.1, Run-push plan r.0 es T e U r.2 d)

-- a run goes on by one entry, which acts or leaves the state
pub Reaches-push : (plan : PlanParts) (journal : List Entry) (S T : State) (e : Entry) → Reaches plan journal S
    → Goes plan S e T → Reaches plan (journal ++ e ∷ []) T
Reaches-push plan journal S T e r g =
    rw (filter-append (λ (f : Entry). is_act f.what) journal (e ∷ [])) (go (is_act e.what) g.acts)
  where
    go : (b : Bool) → MatchBool b (Does plan S e T) (T ≡ S)
        → Run plan (opening plan.lens) (acts_of journal ++ cond b (e ∷ []) []) T
    go true d = Run-push plan (opening plan.lens) (acts_of journal) S e T r d
    go false d = rw (append-nil, d) r

-- what holds of each entry and of one more
pub EachAfter-push : (P : List Entry → Entry → Type 0) (journal : List Entry) (e : Entry) → EachAfter P journal
    → P journal e → EachAfter P (journal ++ e ∷ [])
EachAfter-push P journal e all here k f at =
    grind (arith, common_steps, slice_get-push, take-append-le, take-append_seam)

-- the entries answer their moves, and so does one more
EachAnswers-push : (moves : List Move) (journal : List Entry) (m : Move) (e : Entry) → length journal ≡ length moves
    → EachAnswers moves journal → Answers journal m e → EachAnswers (moves ++ m ∷ []) (journal ++ e ∷ [])
EachAnswers-push moves journal m e same all here k n f n_at f_at = elim (slice_get-push moves m k n n_at) [
  | inl h ↦ elim (slice_get-push journal e k f f_at) [
    | inl i ↦ rw (take-append-le k journal (e ∷ []) (omega (arith, i.1))) (all k n f h.0 i.0)
    | inr i ↦ absurd (omega (arith, h.1, i.0, same))
  ]
  | inr h ↦ elim (slice_get-push journal e k f f_at) [
    | inl i ↦ absurd (omega (arith, h.0, i.1, same))
    | inr i ↦ rw (i.0, take-append_seam journal (e ∷ []), ← h.1, ← i.1) here
  ]
]

-- the track of another agent stays
track-other : (journal : List Entry) (e : Entry) (b : ℕ) → b ≢ e.agent → track (journal ++ e ∷ []) b ≡ track journal b
track-other journal e b h =
    let no_match : (e.agent == b) ≡ false = ne_eqb e.agent b (λ q. h (sym q)) in
    let goes_on = λ (f : Entry). (f.agent == b) && not (is_stuck f.what) in
    rw (filter-append goes_on journal (e ∷ []), no_match, append-nil) refl

-- that of its own gets the entry
track-own : (journal : List Entry) (e : Entry)
    → track (journal ++ e ∷ []) e.agent ≡ track journal e.agent ++ cond (is_stuck e.what) [] (e.what ∷ [])
track-own journal e =
    let match : (e.agent == e.agent) ≡ true = eq-eqb e.agent e.agent refl in
    let goes_on = λ (f : Entry). (f.agent == e.agent) && not (is_stuck f.what) in
    let before = track journal e.agent in
    rw (filter-append goes_on journal (e ∷ []), match, map-append) (elim (is_stuck e.what) as (λ b.
    before ++ map (λ (f : Entry). f.what) (cond (true && not b) (e ∷ []) []) ≡ before ++ cond b [] (e.what ∷ []))
    [ true ↦ refl | false ↦ refl ])

returned_of-other : (journal : List Entry) (e : Entry) (b : ℕ) → b ≢ e.agent
    → returned_of (journal ++ e ∷ []) b ≡ returned_of journal b
returned_of-other journal e b h =
    let no_match : (e.agent == b) ≡ false = ne_eqb e.agent b (λ q. h (sym q)) in
    rw (filter-append (λ (f : Entry). (f.agent == b) && is_return f.what) journal (e ∷ []), no_match, append-nil) refl

returned_of-own : (journal : List Entry) (e : Entry)
    → returned_of (journal ++ e ∷ []) e.agent ≡ returned_of journal e.agent + cond (is_return e.what) 1 0
returned_of-own journal e =
    grind (arith, common_steps, eq-eqb, returned_of, filter-append, is_return, length-append, length, cond)

-- an agent is where it was, after an entry of another
IsWhere-other : (plan : PlanParts) (journal : List Entry) (e : Entry) (b : ℕ) (g : Agent) → b ≢ e.agent
    → IsWhere plan journal b g → IsWhere plan (journal ++ e ∷ []) b g
IsWhere-other plan journal e b g h w = grind (arith, common_steps, track-other, returned_of-other)

-- a woken agent did what it did as it waited
IsWhere-like : (plan : PlanParts) (journal : List Entry) (b : ℕ) (g h : Agent) → IsLike g h
    → IsWhere plan journal b g → IsWhere plan journal b h
IsWhere-like plan journal b g h (inl same) w = subst (λ (k : Agent). IsWhere plan journal b k) (sym same) w
IsWhere-like plan journal b g h (inr woken) w = grind (arith, common_steps, calls_of)

-- an agent in the line has begun its wait and joined
in_line_part : (ph : Phase) (part : List What) → IsInLine ph → IsPart ph part → part ≡ Began ∷ Enlisted ∷ []
in_line_part (P.Waiting p t) part i h = h
in_line_part P.Woken part i h = h
in_line_part P.Ready part i h = absurd i
in_line_part P.Begun part i h = absurd i
in_line_part (P.Answered x) part i h = absurd i

-- the track gets an entry that isn't stuck
pub track-push : (journal : List Entry) (e : Entry) (front part begun : List What)
    → track journal e.agent ≡ front ++ part → part ≡ begun → is_stuck e.what ≡ false
    → track (journal ++ e ∷ []) e.agent ≡ front ++ (begun ++ e.what ∷ [])
track-push journal e front part begun t p f = track-own journal e
    ∙ (rw (f, t, p) (append_assoc front begun (e.what ∷ [])))

-- no call returns by an entry that isn't a return
returned_of-same : (journal : List Entry) (e : Entry) (n : ℕ) → returned_of journal e.agent ≡ n
    → is_return e.what ≡ false → returned_of (journal ++ e ∷ []) e.agent ≡ n
returned_of-same journal e n r f = returned_of-own journal e ∙ (rw f (omega (arith, r)))

-- the entry of an agent's move
abbrev pub its_entry : ℕ → Agent → What → Entry
its_entry a g what = record { agent = a; call = g.returned; what = what }

-- an agent goes on with its call
goes_on : (plan : PlanParts) (journal : List Entry) (a : ℕ) (g : Agent) (what : What) (h : Agent) (begun : List What)
    (w : IsWhere plan journal a g) → w.part ≡ begun → is_stuck what ≡ false → is_return what ≡ false
    → h.returned ≡ g.returned → IsPart h.phase (begun ++ what ∷ [])
    → IsAtCall plan (calls_of plan a) h.returned h.phase → IsWhere plan (journal ++ its_entry a g what ∷ []) a h
goes_on plan journal a g what h begun w part moves stays same is_part at =
    grind (arith, common_steps, track-push, flat_map, course, returned_of-same)

-- an agent's call returns
goes_back : (plan : PlanParts) (journal : List Entry) (a : ℕ) (g : Agent) (x : Answer) (c : Course)
    (begun : List What) (w : IsWhere plan journal a g) → w.part ≡ begun → begun ++ Returned x ∷ [] ≡ course c
    → suc g.returned ≤ length (calls_of plan a)
    → IsWhere plan (journal ++ its_entry a g (Returned x) ∷ []) a
    (record { returned = suc g.returned; phase = P.Ready })
goes_back plan journal a g x c begun w part whole at = record {
  courses = w.courses ++ c ∷ [];
  part = [];
  track_is =
      track-push journal (its_entry a g (Returned x)) (flat_map course w.courses) w.part begun w.track_is part refl
      ∙ (ap (λ (ws : List What). flat_map course w.courses ++ ws) (whole ∙ sym (append-nil (course c)))
      ∙ sym (append-nil (flat_map course (w.courses ++ c ∷ [])) ∙ flat_map-append course w.courses (c ∷ [])));
  is_part = refl;
  count = length-append w.courses (c ∷ []) ∙ omega (arith, w.count);
  returned = returned_of-own journal (its_entry a g (Returned x)) ∙ omega (arith, w.returned);
  at_call = at;
}

-- where the agent of an entry is after it
IsWhere-own : (plan : PlanParts) (journal : List Entry) (a : ℕ) (g : Agent) (what : What) (h : Agent)
    → IsWhere plan journal a g → Advances g what h → IsAtCall plan (calls_of plan a) h.returned h.phase
    → IsWhere plan (journal ++ its_entry a g what ∷ []) a h
IsWhere-own plan journal a g Began h w adv at =
    goes_on plan journal a g Began h [] w (subst (λ (ph : Phase). IsPart ph w.part) adv.0 w.is_part) refl refl
    (ap (λ (k : Agent). k.returned) adv.1) (subst (λ (k : Agent). IsPart k.phase (Began ∷ [])) (sym adv.1) refl) at
IsWhere-own plan journal a g (Acted x) h w adv at =
    goes_on plan journal a g (Acted x) h (Began ∷ []) w
    (subst (λ (ph : Phase). IsPart ph w.part) adv.0 w.is_part) refl refl
    (ap (λ (k : Agent). k.returned) adv.1)
    (subst (λ (k : Agent). IsPart k.phase (Began ∷ Acted x ∷ [])) (sym adv.1) (inl refl)) at
IsWhere-own plan journal a g Enlisted h w adv at =
    goes_on plan journal a g Enlisted h (Began ∷ []) w
    (subst (λ (ph : Phase). IsPart ph w.part) adv.0 w.is_part) refl refl
    (ap (λ (k : Agent). k.returned) adv.1.2)
    (subst (λ (k : Agent). IsPart k.phase (Began ∷ Enlisted ∷ [])) (sym adv.1.2) refl) at
IsWhere-own plan journal a g (Left x) h w adv at =
    goes_on plan journal a g (Left x) h (Began ∷ Enlisted ∷ []) w
    (in_line_part g.phase w.part adv.0 w.is_part) refl refl
    (ap (λ (k : Agent). k.returned) adv.1)
    (subst (λ (k : Agent). IsPart k.phase (Began ∷ Enlisted ∷ Left x ∷ [])) (sym adv.1) (inr refl)) at
IsWhere-own plan journal a g (Returned x) h w adv at =
    let left : suc g.returned ≤ length (calls_of plan a) =
    subst (λ (k : Agent). IsAtCall plan (calls_of plan a) k.returned k.phase) adv.1 at in
    subst (λ (k : Agent). IsWhere plan (journal ++ its_entry a g (Returned x) ∷ []) a k) (sym adv.1)
    (elim (subst (λ (ph : Phase). IsPart ph w.part) adv.0 w.is_part) [
      | inl p ↦ goes_back plan journal a g x (AtOnce x) (Began ∷ Acted x ∷ []) w p refl left
      | inr p ↦ goes_back plan journal a g x (InLine x) (Began ∷ Enlisted ∷ Left x ∷ []) w p refl left
    ])
IsWhere-own plan journal a g (Stuck why) h w adv at =
    grind (arith, common_steps, track-own, append-nil, track, returned_of-same)

-- the entry answers its move, and all is kept
pub Kept-push : (plan : PlanParts) (moves : List Move) (journal : List Entry) (machine : MachineParts) (m : Move)
    (e : Entry)
    (machine' : MachineParts) (g : Agent)
    → Kept plan moves journal machine → slice_get machine.agents (agent_of m) ≡ Some g
    → e.agent ≡ agent_of m → answers_move m e.what ≡ true → Turns plan machine e machine'
    → Kept plan (moves ++ m ∷ []) (journal ++ e ∷ []) machine'
Kept-push plan moves journal machine m e machine' g kept g_is of_m kind turns =
    let S = kept.object.0 in
    let next = turns.object S kept.object.2 in
    record {
      one_each =
          length-append journal (e ∷ []) ∙ (ap (λ n. n + 1) kept.one_each ∙ sym (length-append moves (m ∷ [])));
      named = λ k n at. elim (slice_get-push moves m k n at) [
        | inl h ↦ kept.named k n h.0
        | inr h ↦ rw (← h.1, ← kept.size) (slice_get_within machine.agents (agent_of m) g g_is)
      ];
      answers = EachAnswers-push moves journal m e kept.one_each kept.answers
          (record {
            agent = of_m;
            call = turns.call g mine
                ∙ sym (kept.agents_are e.agent g mine).returned;
            kind = kind;
          });
      justified = EachAfter-push (IsJustified plan) journal e kept.justified (S, kept.object.1, next.1.justified);
      object = (next.0, Reaches-push plan journal S next.0 e kept.object.1 next.1, next.2);
      size = turns.size ∙ kept.size;
      agents_are = λ b h h_is. elim (cases_eq b e.agent) [
        | inl q ↦
            let h_at = subst (λ n. slice_get machine'.agents n ≡ Some h) q h_is in
            subst (λ n. IsWhere plan (journal ++ e ∷ []) n h) (sym q) (own h h_at)
        | inr q ↦
            let other = turns.others b h q h_is in
            IsWhere-other plan journal e b h q
            (IsWhere-like plan journal b other.0 h other.2 (kept.agents_are b other.0 other.1))
      ];
    }
  where
    mine : slice_get machine.agents e.agent ≡ Some g
    mine = rw of_m g_is

    -- where the agent is that moved
    own : (h : Agent) → slice_get machine'.agents e.agent ≡ Some h → IsWhere plan (journal ++ e ∷ []) e.agent h
    own h h_at =
        let done = turns.own g h mine h_at in
        let entry : its_entry e.agent g e.what ≡ e =
        ap (λ n. record { agent = e.agent; call = n; what = e.what }) (sym (turns.call g mine)) in
        subst (λ (f : Entry). IsWhere plan (journal ++ f ∷ []) e.agent h) entry
        (IsWhere-own plan journal e.agent g e.what h (kept.agents_are e.agent g mine) done.0 done.1)
