-- What the entries of a report answer has short numbers, where the plan's Numbers are safe integers.
use Rattle.std.proofs.Common.{◌≡◌, ℕ, suc, ◌+◌, ◌^◌, ◌<◌, ◌≤◌, not, ◌&&◌, ◌==◌, Bool, true, false, cond, ℤ, pos, negsuc, List, [], ◌∷◌, ◌++◌, length, map, flat_map, Option, Some, None, IfSome, All, refl, ap, sym, ◌∙◌, subst, arith, eq-eqb}
use Rattle.std.specs.Prelude.{filter, slice_get}
use Rattle.std.proofs.lemmas.Bool.{false≢true}
use Rattle.std.proofs.lemmas.List.Elements.{All-nil, All-cons, All-head, All-tail, All-map, All-filter}
use Rattle.sab_block.specs.declared.access.Access.{Access}
use Rattle.sab_block.specs.declared.access.Access.TheVariants as X
use Rattle.sab_block.specs.declared.operand.Operand.{Operand}
use Rattle.sab_block.specs.Access.{ActsAt}
use Rattle.sab_plan.specs.declared.argument.Argument.TheVariants.{Value}
use Rattle.sab_plan.specs.declared.call.Call.{Call}
use Rattle.sab_plan.specs.declared.call.Call.TheVariants as C
use Rattle.sab_plan.specs.declared.plan_view.PlanView.{PlanView}
use Rattle.sab_plan.specs.Script.{ScriptParts}
use Rattle.sab_plan.specs.Plan.{PlanParts}
use Rattle.sab_plan.specs.declared.answer.Answer.{Answer}
use Rattle.sab_plan.specs.declared.answer.Answer.TheVariants as A
use Rattle.sab_plan.specs.declared.entry.What.{What}
use Rattle.sab_plan.specs.declared.entry.What.TheVariants.{Began, Acted, Enlisted, Left, Returned, Stuck}
use Rattle.sab_plan.specs.declared.entry.Entry.{Entry}
use Rattle.sab_plan.specs.Entry.{is_act, is_stuck}
use Rattle.sab_object.specs.Object.{State, bytes_of, opening, waiters, woken_count, DoesCall, Does}
use Rattle.sab_plan.specs.Journal.{acts_of, track, Course, AtOnce, InLine, course, IsTrack}
use Rattle.sab_sim.specs.Run.{Run, Reaches}
use Rattle.sab_report_text.specs.JsonLines.CallData.{operand_data}
use Rattle.sab_report_text.specs.JsonLines.FactData.{answer_data, answer_in}
use Rattle.sab_report_text.specs.JsonLines.SafeNumbers.{IsSafeArgument, IsSafeCall, HasSafeNumbers}
use Rattle.sab_report_text.proofs.OfJsonLines.ShortNumbers.{HasShortNumbers}
use Rattle.sab_report_text.proofs.OfJsonLines.ShortCalls.{All-at, operand_short}
use Rattle.sab_report_text.proofs.OfJsonLines.ShortElements.{element_short}
use Rattle.sab_replay.proofs.OfReport.RunStates.{IsSound, block_bytes, length-waiters, Does-sound, opening_sound, few_acts}

-- what is answered, where it is something, has short numbers
abbrev pub HasShortAnswer : What → Type 0
HasShortAnswer what = IfSome (answer_in what) HasShortNumbers

-- ---- acts

value_answered : (plan : PlanParts) (n : ℕ) (v : PlanView) (access : Access) (i : ℕ) (S : State) (x : Operand)
    (bytes : List ℕ) (p : ℕ) → IsSound plan n S → IsSafeCall (C.Access i access)
    → ActsAt v.view access p (bytes_of S.mem v.block) x bytes → HasShortNumbers (operand_data x)
value_answered plan n v (X.Load index) i S x bytes p sound safe acts =
    subst (λ (y : Operand). HasShortNumbers (operand_data y)) (sym acts.0)
    (element_short v.view (bytes_of S.mem v.block) p (block_bytes S.mem v.block sound.bytes))
value_answered plan n v (X.Store index y) i S x bytes p sound safe acts =
    subst (λ (y : Operand). HasShortNumbers (operand_data y)) (sym acts.0)
    (operand_short y (All-head IsSafeArgument (Value y) [] safe.arguments))
value_answered plan n v (X.Rmw op index y) i S x bytes p sound safe acts =
    subst (λ (y : Operand). HasShortNumbers (operand_data y)) (sym acts.0)
    (element_short v.view (bytes_of S.mem v.block) p (block_bytes S.mem v.block sound.bytes))
value_answered plan n v (X.CompareExchange index y z) i S x bytes p sound safe acts =
    subst (λ (y : Operand). HasShortNumbers (operand_data y)) (sym acts.0)
    (element_short v.view (bytes_of S.mem v.block) p (block_bytes S.mem v.block sound.bytes))

woken_count-most : (count : Option ℤ) (there : ℕ) → woken_count count there ≤ there
woken_count-most None there = omega arith
woken_count-most (Some (pos n)) there = omega arith
woken_count-most (Some (negsuc n)) there = omega arith

DoesCall-answers : (plan : PlanParts) (n : ℕ) (cb : Bool) (a : ℕ) (v : PlanView) (call : Call) (S : State) (w : What)
    (T : State) → n ≤ 2 ^ 20 → IsSafeCall call → IsSound plan n S → DoesCall cb a v call S w T → HasShortAnswer w
unfolding answer_data
DoesCall-answers plan n cb a v (C.Access i access) S (Acted (A.Value x)) T few safe sound d =
    value_answered plan n v access i S x d.1.0 d.1.1.0 sound safe d.1.1.2
DoesCall-answers plan n cb a v call S (Acted (A.Threw t)) T few safe sound d = tt
DoesCall-answers plan n cb a v (C.Notify i index count) S (Acted (A.Count k)) T few safe sound d =
    let most = woken_count-most count (length (waiters d.1.0 S.line)) in
    omega (arith, most, d.1.2, length-waiters d.1.0 S.line, sound.line)
DoesCall-answers plan n cb a v call S (Acted A.NotEqual) T few safe sound d = tt
DoesCall-answers plan n cb a v call S Enlisted T few safe sound d = tt
DoesCall-answers plan n cb a v call S (Left A.Woken) T few safe sound d = tt
DoesCall-answers plan n cb a v call S (Left A.TimedOut) T few safe sound d = tt
DoesCall-answers plan n cb a v call S w T few safe sound d = absurd (first_of (assumption, cc))

Does-answers : (plan : PlanParts) (n : ℕ) (S : State) (e : Entry) (T : State) → n ≤ 2 ^ 20 → HasSafeNumbers plan
    → IsSound plan n S → Does plan S e T → HasShortAnswer e.what
Does-answers plan n S e T few safe sound d =
    DoesCall-answers plan n d.script.can_block e.agent d.view d.call S e.what T few
    (All-at IsSafeCall d.script.calls e.call d.call
    (All-at (λ (s : ScriptParts). All IsSafeCall s.calls) plan.scripts e.agent d.script safe d.script_is) d.call_is) sound d.does

Run-answers : (plan : PlanParts) (n : ℕ) (S : State) (es : List Entry) (T : State) → n + length es ≤ 2 ^ 20
    → HasSafeNumbers plan → IsSound plan n S → Run plan S es T → All (λ (e : Entry). HasShortAnswer e.what) es
Run-answers plan n S [] T few safe sound r = All-nil (λ (e : Entry). HasShortAnswer e.what)
Run-answers plan n S (e ∷ es) T few safe sound r =
    All-cons (λ (e : Entry). HasShortAnswer e.what) e es
    (Does-answers plan n S e r.0 (omega (arith, few)) safe sound r.1)
    (Run-answers plan (suc n) r.0 es T (omega (arith, few)) safe (Does-sound plan n S e r.0 sound r.1) r.2)

-- ---- a call returns what it answered

abbrev IsActShort : What → Type 0
IsActShort w = is_act w ≡ true → HasShortAnswer w

acted : (x : Answer) (w : What) → w ≡ Acted x → IsActShort w → HasShortAnswer (Acted x)
acted x w is short = subst HasShortAnswer is (short (ap is_act is))

left : (x : Answer) (w : What) → w ≡ Left x → IsActShort w → HasShortAnswer (Left x)
left x w is short = subst HasShortAnswer is (short (ap is_act is))

-- of a call that acts at once, so far as it came, and of what follows it
at_once_short : (x : Answer) (whats rest more : List What) → whats ++ rest ≡ Began ∷ (Acted x ∷ (Returned x ∷ more))
    → All IsActShort whats
    → ((others : List What) → others ++ rest ≡ more → All IsActShort others → All HasShortAnswer others)
    → All HasShortAnswer whats
at_once_short x [] rest more e acts others = All-nil HasShortAnswer
at_once_short x (a ∷ []) rest more e acts others =
    let first : a ≡ Began = cc in
    All-cons HasShortAnswer a [] (subst HasShortAnswer (sym first) tt) (All-nil HasShortAnswer)
at_once_short x (a ∷ b ∷ []) rest more e acts others =
    let first : a ≡ Began = cc in
    let second : b ≡ Acted x = cc in
    let short = acted x b second (All-head IsActShort b [] (All-tail IsActShort a (b ∷ []) acts)) in
    All-cons HasShortAnswer a (b ∷ []) (subst HasShortAnswer (sym first) tt)
    (All-cons HasShortAnswer b [] (subst HasShortAnswer (sym second) short) (All-nil HasShortAnswer))
at_once_short x (a ∷ b ∷ c ∷ ws) rest more e acts others =
    let first : a ≡ Began = cc in
    let second : b ≡ Acted x = cc in
    let third : c ≡ Returned x = cc in
    let follow : ws ++ rest ≡ more = cc in
    let from_b = All-tail IsActShort a (b ∷ c ∷ ws) acts in
    let short = acted x b second (All-head IsActShort b (c ∷ ws) from_b) in
    let from_d = All-tail IsActShort c ws (All-tail IsActShort b (c ∷ ws) from_b) in
    All-cons HasShortAnswer a (b ∷ c ∷ ws) (subst HasShortAnswer (sym first) tt)
    (All-cons HasShortAnswer b (c ∷ ws) (subst HasShortAnswer (sym second) short)
    (All-cons HasShortAnswer c ws (subst HasShortAnswer (sym third) short) (others ws follow from_d)))

-- of one that joins the line
in_line_short : (x : Answer) (whats rest more : List What)
    → whats ++ rest ≡ Began ∷ (Enlisted ∷ (Left x ∷ (Returned x ∷ more))) → All IsActShort whats
    → ((others : List What) → others ++ rest ≡ more → All IsActShort others → All HasShortAnswer others)
    → All HasShortAnswer whats
in_line_short x [] rest more e acts others = All-nil HasShortAnswer
in_line_short x (a ∷ []) rest more e acts others =
    let first : a ≡ Began = cc in
    All-cons HasShortAnswer a [] (subst HasShortAnswer (sym first) tt) (All-nil HasShortAnswer)
in_line_short x (a ∷ b ∷ []) rest more e acts others =
    let first : a ≡ Began = cc in
    let second : b ≡ Enlisted = cc in
    All-cons HasShortAnswer a (b ∷ []) (subst HasShortAnswer (sym first) tt)
    (All-cons HasShortAnswer b [] (subst HasShortAnswer (sym second) tt) (All-nil HasShortAnswer))
in_line_short x (a ∷ b ∷ c ∷ []) rest more e acts others =
    let first : a ≡ Began = cc in
    let second : b ≡ Enlisted = cc in
    let third : c ≡ Left x = cc in
    let short = left x c third
    (All-head IsActShort c [] (All-tail IsActShort b (c ∷ []) (All-tail IsActShort a (b ∷ c ∷ []) acts))) in
    All-cons HasShortAnswer a (b ∷ c ∷ []) (subst HasShortAnswer (sym first) tt)
    (All-cons HasShortAnswer b (c ∷ []) (subst HasShortAnswer (sym second) tt)
    (All-cons HasShortAnswer c [] (subst HasShortAnswer (sym third) short) (All-nil HasShortAnswer)))
in_line_short x (a ∷ b ∷ c ∷ d ∷ ws) rest more e acts others =
    let first : a ≡ Began = cc in
    let second : b ≡ Enlisted = cc in
    let third : c ≡ Left x = cc in
    let fourth : d ≡ Returned x = cc in
    let follow : ws ++ rest ≡ more = cc in
    let from_c = All-tail IsActShort b (c ∷ d ∷ ws) (All-tail IsActShort a (b ∷ c ∷ d ∷ ws) acts) in
    let short = left x c third (All-head IsActShort c (d ∷ ws) from_c) in
    let from_e = All-tail IsActShort d ws (All-tail IsActShort c (d ∷ ws) from_c) in
    All-cons HasShortAnswer a (b ∷ c ∷ d ∷ ws) (subst HasShortAnswer (sym first) tt)
    (All-cons HasShortAnswer b (c ∷ d ∷ ws) (subst HasShortAnswer (sym second) tt)
    (All-cons HasShortAnswer c (d ∷ ws) (subst HasShortAnswer (sym third) short)
    (All-cons HasShortAnswer d ws (subst HasShortAnswer (sym fourth) short) (others ws follow from_e))))

returned_short : (courses : List Course) (whats rest : List What) → whats ++ rest ≡ flat_map course courses
    → All IsActShort whats → All HasShortAnswer whats
returned_short courses [] rest e acts = All-nil HasShortAnswer
returned_short [] (w ∷ whats) rest e acts = absurd (cc)
returned_short (AtOnce x ∷ courses) (w ∷ whats) rest e acts =
    at_once_short x (w ∷ whats) rest (flat_map course courses) e acts
    (λ others follow short. returned_short courses others rest follow short)
returned_short (InLine x ∷ courses) (w ∷ whats) rest e acts =
    in_line_short x (w ∷ whats) rest (flat_map course courses) e acts
    (λ others follow short. returned_short courses others rest follow short)

-- ---- journals

-- what holds of those that pass a test holds of each that passes it
passed : {X : Type 0} (P : X → Type 0) (test : X → Bool) (xs : List X) → All P (filter test xs)
    → All (λ x. test x ≡ true → P x) xs
passed P test [] all = All-nil (λ x. test x ≡ true → P x)
passed P test (x ∷ xs) all = go (λ h. passed P test xs h) (test x) refl all
  where
    go : (All P (filter test xs) → All (λ y. test y ≡ true → P y) xs) → (b : Bool) → test x ≡ b
        → All P (cond b (x ∷ filter test xs) (filter test xs)) → All (λ y. test y ≡ true → P y) (x ∷ xs)
    go rest true e h =
        All-cons (λ y. test y ≡ true → P y) x xs (λ q. All-head P x (filter test xs) h)
        (rest (All-tail P x (filter test xs) h))
    go rest false e h =
        All-cons (λ y. test y ≡ true → P y) x xs (λ q. absurd (false≢true (sym e ∙ q))) (rest h)

-- what holds of all that they are mapped to
unmapped : {X Y : Type 0} (P : Y → Type 0) (f : X → Y) (xs : List X) → All P (map f xs) → All (λ x. P (f x)) xs
unmapped P f [] all = All-nil (λ x. P (f x))
unmapped P f (x ∷ xs) all =
    All-cons (λ y. P (f y)) x xs (All-head P (f x) (map f xs) all)
    (unmapped P f xs (All-tail P (f x) (map f xs) all))

-- the test of a track
abbrev is_of : ℕ → Entry → Bool
is_of a e = (e.agent == a) && not (is_stuck e.what)

track_short : (journal : List Entry) (a n : ℕ) → IsTrack n (track journal a)
    → All (λ (e : Entry). IsActShort e.what) journal
    → All (λ (e : Entry). is_of a e ≡ true → HasShortAnswer e.what) journal
track_short journal a n tracks acts =
    passed (λ (e : Entry). HasShortAnswer e.what) (is_of a) journal
    (unmapped HasShortAnswer (λ (e : Entry). e.what) (filter (is_of a) journal)
    (returned_short tracks.0 (track journal a) tracks.1 tracks.3
    (All-map IsActShort (λ (e : Entry). e.what) (filter (is_of a) journal)
    (All-filter (is_of a) (λ (e : Entry). IsActShort e.what) journal acts))))

-- each entry of a journal whose acts are a run, and whose agents' calls return what they answered
pub answer_short : (plan : PlanParts) (journal : List Entry) (S : State) (k : ℕ) (e : Entry)
    → length journal ≤ 2 ^ 20 → HasSafeNumbers plan → Reaches plan journal S
    → ((a : ℕ) → a < length plan.scripts → (n : ℕ) × IsTrack n (track journal a)) → e.agent < length plan.scripts
    → slice_get journal k ≡ Some e → HasShortAnswer e.what
answer_short plan journal S k e few safe r tracks named at = go e.what refl
  where
    acts : All (λ (f : Entry). IsActShort f.what) journal
    acts =
        passed (λ (f : Entry). HasShortAnswer f.what) (λ (f : Entry). is_act f.what) journal
        (Run-answers plan 0 (opening plan.lens) (acts_of journal) S (omega (arith, few, few_acts journal)) safe
        (opening_sound plan) r)

    its_act : IsActShort e.what
    its_act = All-at (λ (f : Entry). IsActShort f.what) journal k e acts at

    its_own : is_of e.agent e ≡ true → HasShortAnswer e.what
    its_own =
        let own = tracks e.agent named in
        All-at (λ (f : Entry). is_of e.agent f ≡ true → HasShortAnswer f.what) journal k e
        (track_short journal e.agent own.0 own.1 acts) at

    go : (w : What) → e.what ≡ w → HasShortAnswer w
    go Began is = tt
    go (Acted x) is = subst HasShortAnswer is (its_act (ap is_act is))
    go Enlisted is = tt
    go (Left x) is = subst HasShortAnswer is (its_act (ap is_act is))
    go (Returned x) is =
        let same : (e.agent == e.agent) ≡ true = eq-eqb e.agent e.agent refl in
        subst HasShortAnswer is
        (its_own (ap (λ b. b && not (is_stuck e.what)) same ∙ ap (λ w. not (is_stuck w)) is))
    go (Stuck why) is = tt
