-- The facts of a report's entries, and where its agents stand, have short numbers.
use Rattle.std.proofs.Common.{◌≡◌, ℕ, ◌+◌, ◌*◌, ◌^◌, ◌<◌, ◌≤◌, Bool, true, false, MatchBool, nat_lt, ℤ, pos, negsuc, List, [], ◌∷◌, ◌++◌, length, take, Option, Some, None, IfSome, All, refl, sym, subst, arith}
use Rattle.std.specs.Prelude.{slice_get, option_map, filter, codes}
use Rattle.std.specs.List.{list_any}
use Rattle.serde_json.specs.Data.{no_members}
use Rattle.sab_block.specs.declared.check.Check.{Check}
use borrow.Author.Tests.{ltb-true}
use Rattle.std.proofs.lemmas.Option.{slice_get_within, cond_some}
use Rattle.std.proofs.lemmas.List.Elements.{All-head, All-tail, All-map, All-filter, All-take}
use Rattle.std.proofs.Math.Nat.{mul-le-mul_right}
use Rattle.sab_block.specs.declared.operand.Operand.{Operand}
use Rattle.sab_block.specs.declared.access.Access.TheVariants as X
use Rattle.sab_block.specs.declared.view.View.{View}
use Rattle.sab_block.specs.Kind.{element_size}
use Rattle.sab_block.specs.View.{kind_of, block_len_of, offset_of, len_of, place}
use Rattle.sab_plan.specs.declared.call.Call.{Call}
use Rattle.sab_plan.specs.declared.call.Call.TheVariants as C
use Rattle.sab_plan.specs.declared.plan_view.PlanView.{PlanView}
use Rattle.sab_plan.specs.Call.{view_of, index_of}
use Rattle.sab_plan.specs.Plan.{PlanParts, IsPlan}
use Rattle.sab_plan.specs.declared.place.Place.{Place}
use Rattle.sab_plan.specs.declared.answer.Answer.TheVariants as A
use Rattle.sab_plan.specs.declared.entry.Why.TheVariants as Y
use Rattle.sab_plan.specs.declared.entry.What.{What}
use Rattle.sab_plan.specs.declared.entry.What.TheVariants.{Began, Acted, Enlisted, Left, Stuck}
use Rattle.sab_plan.specs.declared.entry.Entry.{Entry}
use Rattle.sab_plan.specs.declared.waiter.Waiter.{Waiter}
use Rattle.sab_object.specs.Object.{State, is_at, waiters, stands}
use Rattle.sab_sim.specs.Run.{Reaches}
use Rattle.sab_plan.specs.declared.fact.Found.{Found}
use Rattle.sab_plan.specs.declared.fact.Found.TheVariants as F
use Rattle.sab_plan.specs.declared.fact.Fact.{Fact}
use Rattle.sab_plan.specs.declared.standing.At.{At}
use Rattle.sab_plan.specs.declared.standing.At.TheVariants as T
use Rattle.sab_plan.specs.declared.standing.Standing.{Standing}
use Rattle.sab_replay.specs.Explain.Fact.{place_on, place_named, IsLast, value_in, found_by, IsOfAct, IsOfWoken, IsWaker, Finds}
use Rattle.sab_replay.specs.Explain.Standing.{IsAt, by_last, what_at, notifies, entries_after, IsStanding}
use Rattle.sab_report_text.specs.JsonLines.CallData.{natural, operand_data}
use Rattle.sab_report_text.specs.JsonLines.FactData.{place_data, agent_items, found_data}
use Rattle.sab_report_text.specs.JsonLines.StandingData.{notified_in, waker_in, standing_data}
use Rattle.sab_report_text.specs.JsonLines.SafeNumbers.{HasSafeNumbers}
use Rattle.sab_report_text.proofs.OfJsonLines.ShortNumbers.{HasShortNumbers, ItemsHaveShortNumbers, short_if}
use Rattle.sab_report_text.proofs.OfJsonLines.ShortCalls.{All-at, call_short, call_safe}
use Rattle.sab_report_text.proofs.OfJsonLines.ShortElements.{element_short}
use Rattle.sab_replay.proofs.OfReport.RunStates.{block_bytes, length-waiters, Reaches-sound}

-- ---- places

-- the place of an element is inside its block
place_within : (view : View) (index : ℤ) (p : ℕ) → place view index ≡ Some p → p ≤ block_len_of view
place_within view (pos i) p e =
    let is = cond_some (nat_lt i (len_of view)) (offset_of view + i * element_size (kind_of view)) p e in
    let within : i + 1 ≤ len_of view = omega (arith, ltb-true i (len_of view) is.0) in
    let whole : offset_of view + len_of view * element_size (kind_of view) ≤ block_len_of view = view.inside in
    let most = mul-le-mul_right (element_size (kind_of view)) within in
    omega (arith, is.1, most, whole)
place_within view (negsuc i) p e = absurd (cc)

-- a plan's view has a short block number, and is of a short block
record IsShortView (v : PlanView) : Type 0 where
  block : v.block < 2 ^ 64
  len : block_len_of v.view < 2 ^ 64

view_short : (plan : PlanParts) (n : ℕ) (v : PlanView) → IsPlan plan → slice_get plan.views n ≡ Some v → IsShortView v
view_short plan n v is_plan e =
    let there = All-at (λ (w : PlanView). slice_get plan.lens w.block ≡ Some (block_len_of w.view)) plan.views n v
    is_plan.views.lens e in
    let within = slice_get_within plan.lens v.block (block_len_of v.view) there in
    let few = All-at (λ (len : ℕ). len ≤ 65536) plan.lens v.block (block_len_of v.view) is_plan.limits.bytes there in
    record {
      block = omega (arith, within, is_plan.limits.blocks);
      len = omega (arith, few);
    }

place_on_short : (plan : PlanParts) (n : ℕ) (o : Option PlanView) (call : Call) → IsPlan plan
    → slice_get plan.views n ≡ o → IfSome (option_map place_data (place_on o call)) HasShortNumbers
unfolding place_data
place_on_short plan n None call is_plan e = tt
place_on_short plan n (Some v) call is_plan e = go (place v.view (index_of call)) refl
  where
    go : (o : Option ℕ) → place v.view (index_of call) ≡ o
        → IfSome (option_map place_data (option_map (λ byte. record { block = v.block; byte = byte }) o)) HasShortNumbers
    go None i = tt
    go (Some p) i =
        let short = view_short plan n v is_plan e in
        let within = place_within v.view (index_of call) p i in
        (short.block, (omega (arith, within, short.len), tt))

pub place_short : (plan : PlanParts) (o : Option Call) (p : Option Place) → IsPlan plan → p ≡ place_named plan o
    → IfSome (option_map place_data p) HasShortNumbers
place_short plan None p is_plan e =
    subst (λ (q : Option Place). IfSome (option_map place_data q) HasShortNumbers) (sym e) tt
place_short plan (Some call) p is_plan e =
    subst (λ (q : Option Place). IfSome (option_map place_data q) HasShortNumbers) (sym e)
    (place_on_short plan (view_of call) (slice_get plan.views (view_of call)) call is_plan refl)

-- ---- positions

pub since_short : (journal : List Entry) (a : ℕ) (o : Option ℕ) → length journal ≤ 2 ^ 20 → IsLast journal a o
    → IfSome (option_map natural o) HasShortNumbers
since_short journal a None few last = tt
since_short journal a (Some j) few last =
    let within = slice_get_within journal j last.0.0 last.0.1 in
    omega (arith, within, few)

-- ---- what was found

agents_short : (agents : List ℕ) → All (λ a. a < 2 ^ 64) agents → ItemsHaveShortNumbers (agent_items agents)
agents_short [] h = tt
agents_short (a ∷ agents) h =
    (All-head (λ b. b < 2 ^ 64) a agents h, agents_short agents (All-tail (λ b. b < 2 ^ 64) a agents h))

found_by_short : (what : What) (call : Call) (before after : Operand) (expected : Bool) (line : List ℕ)
    → HasShortNumbers (operand_data before) → HasShortNumbers (operand_data after) → length line < 2 ^ 64
    → All (λ a. a < 2 ^ 64) line → IfSome (found_data (found_by what call before after expected line)) HasShortNumbers
unfolding found_data
found_by_short (Acted (A.Value x)) (C.Access n (X.Load index)) before after expected line b a few all = (b, tt)
found_by_short (Acted (A.Value x)) (C.Access n (X.CompareExchange index y z)) before after expected line b a few all =
    (a, (b, (tt, tt)))
found_by_short (Acted (A.Value x)) (C.Access n access) before after expected line b a few all = (a, (b, tt))
found_by_short (Acted (A.Count k)) (C.Notify n index count) before after expected line b a few all =
    (few, (agents_short (take k line) (All-take (λ c. c < 2 ^ 64) k line all), tt))
found_by_short (Acted A.NotEqual) (C.Wait n index y timeout) before after expected line b a few all = (b, tt)
found_by_short Enlisted (C.Wait n index y timeout) before after expected line b a few all =
    (agents_short line all, tt)
found_by_short what call before after expected line b a few all = tt

abbrev IsShortFound : Found → Type 0
IsShortFound found = IfSome (found_data found) HasShortNumbers

act_short : (plan : PlanParts) (journal : List Entry) (S : State) (e : Entry) (T : State) (fact : Fact) → IsPlan plan
    → length journal ≤ 2 ^ 20 → Reaches plan journal S → Reaches plan (journal ++ e ∷ []) T
    → IsOfAct plan S e T fact → IsShortFound fact.found
act_short plan journal S e T fact is_plan few r t act =
    let old = Reaches-sound plan journal S r in
    let new = Reaches-sound plan (journal ++ e ∷ []) T t in
    let line = waiters act.place S.line in
    let its = λ (w : Waiter). w.agent in
    subst IsShortFound (sym act.found_is)
    (found_by_short e.what act.call (value_in S act.view act.place) (value_in T act.view act.place) _ line
    (element_short act.view.view _ act.place.byte (block_bytes S.mem act.view.block old.bytes))
    (element_short act.view.view _ act.place.byte (block_bytes T.mem act.view.block new.bytes))
    (omega (arith, length-waiters act.place S.line, old.line, few))
    (All-map (λ a. a < 2 ^ 64) its (filter (is_at act.place) S.line)
    (All-filter (is_at act.place) (λ (w : Waiter). w.agent < 2 ^ 64) S.line
    (λ k d h. let named = old.named k d h in omega (arith, named, is_plan.limits.agents)))))

woken_short : (plan : PlanParts) (journal : List Entry) (e : Entry) (fact : Fact) → length journal ≤ 2 ^ 20
    → IsOfWoken plan journal e fact → IsShortFound fact.found
unfolding found_data
woken_short plan journal e fact few woken =
    subst IsShortFound (sym woken.2) (let within = woken.1.within in omega (arith, within, few), tt)

nothing_short : (found : Found) → found ≡ F.Nothing → IsShortFound found
unfolding found_data
nothing_short found e = subst IsShortFound (sym e) tt

failed_short : (found : Found) (check : Check) → found ≡ F.Failed check → IsShortFound found
unfolding found_data
failed_short found check e = subst IsShortFound (sym e) (tt, tt)

waited_short : (found : Found) → found ≡ F.Waited → IsShortFound found
unfolding found_data
waited_short found e = subst IsShortFound (sym e) (tt, tt)

pub finds_short : (plan : PlanParts) (journal : List Entry) (S : State) (e : Entry) (T : State) (fact : Fact)
    (what : What) → IsPlan plan → length journal ≤ 2 ^ 20 → Reaches plan journal S
    → Reaches plan (journal ++ e ∷ []) T → Finds plan journal S e T fact what → IsShortFound fact.found
finds_short plan journal S e T fact (Acted (A.Value x)) is_plan few r t f =
    act_short plan journal S e T fact is_plan few r t f
finds_short plan journal S e T fact (Acted (A.Count k)) is_plan few r t f =
    act_short plan journal S e T fact is_plan few r t f
finds_short plan journal S e T fact (Acted A.NotEqual) is_plan few r t f =
    act_short plan journal S e T fact is_plan few r t f
finds_short plan journal S e T fact (Acted (A.Threw x)) is_plan few r t f = failed_short fact.found f.check f.found_is
finds_short plan journal S e T fact Enlisted is_plan few r t f = act_short plan journal S e T fact is_plan few r t f
finds_short plan journal S e T fact (Left A.Woken) is_plan few r t f = woken_short plan journal e fact few f
finds_short plan journal S e T fact (Left A.TimedOut) is_plan few r t f = waited_short fact.found f.0
finds_short plan journal S e T fact (Stuck Y.Waiting) is_plan few r t f = waited_short fact.found f.0
finds_short plan journal S e T fact (Stuck Y.Endless) is_plan few r t f = waited_short fact.found f.0
finds_short plan journal S e T fact (Stuck Y.NotWaiting) is_plan few r t f = go (S.notified e.agent) f
  where
    go : (b : Bool) → MatchBool b (IsOfWoken plan journal e fact) (fact.found ≡ F.Nothing) → IsShortFound fact.found
    go true woken = woken_short plan journal e fact few woken
    go false nothing = nothing_short fact.found nothing
finds_short plan journal S e T fact what is_plan few r t f = nothing_short fact.found f

-- ---- where agents stand

waker_short : (at : At) (k n : ℕ) → at ≡ T.Woken k → k < n → n ≤ 2 ^ 20 → IfSome (waker_in at) HasShortNumbers
waker_short at k n e within few =
    subst (λ (x : At). IfSome (waker_in x) HasShortNumbers) (sym e) (let short : k < 2 ^ 64 = omega arith in short)

last_short : (w : Option What) → IfSome (waker_in (by_last w)) HasShortNumbers
last_short None = tt
last_short (Some Began) = tt
last_short (Some (Acted x)) = tt
last_short (Some (Left x)) = tt
last_short (Some what) = tt

at_short : (plan : PlanParts) (journal : List Entry) (S : State) (a : ℕ) (place : Option Place) (since : Option ℕ)
    (at : At) → length journal ≤ 2 ^ 20 → IsAt plan journal S a place since at
    → IfSome (waker_in at) HasShortNumbers
at_short plan journal S a place since at few is = go (stands S a) (S.notified a) is
  where
    go : (b c : Bool) → MatchBool b
        (at ≡ T.Waits (list_any (notifies plan place) (entries_after journal since))) (MatchBool c ((j : ℕ) × IsWaker plan journal a j × (at ≡ T.Woken j))
        (at ≡ by_last (what_at journal since))) → IfSome (waker_in at) HasShortNumbers
    go true c e = subst (λ (x : At). IfSome (waker_in x) HasShortNumbers) (sym e) tt
    go false true woken = waker_short at woken.0 (length journal) woken.2 woken.1.within few
    go false false e =
        subst (λ (x : At). IfSome (waker_in x) HasShortNumbers) (sym e) (last_short (what_at journal since))

notified_short : (at : At) → IfSome (notified_in at) HasShortNumbers
notified_short T.Ready = tt
notified_short T.Begun = tt
notified_short (T.Waits notified) = tt
notified_short (T.Woken k) = tt
notified_short T.Answered = tt

pub standing_short : (names : List (List ℕ)) (plan : PlanParts) (journal : List Entry) (a : ℕ) (s : Standing)
    → IsPlan plan → HasSafeNumbers plan → length journal ≤ 2 ^ 20 → IsStanding plan journal a s
    → HasShortNumbers (standing_data names s)
unfolding standing_data
standing_short names plan journal a s is_plan safe few is =
    let call = call_short names s.call (call_safe plan a _ s.call safe (sym is.call)) in
    let woken = at_short plan journal is.state a s.place s.since s.at few is.at in (
      tt,
      (
        call,
        short_if (codes "notified") (notified_in s.at) _ (notified_short s.at)
            (short_if (codes "place") (option_map place_data s.place) _
            (place_short plan (Some s.call) s.place is_plan is.place)
            (short_if (codes "since") (option_map natural s.since) _ (since_short journal a s.since few is.since)
            (short_if (codes "woken_by") (waker_in s.at) no_members woken tt))),
      ),
    )
