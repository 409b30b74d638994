-- Where an agent stands, and that it stands in one way.
use Rattle.std.proofs.Common.{◌≡◌, ℕ, Bool, true, false, List, Option, Some, refl, ap, sym, ◌∙◌, subst, MatchBool}
use Rattle.std.specs.List.{list_any}
use Rattle.sab_plan.specs.declared.place.Place.{Place}
use Rattle.sab_plan.specs.declared.call.Call.{Call}
use Rattle.sab_plan.specs.declared.entry.Entry.{Entry}
use Rattle.sab_plan.specs.Plan.{PlanParts, call_of}
use Rattle.sab_object.specs.Object.{State, stands}
use Rattle.sab_plan.specs.Journal.{returned_of}
use Rattle.sab_sim.specs.Run.{Reaches}
use Rattle.sab_object.proofs.OnlyAct.{one_value}
use Rattle.sab_sim.proofs.PlaceLine.{Reaches-one}
use Rattle.sab_plan.specs.declared.standing.Standing.{Standing}
use Rattle.sab_plan.specs.declared.standing.At.{At}
use Rattle.sab_plan.specs.declared.standing.At.TheVariants as T
use Rattle.sab_replay.specs.Explain.Fact.{place_named, IsWaker}
use Rattle.sab_replay.specs.Explain.Standing.{notifies, entries_after, what_at, by_last, IsAt, IsStanding}
use Rattle.sab_replay.proofs.OfExplain.LastOnes.{IsLast-one}
use Rattle.sab_replay.proofs.OfExplain.OneFact.{IsWaker-one}

-- ---- by what is known of the agent

pub at_waits : (plan : PlanParts) (journal : List Entry) (S : State) (a : ℕ) (place : Option Place) (since : Option ℕ)
    (n : Bool)
    → stands S a ≡ true → n ≡ list_any (notifies plan place) (entries_after journal since)
    → IsAt plan journal S a place since (T.Waits n)
at_waits plan journal S a place since n s e = rw (s, e) refl

pub at_woken : (plan : PlanParts) (journal : List Entry) (S : State) (a : ℕ) (place : Option Place) (since : Option ℕ)
    (j : ℕ)
    → stands S a ≡ false → S.notified a ≡ true → IsWaker plan journal a j
    → IsAt plan journal S a place since (T.Woken j)
at_woken plan journal S a place since j s n w = rw (s, n) (j, w, refl)

pub at_last : (plan : PlanParts) (journal : List Entry) (S : State) (a : ℕ) (place : Option Place) (since : Option ℕ)
    (at : At)
    → stands S a ≡ false → S.notified a ≡ false → at ≡ by_last (what_at journal since)
    → IsAt plan journal S a place since at
at_last plan journal S a place since at s n e = rw (s, n) e

-- ---- in one way

IsAt-one : (plan : PlanParts) (journal : List Entry) (S : State) (a : ℕ) (place : Option Place) (since : Option ℕ)
    (at at' : At)
    → Reaches plan journal S → IsAt plan journal S a place since at → IsAt plan journal S a place since at' → at ≡ at'
IsAt-one plan journal S a place since at at' r h g = go (stands S a) (S.notified a) h g
  where
    Woken : At → Type 0
    Woken x = (j : ℕ) × IsWaker plan journal a j × (x ≡ T.Woken j)

    waits : At
    waits = T.Waits (list_any (notifies plan place) (entries_after journal since))

    go : (s n : Bool) → MatchBool s (at ≡ waits) (MatchBool n (Woken at) (at ≡ by_last (what_at journal since)))
        → MatchBool s (at' ≡ waits) (MatchBool n (Woken at') (at' ≡ by_last (what_at journal since))) → at ≡ at'
    go true n p q = p ∙ sym q
    go false true p q = p.2 ∙ (ap (λ (j : ℕ). T.Woken j) (IsWaker-one plan journal S a p.0 q.0 r p.1 q.1) ∙ sym q.2)
    go false false p q = p ∙ sym q

pub IsStanding-one : (plan : PlanParts) (journal : List Entry) (a : ℕ) (s t : Standing) → IsStanding plan journal a s
    → IsStanding plan journal a t → s ≡ t
IsStanding-one plan journal a s t p q =
    let calls : s.call ≡ t.call =
    one_value (call_of plan a (returned_of journal a)) s.call t.call (sym p.call) (sym q.call) in
    let places : s.place ≡ t.place = p.place ∙ (ap (λ (c : Call). place_named plan (Some c)) calls ∙ sym q.place) in
    let sinces : s.since ≡ t.since = IsLast-one journal a s.since t.since p.since q.since in
    let states : q.state ≡ p.state = Reaches-one plan journal q.state p.state q.state_is p.state_is in
    let one = subst (λ (S : State). IsAt plan journal S a t.place t.since t.at) states q.at in
    let two = subst (λ (x : Option Place). IsAt plan journal p.state a x t.since t.at) (sym places) one in
    let three = subst (λ (n : Option ℕ). IsAt plan journal p.state a s.place n t.at) (sym sinces) two in
    let ats : s.at ≡ t.at = IsAt-one plan journal p.state a s.place s.since s.at t.at p.state_is p.at three in
    ap (λ (c : Call). record { call = c; place = s.place; since = s.since; at = s.at }) calls
    ∙ (ap (λ (x : Option Place). record { call = t.call; place = x; since = s.since; at = s.at }) places
    ∙ (ap (λ (n : Option ℕ). record { call = t.call; place = t.place; since = n; at = s.at }) sinces
    ∙ ap (λ (x : At). record { call = t.call; place = t.place; since = t.since; at = x }) ats))
