-- The first move that is refused decides.
use Rattle.std.proofs.Common.{◌≡◌, ◌⊎◌, inl, inr, ℕ, suc, ◌^◌, ◌<◌, ◌≤◌, true, false, List, ◌∷◌, length, drop, slice_index_or, Some, Result, Ok, Err, refl, ap, sym, subst, ◌∙◌, arith, rules, add-one, nat_le}
use Rattle.std.specs.Prelude.{IsOkUnless}
use Rattle.std.proofs.Math.Seq.{drop-cons, take-suc}
use Rattle.std.proofs.lemmas.Bool.{cases_lt, lt-leb, le-leb}
use Rattle.sab_plan.specs.declared.schedule.Move.{Move}
use Rattle.sab_plan.specs.declared.schedule.Move.TheVariants.{Step}
use Rattle.sab_sim.specs.declared.sim_fault.SimFault.{SimFault}
use Rattle.sab_sim.specs.declared.sim_fault.SimFault.TheVariants.{NoAgent, Full, OutOfMemory}
use Rattle.sab_plan.specs.Schedule.{agent_of}
use Rattle.sab_plan.specs.Plan.{PlanParts}
use Rattle.sab_sim.specs.Fits.{IsRefusal, first_refusal}
use Rattle.sab_sim.specs.Sim.{SimParts}
use Rattle.sab_sim.proofs.runner.replay.Goals as goal

-- a move that names no agent
first_refusal-no_agent : (n k : ℕ) (m : Move) (ms : List Move) → n ≤ agent_of m
    → first_refusal n k (m ∷ ms) ≡ Some NoAgent
first_refusal-no_agent n k m ms h = let a : nat_le n (agent_of m) ≡ true = le-leb n (agent_of m) h in rw a refl

-- a move of an agent, where the journal is full
first_refusal-full : (n k : ℕ) (m : Move) (ms : List Move) → agent_of m < n → 2 ^ 20 ≤ k
    → first_refusal n k (m ∷ ms) ≡ Some Full
first_refusal-full n k m ms h l =
    let a : nat_le n (agent_of m) ≡ false = lt-leb n (agent_of m) h in
    let b : nat_le (2 ^ 20) k ≡ true = le-leb (2 ^ 20) k l in
    rw (a, b) refl

-- a move that is made
first_refusal-made : (n k : ℕ) (m : Move) (ms : List Move) → agent_of m < n → k < 2 ^ 20
    → first_refusal n k (m ∷ ms) ≡ first_refusal n (suc k) ms
first_refusal-made n k m ms h l =
    let a : nat_le n (agent_of m) ≡ false = lt-leb n (agent_of m) h in
    let b : nat_le (2 ^ 20) k ≡ false = lt-leb (2 ^ 20) k l in
    rw (a, b) refl

-- the first move that is left
first_refusal-left : (n i : ℕ) (schedule : List Move) → i < length schedule
    → first_refusal n i (drop i schedule) ≡ first_refusal n i
    (slice_index_or schedule i (Step 0) ∷ drop (suc i) schedule)
first_refusal-left n i schedule h = ap (first_refusal n i) (drop-cons schedule i (Step 0) h)

-- a move that is refused calls for its fault
refused : (n i : ℕ) (schedule : List Move) (r : Result (Unit {0}) SimFault) (fault : SimFault) → i < length schedule
    → i ≤ 2 ^ 20 → r ≡ Err fault
    → (n ≤ agent_of (slice_index_or schedule i (Step 0)) → r ≡ Err NoAgent)
    → (agent_of (slice_index_or schedule i (Step 0)) < n → i ≡ 2 ^ 20 → r ≡ Err Full)
    → (agent_of (slice_index_or schedule i (Step 0)) < n → i < 2 ^ 20 → IsOkUnless r OutOfMemory)
    → (fault ≡ OutOfMemory) ⊎ (first_refusal n i (drop i schedule) ≡ Some fault)
refused n i schedule r fault there few is no_agent full memory =
    let m = slice_index_or schedule i (Step 0) in
    elim (cases_lt (agent_of m) n) [
      | inl named ↦ elim (cases_lt i (2 ^ 20)) [
        | inl room ↦ inl (rw is at (memory named room))
        | inr above ↦
            let f : r ≡ Err Full = full named (omega arith) in
            let same : Full ≡ fault = cc in
            inr (first_refusal-left n i schedule there
            ∙ (first_refusal-full n i m (drop (suc i) schedule) named above ∙ ap (λ (x : SimFault). Some x) same))
      ]
      | inr none ↦
          let f : r ≡ Err NoAgent = no_agent none in
          let same : NoAgent ≡ fault = cc in
          inr (first_refusal-left n i schedule there
          ∙ (first_refusal-no_agent n i m (drop (suc i) schedule) none ∙ ap (λ (x : SimFault). Some x) same))
    ]

-- a move that is made calls for none
made : (n i : ℕ) (schedule : List Move) (r : Result (Unit {0}) SimFault) (x : Unit {0}) → i < length schedule
    → i < 2 ^ 20 → r ≡ Ok x
    → (n ≤ agent_of (slice_index_or schedule i (Step 0)) → r ≡ Err NoAgent)
    → first_refusal n i (drop i schedule) ≡ first_refusal n (suc i) (drop (suc i) schedule)
made n i schedule r x there room is no_agent =
    let m = slice_index_or schedule i (Step 0) in
    elim (cases_lt (agent_of m) n) [
      | inl named ↦ first_refusal-left n i schedule there ∙ first_refusal-made n i m (drop (suc i) schedule) named room
      | inr none ↦ absurd (let f : r ≡ Err NoAgent = no_agent none in cc)
    ]

pub returns-in_err-step-clause-refused : goal.returns-in_err-step-clause-refused
returns-in_err-step-clause-refused c =
    let at = c.loop-m in
    let few = subst (λ (t : SimParts). length t.journal ≤ 2 ^ 20) (c.sim.view_is ∙ c.in_err-step.ensures.err)
    c.sim.invariant.0.few in
    let agents : length at.sim.plan.scripts ≡ length c.args.plan.scripts =
    ap (λ (p : PlanParts). length p.scripts) at.invariant.plan in
    let cases = refused (length c.args.plan.scripts) at.m-index c.args.schedule.now c.step.result
    c.in_err-step.field-0.0 c.loop-m-test.true (omega (arith, few, at.invariant.len)) c.in_err-step.was
    (λ h. c.step.ensures.no_agent (omega (arith, h, agents)))
    (λ h k. c.step.ensures.full (omega (arith, h, agents)) (at.invariant.len ∙ k))
    (λ h k. c.step.ensures.memory (omega (arith, h, agents)) (omega (arith, k, at.invariant.len))) in
    let refusal : IsRefusal c.args.plan c.args.schedule.now c.in_err-step.field-0.0 =
    elim cases [ inl e ↦ inl e | inr e ↦ inr (sym at.invariant.rest ∙ e) ] in
    search (rules, refusal)

pub loop-m-preserved : goal.loop-m-preserved
loop-m-preserved c =
    let at = c.loop-m in
    let few =
    subst (λ (t : SimParts). length t.journal ≤ 2 ^ 20) c.sim.view_is c.sim.invariant.0.few in
    let agents : length at.sim.plan.scripts ≡ length c.args.plan.scripts =
    ap (λ (p : PlanParts). length p.scripts) at.invariant.plan in
    let next = made (length c.args.plan.scripts) at.m-index c.args.schedule.now c.step.result c.in_ok-step.field-0
    c.loop-m-test.true (omega (arith, few, c.in_ok-step.ensures.longer, at.invariant.len)) c.in_ok-step.was
    (λ h. c.step.ensures.no_agent (omega (arith, h, agents))) in
    record {
      plan = search rules;
      moves =
          rw add-one (c.in_ok-step.ensures.moves
          ∙ (rw at.invariant.moves (sym (take-suc c.args.schedule.now at.m-index (Step 0) c.loop-m-test.true))));
      len = search rules;
      rest = rw add-one (sym next ∙ at.invariant.rest);
    }
