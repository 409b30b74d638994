-- A lane has room for the text of each call.
use Rattle.std.proofs.Common.{◌≡◌, ℕ, ◌+◌, ◌*◌, ◌≤◌, List, [], ◌∷◌, length, map, max, refl, ap, ◌∙◌, All, add-one, arith}
use Rattle.std.proofs.Math.Nat.{mul-suc}
use Rattle.std.proofs.lemmas.List.Elements.{All-nil, All-cons}
use Rattle.sab_plan.specs.declared.call.Call.{Call}
use Rattle.sab_plan.specs.Script.{ScriptParts}
use Rattle.sab_plan.specs.Plan.{PlanParts}
use Rattle.sab_report_text.specs.Words.CallText.{call_text}
use Rattle.sab_svg.specs.Shape.{greatest, longest_in, longest_call, value_chars, lane_width, shape_of, HaveRoom}

-- what holds of everything with a number up to a bound holds of each element, where the greatest is within the bound
each : {A : Type 0} (P : A → Type 0) (f : A → ℕ) (bound : ℕ) → ((x : A) → f x ≤ bound → P x) → (xs : List A)
    → greatest (map f xs) ≤ bound → All P xs
each P f bound holds [] h = All-nil P
each P f bound holds (x ∷ xs) h =
    let both : max (f x) (greatest (map f xs)) ≤ bound = h in
    All-cons P x xs (holds x (omega (arith, both))) (each P f bound holds xs (omega (arith, both)))

-- a text in a lane that is 40 wider than it
within : (lane a n most more : ℕ) → n ≤ most → lane ≡ 8 * max most more + 40
    → 68 + lane * a + 14 + 8 * n + 8 ≤ 68 + lane * (a + 1)
within lane a n most more h e =
    let next : lane * (a + 1) ≡ lane * a + lane = ap (λ (k : ℕ). lane * k) (add-one a) ∙ mul-suc lane a in
    rw next (omega (arith, h, e))

pub calls_have_room : (names : List (List ℕ)) (plan : PlanParts) (rows : ℕ)
    → HaveRoom names plan (shape_of names plan rows)
calls_have_room names plan rows a =
    let most = longest_call names plan in
    each _ (longest_in names) most (λ (script : ScriptParts) h. each _ (λ (call : Call). length (call_text names call))
    most (λ (call : Call) k. within (lane_width names plan) a (length (call_text names call)) most (value_chars plan + 7) k
    refl) script.calls h) plan.scripts (omega arith)
