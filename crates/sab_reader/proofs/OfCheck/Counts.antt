-- How many calls agents have.
use Rattle.std.proofs.Common.{◌≡◌, ℕ, ◌+◌, ◌*◌, ◌<◌, ◌≤◌, List, [], ◌∷◌, length, drop, get_or, refl, arith, add-one, drop-cons, All}
use Rattle.std.proofs.lemmas.List.Elements.{All-head, All-tail}
use Rattle.std.proofs.Math.Seq.{drop-length}
use Rattle.sab_plan.specs.Script.{ScriptParts}
use Rattle.sab_reader.specs.Check.Text.{count_calls}

-- no agent has many
pub few_calls : (ss : List ScriptParts) → All (λ (s : ScriptParts). length s.calls ≤ 1000) ss
    → count_calls ss ≤ 1000 * length ss
few_calls [] h = omega arith
few_calls (s ∷ ss) h =
    let one = All-head (λ (s : ScriptParts). length s.calls ≤ 1000) s ss h in
    let rest = few_calls ss (All-tail (λ (s : ScriptParts). length s.calls ≤ 1000) s ss h) in
    omega (arith, one, rest)

-- the calls of the agents from one on
pub calls_from : (ss : List ScriptParts) (i : ℕ) (s : ScriptParts) → i < length ss → s ≡ get_or ss i s
    → count_calls (drop i ss) ≡ length s.calls + count_calls (drop (i + 1) ss)
calls_from ss i s lt e = rw (drop-cons ss i s, ← e, add-one) refl

-- and of those behind the last
pub calls_none : (ss : List ScriptParts) (i : ℕ) → i ≡ length ss → count_calls (drop i ss) ≡ 0
calls_none ss i e = rw (e, drop-length ss) refl
