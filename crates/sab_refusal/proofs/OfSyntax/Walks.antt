-- Going over a text, one byte after another.
use Rattle.std.proofs.Common.{◌≡◌, ℕ, suc, ◌+◌, ◌-◌, ◌<◌, ◌≤◌, Bool, true, false, cond, ◌&&◌, List, [], ◌∷◌, ◌++◌, length, take, drop, get_or, Option, Ok, Err, refl, sym, ap, ap₂, ◌∙◌, subst, arith, add-one, drop-cons}
use Rattle.std.proofs.lemmas.List.{take_more, length-drop, get_or-drop}
use Rattle.std.proofs.Math.Seq.{drop-length}
use Rattle.sab_refusal.specs.declared.syntax.fault.Fault.TheVariants.{NotUtf8}
use Rattle.sab_refusal.specs.declared.syntax.reader.Reader.{Reader}
use Rattle.sab_refusal.specs.declared.syntax.reader.Slip.{Slip}
use Rattle.sab_refusal.specs.declared.syntax.stop.Stop.{Stop}
use Rattle.sab_refusal.specs.declared.syntax.stop.Stop.TheVariants.{Token, End}
use Rattle.sab_refusal.specs.Syntax.Number.{is_in_range}
use Rattle.sab_refusal.specs.Syntax.Reader.{Step, step, is_between, is_in_string}
use Rattle.sab_refusal.specs.Syntax.Stop.{is_place, stop_at, start_after, token_after, stop_by, walk}

-- the bytes of a token that began there
abbrev pub so_far : List ℕ → ℕ → ℕ → List ℕ
so_far text start at = take (at - start) (drop start text)

abbrev pub walk_at : List ℕ → Option ℕ → Reader → ℕ → ℕ → Stop
walk_at text broken r start at = walk broken r start (so_far text start at) at (drop at text)

-- the next byte
next_is : (text : List ℕ) (at b : ℕ) → at < length text → b ≡ get_or text at 0 → drop at text ≡ b ∷ drop (at + 1) text
next_is text at b lt e =
    drop-cons text at 0 lt ∙ ap (λ c. c ∷ drop (suc at) text) (sym e) ∙ ap (λ n. b ∷ drop n text) (sym (add-one at))

walk-step : (text : List ℕ) (broken : Option ℕ) (r : Reader) (start at b : ℕ) → at < length text → b ≡ get_or text at 0
    → walk_at text broken r start at
    ≡ cond (is_place broken at && is_in_string r.inside) (Token start NotUtf8)
    (stop_by (λ r' start' token'. walk broken r' start' token' (suc at) (drop (at + 1) text)) (step is_in_range r
    (so_far text start at) b) start (so_far text start at) at b)
unfolding walk
walk-step text broken r start at b lt e = ap (λ bs. walk broken r start (so_far text start at) at bs)
    (next_is text at b lt e)

pub walk_broken : (text : List ℕ) (broken : Option ℕ) (r : Reader) (start at b : ℕ) (s : Stop) → at < length text
    → b ≡ get_or text at 0
    → walk_at text broken r start at ≡ s → (is_place broken at && is_in_string r.inside) ≡ true
    → Token start NotUtf8 ≡ s
walk_broken text broken r start at b s lt e so t =
    sym (walk-step text broken r start at b lt e
    ∙ ap (λ c. cond c (Token start NotUtf8) (stop_by (λ r' start' token'. walk broken r' start' token' (suc at)
    (drop (at + 1) text)) (step is_in_range r (so_far text start at) b) start (so_far text start at) at b)) t)
    ∙ so

walk_by : (text : List ℕ) (broken : Option ℕ) (r : Reader) (start at b : ℕ) (s : Stop) (did : Step)
    → at < length text → b ≡ get_or text at 0
    → walk_at text broken r start at ≡ s → (is_place broken at && is_in_string r.inside) ≡ false
    → step is_in_range r (so_far text start at) b ≡ did
    → stop_by (λ r' start' token'. walk broken r' start' token' (suc at) (drop (at + 1) text)) did start
    (so_far text start at) at b ≡ s
walk_by text broken r start at b s did lt e so t d =
    let go = λ (u : Step). stop_by (λ r' start' token'. walk broken r' start' token' (suc at) (drop
    (at + 1) text)) u start (so_far text start at) at b in
    sym (walk-step text broken r start at b lt e
    ∙ ap (λ c. cond c (Token start NotUtf8) (go (step is_in_range r (so_far text start at) b))) t ∙ ap go d) ∙ so

pub walk_slip : (text : List ℕ) (broken : Option ℕ) (r : Reader) (start at b : ℕ) (s : Stop) (slip : Slip)
    → at < length text → b ≡ get_or text at 0
    → walk_at text broken r start at ≡ s → (is_place broken at && is_in_string r.inside) ≡ false
    → step is_in_range r (so_far text start at) b ≡ Err slip
    → stop_at slip start at ≡ s
walk_slip text broken r start at b s slip lt e so t d = walk_by text broken r start at b s (Err slip) lt e so t d

-- the token with one byte more
one_more : (text : List ℕ) (start at b : ℕ) → start ≤ at → at < length text → b ≡ get_or text at 0
    → so_far text start at ++ b ∷ [] ≡ so_far text start (at + 1)
one_more text start at b le lt e =
    let k = at - start in
    let there : start + k ≡ at = omega arith in
    let same : get_or (drop start text) k 0 ≡ b = get_or-drop start text k 0 ∙ ap (λ n. get_or text n 0) there
    ∙ sym e in
    let n_is : at + 1 - start ≡ k + 1 = omega arith in
    sym (ap (λ n. take n (drop start text)) n_is
    ∙ take_more (drop start text) k 0 (omega (arith, length-drop start text))
    ∙ ap (λ c. take k (drop start text) ++ c ∷ []) same)

pub walk_on : (text : List ℕ) (broken : Option ℕ) (r : Reader) (start at b : ℕ) (s : Stop) (r' : Reader)
    → start ≤ at → at < length text → b ≡ get_or text at 0
    → walk_at text broken r start at ≡ s → (is_place broken at && is_in_string r.inside) ≡ false
    → step is_in_range r (so_far text start at) b ≡ Ok r'
    → is_between r'.inside ≡ false → walk_at text broken r' start (at + 1) ≡ s
walk_on text broken r start at b s r' le lt e so t d i =
    ap (λ tok. walk broken r' start tok (at + 1) (drop (at + 1) text)) (sym (one_more text start at b le lt e))
    ∙ ap (λ n. walk broken r' start (so_far text start at ++ b ∷ []) n (drop (at + 1) text)) (add-one at)
    ∙ sym (ap (λ c. walk broken r' (start_after c start at) (token_after c (so_far text start at) b) (suc at) (drop
    (at + 1) text)) i)
    ∙ walk_by text broken r start at b s (Ok r') lt e so t d

pub walk_past : (text : List ℕ) (broken : Option ℕ) (r : Reader) (start at b : ℕ) (s : Stop) (r' : Reader)
    → at < length text → b ≡ get_or text at 0
    → walk_at text broken r start at ≡ s → (is_place broken at && is_in_string r.inside) ≡ false
    → step is_in_range r (so_far text start at) b ≡ Ok r'
    → is_between r'.inside ≡ true → walk_at text broken r' (at + 1) (at + 1) ≡ s
walk_past text broken r start at b s r' lt e so t d i =
    let none : at + 1 - (at + 1) ≡ 0 = omega arith in
    ap (λ n. walk broken r' (at + 1) (take n (drop (at + 1) text)) (at + 1) (drop (at + 1) text)) none
    ∙ ap (λ n. walk broken r' n [] n (drop (at + 1) text)) (add-one at)
    ∙ sym (ap (λ c. walk broken r' (start_after c start at) (token_after c (so_far text start at) b) (suc at) (drop
    (at + 1) text)) i)
    ∙ walk_by text broken r start at b s (Ok r') lt e so t d

-- behind the last byte
pub walk_end : (text : List ℕ) (broken : Option ℕ) (r : Reader) (start at : ℕ) (s : Stop) → at ≡ length text
    → walk_at text broken r start at ≡ s → End ≡ s
unfolding walk
walk_end text broken r start at s e so =
    sym (ap (λ bs. walk broken r start (so_far text start at) at bs) (ap (λ n. drop n text) e ∙ drop-length text)) ∙ so
