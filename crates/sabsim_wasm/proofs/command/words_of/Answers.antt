-- The pieces that were collected are those of one whole run.
use Rattle.std.proofs.Common.{◌≡◌, ℕ, map, List, ap, ◌∙◌, arith}
use Rattle.std.specs.Borrow.{Bor}
use Rattle.std.proofs.lemmas.Result.{IfOk-weaker}
use Rattle.sabsim_wasm.specs.Words.{words_of}
use Rattle.sabsim_wasm.proofs.Spelled.{words_by_run}
use Rattle.sabsim_wasm.proofs.command.words_of.Goals as goal

pub returns : goal.returns
returns c =
    let bytes = c.args.text.now in
    IfOk-weaker c.collect.result _ (λ words. map (λ (w : Bor (List ℕ)). w.now) words.items ≡ words_of bytes)
    (λ words taken.
    let run = (taken tt).0 in
    let at_terminators = c.split_terminator.ensures.runs run run.seen (taken tt).1 in
    ap (map (λ (w : Bor (List ℕ)). w.now)) (taken tt).3.0
    ∙ words_by_run run bytes (taken tt).2
    (at_terminators.1 (omega arith) ((λ q same. same), λ w o found. found)))
    c.collect.ensures.runs
