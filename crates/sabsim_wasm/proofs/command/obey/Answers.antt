-- The words are those that the text spells, and the text is that of the bytes.
use Rattle.std.proofs.Common.{ℕ, map, List, ap, ◌∙◌}
use Rattle.std.specs.Borrow.{Bor}
use Rattle.sabsim_wasm.proofs.Replies.{requested, refused_bytes}
use Rattle.sabsim_wasm.proofs.command.obey.Goals as goal

pub returns-in-Ok-request_of : goal.returns-in-Ok-request_of
returns-in-Ok-request_of c =
    requested c.args.words.now c.in-Ok.text.now (map (λ (w : Bor (List ℕ)). w.now) c.as_slice.result.now) c.args.given
    c.args.is_terminal c.in-Ok-request_of.request c.args.input.now c.args.room.now c.reply_to.new.room c.reply_to.result
    c.in-Ok.ensures.cases.0
    (ap (map (λ (w : Bor (List ℕ)). w.now)) c.as_slice.ensures.value ∙ c.in-Ok-words_of.ensures)
    c.in-Ok-request_of.ensures.asked c.in-Ok-request_of.ensures.limits c.reply_to.ensures

pub returns : goal.returns
returns c =
    refused_bytes c.args.words.now c.in-Ok.text.now (map (λ (w : Bor (List ℕ)). w.now) c.as_slice.result.now) c.args.given
    c.args.is_terminal c.in-Err.error c.args.input.now c.args.room.now c.refuse.new.room c.refuse.result
    c.in-Ok.ensures.cases.0
    (ap (map (λ (w : Bor (List ℕ)). w.now)) c.as_slice.ensures.value ∙ c.in-Ok-words_of.ensures)
    c.in-Err.ensures.refused c.refuse.ensures
