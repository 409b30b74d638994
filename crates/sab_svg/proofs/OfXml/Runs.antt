-- A text that is written run by run: characters that stand for themselves, and then a reference.
use Rattle.std.proofs.Common.{◌≡◌, ℕ, ◌+◌, ◌-◌, ◌<◌, ◌≤◌, true, List, [], ◌∷◌, ◌++◌, length, get_or, take, drop, refl, ap, ◌∙◌, arith, append_assoc, append-nil, length-append, length-take, length-drop}
use Rattle.std.proofs.lemmas.List.{get_or-drop, drop_more, take_more}
use Rattle.sab_svg.specs.Xml.Xml.{is_plain, char_text, text_of}
use Rattle.sab_svg.proofs.OfXml.Texts.{plain_char}

-- the run as it stands at i, and what is left from there
module _ (text : List ℕ) (start i : ℕ) (behind : start ≤ i) (within : i < length text) where
  run_more : take (i + 1 - start) (drop start text) ≡ take (i - start) (drop start text) ++ (get_or text i 0 ∷ [])
  run_more =
      let len = length-drop start text in
      let at : start + (i - start) ≡ i = omega arith in
      let more : i + 1 - start ≡ i - start + 1 = omega arith in
      let same : get_or (drop start text) (i - start) 0 ≡ get_or text i 0 = rw (get_or-drop, at) refl in
      rw more (take_more (drop start text) (i - start) 0 (omega arith)
      ∙ ap (λ (x : ℕ). take (i - start) (drop start text) ++ (x ∷ [])) same)

  left_more : text_of (drop i text) ≡ char_text (get_or text i 0) ++ text_of (drop (i + 1) text)
  left_more = rw (drop_more text i 0 within) refl

  -- a character that stands for itself is one more of the run
  pub run_longer : (chunk all : List ℕ) → is_plain (get_or text i 0) ≡ true
      → chunk ++ take (i - start) (drop start text) ++ text_of (drop i text) ≡ all
      → chunk ++ take (i + 1 - start) (drop start text) ++ text_of (drop (i + 1) text) ≡ all
  run_longer chunk all plain whole =
      let left = rw (plain_char (get_or text i 0) plain) at left_more in
      rw run_more (simp append_assoc (simp append_assoc at (rw left at whole)))

  -- behind a reference the next run begins
  pub run_ended : (chunk behind_run next all : List ℕ)
      → behind_run ≡ chunk ++ take (i - start) (drop start text)
      → next ≡ behind_run ++ char_text (get_or text i 0)
      → chunk ++ take (i - start) (drop start text) ++ text_of (drop i text) ≡ all
      → next ++ take (i + 1 - (i + 1)) (drop (i + 1) text) ++ text_of (drop (i + 1) text) ≡ all
  run_ended chunk behind_run next all run pushed whole =
      let none : i + 1 - (i + 1) ≡ 0 = omega arith in
      rw (none, append-nil, pushed, run) (simp append_assoc (simp append_assoc at (rw left_more at whole)))

  pub run_room : (chunk behind_run : List ℕ) → behind_run ≡ chunk ++ take (i - start) (drop start text)
      → length behind_run ≤ length chunk + (i - start)
  run_room chunk behind_run run =
      let len = length-take (i - start) (drop start text) in
      rw (run, length-append) (omega arith)
