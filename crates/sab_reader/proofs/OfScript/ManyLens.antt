-- The lengths of blocks that an array spells.
use Rattle.std.proofs.Common.{◌≡◌, ℕ, zero, suc, ◌≤◌, List, length, false, true≢false, Vec, Global, Result, Ok, Err, arith}
use Rattle.std.proofs.lemmas.Grind.{common_steps}
use Rattle.std.specs.Prelude.{◌==◌}
use Rattle.serde_json.specs.Data.{Data, array, Items}
use Rattle.serde_json.specs.View.{items_view}
use Rattle.serde_json.specs.declared.value.Value.{Value}
use Rattle.sab_reader.specs.declared.script.form.Form.{Form}
use Rattle.sab_reader.specs.declared.script.form.Form.TheVariants.{Blocks}
use Rattle.sab_refusal.specs.declared.located.Located.{Located}
use Rattle.sab_reader.specs.Script.Reading.{Finds, SpellsUpTo}
use Rattle.sab_refusal.specs.Reason.{fault_of}
use Rattle.sab_reader.specs.Script.Blocks.{SpellsLen, SpellsLens}
use Rattle.sab_reader.proofs.OfScript.Each.{length-each}
use Rattle.sab_reader.proofs.OfScript.Refusing.{refuses_more}

pub at_least_one : (n : ℕ) → (n == 0) ≡ false → 1 ≤ n
at_least_one zero e = absurd (true≢false e)
at_least_one (suc n) e = omega arith

spelled_lens : (d : Data) (ts : List Value) (lens : List ℕ) → d ≡ array (items_view ts) → 1 ≤ length ts
    → SpellsUpTo 4 SpellsLen (items_view ts) lens → SpellsLens Blocks d lens
spelled_lens d ts lens e some h =
    let count = length-each SpellsLen ts lens h.0 in
    (items_view ts, e, h, omega (arith, count, some))

lens_items : (d : Data) (ds : Items) (lens : List ℕ) → d ≡ array ds → SpellsLens Blocks d lens
    → SpellsUpTo 4 SpellsLen ds lens
lens_items d ds lens e h = grind (arith, common_steps, array)

pub reads_lens : (form : Form) (d : Data) (ts : List Value) (r : Result (Vec ℕ Global) Located) → form ≡ Blocks
    → d ≡ array (items_view ts) → 1 ≤ length ts
    → Finds (λ (lens : Vec ℕ Global). lens.items) (SpellsUpTo 4 SpellsLen (items_view ts)) r
    → Finds (λ (lens : Vec ℕ Global). lens.items) (SpellsLens form d) r
reads_lens form d ts (Ok lens) f e some h = rw f (spelled_lens d ts lens.items e some h)
reads_lens form d ts (Err refusal) f e some h =
    rw f (refuses_more (SpellsUpTo 4 SpellsLen (items_view ts)) (SpellsLens Blocks d) (fault_of refusal.why)
    (λ lens p. (lens, lens_items d (items_view ts) lens e p)) h)
