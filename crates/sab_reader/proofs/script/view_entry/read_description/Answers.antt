use Rattle.std.proofs.Common.{◌≡◌, ℕ, List, Bor, Some, refl, ap, sym, ◌∙◌, get_or, FitsSigned, rules}
use Rattle.std.specs.Int.{w64}
use Rattle.std.proofs.lemmas.Int.{to_z-of_z}
use Rattle.serde_json.specs.Data.{Members, string}
use Rattle.serde_json.specs.View.{view, members_view}
use Rattle.sab_block.specs.declared.kind.Kind.{Kind}
use Rattle.sab_block.specs.Kind.{kind_name}
use Rattle.sab_plan.specs.declared.plan_view.PlanView.{PlanView}
use Rattle.sab_reader.specs.declared.script.view_spec.ViewSpec.{ViewSpec}
use Rattle.sab_reader.specs.Script.Numbers.{SpellsWhole, SpellsOptional}
use Rattle.sab_reader.specs.Script.Views.{description, SpellsDescription}
use Rattle.sab_reader.proofs.OfScript.OneView.{description_parts, same_text, not_made}
use Rattle.sab_reader.proofs.OfScript.Refusing.{exit_none, exit_refuses}
use Rattle.std.proofs.lemmas.Option.{slice_get-get_or}
use Rattle.sab_refusal.specs.declared.member.Member.TheVariants as M
use Rattle.sab_refusal.specs.declared.reason.Wanted.TheVariants as wanted
use Rattle.sab_reader.specs.Script.Blocks.{with_block}
use Rattle.sab_reader.specs.Script.Places.{CallsFor}
use Rattle.sab_refusal.specs.declared.location.Location.TheVariants as at
use Rattle.sab_reader.specs.Script.Known.{HasLens, IsNumberAs}
use Rattle.sab_reader.proofs.OfScript.Exits.{exit_reported}
use Rattle.sab_reader.proofs.OfScript.ViewParts.{IsDescriptionReported, reported_of_part, kind_there, length_there, name_there, offset_there, part_calls, misfit_reported}
use Rattle.sab_reader.proofs.script.view_entry.read_description.Goals as goal

abbrev shown : Bor (List ℕ) × ViewSpec × PlanView → List ℕ × ViewSpec
shown p = (p.0.now, p.1)

abbrev Described : List ℕ → Members → ℕ → List ℕ × ViewSpec → Type 0
Described lens rest block v = SpellsDescription lens rest v × (v.1.block ≡ block)

pub returns-in_err-kind_tree-clause-read : goal.returns-in_err-kind_tree-clause-read
returns-in_err-kind_tree-clause-read c =
    exit_none shown (Described c.args.lens.now (members_view c.args.rest) c.args.block) c.from_residual.result _
    c.from_residual.ensures.1 (λ v h. c.in_err-kind_tree.ensures.err _ _ _ _ h.0.members)

pub returns-in_err-kind_word-clause-read : goal.returns-in_err-kind_word-clause-read
returns-in_err-kind_word-clause-read c =
    let rest = members_view c.args.rest in
    exit_refuses shown (λ (s : List ℕ). view c.in_ok-kind_tree.kind_tree.now ≡ string s)
    (Described c.args.lens.now rest c.args.block) c.from_residual-in_err-kind_word.result _
    c.from_residual-in_err-kind_word.ensures.1 c.in_err-kind_word.ensures.reads
    (λ v h. (
      kind_name v.1.kind,
      (description_parts c.args.lens.now rest _ _ _ _ c.in_ok-kind_tree.ensures.ok v h.0).0,
    ))

pub returns-in_err-kind-clause-read : goal.returns-in_err-kind-clause-read
returns-in_err-kind-clause-read c =
    let rest = members_view c.args.rest in
    exit_refuses shown (λ (k : Kind). c.in_ok-kind_word.kind_word.now ≡ kind_name k)
    (Described c.args.lens.now rest c.args.block) c.from_residual-in_err-kind.result _
    c.from_residual-in_err-kind.ensures.1 c.in_err-kind.ensures.reads
    (λ v h. (
      v.1.kind,
      same_text _ _ (sym c.in_ok-kind_word.ensures.reads
          ∙ (description_parts c.args.lens.now rest _ _ _ _ c.in_ok-kind_tree.ensures.ok v h.0).0),
    ))

pub returns-in_err-length-clause-read : goal.returns-in_err-length-clause-read
returns-in_err-length-clause-read c =
    let rest = members_view c.args.rest in
    exit_refuses shown (SpellsOptional (view c.in_ok-kind_tree.length_tree.now))
    (Described c.args.lens.now rest c.args.block) c.from_residual-in_err-length.result _
    c.from_residual-in_err-length.ensures.1 c.in_err-length.ensures.reads
    (λ v h. (
      v.1.length,
      ((description_parts c.args.lens.now rest _ _ _ _ c.in_ok-kind_tree.ensures.ok v h.0).1, h.0.length),
    ))

pub returns-in_err-name-clause-read : goal.returns-in_err-name-clause-read
returns-in_err-name-clause-read c =
    let rest = members_view c.args.rest in
    exit_refuses shown (λ (s : List ℕ). view c.in_ok-kind_tree.name_tree.now ≡ string s)
    (Described c.args.lens.now rest c.args.block) c.from_residual-in_err-name.result _
    c.from_residual-in_err-name.ensures.1 c.in_err-name.ensures.reads
    (λ v h. (v.0, (description_parts c.args.lens.now rest _ _ _ _ c.in_ok-kind_tree.ensures.ok v h.0).2))

pub returns-in_err-offset-clause-read : goal.returns-in_err-offset-clause-read
returns-in_err-offset-clause-read c =
    let rest = members_view c.args.rest in
    exit_refuses shown (SpellsWhole (view c.in_ok-kind_tree.offset_tree.now))
    (Described c.args.lens.now rest c.args.block) c.from_residual-in_err-offset.result _
    c.from_residual-in_err-offset.ensures.1 c.in_err-offset.ensures.reads
    (λ v h. (
      v.1.offset,
      ((description_parts c.args.lens.now rest _ _ _ _ c.in_ok-kind_tree.ensures.ok v h.0).3, h.0.offset),
    ))

pub returns-in_err-plan_view-clause-read : goal.returns-in_err-plan_view-clause-read
returns-in_err-plan_view-clause-read c =
    let fits : FitsSigned w64 c.in_ok-offset.offset = search rules in
    let spec : ViewSpec = record {
      kind =
          c.in_ok-kind.kind;
      offset = c.in_ok-offset.offset;
      length = c.in_ok-length.length;
      block = c.args.block;
    } in
    let kind = c.in_ok-kind_word.ensures.reads ∙ ap string c.in_ok-kind.ensures.reads in
    let members = c.in_ok-kind_tree.ensures.ok ∙ (λ i. description (kind i) (c.in_ok-length.ensures.reads.0 i)
    (c.in_ok-name.ensures.reads i) (c.in_ok-offset.ensures.reads.0 i)) in
    exit_none (λ (p : Bor (List ℕ) × ViewSpec × PlanView). (p.0.now, p.1)) (λ (v : List ℕ × ViewSpec). SpellsDescription
    c.args.lens.now (members_view c.args.rest) v × (v.1.block ≡ c.args.block))
    c.from_residual-in_err-plan_view.result c.in_err-plan_view.field-0.0 c.from_residual-in_err-plan_view.ensures.1
    (not_made c.args.lens.now (members_view c.args.rest) c.in_ok-name.name.now spec members
    (rw (to_z-of_z w64 c.in_ok-offset.offset fits) at c.in_err-plan_view.ensures.err))

pub returns-in_err-kind_word-clause-reported : goal.returns-in_err-kind_word-clause-reported
returns-in_err-kind_word-clause-reported c =
    let at_kind = c.member-at_kind.result in
    let lens = c.args.lens.now in
    let block = c.args.block in
    let rest = members_view c.args.rest in
    let tree = view c.in_ok-kind_tree.kind_tree.now in
    let e = c.in_err-kind_word.field-0.0 in
    exit_reported (IsDescriptionReported c.args.at lens block rest) c.from_residual-in_err-kind_word.result e
    c.from_residual-in_err-kind_word.ensures.1
    (λ form has. reported_of_part c.args.at at_kind M.Kind (with_block form block rest) tree e
    (λ root. HasLens root form lens) (λ root. CallsFor root at_kind wanted.Text) c.member-at_kind.ensures
    (kind_there form block rest _ _ _ _ c.in_ok-kind_tree.ensures.ok)
    (λ root i is known. part_calls root at_kind i M.Kind wanted.Text is refl) c.in_err-kind_word.ensures.reported)

pub returns-in_err-kind-clause-reported : goal.returns-in_err-kind-clause-reported
returns-in_err-kind-clause-reported c =
    let at_kind = c.member-at_kind.result in
    let lens = c.args.lens.now in
    let block = c.args.block in
    let rest = members_view c.args.rest in
    let word = c.in_ok-kind_word.kind_word.now in
    let e = c.in_err-kind.field-0.0 in
    exit_reported (IsDescriptionReported c.args.at lens block rest) c.from_residual-in_err-kind.result e
    c.from_residual-in_err-kind.ensures.1
    (λ form has. reported_of_part c.args.at at_kind M.Kind (with_block form block rest) (string word) e
    (λ root. HasLens root form lens) (λ root. (i : ℕ) × (at_kind ≡ at.Part M.Views i M.Kind)) c.member-at_kind.ensures
    (kind_there form block rest _ _ _ _ c.in_ok-kind_tree.ensures.ok ∙ ap Some c.in_ok-kind_word.ensures.reads)
    (λ root i is known. (i, is)) c.in_err-kind.ensures.reported)

pub returns-in_err-length-clause-reported : goal.returns-in_err-length-clause-reported
returns-in_err-length-clause-reported c =
    let at_length = c.member.result in
    let lens = c.args.lens.now in
    let block = c.args.block in
    let rest = members_view c.args.rest in
    let tree = view c.in_ok-kind_tree.length_tree.now in
    let e = c.in_err-length.field-0.0 in
    exit_reported (IsDescriptionReported c.args.at lens block rest) c.from_residual-in_err-length.result e
    c.from_residual-in_err-length.ensures.1
    (λ form has. reported_of_part c.args.at at_length M.Length (with_block form block rest) tree e
    (λ root. HasLens root form lens) (λ root. CallsFor root at_length wanted.WholeOrNull) c.member.ensures
    (length_there form block rest _ _ _ _ c.in_ok-kind_tree.ensures.ok)
    (λ root i is known. part_calls root at_length i M.Length wanted.WholeOrNull is refl) c.in_err-length.ensures.reported)

pub returns-in_err-name-clause-reported : goal.returns-in_err-name-clause-reported
returns-in_err-name-clause-reported c =
    let at_name = c.member-at_name.result in
    let lens = c.args.lens.now in
    let block = c.args.block in
    let rest = members_view c.args.rest in
    let tree = view c.in_ok-kind_tree.name_tree.now in
    let e = c.in_err-name.field-0.0 in
    exit_reported (IsDescriptionReported c.args.at lens block rest) c.from_residual-in_err-name.result e
    c.from_residual-in_err-name.ensures.1
    (λ form has. reported_of_part c.args.at at_name M.Name (with_block form block rest) tree e
    (λ root. HasLens root form lens) (λ root. CallsFor root at_name wanted.Text) c.member-at_name.ensures
    (name_there form block rest _ _ _ _ c.in_ok-kind_tree.ensures.ok)
    (λ root i is known. part_calls root at_name i M.Name wanted.Text is refl) c.in_err-name.ensures.reported)

pub returns-in_err-offset-clause-reported : goal.returns-in_err-offset-clause-reported
returns-in_err-offset-clause-reported c =
    let at_offset = c.member-2.result in
    let lens = c.args.lens.now in
    let block = c.args.block in
    let rest = members_view c.args.rest in
    let tree = view c.in_ok-kind_tree.offset_tree.now in
    let e = c.in_err-offset.field-0.0 in
    exit_reported (IsDescriptionReported c.args.at lens block rest) c.from_residual-in_err-offset.result e
    c.from_residual-in_err-offset.ensures.1
    (λ form has. reported_of_part c.args.at at_offset M.Offset (with_block form block rest) tree e
    (λ root. HasLens root form lens) (λ root. CallsFor root at_offset wanted.Whole × IsNumberAs wanted.Whole tree)
    c.member-2.ensures (offset_there form block rest _ _ _ _ c.in_ok-kind_tree.ensures.ok)
    (λ root i is known. (part_calls root at_offset i M.Offset wanted.Whole is refl, (λ o. o, λ o. o)))
    c.in_err-offset.ensures.reported)

pub returns-in_err-plan_view-clause-reported : goal.returns-in_err-plan_view-clause-reported
returns-in_err-plan_view-clause-reported c =
    let lens = c.args.lens.now in
    let block = c.args.block in
    let rest = members_view c.args.rest in
    let fits : FitsSigned w64 c.in_ok-offset.offset = search rules in
    let spec : ViewSpec = record {
      kind = c.in_ok-kind.kind;
      offset = c.in_ok-offset.offset;
      length = c.in_ok-length.length;
      block = c.args.block;
    } in
    let kind = c.in_ok-kind_word.ensures.reads ∙ ap string c.in_ok-kind.ensures.reads in
    let members = c.in_ok-kind_tree.ensures.ok ∙ (λ i. description (kind i) (c.in_ok-length.ensures.reads.0 i)
    (c.in_ok-name.ensures.reads i) (c.in_ok-offset.ensures.reads.0 i)) in
    let e = c.in_err-plan_view.field-0.0 in
    exit_reported (IsDescriptionReported c.args.at lens block rest) c.from_residual-in_err-plan_view.result e
    c.from_residual-in_err-plan_view.ensures.1
    (λ form has. misfit_reported c.args.at form lens block (get_or lens block 0) rest c.in_ok-name.name.now spec e has
    (slice_get-get_or lens block 0 c.requires) members
    (rw (to_z-of_z w64 c.in_ok-offset.offset fits) at c.in_err-plan_view.ensures.reported))
