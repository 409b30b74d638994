-- What a command has when arguments or commands were added, and an argument when conflicts were.
use Rattle.std.proofs.Common.{◌≡◌, ◌∙◌, ◌&&◌, ◌++◌, Bool, List, [], ◌∷◌, Some, Result, Ok, Err, IfOk}
use Rattle.std.proofs.Common.{true, false, refl, ap, sym, subst, codes, arith}
use Rattle.std.proofs.lemmas.Bool.{ne_eqb}
use Rattle.std.specs.Borrow.{Bor}
use Rattle.clap.specs.Simple.{app_of_fields}
use Rattle.clap.specs.Walk.{is_empty}
use Rattle.clap.specs.Words.{AddsArg, AddsConflicts, AddsInTurn, App, Rule, Text, app_of, new_app, rule_of, with_rule}
use Rattle.clap.specs.declared.builder.arg.Arg.{Arg}
use Rattle.clap.specs.declared.builder.command.Command.{Command}
use Rattle.clap.specs.declared.builder.command.Command.TheOpen.{Command-F}
use Rattle.clap.specs.declared.builder.command.Command.TheViews.{out-Command}
use Rattle.sab_cli.specs.Command.CommandLine.{HaveRules, IsLocal, program, with_command, with_rules}

pub rules_added : (arguments : List Arg) (rules : List Rule) (old new : Command) → HaveRules arguments rules
    → AddsInTurn AddsArg old arguments new
    → (app_of new ≡ with_rules (app_of old) rules) × (IsLocal old → IsLocal new)
rules_added [] [] old new have added =
    (subst (λ c. app_of c ≡ app_of old) added refl, λ local. subst IsLocal added local)
rules_added (x ∷ xs) (r ∷ rs) old new have added =
    let step = added.1 in
    let rest = rules_added xs rs added.0 new have.2 added.2 in
    let shape : app_of added.0 ≡ with_rule (app_of old) r = step.shape have.1 ∙ ap (with_rule (app_of old)) have.0 in (
      rest.0 ∙ ap (λ (app : App). with_rules app rs) shape,
      λ local. rest.1 (step.globals ∙ rw (local, have.1) refl),
    )
rules_added [] (r ∷ rs) old new have added = absurd have
rules_added (x ∷ xs) [] old new have added = absurd have

is_not_empty : (xs ys : List (Bor Text)) (id : Bor Text) → ys ≡ xs ++ id ∷ [] → is_empty ys ≡ false
is_not_empty xs ys id e = subst (λ (zs : List (Bor Text)). is_empty zs ≡ false) (sym e) (go xs)
  where
    go : (zs : List (Bor Text)) → is_empty (zs ++ id ∷ []) ≡ false
    go [] = refl
    go (z ∷ zs) = ne_eqb _ _ (λ e. omega arith)

not_all : (b e rest : Bool) → e ≡ false → (b && (e && rest)) ≡ false
not_all true e rest is = ap (λ (x : Bool). x && rest) is
not_all false e rest is = refl

-- an argument with a conflict has a rule on another argument, and is otherwise as it was
pub conflict_added : (old new : Arg) (id : Bor Text) → AddsConflicts old new (id ∷ [])
    → (rule_of new ≡ record (rule_of old) { is_free = false }) × (new.global ≡ old.global)
conflict_added old new id added = (
  ap rule_of added.0 ∙ ap (λ (free : Bool). record (rule_of old) { is_free = free })
      (not_all _ _ _ (is_not_empty old.conflicts.items new.conflicts.items id added.1)),
  ap (λ (a : Arg). a.global) added.0,
)

-- a command that could be made is below, as it was described
pub command_added : {E : Type 0} (app : App) (old new : Command) (made : Result Command E)
    → IfOk made (λ c. (app_of c ≡ app) × IsLocal c)
    → ((below : Command) × (made ≡ Ok below) × (IsLocal below → (app_of new ≡ with_command (app_of old) (app_of below)) × (IsLocal old → IsLocal new)))
    → (app_of new ≡ with_command (app_of old) app) × (IsLocal old → IsLocal new)
command_added {E} app old new made made_so added =
    let below : (app_of added.0 ≡ app) × IsLocal added.0 =
    subst (λ (r : Result Command E). IfOk r (λ c. (app_of c ≡ app) × IsLocal c)) added.1 made_so in
    let got = added.2 below.1 in
    (got.0 ∙ ap (λ (a : App). with_command (app_of old) a) below.0, got.1)

-- a command that has a version, and of which a subcommand has to be named
pub program_made : (described versioned made : Command) (text : Bor Text)
    → out-Command versioned ≡ record (out-Command described) { version = Some text }
    → out-Command made ≡ record (out-Command versioned) { subcommand_required = true }
    → app_of described ≡ new_app (codes "sabsim") → IsLocal described → (app_of made ≡ program) × IsLocal made
program_made described versioned made text has_version needs_one named local =
    let fields = needs_one ∙ ap (λ (x : Command-F Command). record x { subcommand_required = true }) has_version in (
      ap app_of_fields fields ∙ ap (λ (app : App). record app {
        top = record app.top { has_version = true; subcommand_required = true };
      }) named,
      ap (λ (x : Command-F Command). x.has_globals) fields ∙ local,
    )

pub both_if_ok : {A E : Type 0} (P Q : A → Type 0) (r : Result A E) → IfOk r P → IfOk r Q → IfOk r (λ x. P x × Q x)
both_if_ok P Q (Ok x) p q = (p, q)
both_if_ok P Q (Err e) p q = p
