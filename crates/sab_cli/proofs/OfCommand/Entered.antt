-- What a parse of the command line enters: the subcommand that the words name.
use Rattle.std.proofs.Common.{◌≡◌, ◌∙◌, Bool, true, false, List, Option, Some, None, refl, sym, ap, ap₂, inl, inr, subst}
use Rattle.std.specs.Prelude.{Result, Ok, Err, IfErr, IsErrAnd, is_some, option_map, unwrap_or}
use Rattle.std.proofs.lemmas.Bool.{false≢true}
use Rattle.clap.specs.Words.{App, HasMatchesOf, IsParsedFrom, Row, Text, app_of, has_subcommand, is_simple, kind_of}
use Rattle.clap.specs.Words.{subcommand_name_of, subcommand_of, subcommand_rows_of, takes}
use Rattle.clap.specs.declared.builder.command.Command.{Command}
use Rattle.clap.specs.declared.error.Error.{Error}
use Rattle.clap.specs.declared.error.kind.ErrorKind.TheVariants.{OutOfMemory}
use Rattle.clap.specs.declared.parser.matches.ArgMatches.{ArgMatches}
use Rattle.clap.specs.declared.parser.matches.ArgMatches.TheViews.{out-ArgMatches, out-SubCommand}
use Rattle.std.specs.Box.{box_value}
use Rattle.clap.specs.Matches.{found_of}
use Rattle.clap.specs.Walk.{rows_of}
use Rattle.sab_cli.specs.Command.Asked.{AsksFor, IsAsked, IsRefused}
use Rattle.sab_cli.specs.Command.CommandLine.{IsLocal, Lists, command_line}
use Rattle.sab_cli.specs.declared.command.request.Request.{Request}

-- clap's specification gives the matches of the command line
is_of_a_simple_command : (lists : Lists) → is_simple (command_line lists) ≡ true
is_of_a_simple_command lists = refl

-- a pair is what its halves are
both_halves : {B N R : Type 0} → (first : B → N) (second : B → R) (o : Option B) (n : N) (r : R)
    → option_map first o ≡ Some n → option_map (λ (p : N × R). p.1) (option_map {U = N × R} (λ b. (first b, second b)) o) ≡ Some r
    → option_map {U = N × R} (λ b. (first b, second b)) o ≡ Some (n, r)
both_halves first second None n r named rowed = absurd (false≢true (ap is_some named))
both_halves {N = N} {R = R} first second (Some b) n r named rowed =
    ap₂ pair (ap (λ (o : Option N). unwrap_or o n) named) (ap (λ (o : Option R). unwrap_or o r) rowed)
  where
    pair : N → R → Option (N × R)
    pair x y = Some (x, y)

entered_rows : (m : ArgMatches) (name : Text) (rows : List Row) → subcommand_name_of m ≡ Some name
    → option_map (λ (p : Text × List Row). p.1) (subcommand_rows_of m) ≡ Some rows → subcommand_rows_of m ≡ Some (name, rows)
entered_rows m name rows named rowed =
    both_halves (λ b. (out-SubCommand (box_value b)).name.now) (λ b. rows_of (found_of (out-SubCommand (box_value b)).matches))
    (out-ArgMatches m).subcommand name rows named rowed

-- what the subcommand that a parse entered asks for is what the words ask for
pub asked_by_words : (command : Command) (lists : Lists) (words : List Text) (m : ArgMatches) (name : Text) (rows : List Row)
    (request : Request) → app_of command ≡ command_line lists → HasMatchesOf (app_of command) words m
    → subcommand_name_of m ≡ Some name → option_map (λ (p : Text × List Row). p.1) (subcommand_rows_of m) ≡ Some rows
    → AsksFor name rows request → IsAsked words request
asked_by_words command lists words m name rows request is has named rowed asks =
    let met = (has (ap is_simple is ∙ is_of_a_simple_command lists)).1 in
    (lists, name, rows, ap (λ (app : App). subcommand_of app words) (sym is) ∙ (sym met ∙ entered_rows m name rows named rowed), asks)

-- a parse enters a subcommand
pub enters_one : (command : Command) (lists : Lists) (m : ArgMatches) → app_of command ≡ command_line lists → IsLocal command
    → IsParsedFrom command m → has_subcommand m ≡ true
enters_one command lists m is local p =
    (p.parsed (p.from.globals ∙ local)).checked.subcommand
    (p.from.needs_subcommand ∙ ap (λ (app : App). app.top.subcommand_required) is)

-- a refusal of words that the command line takes is for want of memory
pub refused_words : (command : Command) (lists : Lists) (words : List Text) (error : Error) → app_of command ≡ command_line lists
    → (takes (app_of command) words ≡ true → kind_of error ≡ OutOfMemory) → IsRefused words error
refused_words command lists words error is passes = go (takes (command_line lists) words) refl
  where
    go : (b : Bool) → takes (command_line lists) words ≡ b → IsRefused words error
    go true e = inl (passes (ap (λ (app : App). takes app words) is ∙ e))
    go false e = inr (lists, e)

-- what holds of an error holds of the same one that is returned
pub same_error : {A E : Type 0} (P : E → Type 0) (error : E) (r : Result A E) → IsErrAnd r (λ e. e ≡ error) → P error → IfErr r P
same_error P error (Ok x) is holds = absurd is
same_error P error (Err e) is holds = subst P (sym is) holds
