-- The command line, in the terms of clap's specification: which commands there are, and which options each has.
use Rattle.std.specs.Prelude.{◌≡◌, List, [], ◌∷◌, Some, pos, true, false, codes, fold, map, ⊤}
use Rattle.std.specs.Borrow.{Bor}
use Rattle.clap.specs.Words.{App, Rule, Text, new_app, new_rule, rule_of, with_rule, with_subcommand}
use Rattle.clap.specs.declared.builder.arg.Arg.{Arg}
use Rattle.clap.specs.declared.builder.action.ArgAction.TheVariants.{SetTrue}
use Rattle.clap.specs.declared.builder.command.Command.{Command}
use Rattle.clap.specs.declared.builder.command.Command.TheViews.{out-Command}
use Rattle.sab_race.specs.declared.script_moves.TheConstants.{MAX_SPINS}
use Rattle.clap.specs.declared.builder.value_parser.ValueParser.TheVariants.{Names, Signed, Unsigned}

-- names that an option takes, as the program has them in memory
abbrev pub Choices : Type 0
Choices = Bor (List (Bor Text))

abbrev pub AreNames : Choices → List Text → Type 0
AreNames choices names = map (λ name. name.now) choices.now ≡ names

abbrev pub format_names : List Text
format_names = codes "plain" ∷ codes "explained" ∷ codes "json" ∷ codes "svg" ∷ codes "script" ∷ []

abbrev pub verdict_format_names : List Text
verdict_format_names = codes "plain" ∷ codes "json" ∷ []

abbrev pub search_format_names : List Text
search_format_names = codes "plain" ∷ codes "json" ∷ codes "script" ∷ []

abbrev pub timeout_names : List Text
timeout_names = codes "early" ∷ codes "last" ∷ codes "never" ∷ []

abbrev pub share_names : List Text
share_names = codes "lock" ∷ codes "ring" ∷ []

-- ---- options

-- the file that the input is read from
abbrev pub file_rule : Rule
file_rule = record (new_rule (codes "file")) { value_names = 1 }

-- an option that has a value, called by its name
abbrev pub option_rule : Text → Rule
option_rule name = record (new_rule name) { long = Some name; value_names = 1 }

-- an option that is there or not
abbrev pub flag_rule : Text → Rule
flag_rule name = record (new_rule name) { long = Some name; action = Some SetTrue }

-- the format is plain unless the words name another
abbrev pub format_rule : Choices → Rule
format_rule formats = record (option_rule (codes "format")) {
  defaults = codes "plain" ∷ [];
  parser = Some (Names formats);
}

-- how threads share the simulator has to be said
abbrev pub share_rule : Choices → Rule
share_rule shares = record (option_rule (codes "share")) {
  required = true;
  parser = Some (Names shares);
}

-- an agent takes no step at a wait unless the words say how many
abbrev pub spins_rule : Rule
spins_rule = record (option_rule (codes "spins")) {
  defaults = codes "0" ∷ [];
  parser = Some (Signed (pos 0) (pos MAX_SPINS));
}

abbrev pub mix_rule : Rule
mix_rule = record (option_rule (codes "mix")) { parser = Some (Unsigned 0 18446744073709551615) }

-- the waits may time out at any time unless the words say otherwise
abbrev pub timeouts_rule : Choices → Rule
timeouts_rule timeouts = record (option_rule (codes "timeouts")) {
  defaults = codes "early" ∷ [];
  parser = Some (Names timeouts);
}

-- a number of 32 bits, from 1
abbrev pub number_rule : Text → Rule
number_rule name = record (option_rule name) { parser = Some (Signed (pos 1) (pos 4294967295)) }

-- a search lists a million states unless the words say how many
abbrev pub limit_rule : Rule
limit_rule = record (number_rule (codes "limit")) { defaults = codes "1000000" ∷ [] }

-- the words may say which failure, from 1
abbrev pub failure_rule : Rule
failure_rule = number_rule (codes "failure")

-- a trace is judged, which excludes other options
abbrev pub trace_rule : Rule
trace_rule = record (flag_rule (codes "trace")) { is_free = false }

-- ---- commands

abbrev pub report_rules : Choices → List Rule
report_rules formats = format_rule formats ∷ flag_rule (codes "acts") ∷ flag_rule (codes "finish")
    ∷ flag_rule (codes "explain") ∷ file_rule ∷ []

abbrev pub thread_rules : Choices → List Rule
thread_rules shares = share_rule shares ∷ spins_rule ∷ mix_rule ∷ []

abbrev pub judge_rules : Choices → List Rule
judge_rules formats = trace_rule ∷ format_rule formats ∷ flag_rule (codes "finish")
    ∷ flag_rule (codes "explain") ∷ file_rule ∷ []

abbrev pub search_rules : Choices → Choices → List Rule
search_rules timeouts formats = timeouts_rule timeouts ∷ limit_rule ∷ format_rule formats ∷ failure_rule
    ∷ flag_rule (codes "states") ∷ flag_rule (codes "explain") ∷ file_rule ∷ []

abbrev pub with_rules : App → List Rule → App
with_rules app rules = fold with_rule app rules

abbrev pub replay_app : Choices → App
replay_app formats = with_rules (new_app (codes "replay")) (report_rules formats)

abbrev pub race_app : Choices → Choices → App
race_app formats shares =
    with_rules (with_rules (new_app (codes "race")) (thread_rules shares)) (report_rules formats)

abbrev pub judge_app : Choices → App
judge_app formats = with_rules (new_app (codes "judge")) (judge_rules formats)

abbrev pub check_app : App
check_app = with_rule (new_app (codes "check")) file_rule

abbrev pub search_app : Choices → Choices → App
search_app timeouts formats = with_rules (new_app (codes "search")) (search_rules timeouts formats)

-- the program has a version, and a command has to be named
abbrev pub program : App
program = record (new_app (codes "sabsim")) {
  top = record (new_app (codes "sabsim")).top { has_version = true; subcommand_required = true };
}

abbrev pub with_command : App → App → App
with_command app command = with_subcommand app command.top

abbrev pub with_runs : App → Choices → Choices → App
with_runs app formats shares = with_command (with_command app (replay_app formats)) (race_app formats shares)

abbrev pub with_checks : App → Choices → App
with_checks app formats = with_command (with_command app (judge_app formats)) check_app

abbrev pub with_search : App → Choices → Choices → App
with_search app timeouts formats = with_command app (search_app timeouts formats)

-- the names that options take
pub record Lists : Type 0 where
  pub formats : Choices
  pub verdict_formats : Choices
  pub search_formats : Choices
  pub shares : Choices
  pub timeouts : Choices
  pub formats_are : AreNames formats format_names
  pub verdict_formats_are : AreNames verdict_formats verdict_format_names
  pub search_formats_are : AreNames search_formats search_format_names
  pub shares_are : AreNames shares share_names
  pub timeouts_are : AreNames timeouts timeout_names

abbrev pub command_line : Lists → App
command_line lists =
    with_search (with_checks (with_runs program lists.formats lists.shares) lists.verdict_formats)
    lists.timeouts lists.search_formats

-- ---- what the program builds

-- the arguments have these rules, one by one, and none of them is given to the commands below
abbrev pub HaveRules : List Arg → List Rule → Type 0
HaveRules [] [] = ⊤
HaveRules (argument ∷ arguments) (rule ∷ rules) =
    (rule_of argument ≡ rule) × (argument.global ≡ false) × HaveRules arguments rules
HaveRules _ _ = ⊥

-- the command gives none of its arguments to those below it
abbrev pub IsLocal : Command → Type 0
IsLocal command = (out-Command command).has_globals ≡ false
