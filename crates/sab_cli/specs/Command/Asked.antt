-- What the words ask for, by the matches that clap's specification says they have.
use Rattle.std.specs.Prelude.{◌≡◌, ◌≢◌, ◌≤◌, ◌<◌, ◌^◌, ◌⊎◌, ℕ, Bool, List, Option, Some, None, true, false, codes}
use Rattle.std.specs.Str.Parse.{IsNumeral, digits_value, without_leading_plus}
use Rattle.clap.specs.Words.{Row, Text, first_of, kind_of, one_of, subcommand_of, takes}
use Rattle.clap.specs.declared.error.Error.{Error}
use Rattle.clap.specs.declared.error.kind.ErrorKind.TheVariants.{OutOfMemory}
use Rattle.sab_automata.specs.declared.program.Timeouts.{Timeouts}
use Rattle.sab_automata.specs.declared.program.Timeouts.TheVariants.{Early, Last, Never}
use Rattle.sab_race.specs.declared.script_moves.TheConstants.{MAX_SPINS}
use Rattle.sab_race.specs.declared.share.Share.{Share}
use Rattle.sab_race.specs.declared.share.Share.TheVariants.{Lock, Ring}
use Rattle.sab_report_text.specs.declared.text.format.Format.{Format}
use Rattle.sab_report_text.specs.declared.text.format.Format.TheVariants as format
use Rattle.sab_report_text.specs.declared.text.format.VerdictFormat.{VerdictFormat}
use Rattle.sab_report_text.specs.declared.text.format.VerdictFormat.TheVariants as verdict
use Rattle.sab_report_text.specs.declared.text.lines.Lines.{Lines}
use Rattle.sab_report_text.specs.declared.text.lines.Lines.TheVariants.{All, Acts}
use Rattle.sab_cli.specs.Command.CommandLine.{Lists, command_line}
use Rattle.sab_cli.specs.Command.Source.{Names}
use Rattle.sab_cli.specs.declared.command.job.Job.TheVariants.{Replay, Check, Judge}
use Rattle.sab_cli.specs.declared.command.job.RaceJob.{RaceJob}
use Rattle.sab_cli.specs.declared.command.job.SearchForm.{SearchForm}
use Rattle.sab_cli.specs.declared.command.job.SearchForm.TheVariants as search
use Rattle.sab_cli.specs.declared.command.job.SearchJob.{SearchJob}
use Rattle.sab_cli.specs.declared.command.job.RunForm.{RunForm}
use Rattle.sab_cli.specs.declared.command.job.RunForm.TheVariants.{Report, Script}
use Rattle.sab_cli.specs.declared.command.request.Request.{Request}
use Rattle.sab_cli.specs.declared.command.request.Task.{Task}
use Rattle.sab_cli.specs.declared.command.request.Task.TheVariants.{OfScript, OfRace, OfTrace, OfSearch}

-- ---- what the value of an option asks for

-- a flag that is given has the value true
abbrev pub IsGiven : Option Text → Bool → Type 0
IsGiven value true = value ≡ Some (codes "true")
IsGiven value false = value ≢ Some (codes "true")

-- each format of facts is asked for by its name alone, and the plain one by every other value
abbrev pub IsFormat : Option Text → Format → Type 0
IsFormat value format.Explained = value ≡ Some (codes "explained")
IsFormat value format.Json = value ≡ Some (codes "json")
IsFormat value format.Svg = value ≡ Some (codes "svg")
IsFormat value format.Plain = (value ≢ Some (codes "explained")) × (value ≢ Some (codes "json"))
    × (value ≢ Some (codes "svg"))

-- the two formats of a verdict are asked for in the same way
abbrev pub IsVerdictFormat : Option Text → VerdictFormat → Type 0
IsVerdictFormat value verdict.Json = value ≡ Some (codes "json")
IsVerdictFormat value verdict.Plain = value ≢ Some (codes "json")

-- the flag --acts asks for the lines of acts
abbrev pub IsLines : Option Text → Lines → Type 0
IsLines value Acts = IsGiven value true
IsLines value All = IsGiven value false

-- a script is asked for by its name, and a report by every other format; acts is the value of --acts
abbrev pub IsForm : Option Text → Option Text → RunForm → Type 0
IsForm value acts Script = value ≡ Some (codes "script")
IsForm value acts (Report report_form) = (value ≢ Some (codes "script")) × IsFormat value report_form.format
    × IsLines acts report_form.lines

-- rings are asked for by their name, and a lock by every other value
abbrev pub IsShare : Option Text → Share → Type 0
IsShare value Ring = value ≡ Some (codes "ring")
IsShare value Lock = value ≢ Some (codes "ring")

-- the text is a numeral of the number, perhaps with a plus before it
abbrev pub Spells : Text → ℕ → Type 0
Spells text n = IsNumeral 10 (without_leading_plus text)
    × (digits_value 10 (without_leading_plus text) ≡ n)

-- as many steps as the value spells, up to the limit
abbrev pub IsSpins : Option Text → ℕ → Type 0
IsSpins value spins = (text : Text) (n : ℕ) → value ≡ Some text → Spells text n → n ≤ MAX_SPINS
    → spins ≡ n

-- no seed if there is no value, and else the seed of 64 bits that it spells
abbrev pub IsMix : Option Text → Option ℕ → Type 0
IsMix value mix = (value ≡ None → mix ≡ None)
    × ((text : Text) (n : ℕ) → value ≡ Some text → Spells text n → n < 2 ^ 64 → mix ≡ Some n)

-- two choices of timeouts are asked for by their names, and early ones by every other value
abbrev pub AreTimeouts : Option Text → Timeouts → Type 0
AreTimeouts value Last = value ≡ Some (codes "last")
AreTimeouts value Never = value ≡ Some (codes "never")
AreTimeouts value Early = (value ≢ Some (codes "last")) × (value ≢ Some (codes "never"))

-- as many states as the value spells, from 1 to the greatest number of 32 bits
abbrev pub IsLimit : Option Text → ℕ → Type 0
IsLimit value limit = (text : Text) (n : ℕ) → value ≡ Some text → Spells text n → 0 < n → n < 2 ^ 32
    → limit ≡ n

-- no number if there is no value, and else the number of 32 bits that it spells
abbrev pub IsFailure : Option Text → Option ℕ → Type 0
IsFailure value failure = (value ≡ None → failure ≡ None)
    × ((text : Text) (n : ℕ) → value ≡ Some text → Spells text n → n < 2 ^ 32 → failure ≡ Some n)

-- a script is asked for by its name, and the findings by every other format; the others are the values of --states and
-- --failure
abbrev pub IsSearchForm : Option Text → Option Text → Option Text → SearchForm → Type 0
IsSearchForm value states failure (search.Script number) = (value ≡ Some (codes "script")) × IsFailure failure number
IsSearchForm value states failure (search.Findings format all) = (value ≢ Some (codes "script"))
    × IsVerdictFormat value format × IsGiven states all

-- ---- what the matches of a subcommand ask for

-- a replay, by --format, --acts and --finish
abbrev pub IsReplay : List Row → Task → Type 0
IsReplay rows (OfScript (Replay form finish)) =
    IsForm (first_of (codes "format") rows) (first_of (codes "acts") rows) form
    × IsGiven (first_of (codes "finish") rows) finish
IsReplay rows _ = ⊥

-- a race, by each of its options
abbrev pub IsRaceJob : List Row → RaceJob → Type 0
IsRaceJob rows race = IsShare (first_of (codes "share") rows) race.share
    × IsSpins (one_of (codes "spins") rows) race.spins × IsMix (one_of (codes "mix") rows) race.mix
    × IsForm (first_of (codes "format") rows) (first_of (codes "acts") rows) race.form
    × IsGiven (first_of (codes "finish") rows) race.finish

abbrev pub IsRace : List Row → Task → Type 0
IsRace rows (OfRace race) = IsRaceJob rows race
IsRace rows _ = ⊥

-- a trace is judged if --trace is given, and else a script's run
abbrev pub IsJudge : List Row → Task → Type 0
IsJudge rows (OfTrace format) = IsGiven (first_of (codes "trace") rows) true
    × IsVerdictFormat (first_of (codes "format") rows) format
IsJudge rows (OfScript (Judge format finish)) = IsGiven (first_of (codes "trace") rows) false
    × IsVerdictFormat (first_of (codes "format") rows) format
    × IsGiven (first_of (codes "finish") rows) finish
IsJudge rows _ = ⊥

-- a search, by each of its options
abbrev pub IsSearchJob : List Row → SearchJob → Type 0
IsSearchJob rows job = AreTimeouts (first_of (codes "timeouts") rows) job.timeouts
    × IsLimit (one_of (codes "limit") rows) job.limit
    × IsSearchForm (first_of (codes "format") rows) (first_of (codes "states") rows) (one_of (codes "failure") rows)
    job.form

abbrev pub IsSearch : List Row → Task → Type 0
IsSearch rows (OfSearch job) = IsSearchJob rows job
IsSearch rows _ = ⊥

abbrev pub IsExplained : List Row → Bool → Type 0
IsExplained rows explain = IsGiven (first_of (codes "explain") rows) explain

-- the subcommand of this name, with these matches, asks for the request; a check has no --explain
abbrev pub AsksFor : Text → List Row → Request → Type 0
AsksFor name rows request = Names (first_of (codes "file") rows) request.source
    × (name ≡ codes "replay" → IsReplay rows request.task × IsExplained rows request.explain)
    × (name ≡ codes "race" → IsRace rows request.task × IsExplained rows request.explain)
    × (name ≡ codes "judge" → IsJudge rows request.task × IsExplained rows request.explain)
    × (name ≡ codes "search" → IsSearch rows request.task × IsExplained rows request.explain)
    × (name ≡ codes "check" → (request.task ≡ OfScript Check) × (request.explain ≡ false))

-- ---- what the words ask for

-- the words name a subcommand, which asks for the request; its matches are those of clap's specification
abbrev pub IsAsked : List Text → Request → Type 0
IsAsked words request = (lists : Lists) × (name : Text) × (rows : List Row)
    × (subcommand_of (command_line lists) words ≡ Some (name, rows)) × AsksFor name rows request

-- memory ran out, or by clap's specification the command line doesn't take the words; it takes none of a judge, which has
-- an option that excludes others
abbrev pub IsRefused : List Text → Error → Type 0
IsRefused words error = (kind_of error ≡ OutOfMemory)
    ⊎ ((lists : Lists) × (takes (command_line lists) words ≡ false))
