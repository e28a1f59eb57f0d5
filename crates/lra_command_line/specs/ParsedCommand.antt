-- The command that the matches of the command line are.
use Rattle.std.specs.Prelude.{◌≡◌, ◌^◌, ◌&&◌, ◌||◌, ◌⊎◌, ℕ, Bool, true, false, List, [], fold, Option, Some, not, None}
use Rattle.std.specs.Prelude.{codes, if◌then◌else◌, find, nat_lt, option_and_then, option_map, ⊤}
use Rattle.std.specs.Str.Parse.{digits_value, without_leading_plus}
use Rattle.std.specs.{List.AllByRecursion, List.list_any, Str.bytes_eq}
use Rattle.clap.specs.Words.{Row, Text, fault_of, first_of, one_of, subcommand_of, takes}
use Rattle.clap.specs.{Takes.is_given, ValueTests.is_numeral, declared.builder.value_parser.ValueParser.ValueParser}
use Rattle.lra_options.specs.Domains.{domains, domain_name}
use Rattle.lra_options.specs.OptionRows.{IsInRange, number_row, number_value, set_number, number_options, flag_row}
use Rattle.lra_options.specs.OptionRows.{set_flag, flag_options, are_compatible, best_options}
use Rattle.lra_options.specs.declared.options.NumberOption.TheVariants.{Delay, Narrow}
use Rattle.lra_options.specs.{declared.options.Domain.Domain, declared.options.FlagOption.FlagOption}
use Rattle.lra_options.specs.{declared.options.NumberOption.NumberOption, declared.options.Options.Options}
pub use Rattle.lra_options.specs.OptionRows.{default_options}
use Rattle.lra_command_line.specs.CommandLine.{TakesDomains, command_line, plain_named, point_option, seed_option}
use Rattle.lra_command_line.specs.CommandLine.{size_option}
use Rattle.lra_command_line.specs.declared.commands.Command.TheVariants.{Analyse, Sample, Back, Threads, Plain}
use Rattle.lra_command_line.specs.declared.commands.Format.TheVariants.{Lines, Json}
use Rattle.lra_command_line.specs.declared.commands.PlainCommand.{PlainCommand}
use Rattle.lra_command_line.specs.{declared.commands.Command.Command, declared.commands.Format.Format}

-- the number that a text writes, by decimal digits after at most one plus, if it is below
-- `limit`
abbrev pub number_below : ℕ → Text → Option ℕ
number_below limit text =
    let digits = without_leading_plus text in
    if is_numeral digits && nat_lt (digits_value 10 digits) limit then Some (digits_value 10 digits)
    else None

abbrev pub domain_named : Text → Option Domain
domain_named name = find (λ d. bytes_eq name (domain_name d)) domains

abbrev pub truth_of : Text → Option Bool
truth_of text = if bytes_eq text (codes "true") then Some true
    else (if bytes_eq text (codes "false") then Some false else None)

-- the values of options, by the text that the matches have for each
abbrev pub number_at : Text → ℕ → List Row → Option ℕ
number_at name limit rows = option_and_then (number_below limit) (one_of name rows)

abbrev pub flag_at : Text → List Row → Option Bool
flag_at name rows = option_and_then truth_of (one_of name rows)

abbrev pub domain_at : Text → List Row → Option Domain
domain_at name rows = option_and_then domain_named (first_of name rows)

-- the options so far with one more that is read from the rows
abbrev pub with_number : List Row → Option Options → NumberOption → Option Options
with_number rows so option = option_and_then (λ o. option_map (λ value. set_number option value o)
    (number_at (number_row option).name (2 ^ 32) rows)) so

abbrev pub with_flag : List Row → Option Options → FlagOption → Option Options
with_flag rows so option = option_and_then (λ o. option_map (λ value. set_flag option value o)
    (flag_at (flag_row option).name rows)) so

abbrev pub with_domain : List Row → Option Options
with_domain rows = option_map (λ domain. record default_options { domain = domain }) (domain_at (codes "domain") rows)

-- each of them is read: none keeps its default here
abbrev pub options_of : List Row → Option Options
options_of rows = fold (with_flag rows) (fold (with_number rows) (with_domain rows) number_options) flag_options

-- the words themselves give one of the options, be it with the value that it has by default
abbrev pub gives_number : List Row → Bool
gives_number rows = list_any (λ option. is_given (number_row option).name rows) number_options

-- a flag that `--best` stands for
abbrev pub gives_settled : List Row → FlagOption → Bool
gives_settled rows option = not (flag_row option).stands_beside_best && is_given (flag_row option).name rows

abbrev pub gives_flag : List Row → Bool
gives_flag rows = list_any (gives_settled rows) flag_options

abbrev pub gives_any : List Row → Bool
gives_any rows = is_given (codes "domain") rows || (gives_number rows || gives_flag rows)

-- `--best` stands alone for its options; flags that stand beside it are read. Without it those that are read have to
-- agree
abbrev pub with_beside : List Row → Option Options → FlagOption → Option Options
with_beside rows so option = if (flag_row option).stands_beside_best then with_flag rows so option else so

abbrev pub best_of : List Row → Option Options
best_of rows = if gives_any rows then None else fold (with_beside rows) (Some best_options) flag_options

abbrev pub agreeing : Options → Option Options
agreeing o = if are_compatible o then Some o else None

abbrev pub chosen_options : List Row → Option Options
chosen_options rows =
    option_and_then (λ best. if best then best_of rows else option_and_then agreeing (options_of rows))
    (flag_at (codes "best") rows)

-- the output that the flags ask for
abbrev pub format_of : Bool → Format
format_of true = Json
format_of false = Lines

abbrev pub format_at : List Row → Option Format
format_at rows = option_map format_of (flag_at (codes "json") rows)

abbrev pub analyse_of : List Row → Option Command
analyse_of rows = option_and_then (λ options. option_map (λ format. Analyse options format)
    (format_at rows))
    (chosen_options rows)

abbrev pub sample_of : List Row → Option Command
sample_of rows = option_and_then (λ seed. option_map (λ size. Sample seed size)
    (number_at size_option.name (2 ^ 32) rows))
    (number_at seed_option.name (2 ^ 64) rows)

abbrev pub back_of : List Row → Option Command
back_of rows = option_map (λ point. Back point) (number_at point_option.name (2 ^ 32) rows)

abbrev pub threads_of : List Row → Option Command
threads_of rows = option_and_then (λ delay. option_map (λ narrow. Threads delay narrow)
    (number_at (number_row Narrow).name (2 ^ 32) rows))
    (number_at (number_row Delay).name (2 ^ 32) rows)

-- the command of the subcommand's name and matches
abbrev pub optioned_command : Text → List Row → Option Command
optioned_command name rows =
    if bytes_eq name (codes "analyse") then analyse_of rows
    else (if bytes_eq name (codes "sample") then sample_of rows
    else (if bytes_eq name (codes "back") then back_of rows
    else (if bytes_eq name (codes "threads") then threads_of rows else None)))

abbrev pub or_optioned : Option PlainCommand → Text → List Row → Option Command
or_optioned (Some c) name rows = Some (Plain c)
or_optioned None name rows = optioned_command name rows

abbrev pub named_command : Text → List Row → Option Command
named_command name rows = or_optioned (plain_named name) name rows

abbrev pub command_of : Option (Text × List Row) → Option Command
command_of None = None
command_of (Some chosen) = named_command chosen.0 chosen.1

abbrev pub HasInRange : Options → NumberOption → Type 0
HasInRange o option = IsInRange (number_row option) (number_value option o)

-- each value lies in its option's range
abbrev pub IsWithinRanges : Command → Type 0
IsWithinRanges (Analyse options format) = AllByRecursion (HasInRange options) number_options
IsWithinRanges (Sample seed size) = IsInRange seed_option seed × IsInRange size_option size
IsWithinRanges (Back point) = IsInRange point_option point
IsWithinRanges (Threads delay narrow) = IsInRange (number_row Delay) delay × IsInRange (number_row Narrow) narrow
IsWithinRanges (Plain c) = ⊤

-- an option stands beside `--best`, which stands for it
abbrev pub IsBesideBest : List Row → Type 0
IsBesideBest rows = (flag_at (codes "best") rows ≡ Some true) × (gives_any rows ≡ true)

-- without `--best`, the options that are read can't be given together
abbrev pub Disagrees : List Row → Type 0
Disagrees rows = (o : Options) × (flag_at (codes "best") rows ≡ Some false)
    × (options_of rows ≡ Some o) × (are_compatible o ≡ false)

-- the matches are an analysis whose options conflict
abbrev pub Conflicting : Option (Text × List Row) → Type 0
Conflicting None = ⊥
Conflicting (Some chosen) = (chosen.0 ≡ codes "analyse") × (IsBesideBest chosen.1 ⊎ Disagrees chosen.1)

-- the words ask for no command: the parse has a kind of error for them, or else their options conflict
abbrev pub AsksNone : List Text → Type 0
AsksNone words = (parser : ValueParser) × TakesDomains parser
    × (fault_of (command_line parser) words ≡ [] → Conflicting (subcommand_of (command_line parser) words))

-- the file that the matches name: `-`, or none, is standard input
abbrev pub file_of : List Row → Option Text
file_of rows = option_and_then (λ name. if bytes_eq name (codes "-") then None else Some name)
    (first_of (codes "file") rows)

abbrev pub named_file : Option (Text × List Row) → Option Text
named_file matched = option_and_then (λ chosen. file_of chosen.1) matched

-- nor does the command line take them, unless their options conflict
abbrev pub IsRejected : List Text → Type 0
IsRejected words = (parser : ValueParser) × TakesDomains parser
    × (takes (command_line parser) words ≡ true → Conflicting (subcommand_of (command_line parser) words))

-- the words ask for this command: the command line takes them, and it is that of the matches
abbrev pub Asks : List Text → Command → Type 0
Asks words chosen = (parser : ValueParser) × TakesDomains parser
    × (fault_of (command_line parser) words ≡ [])
    × (command_of (subcommand_of (command_line parser) words) ≡ Some chosen)

-- the words ask for this command over this file
abbrev pub AsksOver : List Text → Command → Option Text → Type 0
AsksOver words chosen file = (parser : ValueParser) × TakesDomains parser
    × (fault_of (command_line parser) words ≡ [])
    × (command_of (subcommand_of (command_line parser) words) ≡ Some chosen)
    × (named_file (subcommand_of (command_line parser) words) ≡ file)

-- each list of words asks for no command, or for one, whose values lie in their ranges; never for both
abbrev pub EachList : Type 0
EachList = (words : List Text)
    → (AsksNone words ⊎ ((c : Command) × Asks words c × IsWithinRanges c × ((d : Command) → Asks words d → d ≡ c)))
    × ((c : Command) → Asks words c → AsksNone words → ⊥)

-- words that ask for a command do so over one file, or over standard input
abbrev pub OneFile : Type 0
OneFile = (words : List Text) (c d : Command) (file other : Option Text) → AsksOver words c file →
    AsksOver words d other
    → file ≡ other

-- the command that the words ask for, or none
abbrev pub AsksFor : List Text → Option Command → Type 0
AsksFor words None = AsksNone words × IsRejected words
AsksFor words (Some c) = Asks words c
