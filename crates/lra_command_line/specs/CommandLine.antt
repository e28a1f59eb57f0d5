-- The command line, as a parse reads it.
use Rattle.std.specs.Prelude.{◌≡◌, ◌++◌, refl, ◌^◌, ◌-◌, ℕ, map, fold, find, codes, Option, None, Some, List, [], ◌∷◌}
use Rattle.std.specs.{Borrow.Bor, Prelude.true, Str.bytes_eq}
use Rattle.clap.specs.Words.{App, Rule, Text, new_app, new_rule, with_rule, with_subcommand}
use Rattle.clap.specs.declared.builder.action.ArgAction.TheVariants.{SetTrue}
use Rattle.clap.specs.declared.builder.value_parser.ValueParser.{ValueParser}
use Rattle.clap.specs.declared.builder.value_parser.ValueParser.TheVariants as vp
use Rattle.lra_options.specs.Domains.{domains, domain_name}
use Rattle.lra_options.specs.OptionRows.{NumberRow, number_row, number_options, flag_row, flag_options, default_options}
use Rattle.lra_options.specs.declared.options.NumberOption.TheVariants.{Delay, Narrow}
use Rattle.lra_command_line.specs.declared.commands.PlainCommand.{PlainCommand}
use Rattle.lra_command_line.specs.declared.commands.PlainCommand.TheVariants.{Calc, Verify, Certify}
use Rattle.lra_command_line.specs.{declared.command_line.Argument.Argument, declared.command_line.Subcommand.Subcommand}
use Rattle.lra_command_line.specs.declared.command_line.Argument.TheVariants as arg
use Rattle.lra_command_line.specs.declared.command_line.Subcommand.TheVariants as sub

-- `--name VALUE` with this parser; help has one name for the value
abbrev pub valued : Text → ValueParser → Rule
valued name parser = record (new_rule name) { long = Some name; value_names = 1; parser = Some parser }

-- `--name VALUE` with this parser and this default
abbrev pub defaulted : Text → ValueParser → Text → Rule
defaulted name parser default = record (valued name parser) { defaults = default ∷ [] }

-- `--name VALUE` with this parser, which has to be given
abbrev pub required : Text → ValueParser → Rule
required name parser = record (valued name parser) { required = true }

-- `--name`
abbrev pub flag : Text → Rule
flag name = record (new_rule name) { long = Some name; action = Some SetTrue }

-- of a sample, to be given
abbrev pub seed_option : NumberRow
seed_option = record { name = codes "seed"; least = 0; greatest = 2 ^ 64 - 1; default = None }

abbrev pub size_option : NumberRow
size_option = record { name = codes "size"; least = 0; greatest = 400; default = None }

-- of going back, to be given: the number of the assertion's point
abbrev pub point_option : NumberRow
point_option = record { name = codes "point"; least = 1; greatest = 2048; default = None }

-- a number from `least` to `greatest`
abbrev pub number : ℕ → ℕ → ValueParser
number least greatest = vp.Unsigned least greatest

abbrev pub either_rule : Option Text → Text → ValueParser → Rule
either_rule None name parser = required name parser
either_rule (Some default) name parser = defaulted name parser default

abbrev pub number_rule : NumberRow → Rule
number_rule row = either_rule row.default row.name (number row.least row.greatest)

abbrev pub domain_rule : ValueParser → Rule
domain_rule parser = defaulted (codes "domain") parser (domain_name default_options.domain)

-- for whoever doesn't want to choose
abbrev pub best_rule : Rule
best_rule = flag (codes "best")

abbrev pub json_rule : Rule
json_rule = flag (codes "json")

-- a word that is no option, and needn't be there
abbrev pub file_rule : Rule
file_rule = record (new_rule (codes "file")) { value_names = 1 }

-- the rule of each argument, if the domains have this parser
abbrev pub argument_rule : ValueParser → Argument → Rule
argument_rule parser arg.Domain = domain_rule parser
argument_rule parser (arg.Number option) = number_rule (number_row option)
argument_rule parser (arg.Flag option) = flag (flag_row option).name
argument_rule parser arg.Best = best_rule
argument_rule parser arg.Json = json_rule
argument_rule parser arg.Seed = number_rule seed_option
argument_rule parser arg.Size = number_rule size_option
argument_rule parser arg.Point = number_rule point_option
argument_rule parser arg.File = file_rule

abbrev pub with_arguments : ValueParser → List Argument → App → App
with_arguments parser arguments a = fold (λ so argument. with_rule so (argument_rule parser argument)) a arguments

-- commands without options of their own: their names, in the order of the command line; each is the one of its name
abbrev pub plain_name : PlainCommand → Text
plain_name Calc = codes "calc"
plain_name Verify = codes "verify"
plain_name Certify = codes "certify"

abbrev pub plain_commands : List PlainCommand
plain_commands = Calc ∷ Verify ∷ Certify ∷ []

abbrev pub plain_named : Text → Option PlainCommand
plain_named name = find (λ c. bytes_eq name (plain_name c)) plain_commands

pub named_plain : (c : PlainCommand) → plain_named (plain_name c) ≡ Some c
named_plain Calc = refl
named_plain Verify = refl
named_plain Certify = refl

abbrev pub subcommand_name : Subcommand → Text
subcommand_name sub.Analyse = codes "analyse"
subcommand_name sub.Sample = codes "sample"
subcommand_name sub.Back = codes "back"
subcommand_name sub.Threads = codes "threads"
subcommand_name (sub.Plain c) = plain_name c

-- what each subcommand takes: all of the options of an analysis, two of its numbers, or none; all but a sample a file
abbrev pub arguments_of : Subcommand → List Argument
arguments_of sub.Analyse = arg.Domain ∷ (map arg.Number number_options
    ++ map arg.Flag flag_options ++ arg.Best ∷ arg.Json ∷ arg.File ∷ [])
arguments_of sub.Sample = arg.Seed ∷ arg.Size ∷ []
arguments_of sub.Back = arg.Point ∷ arg.File ∷ []
arguments_of sub.Threads = arg.Number Delay ∷ arg.Number Narrow ∷ arg.File ∷ []
arguments_of (sub.Plain c) = arg.File ∷ []

abbrev pub subcommand_app : ValueParser → Subcommand → App
subcommand_app parser s = with_arguments parser (arguments_of s) (new_app (subcommand_name s))

-- in the order of help
abbrev pub subcommands : List Subcommand
subcommands = sub.Analyse ∷ sub.Sample ∷ sub.Back ∷ sub.Threads
    ∷ map sub.Plain plain_commands

-- the program, of which a subcommand has to be named, and which reports its version
abbrev pub begun : App
begun =
    let a = new_app (codes "lra") in
    record a { top = record a.top { has_version = true; subcommand_required = true } }

abbrev pub with_subcommands : ValueParser → List Subcommand → App → App
with_subcommands parser named a = fold (λ so s. with_subcommand so (subcommand_app parser s).top) a named

abbrev pub command_line : ValueParser → App
command_line parser = with_subcommands parser subcommands begun

-- the parser takes the domains' names
abbrev pub TakesDomains : ValueParser → Type 0
TakesDomains parser = (names : Bor (List (Bor Text))) × (parser ≡ vp.Names names)
    × (map (λ name. name.now) names.now ≡ map domain_name domains)

abbrev pub DeclaresCommandLine : App → Type 0
DeclaresCommandLine a =
    (parser : ValueParser) × TakesDomains parser × (a ≡ command_line parser)
