-- What the words ask of the program: a command over a file, a text that is shown, or nothing that it takes.
use Rattle.std.specs.Prelude.{◌≡◌, ◌⊎◌, Bool, true, false, List, [], option_map}
use Rattle.clap.specs.{Simple.subcommand_rows_of, Words.IsAmong, Words.Text, Words.fault_of, Words.subcommand_of}
use Rattle.clap.specs.{Words.takes, declared.builder.value_parser.ValueParser.ValueParser, declared.error.Error.Error}
use Rattle.clap.specs.{declared.error.kind.ErrorKind.ErrorKind, declared.parser.matches.ArgMatches.ArgMatches}
use Rattle.clap.specs.declared.error.kind.ErrorKind.TheVariants as kind
use Rattle.lra_command_line.specs.CommandLine.{TakesDomains, command_line}
use Rattle.lra_command_line.specs.ParsedCommand.{AsksOver, Conflicting}
use Rattle.lra_command_line.specs.declared.words.Refusal.TheVariants.{Usage, Memory}
use Rattle.lra_command_line.specs.{declared.commands.Command.Command, declared.requests.Request.Request}
use Rattle.lra_command_line.specs.{declared.words.Refusal.Refusal, declared.words.Unasked.Unasked}
use Rattle.lra_command_line.specs.declared.requests.Request.TheVariants as request
use Rattle.lra_command_line.specs.declared.words.Unasked.TheVariants as unasked

-- an error of the parse that is no mistake: its text is help, or the version
abbrev pub is_shown : ErrorKind → Bool
is_shown kind.DisplayHelp = true
is_shown kind.DisplayVersion = true
is_shown other = false

-- the parse has an error of such a kind for the words, or of another, and doesn't take them
pub record IsFaulted (words : List Text) (shown : Bool) : Type 0 where
  pub parser : ValueParser
  pub domains : TakesDomains parser
  pub kind : ErrorKind
  pub is_kind : IsAmong kind (fault_of (command_line parser) words)
  pub is_such : is_shown kind ≡ shown
  pub rejected : takes (command_line parser) words ≡ true → ⊥

-- the parse has none, and the options conflict
pub record IsConflict (words : List Text) : Type 0 where
  pub parser : ValueParser
  pub domains : TakesDomains parser
  pub none : fault_of (command_line parser) words ≡ []
  pub conflicting : Conflicting (subcommand_of (command_line parser) words)

-- the parse has none, and these are the matches
pub record IsTakenAs (words : List Text) (m : ArgMatches) : Type 0 where
  pub parser : ValueParser
  pub domains : TakesDomains parser
  pub none : fault_of (command_line parser) words ≡ []
  pub rows : subcommand_rows_of m ≡ subcommand_of (command_line parser) words

-- what an error of the parse is
abbrev pub unasked_by : ErrorKind → Error → Unasked
unasked_by kind.OutOfMemory e = unasked.Memory
unasked_by kind.DisplayHelp e = unasked.Shown e
unasked_by kind.DisplayVersion e = unasked.Shown e
unasked_by other e = unasked.Refused e

-- why the words ask for no command
abbrev pub IsUnasked : List Text → Unasked → Type 0
IsUnasked words unasked.Memory = Unit {0}
IsUnasked words (unasked.Shown e) = IsFaulted words true
IsUnasked words (unasked.Refused e) = IsFaulted words false
IsUnasked words unasked.Conflict = IsConflict words

-- why the words ask for no command, without the text that says it
abbrev pub refusal : Unasked → Refusal
refusal unasked.Memory = Memory
refusal other = Usage

-- what the program is asked for
abbrev pub IsRequest : List Text → Request → Type 0
IsRequest words (request.Run file) = (chosen : Command) × AsksOver words chosen (option_map (λ name. name.now) file)
IsRequest words (request.Show text) = IsFaulted words true
IsRequest words (request.Refuse text) = IsFaulted words false ⊎ IsConflict words
