-- What a call of `run` does, by its status.
use Rattle.std.specs.Io.KnownBytes.{Appends, Consumes, IsAtEnd}
use Rattle.std.specs.Prelude.{◌≡◌, ◌≢◌, ◌≤◌, ◌<◌, ◌⊎◌, ◌+◌, ℕ, List, length, codes, Option, None, Some}
use Rattle.lra_io.specs.{Causes.AppendsPart, Causes.Rose, ReadErrors.LosesPrefix}
use Rattle.lra_commands.specs.Crates.lra_row_text.Texts.{text_line}
use Rattle.lra_command_line.specs.ParsedCommand.{Asks, AsksFor, AsksNone}
use Rattle.lra_command_line.specs.declared.commands.Command.{Command}
use Rattle.lra_commands.specs.{Commands.AnswersInput, World.World}
use Rattle.lra_command_answers.specs.{declared.status.Status.Status, declared.status.Status.TheVariants.Usage}

-- all bytes that are left of an input, if it reports them
abbrev pub IsInput : Option (List ℕ) → List ℕ → Type 0
IsInput None bytes = Unit {0}
IsInput (Some left) bytes = left ≡ bytes

-- the words ask for this command, or for none
abbrev pub IsAsked : List (List ℕ) → Option Command → Type 0
IsAsked words None = AsksNone words
IsAsked words (Some c) = Asks words c

abbrev pub usage_text : List ℕ
usage_text = text_line (codes "refused usage")

-- the text and the status that a command, or none, and the input's bytes must get
abbrev pub AnswersCommand : Option Command → List ℕ → List ℕ → Status → Type 0
AnswersCommand None bytes text status = (text ≡ usage_text) × (status ≡ Usage)
AnswersCommand (Some c) bytes text status = AnswersInput c bytes text status

-- the text and the status are those that what the words ask for and the input's bytes must get
pub record IsAnswerToWords (words : List (List ℕ)) (left : Option (List ℕ)) (text : List ℕ) (status : Status) : Type 0
  where
    pub asked : Option Command
    pub asks : AsksFor words asked
    pub bytes : List ℕ
    pub input : IsInput left bytes
    pub answers : AnswersCommand asked bytes text status

-- the required text is written whole
pub record WritesAnswer (w : World) (status : Status) : Type 0 where
  pub text : List ℕ
  pub answers : IsAnswerToWords w.words w.left text status
  pub written : Appends w.held w.held_now text

-- a prefix of the required text is written, and not all of it; the text is longer than what the sink was sure to take
pub record WritesPrefix (w : World) : Type 0 where
  pub text : List ℕ
  pub status : Status
  pub answers : IsAnswerToWords w.words w.left text status
  pub written : AppendsPart w.held w.held_now text
  pub longer : w.spare < length text

-- these bytes are read of the input: all to its end, or one more than the limit
pub record TakesBytes (limit : ℕ) (old new : Option (List ℕ)) (bytes : List ℕ) : Type 0 where
  pub taken : Consumes old new bytes
  pub whole : IsAtEnd new ⊎ (length bytes ≡ limit + 1)
  pub within : length bytes ≤ limit + 1

-- what is read under a limit of bytes: never more than one past it, and to the end or so far where the reading is done;
-- without a limit nothing is, and no reading fails
abbrev pub IsRead : Option ℕ → Option (List ℕ) → Option (List ℕ) → Type 0 → Type 0 → Type 0
IsRead None old new failed done = (new ≡ old) × (failed → ⊥)
IsRead (Some limit) old new failed done =
    LosesPrefix old new limit × (done → (bytes : List ℕ) × TakesBytes limit old new bytes)

-- a count of faults rose if the fault is the status, and stays at every other
pub record RisesAtFault (fault : Status) (before now : ℕ) (status : Status) : Type 0 where
  pub rose : status ≡ fault → Rose before now
  pub same : status ≢ fault → now ≡ before
