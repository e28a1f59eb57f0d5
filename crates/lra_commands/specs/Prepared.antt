-- What the parts of `run` do: the one before the writing, and the whole.
use Rattle.std.specs.Io.KnownBytes.{Appends, Keeps}
use Rattle.std.specs.Prelude.{◌≡◌, ◌⊎◌, ◌<◌, ℕ, List, length, Option, None, Some, Result, Ok, Err, IfOk, IsOk, IsErrOf}
use Rattle.lra_io.specs.Causes.{AppendsPart, Rose}
use Rattle.lra_command_line.specs.declared.commands.Command.{Command}
use Rattle.lra_commands.specs.Run.{IsInput, IsAsked, IsAnswerToWords, IsRead, TakesBytes}
use Rattle.lra_commands.specs.{Commands.AnswersInput, Commands.asked_limit, declared.top_call.NoAnswer.NoAnswer}
use Rattle.lra_command_answers.specs.declared.status.Status.TheVariants.{ReadFault, WriteFault, Memory}
use Rattle.lra_command_answers.specs.{declared.answer.Answer.Answer, declared.status.Status.Status}
use Rattle.lra_commands.specs.World.{World}
use Rattle.lra_commands.specs.declared.top_call.NoAnswer.TheVariants as none

-- a text that the input of a command must get with some status
pub record IsInputText (command : Command) (left : Option (List ℕ)) (text : List ℕ) (status : Status) : Type 0 where
  pub bytes : List ℕ
  pub input : IsInput left bytes
  pub answers : AnswersInput command bytes text status

-- the bytes that are read under a limit, or without one
abbrev pub IsTaken : Option ℕ → Option (List ℕ) → Option (List ℕ) → List ℕ → Type 0
IsTaken None old new bytes = new ≡ old
IsTaken (Some limit) old new bytes = TakesBytes limit old new bytes

-- what is read under a limit, or without one, by how it went
abbrev pub IsReadBy : {T : Type 0} → Option ℕ → Option (List ℕ) → Option (List ℕ) → Result T NoAnswer → Type 0
IsReadBy limit old new result = IsRead limit old new (IsErrOf result none.ReadFault) (IsOk result)

-- the count of the source's faults rose if a fault is the answer, and stays at every other
abbrev pub PrepareCause : {T : Type 0} → ℕ → ℕ → Result T NoAnswer → Type 0
PrepareCause before now (Ok a) = now ≡ before
PrepareCause before now (Err none.ReadFault) = Rose before now
PrepareCause before now (Err none.Memory) = now ≡ before

-- how a call ends, once the part before the writing has this result
abbrev pub IsWritten : World → Result Answer NoAnswer → Status → Type 0
IsWritten w (Ok a) status =
    (Appends w.held w.held_now a.text.items × (w.write_faults_now ≡ w.write_faults) × (status ≡ a.status))
    ⊎ (AppendsPart w.held w.held_now a.text.items × (w.spare < length a.text.items)
    × Rose w.write_faults w.write_faults_now × (status ≡ WriteFault))
IsWritten w (Err none.ReadFault) status =
    Keeps w.held w.held_now × (w.write_faults_now ≡ w.write_faults) × (status ≡ ReadFault)
IsWritten w (Err none.Memory) status =
    Keeps w.held w.held_now × (w.write_faults_now ≡ w.write_faults) × (status ≡ Memory)

-- a call of `run` by its parts, from which its promises follow
pub record Ending (w : World) (status : Status) : Type 0 where
  pub result : Result Answer NoAnswer
  pub answers : IfOk result (λ a. IsAnswerToWords w.words w.left a.text.items a.status)
  pub reads : (asked : Option Command) → IsAsked w.words asked →
      IsReadBy (asked_limit asked) w.left w.left_now result
  pub cause : PrepareCause w.read_faults w.read_faults_now result
  pub written : IsWritten w result status
