-- From what words and their input must get to what is made of them before the writing, and to the statuses of an
-- answer.
use Rattle.std.proofs.Common.{◌≡◌, ◌<◌, ℕ, List, ◌++◌, length, refl, sym, subst, inl, inr, ◌⊎◌, arith}
use Rattle.std.specs.Prelude.{Option, Some, None, Result, Ok, Err}
use Rattle.lra_command_line.specs.{ParsedCommand.Asks, ParsedCommand.AsksNone, ParsedCommand.AsksFor, ParsedCommand.IsRejected, declared.commands.Command.Command}
use Rattle.lra_command_line.proofs.OneCommand.{one_asked, asks_not_none, asks_within}
use Rattle.lra_command_answers.specs.{Statuses.Ends, Statuses.refused, Statuses.answered, Statuses.source_statuses, declared.status.Status.Status, declared.status.Status.TheVariants.Usage}
use Rattle.lra_commands.specs.Commands.{limit_of, AnswersInput, AllowedInputStatuses, IsTooLong, IsKnown, asked_limit, AllowedStatuses}
use Rattle.lra_commands.specs.Run.{IsInput, IsAsked, usage_text, AnswersCommand, IsAnswerToWords, TakesBytes}
use Rattle.lra_commands.specs.{Prepared.IsInputText, Prepared.IsTaken, Prepared.IsReadBy, declared.top_call.NoAnswer.NoAnswer}
use Rattle.lra_commands.proofs.{Reading.unread, Reading.read_as, Reading.whole_input, Reading.begun_input, Reading.some_input, Rows.answering}
use Rattle.lra_commands.specs.declared.top_call.NoAnswer.TheVariants as none

-- a command's answer ------------------------------------------------------------------

whole_text : (c : Command) (limit : ℕ) (old new : Option (List ℕ)) (bytes text : List ℕ) (status : Status) → limit_of c ≡ Some limit → TakesBytes limit old new bytes
    → AnswersInput c bytes text status → IsInputText c old text status
whole_text c limit old new bytes text status e t d = elim t.whole [
  | inl end ↦ record { bytes = bytes; input = whole_input old new bytes t.taken end; answers = d }
  | inr past ↦ let (rest, input) = begun_input old new bytes t.taken in
      let long : limit < length bytes = omega arith in
      record { bytes = bytes ++ rest; input = input; answers = (answering c).longer limit bytes rest text status e long d }
]

taken_text : (c : Command) (limit : Option ℕ) (old new : Option (List ℕ)) (bytes text : List ℕ) (status : Status) → limit_of c ≡ limit → IsTaken limit old new bytes
    → AnswersInput c bytes text status → IsInputText c old text status
taken_text c None old new bytes text status e t d =
    let (other, input) = some_input old in
    record { bytes = other; input = input; answers = (answering c).any bytes other text status e d }
taken_text c (Some limit) old new bytes text status e t d = whole_text c limit old new bytes text status e t d

pub command_text : (c : Command) (old new : Option (List ℕ)) (bytes shown text : List ℕ) (status : Status) → IsTaken (limit_of c) old new bytes → shown ≡ bytes
    → AnswersInput c shown text status → IsInputText c old text status
command_text c old new bytes shown text status t same d = taken_text c (limit_of c) old new bytes text status refl t (subst (λ b. AnswersInput c b text status) same d)

-- it is read, and there is an answer or no memory for it
pub read_on : {T U : Type 0} (limit : Option ℕ) (old new : Option (List ℕ)) (t : T) (r : Result U NoAnswer) → (r ≡ Err none.ReadFault → ⊥)
    → (let ok : Result T NoAnswer = Ok t in IsReadBy limit old new ok) → IsReadBy limit old new r
read_on limit old new t r not_failed read = read_as limit old new (λ f. absurd (not_failed f)) (λ done. refl) read

pub read_failed : (T U : Type 0) (limit : Option ℕ) (old new : Option (List ℕ)) (e : NoAnswer)
    → (let r : Result T NoAnswer = Err e in IsReadBy limit old new r) → let r : Result U NoAnswer = Err e in IsReadBy limit old new r
read_failed T U limit old new e read =
    read_as limit old new (λ f. let same : e ≡ none.ReadFault = cc in subst (λ x. let r : Result T NoAnswer = Err x in let s : Result T NoAnswer = Err none.ReadFault in r ≡ s) (sym same) refl)
    (λ done. absurd (let wrong : ⊥ = cc in wrong)) read

pub ruleset commanding = (command_text, read_on, read_failed)

-- words ------------------------------------------------------------------------------

-- words that ask for a command
pub deserved_asked : (words : List (List ℕ)) (left : Option (List ℕ)) (text : List ℕ) (status : Status) (found : Option Command) (c : Command)
    → AsksFor words found → found ≡ Some c → IsInputText c left text status → IsAnswerToWords words left text status
deserved_asked words left text status found c asks is d = record { asked = Some c; asks = subst (AsksFor words) is asks; bytes = d.bytes; input = d.input; answers = d.answers }

-- words that ask for none
pub deserved_usage : (words : List (List ℕ)) (left : Option (List ℕ)) (text : List ℕ) (status : Status) (found : Option Command)
    → AsksFor words found → found ≡ None → text ≡ usage_text → status ≡ Usage → IsAnswerToWords words left text status
deserved_usage words left text status found asks is written ends =
    let (bytes, input) = some_input left in
    record { asked = None; asks = subst (AsksFor words) is asks; bytes = bytes; input = input; answers = (written, ends) }

-- what the words ask for is one thing
pub same_asked : (words : List (List ℕ)) (found asked : Option Command) → AsksFor words found → IsAsked words asked → found ≡ asked
same_asked words None None asks other = refl
same_asked words None (Some d) asks other = absurd (asks_not_none words d other asks.0)
same_asked words (Some c) None asks other = absurd (asks_not_none words c asks other)
same_asked words (Some c) (Some d) asks other = let same : c ≡ d = one_asked words c d asks other in subst (λ x. Some c ≡ Some x) same refl

pub asked_reads : {T : Type 0} (words : List (List ℕ)) (found : Option Command) (c : Command) (old new : Option (List ℕ)) (r : Result T NoAnswer) → AsksFor words found → found ≡ Some c
    → IsReadBy (limit_of c) old new r → (asked : Option Command) → IsAsked words asked → IsReadBy (asked_limit asked) old new r
asked_reads words found c old new r asks is read asked other =
    let same : found ≡ asked = same_asked words found asked asks other in
    subst (λ x. IsReadBy (asked_limit x) old new r) same (subst (λ x. IsReadBy (asked_limit x) old new r) (sym is) read)

pub none_reads : {T : Type 0} (words : List (List ℕ)) (found : Option Command) (left : Option (List ℕ)) (r : Result T NoAnswer) → AsksFor words found → found ≡ None
    → (r ≡ Err none.ReadFault → ⊥) → (asked : Option Command) → IsAsked words asked → IsReadBy (asked_limit asked) left left r
none_reads words found left r asks is not_failed asked other =
    let same : found ≡ asked = same_asked words found asked asks other in
    subst (λ x. IsReadBy (asked_limit x) left left r) same (subst (λ x. IsReadBy (asked_limit x) left left r) (sym is) (refl, not_failed))

pub unread_memory : (T : Type 0) (limit : Option ℕ) (left : Option (List ℕ)) → let r : Result T NoAnswer = Err none.Memory in IsReadBy limit left left r
unread_memory T limit left = unread limit left (λ f. let wrong : ⊥ = cc in wrong) (λ done. let wrong : ⊥ = cc in wrong)

pub ruleset preparing = (deserved_asked, deserved_usage, asked_reads, none_reads, unread_memory)

-- what is required decides the status -----------------------------------------------

-- the input that reports its bytes is these bytes
known_input : (so : List ℕ → Type 0) (left : Option (List ℕ)) (bytes : List ℕ) → IsInput left bytes → IsKnown so left → so bytes
known_input so None bytes input known = absurd known
known_input so (Some told) bytes input known = subst so input known

command_ends : (words : List (List ℕ)) (left : Option (List ℕ)) (bytes text : List ℕ) (status : Status) (c : Command) (among : List Status) → Asks words c → IsInput left bytes
    → AnswersInput c bytes text status → AllowedStatuses (Some c) left among → Ends among status
command_ends words left bytes text status c among asks input d (inl may) = subst (λ a. Ends a status) (sym may) ((answering c).ends bytes text status (asks_within words c asks) d)
command_ends words left bytes text status c among asks input d (inr known) = elim (known_input (λ b. (IsTooLong c b × (among ≡ refused)) ⊎ AllowedInputStatuses c b among) left bytes input known) [
  | inl ((limit, e, long), calls) ↦ subst (λ a. Ends a status) (sym calls) ((answering c).too_long limit bytes text status e long d)
  | inr calls ↦ (answering c).called bytes text status among d calls
]

required_ends : (words : List (List ℕ)) (left : Option (List ℕ)) (bytes text : List ℕ) (status : Status) (asked : Option Command) (among : List Status) → AsksFor words asked
    → IsInput left bytes → AnswersCommand asked bytes text status → AllowedStatuses asked left among → Ends among status
required_ends words left bytes text status None among asks input d calls = subst (λ a. Ends a status) (sym calls) (inl d.1)
required_ends words left bytes text status (Some c) among asks input d calls = command_ends words left bytes text status c among asks input d calls

pub asked_ends : (words : List (List ℕ)) (left : Option (List ℕ)) (text : List ℕ) (status : Status) (asked : Option Command) (among : List Status) → IsAnswerToWords words left text status
    → IsAsked words asked → AllowedStatuses asked left among → Ends among status
asked_ends words left text status asked among d other calls =
    let same : d.asked ≡ asked = same_asked words d.asked asked d.asks other in
    required_ends words left d.bytes text status d.asked among d.asks d.input d.answers (subst (λ x. AllowedStatuses x left among) (sym same) calls)

-- the statuses of answers are four, and usage that of no command's ---------------------

own_not_usage : (status : Status) → Ends source_statuses status → status ≡ Usage → ⊥
own_not_usage status (inl refused) is = cc
own_not_usage status (inr (inl proved)) is = cc
own_not_usage status (inr (inr (inl unknown))) is = cc
own_not_usage status (inr (inr (inr none))) is = none

own_answered : (status : Status) → Ends source_statuses status → Ends answered status
own_answered status (inl refused) = inr (inr (inl refused))
own_answered status (inr (inl proved)) = inl proved
own_answered status (inr (inr (inl unknown))) = inr (inl unknown)
own_answered status (inr (inr (inr none))) = absurd none

asked_status : (words : List (List ℕ)) (bytes text : List ℕ) (status : Status) (c : Command) → Asks words c → AnswersInput c bytes text status → Ends source_statuses status
asked_status words bytes text status c asks d = (answering c).own status ((answering c).ends bytes text status (asks_within words c asks) d)

required_status : (words : List (List ℕ)) (bytes text : List ℕ) (status : Status) (asked : Option Command) → AsksFor words asked → AnswersCommand asked bytes text status → Ends answered status
required_status words bytes text status None asks d = inr (inr (inr (inl d.1)))
required_status words bytes text status (Some c) asks d = own_answered status (asked_status words bytes text status c asks d)

pub answered_status : (words : List (List ℕ)) (left : Option (List ℕ)) (text : List ℕ) (status : Status) → IsAnswerToWords words left text status → Ends answered status
answered_status words left text status d = required_status words d.bytes text status d.asked d.asks d.answers

usage_asked : (words : List (List ℕ)) (bytes text : List ℕ) (status : Status) (asked : Option Command) → AsksFor words asked → AnswersCommand asked bytes text status → status ≡ Usage
    → AsksNone words × IsRejected words
usage_asked words bytes text status None asks d is = asks
usage_asked words bytes text status (Some c) asks d is = absurd (own_not_usage status (asked_status words bytes text status c asks d) is)

pub usage_status : (words : List (List ℕ)) (left : Option (List ℕ)) (text : List ℕ) (status : Status) → IsAnswerToWords words left text status → status ≡ Usage → AsksNone words × IsRejected words
usage_status words left text status d is = usage_asked words d.bytes text status d.asked d.asks d.answers is

-- what the input of the words' command must get
asked_same : (words : List (List ℕ)) (bytes text : List ℕ) (status : Status) (asked : Option Command) (c : Command) → AsksFor words asked → Asks words c → AnswersCommand asked bytes text status
    → AnswersInput c bytes text status
asked_same words bytes text status None c asks other d = absurd (asks_not_none words c other asks.0)
asked_same words bytes text status (Some x) c asks other d = subst (λ y. AnswersInput y bytes text status) (one_asked words x c asks other) d

pub asked_input : (words : List (List ℕ)) (left : Option (List ℕ)) (text : List ℕ) (status : Status) (c : Command) → Asks words c → (d : IsAnswerToWords words left text status)
    → AnswersInput c d.bytes text status
asked_input words left text status c asks d = asked_same words d.bytes text status d.asked c d.asks asks d.answers
