-- From the parts of a call of `run` to the record that states the whole, and from that to all that `run` promises.
use Rattle.std.proofs.Common.{◌≡◌, ◌≢◌, ◌≤◌, ◌<◌, ℕ, List, length, refl, sym, ap, subst, inl, inr, ◌⊎◌, arith}
use Rattle.std.specs.{Io.KnownBytes.Appends, Io.KnownBytes.Keeps, Prelude.Option, Prelude.Some, Prelude.None, Prelude.Result, Prelude.Ok, Prelude.Err, Prelude.IfOk, Prelude.IsOk}
use Rattle.lra_io.specs.Causes.{AppendsPart, Rose}
use Rattle.lra_command_line.specs.{ParsedCommand.AsksNone, ParsedCommand.IsRejected, declared.commands.Command.Command}
use Rattle.lra_command_answers.specs.declared.status.Status.TheVariants.{Usage, ReadFault, WriteFault, Memory}
use Rattle.lra_command_answers.specs.{Exit.exit_of, Statuses.Ends, Statuses.reported, Statuses.answered, Statuses.silent, Statuses.faults, declared.answer.Answer.Answer, declared.status.Status.Status}
use Rattle.lra_commands.specs.{Commands.asked_limit, Commands.AllowedStatuses, Prepared.IsReadBy, Prepared.PrepareCause, Prepared.IsWritten, Prepared.Ending, Promises.RunPromises, Run.IsAsked}
use Rattle.lra_commands.specs.{Run.IsAnswerToWords, Run.WritesAnswer, Run.WritesPrefix, Run.RisesAtFault, World.World, declared.top_call.NoAnswer.NoAnswer}
use Rattle.lra_commands.proofs.Headline.{writes_report, writes_summary}
use Rattle.lra_commands.proofs.CommandOutcomes.{asked_ends, answered_status, usage_status}
use Rattle.lra_commands.proofs.{Back.writes_back, Certified.writes_certificate, Reading.read_as, Threads.writes_threads, Verified.writes_verified}
use Rattle.lra_commands.specs.declared.top_call.NoAnswer.TheVariants as none

-- statuses ------------------------------------------------------------------------

-- answers have the numbers up to 3
low : (status : Status) → Ends answered status → exit_of status ≤ 3
low status (inl e) = rw e (omega arith)
low status (inr (inl e)) = rw e (omega arith)
low status (inr (inr (inl e))) = rw e (omega arith)
low status (inr (inr (inr (inl e)))) = rw e (omega arith)
low status (inr (inr (inr (inr none)))) = absurd none

not_answered : (status fault : Status) → Ends answered status → status ≡ fault → 4 ≤ exit_of fault → ⊥
not_answered status fault ends is high = let few = low status ends in let same : exit_of status ≡ exit_of fault = ap exit_of is in omega arith

not_silent : (status : Status) → Ends answered status → Ends silent status → ⊥
not_silent status ends (inl e) = not_answered status ReadFault ends e (omega arith)
not_silent status ends (inr (inl e)) = not_answered status Memory ends e (omega arith)
not_silent status ends (inr (inr none)) = none

write_not_silent : (status : Status) → status ≡ WriteFault → Ends silent status → ⊥
write_not_silent status is (inl e) = cc
write_not_silent status is (inr (inl e)) = cc
write_not_silent status is (inr (inr none)) = none

reported_answered : (status : Status) → Ends reported status → Ends answered status
reported_answered status (inl proved) = inl proved
reported_answered status (inr (inl unknown)) = inr (inl unknown)
reported_answered status (inr (inr none)) = absurd none

write_fails : (limit : Option ℕ) (status : Status) → status ≡ WriteFault → Ends (faults limit) status
write_fails None status is = inl is
write_fails (Some n) status is = inr (inl is)

memory_fails : (limit : Option ℕ) (status : Status) → status ≡ Memory → Ends (faults limit) status
memory_fails None status is = inr (inl is)
memory_fails (Some n) status is = inr (inr (inl is))

read_fails : (limit : Option ℕ) (old new : Option (List ℕ)) (status : Status) → status ≡ ReadFault → (let r : Result Answer NoAnswer = Err none.ReadFault in IsReadBy limit old new r)
    → Ends (faults limit) status
read_fails None old new status is read = absurd (read.1 refl)
read_fails (Some n) old new status is read = inl is

-- by the result of the part before the writing ---------------------------------------

module _ (t : World) (status : Status) where
  abbrev IsOwed : Result Answer NoAnswer → Type 0
  IsOwed r = IfOk r (λ a. IsAnswerToWords t.words t.left a.text.items a.status)

  -- the status of an answer
  own : (a : Answer) → IsAnswerToWords t.words t.left a.text.items a.status → status ≡ a.status → Ends answered status
  own a d is = subst (Ends answered) (sym is) (answered_status t.words t.left a.text.items a.status d)

  written_by : (r : Result Answer NoAnswer) → IsOwed r → IsWritten t r status → Ends answered status → WritesAnswer t status
  written_by (Ok a) d (inl (written, same, is)) ends = record { text = a.text.items; answers = subst (IsAnswerToWords t.words t.left a.text.items) (sym is) d; written = written }
  written_by (Ok a) d (inr (part, longer, rose, is)) ends = absurd (not_answered status WriteFault ends is (omega arith))
  written_by (Err none.ReadFault) d (keeps, same, is) ends = absurd (not_answered status ReadFault ends is (omega arith))
  written_by (Err none.Memory) d (keeps, same, is) ends = absurd (not_answered status Memory ends is (omega arith))

  part_by : (r : Result Answer NoAnswer) → IsOwed r → IsWritten t r status → status ≡ WriteFault → WritesPrefix t
  part_by (Ok a) d (inl (written, same, is)) fault = absurd (not_answered status WriteFault (own a d is) fault (omega arith))
  part_by (Ok a) d (inr (part, longer, rose, is)) fault = record { text = a.text.items; status = a.status; answers = d; written = part; longer = longer }
  part_by (Err none.ReadFault) d (keeps, same, is) fault = absurd (let wrong : ⊥ = cc in wrong)
  part_by (Err none.Memory) d (keeps, same, is) fault = absurd (let wrong : ⊥ = cc in wrong)

  nothing_by : (r : Result Answer NoAnswer) → IsOwed r → IsWritten t r status → Ends silent status → Keeps t.held t.held_now
  nothing_by (Ok a) d (inl (written, same, is)) silence = absurd (not_silent status (own a d is) silence)
  nothing_by (Ok a) d (inr (part, longer, rose, is)) silence = absurd (write_not_silent status is silence)
  nothing_by (Err none.ReadFault) d (keeps, same, is) silence = keeps
  nothing_by (Err none.Memory) d (keeps, same, is) silence = keeps

  ends_by : (r : Result Answer NoAnswer) → IsOwed r → IsWritten t r status → (asked : Option Command) → IsAsked t.words asked → (among : List Status) → AllowedStatuses asked t.left among
      → IsReadBy (asked_limit asked) t.left t.left_now r → Ends among status ⊎ Ends (faults (asked_limit asked)) status
  ends_by (Ok a) d (inl (written, same, is)) asked asks among calls read =
      inl (subst (Ends among) (sym is) (asked_ends t.words t.left a.text.items a.status asked among d asks calls))
  ends_by (Ok a) d (inr (part, longer, rose, is)) asked asks among calls read = inr (write_fails (asked_limit asked) status is)
  ends_by (Err none.ReadFault) d (keeps, same, is) asked asks among calls read = inr (read_fails (asked_limit asked) t.left t.left_now status is read)
  ends_by (Err none.Memory) d (keeps, same, is) asked asks among calls read = inr (memory_fails (asked_limit asked) status is)

  usage_by : (r : Result Answer NoAnswer) → IsOwed r → IsWritten t r status → status ≡ Usage → AsksNone t.words × IsRejected t.words
  usage_by (Ok a) d (inl (written, same, is)) usage = usage_status t.words t.left a.text.items status (subst (IsAnswerToWords t.words t.left a.text.items) (sym is) d) usage
  usage_by (Ok a) d (inr (part, longer, rose, is)) usage = absurd (let wrong : ⊥ = cc in wrong)
  usage_by (Err none.ReadFault) d (keeps, same, is) usage = absurd (let wrong : ⊥ = cc in wrong)
  usage_by (Err none.Memory) d (keeps, same, is) usage = absurd (let wrong : ⊥ = cc in wrong)

  failed_by : (r : Result Answer NoAnswer) → IsOwed r → IsWritten t r status → status ≡ ReadFault → r ≡ Err none.ReadFault
  failed_by (Ok a) d (inl (written, same, is)) fault = absurd (not_answered status ReadFault (own a d is) fault (omega arith))
  failed_by (Ok a) d (inr (part, longer, rose, is)) fault = absurd (let wrong : ⊥ = cc in wrong)
  failed_by (Err none.ReadFault) d (keeps, same, is) fault = refl
  failed_by (Err none.Memory) d (keeps, same, is) fault = absurd (let wrong : ⊥ = cc in wrong)

  done_by : (r : Result Answer NoAnswer) → IsWritten t r status → status ≢ ReadFault × status ≢ Memory → IsOk r
  done_by (Ok a) w done = refl
  done_by (Err none.ReadFault) (keeps, same, is) done = absurd (done.0 is)
  done_by (Err none.Memory) (keeps, same, is) done = absurd (done.1 is)

  read_fault_by : (r : Result Answer NoAnswer) → IsOwed r → IsWritten t r status → PrepareCause t.read_faults t.read_faults_now r → RisesAtFault ReadFault t.read_faults t.read_faults_now status
  read_fault_by (Ok a) d w cause = record { rose = λ fault. absurd (let wrong : ⊥ = (let e = failed_by (Ok a) d w fault in cc) in wrong); same = λ other. cause }
  read_fault_by (Err none.ReadFault) d (keeps, same, is) cause = record { rose = λ fault. cause; same = λ other. absurd (other is) }
  read_fault_by (Err none.Memory) d (keeps, same, is) cause = record { rose = λ fault. absurd (let wrong : ⊥ = cc in wrong); same = λ other. cause }

  write_fault_by : (r : Result Answer NoAnswer) → IsOwed r → IsWritten t r status → RisesAtFault WriteFault t.write_faults t.write_faults_now status
  write_fault_by (Ok a) d (inl (written, same, is)) = record { rose = λ fault. absurd (not_answered status WriteFault (own a d is) fault (omega arith)); same = λ other. same }
  write_fault_by (Ok a) d (inr (part, longer, rose, is)) = record { rose = λ fault. rose; same = λ other. absurd (other is) }
  write_fault_by (Err none.ReadFault) d (keeps, same, is) = record { rose = λ fault. absurd (let wrong : ⊥ = cc in wrong); same = λ other. same }
  write_fault_by (Err none.Memory) d (keeps, same, is) = record { rose = λ fault. absurd (let wrong : ⊥ = cc in wrong); same = λ other. same }

  complete_by : (r : Result Answer NoAnswer) → IsOwed r → IsWritten t r status → PrepareCause t.read_faults t.read_faults_now r → (Rose t.read_faults t.read_faults_now → ⊥)
      → (Rose t.write_faults t.write_faults_now → ⊥) → status ≢ Memory → Ends answered status
  complete_by (Ok a) d (inl (written, same, is)) cause unread unwritten stored = own a d is
  complete_by (Ok a) d (inr (part, longer, rose, is)) cause unread unwritten stored = absurd (unwritten rose)
  complete_by (Err none.ReadFault) d (keeps, same, is) cause unread unwritten stored = absurd (unread cause)
  complete_by (Err none.Memory) d (keeps, same, is) cause unread unwritten stored = absurd (stored is)

  fills : (status ≡ WriteFault → WritesPrefix t)
      → ((text : List ℕ) (s : Status) → IsAnswerToWords t.words t.left text s → AppendsPart t.held t.held_now text → length text ≤ t.spare) → status ≢ WriteFault
  fills part fits = λ fault. let p = part fault in let longer = p.longer in let short = fits p.text p.status p.answers p.written in omega arith

-- the promises -----------------------------------------------------------------------

pub promises : {w : World} {status : Status} → Ending w status → RunPromises w status
promises {w} {status} e =
    let written : Ends answered status → WritesAnswer w status = written_by w status e.result e.answers e.written in
    let answers : Ends reported status → WritesAnswer w status = λ ends. written (reported_answered status ends) in
    let part : status ≡ WriteFault → WritesPrefix w = part_by w status e.result e.answers e.written in
    record {
      written = written;
      part = part;
      nothing = nothing_by w status e.result e.answers e.written;
      report = λ options format asks ends. writes_report w options format status asks ends (answers ends);
      sampled = λ seed size asks ends. writes_summary w seed size status asks ends (answers ends);
      verified = λ asks is. writes_verified w status asks is (written (inl is));
      certified = λ asks ends. writes_certificate w status asks ends (answers ends);
      backs = λ number asks ends. writes_back number w status asks ends (answers ends);
      threads = λ delay narrow asks ends. writes_threads delay narrow w status asks ends (answers ends);
      ends = λ asked asks among calls. ends_by w status e.result e.answers e.written asked asks among calls (e.reads asked asks);
      usage = usage_by w status e.result e.answers e.written;
      reads = λ asked asks.
          read_as (asked_limit asked) w.left w.left_now (failed_by w status e.result e.answers e.written) (done_by w status e.result e.written) (e.reads asked asks);
      read_fault = read_fault_by w status e.result e.answers e.written e.cause;
      write_fault = write_fault_by w status e.result e.answers e.written;
      complete = complete_by w status e.result e.answers e.written e.cause;
      room = λ fits. fills w status part fits;
    }

-- the exits ---------------------------------------------------------------------------

keeps_same : (held : Option (List ℕ)) → Keeps held held
keeps_same None = tt
keeps_same (Some bytes) = refl

module _ {t : World} {r : Result Answer NoAnswer} (deserved : IfOk r (λ a. IsAnswerToWords t.words t.left a.text.items a.status))
    (reads : (asked : Option Command) → IsAsked t.words asked → IsReadBy (asked_limit asked) t.left t.left_now r) (cause : PrepareCause t.read_faults t.read_faults_now r) where
  ended_by : (status : Status) (q : Result Answer NoAnswer) → r ≡ q → IsWritten t q status → Ending t status
  ended_by status q is w = record { result = r; answers = deserved; reads = reads; cause = cause; written = subst (λ x. IsWritten t x status) (sym is) w }

  -- nothing is read
  pub unread : (e : NoAnswer) → r ≡ Err e → e ≡ none.ReadFault → t.held_now ≡ t.held → t.write_faults_now ≡ t.write_faults → Ending t ReadFault
  unread e is kind held wrote =
      ended_by ReadFault (Err none.ReadFault) (subst (λ x. r ≡ Err x) kind is) (subst (Keeps t.held) (sym held) (keeps_same t.held), wrote, refl)

  -- nothing is stored
  pub unstored : (e : NoAnswer) → r ≡ Err e → e ≡ none.Memory → t.held_now ≡ t.held → t.write_faults_now ≡ t.write_faults → Ending t Memory
  unstored e is kind held wrote =
      ended_by Memory (Err none.Memory) (subst (λ x. r ≡ Err x) kind is) (subst (Keeps t.held) (sym held) (keeps_same t.held), wrote, refl)

  -- the text is written whole
  pub whole : (a : Answer) → r ≡ Ok a → Appends t.held t.held_now a.text.items → t.write_faults_now ≡ t.write_faults → Ending t a.status
  whole a is written wrote = ended_by a.status (Ok a) is (inl (written, wrote, refl))

  -- a prefix of it is
  pub cut : (a : Answer) → r ≡ Ok a → AppendsPart t.held t.held_now a.text.items → t.spare < length a.text.items → Rose t.write_faults t.write_faults_now → Ending t WriteFault
  cut a is part longer rose = ended_by WriteFault (Ok a) is (inr (part, longer, rose, refl))
