-- What threads may do to each other by their intervals is what each is reported of the others, and brings no variable.
use Rattle.std.proofs.Common.{◌≡◌, ◌∙◌, ◌<◌, ℕ, ℤ, List, length, refl}
use Rattle.lra_threads_analysis.specs.Crates.lra_domain.Interference as others
use Rattle.lra_threads_analysis.specs.Crates.lra_interleavings.ThreadModular.{RepeatedWrites, none, more, OthersWrite, AreAllowed}
use Rattle.lra_threads_analysis.specs.Crates.lra_program.Program.{Function, Program}
use Rattle.lra_threads_analysis.specs.Crates.{lra_interference_sound.CoversUnder.MayBecome, lra_operations.TracesAgree.KeepsWidth, lra_program.Step.State}
use Rattle.lra_threads_fixpoint.specs.{Interference.MayWrite, Interference.interference_on, Interference.threads_interference, Interference.as_long, Intervals.IntervalRow, Intervals.IntervalTable}
use Rattle.lra_threads_analysis.specs.Written.{HasNumber, HasWritten}
use Rattle.lra_threads_analysis.proofs.JoinedIntervals.{told_has}

-- what may become of the k-th thread's state
abbrev pub BecomesAmong : ℕ → IntervalTable → ℕ → State → State → Type 0
BecomesAmong globals table k = MayBecome (threads_interference globals k table).rely

many_given : (n : ℕ) (Gets : ℕ → ℤ → Type 0) (told : IntervalRow) (s t : List ℤ)
    → ((x : ℕ) (z : ℤ) → x < n → Gets x z → HasNumber told x z) → RepeatedWrites n Gets s t → others.RelyClosure (MayWrite told) s t
many_given n Gets told s _ each (none _) = others.none s
many_given n Gets told s _ each (more _ t x z before low gets) =
    let (i, at, inner) = each x z low gets in
    others.more s t _ (many_given n Gets told s t each before)
    (record { global = x; number = z; interval = i; is_told = at; is_in = inner; after = refl })

pub all_allowed : (P : Program) (fs : List Function) (table : IntervalTable)
    → AreAllowed P fs (HasWritten table) (BecomesAmong (length P.globals) table)
all_allowed P fs table k s t change = record {
  store = many_given (length P.globals) (OthersWrite P fs (HasWritten table) k) (interference_on (length P.globals) k table) s.store t.store each change.store;
  waiting = change.waiting;
  draws = change.draws;
}
  where
    each : (x : ℕ) (z : ℤ) → x < length P.globals → OthersWrite P fs (HasWritten table) k x z → HasNumber (interference_on (length P.globals) k table) x z
    each x z low gives = let (row, at, has) = gives.within in told_has (length P.globals) k gives.giver table row x z low at gives.is_other has

many_long : (told : IntervalRow) (s t : List ℤ) → others.RelyClosure (MayWrite told) s t → length t ≡ length s
many_long told s _ (others.none _) = refl
many_long told s u (others.more _ t _ many gift) = as_long told t u gift ∙ many_long told s t many

pub keeps_width : (globals : ℕ) (table : IntervalTable) (k : ℕ) → KeepsWidth (BecomesAmong globals table k)
keeps_width globals table k s t becomes = many_long (interference_on globals k table) s.store t.store becomes.store
