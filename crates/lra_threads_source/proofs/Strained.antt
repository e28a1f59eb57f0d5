-- Without a flag what is reported about threads is what is defined; a flag's number is that of a thread's point that
-- exceeds a limit.
use Rattle.std.proofs.{Common.◌≡◌, Common.◌∙◌, Common.ℕ, Common.List, Common.refl, Common.sym, lemmas.Option.none-some, lemmas.Option.same_Some}
use Rattle.std.specs.Prelude.{Option, None, Some, option_map}
use Rattle.lra_threads_source.specs.Crates.lra_resolution_spec.Threads.{thread_program}
use Rattle.lra_threads_source.specs.ThreadsReports.{AreDefinedThreads, FlaggedThreadsStrain, IsThreadsReportOf, StrainsAtNumber, UnflaggedThreadsAreDefined, shared_program, threads_plan}
use Rattle.lra_threads_source.specs.{Listed.number_in, Listed.thread_place, Listed.thread_sites, ThreadsText.ThreadsReport}
use Rattle.lra_threads_source.proofs.Crates.lra_linear_spec.ListPlaces.{there_within}
use Rattle.lra_threads_source.proofs.{FlaggedPoints.flag_there, Sound.tree_at}

-- a number that is reported is that of a flag
told_flag : {A : Type 0} (f : A → ℕ) (o : Option A) (n : ℕ) → option_map f o ≡ Some n → (a : A) × (o ≡ Some a) × (f a ≡ n)
told_flag f None n is = absurd (none-some n is)
told_flag f (Some a) n is = (a, refl, same_Some (f a) n is)

no_flag : {A : Type 0} (f : A → ℕ) (o : Option A) → option_map f o ≡ None → o ≡ None
no_flag f None is = refl
no_flag f (Some a) is = absurd (none-some (f a) (sym is))

module _ (delay narrow : ℕ) (source : List ℕ) (r : ThreadsReport) (x : IsThreadsReportOf delay narrow source r) where
  defined : r.flagged ≡ None → AreDefinedThreads (threads_plan delay narrow x.constants) x.program.tree x.program.operations r
  defined none = record {
    end = x.end;
    rounds = x.flags.written (no_flag (λ (f : ℕ × ℕ). number_in x.program.tree f.0 f.1) x.end.flag (sym x.shows.flag ∙ none));
    shows = x.shows;
  }

  strained : (number : ℕ) → r.flagged ≡ Some number
      → StrainsAtNumber (threads_plan delay narrow x.constants) x.program.tree x.program.operations number
  strained number flagged =
      let (f, is, told) = told_flag (λ (f : ℕ × ℕ). number_in x.program.tree f.0 f.1) x.end.flag number (sym x.shows.flag ∙ flagged) in
      let (g, there, low) =
      flag_there (threads_plan delay narrow x.constants) (shared_program x.program.tree) x.program.operations
      (λ k. thread_program x.program.tree (thread_place x.program.tree k)) (λ k g at. (tree_at delay narrow source r x k g at).1) x.end x.rounds f.0 f.1 is in
      let (s, site) = there_within (thread_sites x.program.tree f.0) f.1 low in
      record {
        thread = f.0;
        point = f.1;
        site = s;
        is_point = record { is_thread = (tree_at delay narrow source r x f.0 g there).0; is_point = site };
        is_number = sym told;
        strains = x.flags.strained f.0 f.1 is;
      }

pub unflagged_defined : UnflaggedThreadsAreDefined
unflagged_defined = defined

pub flagged_strain : FlaggedThreadsStrain
flagged_strain = strained
