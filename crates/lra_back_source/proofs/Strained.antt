-- If nothing is flagged what is shown is what is defined; a flag stands where that exceeds a limit.
use Rattle.std.proofs.Common.{◌≡◌, ◌∙◌, ℕ, suc, List, refl, ap, sym, subst, inl, inr}
use Rattle.std.proofs.lemmas.Option.{none-some, same_Some}
use Rattle.std.specs.Prelude.{Option, None, Some, option_map}
use Rattle.lra_back_source.specs.Crates.lra_back.Operations.{exact_back_operations, lossy_back_operations, straining_back_operations}
use Rattle.lra_back_source.specs.Crates.{lra_analysis_spec.Accesses.OpInside, lra_analysis_spec.Analysis.IsSolution, lra_analysis_spec.Judging.first_flagged}
use Rattle.lra_back_source.specs.Crates.{lra_back.BackwardAnalysis.BackwardAnalysis, lra_operations.CheckedOperations.accessing_ops, lra_poly_domain.Abstraction.polyhedron_abstraction}
use Rattle.lra_back_source.specs.Crates.{lra_poly_domain.Backward.polyhedron_backward, lra_program.Sites.sites_of}
use Rattle.lra_report.specs.BackText.{BackReport}
use Rattle.lra_back_source.specs.Crates.lra_analysis_spec.Operations as iteration
use Rattle.lra_back_source.proofs.Crates.lra_analysis_spec.FlagLaws.{flag_stays}
use Rattle.lra_certificate_spec.specs.Claims.{program_of}
use Rattle.lra_analyse_source.proofs.Found.{none_before}
use Rattle.lra_back_source.specs.BackReports.{FlaggedBacksStrain, IsBackReportOf, IsDefinedBack, IsWrittenForward, StrainsAt, UnflaggedBacksAreDefined}
use Rattle.lra_back_source.proofs.Flags.{first_stays, none_first}

-- a flag that has no number isn't there
pub unflagged : (o : Option ℕ) → option_map suc o ≡ None → o ≡ None
unflagged None e = refl
unflagged (Some q) e = absurd (none-some (suc q) (sym e))

one_number : (o : Option ℕ) (q : ℕ) → option_map suc o ≡ Some (suc q) → o ≡ Some q
one_number None q e = absurd (none-some (suc q) e)
one_number (Some k) q e = ap Some (let same : suc k ≡ suc q = same_Some (suc k) (suc q) e in cc)

module _ (source : List ℕ) (p : ℕ) (r : BackReport) (x : IsBackReportOf source p r) where
  -- without a flag of the iteration its values are those of the written one
  written : x.found.ahead.iteration_flag ≡ None → IsWrittenForward x.constants (program_of x.program) x.program.operations x.found.forward
  written none = record {
    result = x.found.ahead.solved.result;
    written = x.found.ahead.solved.written none;
    verdicts = x.found.ahead.verdicts;
    solves = subst (λ (f : Option ℕ). IsSolution polyhedron_abstraction x.found.ahead.solved.result x.found.forward x.found.ahead.verdicts f) none
        x.found.ahead.solved.solves;
  }

  none_behind : x.found.flagged ≡ None → x.found.ahead.iteration_flag ≡ None
  none_behind none = none_before (iteration.lossy_operations polyhedron_abstraction)
      (OpInside polyhedron_abstraction (iteration.lossy_operations polyhedron_abstraction))
      (accessing_ops None x.program.operations) x.found.forward x.found.ahead.iteration_flag x.found.ahead.inside x.found.flagged x.found.ahead.accessed none

  none_forward : x.last ≡ None → x.found.flagged ≡ None
  none_forward = none_first (lossy_back_operations polyhedron_abstraction polyhedron_backward) (program_of x.program).globals (sites_of (program_of x.program))
      x.program.operations x.found.forward x.found.flagged p x.values x.last x.found.traced.drops

  pub is_defined : r.flagged ≡ None → IsDefinedBack x.constants (program_of x.program) x.program.operations p r
  is_defined free =
      let none : x.last ≡ None = unflagged x.last (sym x.flag ∙ free) in
      let first = none_forward none in
      record {
        forward = x.found.forward;
        written = written (none_behind first);
        values = x.values;
        back = subst (λ (f : Option ℕ). BackwardAnalysis (exact_back_operations polyhedron_abstraction polyhedron_backward) (program_of x.program).globals
            (sites_of (program_of x.program)) x.program.operations x.found.forward f p x.values None) first
            (subst (λ (f : Option ℕ). BackwardAnalysis (exact_back_operations polyhedron_abstraction polyhedron_backward) (program_of x.program).globals
            (sites_of (program_of x.program)) x.program.operations x.found.forward x.found.flagged p x.values f) none (x.found.traced.written none));
        states = x.shows.states;
      }

  -- a flag of the forward analysis is the last one
  last_is : (k : ℕ) → x.found.flagged ≡ Some k → x.last ≡ Some k
  last_is = first_stays (lossy_back_operations polyhedron_abstraction polyhedron_backward) (program_of x.program).globals (sites_of (program_of x.program))
      x.program.operations x.found.forward x.found.flagged p x.values x.last x.found.traced.drops

  behind_is : (k : ℕ) → x.found.ahead.iteration_flag ≡ Some k → x.found.flagged ≡ Some k
  behind_is k is = x.found.ahead.accessed.flags ∙ ap (λ (f : Option ℕ). first_flagged f x.found.ahead.accessed.found) is
      ∙ flag_stays k x.found.ahead.accessed.found

  pub strains : (q : ℕ) → r.flagged ≡ Some (suc q) → StrainsAt x.constants (program_of x.program) x.program.operations p q
  strains q is = by_iteration x.found.ahead.iteration_flag refl
    where
      at : x.last ≡ Some q
      at = one_number x.last q (sym x.flag ∙ is)

      by_access : x.found.ahead.iteration_flag ≡ None → (f : Option ℕ) → x.found.flagged ≡ f
          → StrainsAt x.constants (program_of x.program) x.program.operations p q
      by_access none (Some k) flagged =
          let same : k ≡ q = same_Some k q (sym (last_is k flagged) ∙ at) in
          inr (inl (record {
            forward = x.found.forward;
            written = written none;
            inside = x.found.ahead.inside;
            judged = x.found.ahead.accessed_strained q none (flagged ∙ ap Some same);
          }))
      by_access none None no_flag = inr (inr (record {
        forward = x.found.forward;
        written = written none;
        values = x.values;
        back = subst (λ (f : Option ℕ). BackwardAnalysis (straining_back_operations polyhedron_abstraction polyhedron_backward) (program_of x.program).globals
            (sites_of (program_of x.program)) x.program.operations x.found.forward f p x.values (Some q)) no_flag
            (subst (λ (f : Option ℕ). BackwardAnalysis (straining_back_operations polyhedron_abstraction polyhedron_backward) (program_of x.program).globals
            (sites_of (program_of x.program)) x.program.operations x.found.forward x.found.flagged p x.values f) at x.found.traced.strained);
      }))

      by_iteration : (f : Option ℕ) → x.found.ahead.iteration_flag ≡ f → StrainsAt x.constants (program_of x.program) x.program.operations p q
      by_iteration (Some k) flagged =
          let same : k ≡ q = same_Some k q (sym (last_is k (behind_is k flagged)) ∙ at) in
          inl (x.found.ahead.solved.strained q (flagged ∙ ap Some same))
      by_iteration None none = by_access none x.found.flagged refl

pub unflagged_defined : UnflaggedBacksAreDefined
unflagged_defined = is_defined

pub flagged_strain : FlaggedBacksStrain
flagged_strain = strains
