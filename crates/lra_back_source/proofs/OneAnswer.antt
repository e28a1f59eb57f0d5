-- A source that can be gone back over isn't refused.
use Rattle.std.proofs.Common.{ℕ, List}
use Rattle.lra_back_source.specs.Crates.lra_resolution_spec.EntryPoint.{at_main}
use Rattle.lra_back_source.specs.Crates.{lra_base.declared.refusals.Refusal.Refusal, lra_paths.Paths.AreFewPaths, lra_program.Assertions.IsAssertion, lra_program.Sites.sites_of}
use Rattle.lra_back_source.specs.Crates.{lra_resolution_spec.Refuse.Refuse, lra_syntax.Grammar.Spells}
use Rattle.lra_back_source.proofs.Crates.{lra_front_end.EachAnswer.each_answer, lra_paths.ManyPaths.not_both}
use Rattle.lra_certificate_spec.specs.Claims.{IsProgram, program_of}
use Rattle.lra_certificate_spec.proofs.OneProgram.{accepted_of, as_said}
use Rattle.lra_back_source.specs.declared.refusals.BackRefusal.TheVariants.{Source, NoAssertion, Paths}
use Rattle.lra_back_source.specs.{BackReports.BackOrRefused, BackReports.CanGoBack, BackReports.IsBackRefusalOf, declared.refusals.BackRefusal.BackRefusal}

module _ (source : List ℕ) (p : ℕ) where
  -- an accepted source isn't refused as one
  pub accepted : {A : Type 0} (x : IsProgram source) (r : Refusal) → Refuse at_main Spells source r.cause r.place → A
  accepted x r why = absurd ((each_answer at_main source).2 x.tree r.cause r.place (accepted_of source x) why)

  -- the point is an assertion of the one program or of neither
  pub same_assertion : (x y : IsProgram source) → IsAssertion (sites_of (program_of y)) p → IsAssertion (sites_of (program_of x)) p
  same_assertion x y asserts = as_said (λ P g. IsAssertion (sites_of P) p) source x y asserts

  never_both : (refusal : BackRefusal) → CanGoBack source p → IsBackRefusalOf source p refusal → ⊥
  never_both (Source r) can why = accepted can.program r why
  never_both NoAssertion can (x, none) = none (same_assertion x can.program can.asserts)
  never_both (Paths q) can (x, asserts, many) =
      not_both (program_of x).globals (sites_of (program_of x)) x.operations q
      (as_said (λ P g. AreFewPaths P g) source x can.program can.few) many

pub back_or_refused : BackOrRefused
back_or_refused = never_both
