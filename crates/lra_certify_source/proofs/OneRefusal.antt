-- A source from one of whose points too many paths lead gets that refusal, and no certificate.
use Rattle.std.proofs.{Common.◌≡◌, Common.◌≤◌, Common.◌<◌, Common.◌⊎◌, Common.ℕ, Common.List, Common.ap, Common.arith, Common.inl, Common.inr, lemmas.Bool.cases_order}
use Rattle.lra_certify_source.specs.Crates.lra_resolution_spec.EntryPoint.{at_main}
use Rattle.lra_certify_source.specs.Crates.lra_certificate_spec.Claims.{IsProgram, program_of}
use Rattle.lra_certify_source.specs.Crates.{lra_operations.Tree.Node, lra_paths.Paths.AreFewPaths, lra_paths.Paths.HasTooManyPaths, lra_program.Program.Program, lra_program.Sites.sites_of}
use Rattle.lra_certify_source.proofs.Crates.{lra_certificate_spec.OneProgram.accepted_of, lra_certificate_spec.OneProgram.as_said, lra_front_end.EachAnswer.each_answer, lra_paths.ManyPaths.not_both}
use Rattle.lra_certify_source.specs.declared.refusals.CertifyRefusal.TheVariants.{Source, Paths, Strained}
use Rattle.lra_certify_source.specs.{Certified.IsCertifyRefusalOf, Certified.ManyAreRefused, declared.refusals.CertifyRefusal.CertifyRefusal}

-- the least source from which too many paths lead
pub one_source : (P : Program) (g : Node) (p q : ℕ) → HasTooManyPaths P g p → HasTooManyPaths P g q → p ≡ q
one_source P g p q a b = by (cases_order p q)
  where
    beyond : (n m : ℕ) → n < m → m ≤ n → ⊥
    beyond n m h k = omega (arith, h, k)

    by : (p ≡ q) ⊎ ((p < q) ⊎ (q < p)) → p ≡ q
    by (inl e) = e
    by (inr (inl h)) = absurd (beyond _ _ a.many (b.first p h a.goal))
    by (inr (inr h)) = absurd (beyond _ _ b.many (a.first q h b.goal))

module _ (source : List ℕ) (x : IsProgram source) (p : ℕ) (many : HasTooManyPaths (program_of x) x.operations p) where
  never_few : (y : IsProgram source) → AreFewPaths (program_of y) y.operations → ⊥
  never_few y few =
      not_both (program_of x).globals (sites_of (program_of x)) x.operations p (as_said (λ P g. AreFewPaths P g) source x y few) many

  one_refusal : (refusal : CertifyRefusal) → IsCertifyRefusalOf source refusal → refusal ≡ Paths p
  one_refusal (Source r) why = absurd ((each_answer at_main source).2 x.tree r.cause r.place (accepted_of source x) why)
  one_refusal (Paths q) (y, more) =
      ap Paths (one_source (program_of x) x.operations q p (as_said (λ P g. HasTooManyPaths P g q) source x y more) many)
  one_refusal (Strained at) (r, s) = absurd (never_few s.handed.program s.handed.few)

pub many_refused : ManyAreRefused
many_refused source x p many =
    (λ r bytes c. never_few source x p many c.handed.program c.handed.few, λ refusal why. one_refusal source x p many refusal why)
