-- What the outcome of an operation reports, by its exactness.
use Rattle.std.proofs.Common.{◌≡◌}
use Rattle.lra_domain.specs.declared.Exactness.TheVariants as degree
use Rattle.lra_linear_spec.specs.Strain.{Loss}
use Rattle.lra_poly_domain.specs.Crates.{lra_poly.Outcomes.IfExact, lra_poly.Outcomes.IfFlagged, lra_poly.declared.outcome.Outcome.Outcome}
use Rattle.lra_poly_domain.specs.Crates.lra_poly.declared.outcome.Outcome.TheVariants as told
use Rattle.lra_poly_domain.specs.Growth.{exactness_of}

pub of_exact : (P : Type 0) (o : Outcome) → IfExact P o → exactness_of o ≡ degree.Exact → P
of_exact P told.Exact h e = h
of_exact P (told.Flagged loss) h e = let wrong : ⊥ = cc in absurd wrong

pub of_flagged : (P : Loss → Type 0) (o : Outcome) → IfFlagged P o → exactness_of o ≡ degree.Flagged → (loss : Loss) × P loss
of_flagged P told.Exact h e = let wrong : ⊥ = cc in absurd wrong
of_flagged P (told.Flagged loss) h e = (loss, h)
