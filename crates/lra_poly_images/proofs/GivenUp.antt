-- A coordinate that is given up if the outcome is flagged.
use Rattle.std.proofs.Common.{◌≡◌, ◌∙◌, ◌<◌, ℕ, ℤ, List, inl, inr, refl, subst, sym}
use Rattle.lra_poly_images.specs.Crates.lra_linear_spec.OperationStrain.{ForgetStrains, ImageStrains}
use Rattle.lra_poly_images.specs.Crates.{lra_linear_spec.Descriptions.Con, lra_linear_spec.Descriptions.Gen, lra_linear_spec.Points.IsPoint, lra_linear_spec.Points.IsWithin}
use Rattle.lra_poly_images.specs.Crates.{lra_linear_spec.Polyhedra.Polyhedron, lra_linear_spec.SetOperations.Forget, lra_linear_spec.SetOperations.Image, lra_linear_spec.Strain.Loss}
use Rattle.lra_poly_images.specs.Crates.{lra_linear_spec.declared.GenKind.GenKind, lra_systems.LinearSystems.LinearSystem, lra_systems.LinearSystems.generators}
use Rattle.lra_poly.specs.Outcomes.{Becomes, IfFlagged, IsOfGenerators}
use Rattle.lra_poly.specs.{declared.outcome.Outcome.Outcome, declared.outcome.Outcome.TheVariants.Exact, declared.outcome.Outcome.TheVariants.Flagged}
use Rattle.lra_poly_images.specs.Forgetting.{IsForgetResult}
use Rattle.lra_poly_images.proofs.AssignedSets.{image_forgets}

-- a coordinate that is forgotten, with the outcome of that
pub is_forgotten : (k : ℕ) (p q : Polyhedron) (o : Outcome) →
    Becomes p.dims (Forget p.dims k (Con p.rows)) (ForgetStrains k p) q o → IsForgetResult k p q
is_forgotten k p q Exact b = record { dims = b.dims; canonical = b.canonical; within = b.within; exact = inl b.exact }
is_forgotten k p q (Flagged loss) b =
    record { dims = b.dims; canonical = b.canonical; within = b.within; exact = inr (loss, b.flagged) }

-- in place of generators that exceed a limit, and give no more
pub forgotten_instead : (k : ℕ) (p made new : Polyhedron) (list : LinearSystem GenKind) (o : Outcome) → (o ≡ Exact → ⊥) →
    list.dims ≡ p.dims → IsWithin p.dims (Gen (generators list)) (Forget p.dims k (Con p.rows)) → IsForgetResult k p new →
    IsOfGenerators list.dims (generators list) made o → IsOfGenerators list.dims (generators list) new o
forgotten_instead k p made new list Exact strains dims within f b = absurd (strains refl)
forgotten_instead k p made new list (Flagged loss) strains dims within f b = record {
  dims = f.dims ∙ sym dims;
  canonical = f.canonical;
  within = λ x i g.
      let is_point = subst (λ (d : ℕ). IsPoint d x) dims i in
      f.within x is_point (within x is_point g);
  exact = tt;
  flagged = b.flagged;
}

-- in place of an image as whose generators are formed a number passes
pub forgotten_for_image : (k : ℕ) (form : List ℤ) (p new : Polyhedron) (loss : Loss) → 0 < k → ImageStrains k form p loss →
    IsForgetResult k p new → Becomes p.dims (Image p.dims k form (Con p.rows)) (ImageStrains k form p) new (Flagged loss)
forgotten_for_image k form p new loss above strains f = record {
  dims = f.dims;
  canonical = f.canonical;
  within = λ x i s. f.within x i (image_forgets p.dims k form (Con p.rows) above x i s);
  exact = tt;
  flagged = strains;
}

-- nothing is claimed as flagged if the outcome is exact
pub not_flagged : (P : Loss → Type 0) (o : Outcome) → o ≡ Exact → IfFlagged P o
not_flagged P Exact e = tt
not_flagged P (Flagged loss) e = absurd (cc)

pub flagged_anyway : (P : Type 0) (o : Outcome) → P → IfFlagged (λ loss. P) o
flagged_anyway P Exact h = tt
flagged_anyway P (Flagged loss) h = h
