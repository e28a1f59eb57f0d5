-- A constraint that is tried on the polyhedron of a context and of others.
use Rattle.std.proofs.Common.{◌≡◌, ℕ, List, [], ◌∷◌, ◌++◌, sym, subst, inl, inr, None, Some}
use Rattle.lra_poly_queries.specs.Crates.lra_linear_spec.declared.Excess as E
use Rattle.lra_poly_queries.specs.Crates.lra_linear_spec.Descriptions.{Con, LinearRow, inequality}
use Rattle.lra_poly_queries.specs.Crates.lra_linear_spec.OperationStrain.{FromRowsStrains, ProductsPass}
use Rattle.lra_poly_queries.specs.Crates.lra_linear_spec.Polyhedra.{IsPolyhedronOf, Polyhedron}
use Rattle.lra_poly_queries.specs.Crates.{lra_linear_spec.Points.IsPoint, lra_linear_spec.SetOperations.ValidOn, lra_linear_spec.Strain.Loss, lra_linear_spec.declared.Cause.TheVariants.Excess}
use Rattle.lra_poly_queries.proofs.Crates.lra_linear_spec.SetOperations.{meet_con}
use Rattle.lra_poly.specs.Outcomes.{IfExact, IfFlagged, IsOfRows, first_of}
use Rattle.lra_poly.specs.{declared.outcome.Outcome.Outcome, declared.outcome.Outcome.TheVariants.Exact, declared.outcome.Outcome.TheVariants.Flagged}
use Rattle.lra_poly.proofs.PolyLemmas.{if_exact, if_flagged}
use Rattle.lra_poly_queries.specs.Simplified.{IsRedundant, TellsRedundant, TrialStrains}

-- the context, copied, with the others added
pub around_given : (context copied around : Polyhedron) (others : List LinearRow) (o : Outcome) → copied ≡ context →
    IsOfRows copied.dims (copied.rows ++ others) around o → IsOfRows context.dims (context.rows ++ others) around o
around_given context copied around others o e = subst (λ (q : Polyhedron). IsOfRows q.dims (q.rows ++ others) around o) e

-- it holds on all points, so it is given
pub trial_given : (n : ℕ) (context others : List LinearRow) (g : LinearRow) (around : Polyhedron) (o : Outcome) →
    IsOfRows n (context ++ others) around o → ValidOn around.dims (Con around.rows) g →
    TellsRedundant n context others g None
trial_given n context others g around o b valid x i m =
    valid x (subst (λ (d : ℕ). IsPoint d x) (sym b.dims) i) (b.within x i ((meet_con n context others).0 x i m))

-- it doesn't, and if that is all they give, it isn't given
pub trial_needed : (n : ℕ) (context others : List LinearRow) (g : LinearRow) (around : Polyhedron) (o : Outcome) →
    IsOfRows n (context ++ others) around o → ¬ (ValidOn around.dims (Con around.rows) g) →
    TellsRedundant n context others g (Some o)
trial_needed n context others g around o b other = (
  if_exact (IsPolyhedronOf n (Con (context ++ others)) around) (¬ (IsRedundant n context others g)) o
      (λ is given. other (λ x i c. let j = subst (λ (d : ℕ). IsPoint d x) b.dims i in
      given x j ((meet_con n context others).1 x j (is.points.1 x j c)))) b.exact,
  if_flagged (FromRowsStrains n (context ++ others)) (TrialStrains n (context ++ others) g) o (λ loss s. inl s)
      b.flagged,
)

-- a product passes
pub trial_passes : (n : ℕ) (context others : List LinearRow) (g : LinearRow) (around : Polyhedron) (o all : Outcome)
    (loss : Loss) (e : E.Excess) → IsOfRows n (context ++ others) around o →
    ProductsPass (inequality g.row ∷ []) around.generators e → loss.chosen ≡ [] → loss.further ≡ g →
    loss.cause ≡ Excess e → all ≡ first_of o (Flagged loss) → TellsRedundant n context others g (Some all)
trial_passes n context others g around o all loss e b passes chosen further cause is =
    subst (λ (told : Outcome). TellsRedundant n context others g (Some told)) (sym is) (told o b.exact b.flagged)
  where
    told : (o : Outcome) → IfExact (IsPolyhedronOf n (Con (context ++ others)) around) o →
        IfFlagged (FromRowsStrains n (context ++ others)) o → TellsRedundant n context others g (Some (first_of o (Flagged loss)))
    told Exact exact flagged = (
      tt,
      inr (record {
        around = around;
        is_around = exact;
        excess = e;
        passes = passes;
        is_cause = cause;
        is_further = further;
        nothing = chosen;
      }),
    )
    told (Flagged earlier) exact flagged = (tt, inl flagged)
