-- Constraints without those that a context and the others give.
use Rattle.std.specs.Prelude.{◌≡◌, ◌⊎◌, ℕ, List, [], ◌∷◌, ◌++◌, Option, None, Some}
use Rattle.lra_poly_queries.specs.Crates.lra_linear_spec.declared.Excess as E
use Rattle.lra_poly_queries.specs.Crates.lra_linear_spec.Descriptions.{Con, LinearRow, inequality}
use Rattle.lra_poly_queries.specs.Crates.lra_linear_spec.OperationStrain.{FromRowsStrains, ProductsPass}
use Rattle.lra_poly_queries.specs.Crates.lra_linear_spec.Polyhedra.{IsPolyhedronOf, Polyhedron}
use Rattle.lra_poly_queries.specs.Crates.lra_linear_spec.SetOperations.{Meet, ValidOn}
use Rattle.lra_poly_queries.specs.Crates.{lra_linear_spec.Points.SameSet, lra_linear_spec.Strain.Loss}
use Rattle.lra_poly_queries.specs.Crates.{lra_linear_spec.declared.Cause.TheVariants.Excess}
use Rattle.lra_poly.specs.{Outcomes.IfExact, Outcomes.IfFlagged, declared.outcome.Outcome.Outcome}

-- the constraint holds at each point of the context at which the others hold
abbrev pub IsRedundant : ℕ → List LinearRow → List LinearRow → LinearRow → Type 0
IsRedundant n context others g = ValidOn n (Meet (Con context) (Con others)) g

-- none of them is given by the context and the others
abbrev pub AreNeeded : ℕ → List LinearRow → List LinearRow → Type 0
AreNeeded n context kept = (front : List LinearRow) (g : LinearRow) (back : List LinearRow) → kept ≡ front ++ g ∷ back →
    ¬ (IsRedundant n context (front ++ back) g)

-- ---- strain
-- a product of the constraint with a generator of the exact polyhedron of the rows passes
pub record RelationPasses (n : ℕ) (rows : List LinearRow) (g : LinearRow) (loss : Loss) : Type 0 where
  pub around : Polyhedron
  pub is_around : IsPolyhedronOf n (Con rows) around
  pub excess : E.Excess
  pub passes : ProductsPass (inequality g.row ∷ []) around.generators excess
  pub is_cause : loss.cause ≡ Excess excess
  pub is_further : loss.further ≡ g
  pub nothing : loss.chosen ≡ []

-- the rows exceed a limit as they are added, or as the constraint is tried on what they give
abbrev pub TrialStrains : ℕ → List LinearRow → LinearRow → Loss → Type 0
TrialStrains n rows g loss = FromRowsStrains n rows loss ⊎ RelationPasses n rows g loss

-- what is reported about a constraint: nothing if the context and the others give it; else an outcome, and an exact
-- one only if they don't
abbrev pub TellsRedundant : ℕ → List LinearRow → List LinearRow → LinearRow → Option Outcome → Type 0
TellsRedundant n context others g None = IsRedundant n context others g
TellsRedundant n context others g (Some o) =
    IfExact (¬ (IsRedundant n context others g)) o × IfFlagged (TrialStrains n (context ++ others) g) o

-- ---- the constraints kept
-- some of the list, each once, in their order
abbrev pub IsSublist : List LinearRow → List LinearRow → Type 0
IsSublist kept [] = kept ≡ []
IsSublist kept (g ∷ rows) = IsSublist kept rows ⊎ ((rest : List LinearRow) × (kept ≡ g ∷ rest) × IsSublist rest rows)

-- The own trial of one that is kept between these exceeds a limit. It is tried beside the context, those kept before
-- it, and all of p's that come later.
pub record OwnTrialStrains (p context : Polyhedron) (front : List LinearRow) (tried : LinearRow) (back : List LinearRow)
    (loss : Loss) : Type 0 where
  pub earlier : List LinearRow
  pub later : List LinearRow
  pub are : p.rows ≡ earlier ++ tried ∷ later
  pub before : IsSublist front earlier
  pub behind : IsSublist back later
  pub strains : TrialStrains p.dims (context.rows ++ (front ++ later)) tried loss

-- the own trial of one of those kept exceeds a limit
pub record SimplifyStrains (p context : Polyhedron) (kept : List LinearRow) (loss : Loss) : Type 0 where
  pub front : List LinearRow
  pub tried : LinearRow
  pub back : List LinearRow
  pub are : kept ≡ front ++ tried ∷ back
  pub strains : OwnTrialStrains p context front tried back loss

-- one that is kept between these is needed, or its own trial exceeds a limit
abbrev pub IsNeededOrStrains : Polyhedron → Polyhedron → List LinearRow → LinearRow → List LinearRow → Type 0
IsNeededOrStrains p context front g back =
    (¬ (IsRedundant p.dims context.rows (front ++ back) g))
    ⊎ ((loss : Loss) × OwnTrialStrains p context front g back loss)

-- Within the context the same points, given by some of p's constraints in their order. Each of these is needed, or its
-- own trial exceeds a limit. If the outcome is exact, all are needed; it is flagged only if the trial of one
-- exceeds a limit.
pub record IsSimplified (p context : Polyhedron) (kept : List LinearRow) (o : Outcome) : Type 0 where
  pub same : SameSet p.dims (Meet (Con context.rows) (Con kept)) (Meet (Con context.rows) (Con p.rows))
  pub own : IsSublist kept p.rows
  pub each : (front : List LinearRow) (g : LinearRow) (back : List LinearRow) → kept ≡ front ++ g ∷ back →
      IsNeededOrStrains p context front g back
  pub needed : IfExact (AreNeeded p.dims context.rows kept) o
  pub flagged : IfFlagged (SimplifyStrains p context kept) o
