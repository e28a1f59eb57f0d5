-- Strain of the operations on polyhedra. An operation takes in a list of constraints, or of generators; it exceeds a
-- limit if that list exceeds a limit, if the canonical list of the other kind of its exact result does, or if
-- a number passes as a row of the list is formed. Inclusion, the greatest value of a form, and the widenings exceed a
-- limit if one of their products passes. Polyhedra stand here by their canonical lists, so the strain of an
-- operation depends on the sets alone. Rows are added as they are formed, not in lowest terms; k is a column, from 1 to
-- n.
use Rattle.std.specs.Prelude.{◌≡◌, ℕ, suc, ◌+◌, ◌-◌, ◌&&◌, ◌⊎◌, ℤ, pos, true, List, [], ◌∷◌, ◌++◌, take, slice_set}
use Rattle.std.specs.{List.Contains, List.filter, Prelude.Result, Prelude.Err, Prelude.map}
use Rattle.lra_linear_spec.specs.declared.Excess as E
use Rattle.lra_linear_spec.specs.CheckedArithmetic.{checked_product, checked_substitution}
use Rattle.lra_linear_spec.specs.Descriptions.{LinearRow, inequality, line, rows_as, Holds, Con, Gen}
use Rattle.lra_linear_spec.specs.Polyhedra.{Polyhedron, positivity, IsPolyhedronOf}
use Rattle.lra_linear_spec.specs.SetOperations.{Meet, Union, Hull, assigned, Image, Preimage, Forget, Embed, RemoveLast}
use Rattle.lra_linear_spec.specs.SetOperations.{TimeElapse}
use Rattle.lra_linear_spec.specs.Vectors.{cleared, substituted, zeros, units}
use Rattle.lra_linear_spec.specs.Widening.{is_tight, is_valid, StandardWidening, LimitedWidening}
use Rattle.lra_linear_spec.specs.{Points.PointSet, Strain.Loss, Strain.Strains, declared.Cause.TheVariants.Excess}

-- ---- lists added
abbrev pub with_positivity : ℕ → List LinearRow → List LinearRow
with_positivity n rows = inequality (positivity n) ∷ rows

-- the canonical constraints, or generators, of the exact result P exceed a limit
pub record ResultStrains (n : ℕ) (P : PointSet) (list : Polyhedron → List LinearRow) (loss : Loss) : Type 0 where
  pub result : Polyhedron
  pub is_result : IsPolyhedronOf n P result
  pub strains : Strains (suc n) (list result) loss

-- an operation that takes in these constraints, or generators, and has the exact result P
abbrev pub ConstraintsStrain : ℕ → PointSet → List LinearRow → Loss → Type 0
ConstraintsStrain n P taken loss = Strains (suc n) (with_positivity n taken) loss ⊎
    ResultStrains n P (λ p. p.generators) loss

abbrev pub GeneratorsStrain : ℕ → PointSet → List LinearRow → Loss → Type 0
GeneratorsStrain n P taken loss = Strains (suc n) taken loss ⊎ ResultStrains n P (λ p. with_positivity n p.rows) loss

-- a number passes as one of the rows is formed; as chosen stand those before it, all as they are before they are formed
pub record FormingPasses {A : Type 0} (formed : LinearRow → Result A E.Excess) (rows : List LinearRow)
    (loss : Loss) : Type 0 where
  pub later : List LinearRow
  pub is : rows ≡ loss.chosen ++ loss.further ∷ later
  pub excess : E.Excess
  pub is_cause : loss.cause ≡ Excess excess
  pub passes : formed loss.further ≡ Err excess

-- a product of one of the rows with one of the generators passes
pub record ProductsPass (rows generators : List LinearRow) (e : E.Excess) : Type 0 where
  pub row : LinearRow
  pub has_row : Contains rows row
  pub generator : LinearRow
  pub has_generator : Contains generators generator
  pub passes : checked_product row.row generator.row ≡ Err e

-- ---- from lists; those of generators are `AreGenerators`
abbrev pub FromRowsStrains : ℕ → List LinearRow → Loss → Type 0
FromRowsStrains n rows = ConstraintsStrain n (Con rows) rows

abbrev pub FromGeneratorsStrains : ℕ → List LinearRow → Loss → Type 0
FromGeneratorsStrains n generators = GeneratorsStrain n (Gen generators) generators

-- ---- meets: the canonical rows of the operands, the test's row
abbrev pub AddTestStrains : Polyhedron → LinearRow → Loss → Type 0
AddTestStrains p test = ConstraintsStrain p.dims (Meet (Con p.rows) (Holds test)) (p.rows ++ test ∷ [])

abbrev pub MeetStrains : Polyhedron → Polyhedron → Loss → Type 0
MeetStrains p q = ConstraintsStrain p.dims (Meet (Con p.rows) (Con q.rows)) (p.rows ++ q.rows)

-- ---- preimage: the substituted rows
abbrev pub substituted_rows : ℕ → List ℤ → List LinearRow → List LinearRow
substituted_rows k form rows = map (λ r. record { row = substituted k form r.row; equal = r.equal }) rows

abbrev pub PreimageStrains : ℕ → List ℤ → Polyhedron → Loss → Type 0
PreimageStrains k form p loss =
    FormingPasses (λ r. checked_substitution k form r.row) p.rows loss
    ⊎ ConstraintsStrain p.dims (Preimage k form (Con p.rows)) (substituted_rows k form p.rows) loss

-- ---- widenings: the canonical rows of Q that are tight on P, then the thresholds that are valid on both
abbrev pub tight_on : Polyhedron → Polyhedron → List LinearRow
tight_on p q = filter (is_tight p) q.rows

abbrev pub valid_on : Polyhedron → Polyhedron → List LinearRow → List LinearRow
valid_on p q given = filter (λ g. is_valid p g && is_valid q g) given

-- the generators of P, of Q or of the exact result
pub record IsResultList (n : ℕ) (P : PointSet) (generators : List LinearRow) : Type 0 where
  pub result : Polyhedron
  pub is_result : IsPolyhedronOf n P result
  pub are : generators ≡ result.generators

-- a product of a row of Q, or of a widening threshold, with a generator of P, of Q or of the exact result R passes; no
-- row stands as chosen (the products of P's own rows with P's generators, by which tightness is reported, are none of
-- these: they must be known to fit)
pub record WideningPasses (p q : Polyhedron) (given : List LinearRow) (R : PointSet) (loss : Loss) : Type 0 where
  pub excess : E.Excess
  pub is_cause : loss.cause ≡ Excess excess
  pub generators : List LinearRow
  pub of : (generators ≡ p.generators) ⊎ (generators ≡ q.generators) ⊎ IsResultList p.dims R generators
  pub passes : ProductsPass (q.rows ++ given) generators excess
  pub is_further : loss.further ≡ passes.row
  pub nothing : loss.chosen ≡ []

abbrev pub StandardStrains : Polyhedron → Polyhedron → Loss → Type 0
StandardStrains p q loss = ConstraintsStrain p.dims (StandardWidening p q) (tight_on p q) loss ⊎
    WideningPasses p q [] (StandardWidening p q) loss

abbrev pub LimitedStrains : Polyhedron → Polyhedron → List LinearRow → Loss → Type 0
LimitedStrains p q given loss =
    ConstraintsStrain p.dims (LimitedWidening p q given) (tight_on p q ++ valid_on p q given) loss ⊎
    WideningPasses p q given (LimitedWidening p q given) loss

-- ---- hull and time-elapse: the canonical generators of both, for time-elapse the second's points as rays; if one
-- has no point, still those of the other
abbrev pub HullStrains : Polyhedron → Polyhedron → Loss → Type 0
HullStrains p q = GeneratorsStrain p.dims (Hull p.dims (Union (Con p.rows) (Con q.rows))) (p.generators ++ q.generators)

abbrev pub as_directions : List LinearRow → List LinearRow
as_directions generators = map (λ g. record { row = cleared 0 g.row; equal = g.equal }) generators

abbrev pub TimeElapseStrains : Polyhedron → Polyhedron → Loss → Type 0
TimeElapseStrains p q = GeneratorsStrain p.dims (TimeElapse p.dims (Con p.rows) (Con q.rows))
    (p.generators ++ as_directions q.generators)

-- ---- images: the mapped generators
abbrev pub mapped : ℕ → List ℤ → List LinearRow → List LinearRow
mapped k form generators = map (λ g. record { row = assigned k form g.row; equal = g.equal }) generators

abbrev pub ImageStrains : ℕ → List ℤ → Polyhedron → Loss → Type 0
ImageStrains k form p loss =
    FormingPasses (λ g. checked_product form g.row) p.generators loss
    ⊎ GeneratorsStrain p.dims (Image p.dims k form (Con p.rows)) (mapped k form p.generators) loss

-- ---- the generators with a line for each coordinate that may be anything
abbrev pub unit_row : ℕ → ℕ → List ℤ
unit_row n k = slice_set (zeros (suc n)) k (pos 1)

abbrev pub ForgetStrains : ℕ → Polyhedron → Loss → Type 0
ForgetStrains k p = GeneratorsStrain p.dims (Forget p.dims k (Con p.rows))
    (p.generators ++ line (unit_row p.dims k) ∷ [])

-- the generators with k more columns, then a line for each of these
abbrev pub embedded : ℕ → Polyhedron → List LinearRow
embedded k p =
    map (λ g. record { row = g.row ++ zeros k; equal = g.equal }) p.generators ++
    rows_as true (map (λ u. zeros (suc p.dims) ++ u) (units k))

abbrev pub EmbedStrains : ℕ → Polyhedron → Loss → Type 0
EmbedStrains k p = GeneratorsStrain (p.dims + k) (Embed p.dims (Con p.rows)) (embedded k p)

-- ---- fewer dimensions: the generators without their last k columns
abbrev pub shortened : ℕ → List LinearRow → List LinearRow
shortened n generators = map (λ g. record { row = take (suc n) g.row; equal = g.equal }) generators

abbrev pub RemoveLastStrains : ℕ → Polyhedron → Loss → Type 0
RemoveLastStrains k p = GeneratorsStrain (p.dims - k) (RemoveLast (p.dims - k) k (Con p.rows))
    (shortened (p.dims - k) p.generators)

-- ---- inclusion of P in Q: a product of a row of Q with a generator of P; the greatest value of a form: its product
-- with a generator
abbrev pub InclusionStrains : Polyhedron → Polyhedron → E.Excess → Type 0
InclusionStrains p q e = ProductsPass q.rows p.generators e

abbrev pub MaximiseStrains : Polyhedron → List ℤ → E.Excess → Type 0
MaximiseStrains p form e = ProductsPass (inequality form ∷ []) p.generators e
