-- Lists of generators whose columns 0 are as their kinds ask.
use Rattle.std.proofs.Common.{◌≡◌, ℕ, zero, suc, List, [], ◌∷◌, Some, inl, inr, refl, subst, ℤ}
use Rattle.std.specs.Prelude.{slice_get}
use Rattle.lra_linear_spec.specs.{Descriptions.LinearRow, Descriptions.IsGenerator, Descriptions.AreGenerators, Kinds.is_line, declared.GenKind.GenKind}
use Rattle.lra_linear_spec.proofs.Membership.{contains_none, contains_cases}
use Rattle.lra_linear_spec.specs.declared.GenKind.TheVariants as gen
use Rattle.lra_systems.specs.LinearSystems.{LinearSystem, rows_by_kind, generators, FitsKind, FitKinds}

is_generator : (kind : GenKind) (r : List ℤ) → FitsKind kind r → IsGenerator (record { row = r; equal = is_line kind })
is_generator gen.Point r h = inl (refl, h)
is_generator gen.Ray r h = inr h
is_generator gen.Line r h = inr h

all_generators : (rows : List (List ℤ)) (kinds : List GenKind) → FitKinds rows kinds → AreGenerators (rows_by_kind is_line rows kinds)
all_generators [] kinds h g k = absurd (contains_none g k)
all_generators (r ∷ rows) [] h g k = absurd (contains_none g k)
all_generators (r ∷ rows) (kind ∷ kinds) h g k = elim (contains_cases (let x : LinearRow = record { row = r; equal = is_line kind } in x) g (rows_by_kind is_line rows kinds) k) [
  | inl e ↦ subst IsGenerator e (is_generator kind r h.0)
  | inr d ↦ all_generators rows kinds h.1 g d
]

pub fitting_are_generators : (s : LinearSystem GenKind) → FitKinds s.rows s.kinds → AreGenerators (generators s)
fitting_are_generators s = all_generators s.rows s.kinds

-- the one at a place fits its own
pub fits_at : (rows : List (List ℤ)) (kinds : List GenKind) (i : ℕ) (r : List ℤ) (k : GenKind) → FitKinds rows kinds → slice_get rows i ≡ Some r → slice_get kinds i ≡ Some k →
    FitsKind k r
fits_at [] kinds i r k f row kind = let wrong : ⊥ = cc in absurd wrong
fits_at (x ∷ rows) [] i r k f row kind = let wrong : ⊥ = cc in absurd wrong
fits_at (x ∷ rows) (y ∷ kinds) zero r k f row kind = subst (λ (z : GenKind). FitsKind z r) (it_is kind) (subst (FitsKind y) (it_is row) f.0)
  where
    it_is : {A : Type 0} {a b : A} → Some a ≡ Some b → a ≡ b
    it_is e = cc
fits_at (x ∷ rows) (y ∷ kinds) (suc i) r k f row kind = fits_at rows kinds i r k f.1 row kind
