-- What a part reports by its rows, and what by its generators: two sets of points with rational coordinates (Minkowski
-- 1896, Weyl 1935).
-- A report has the generators only over polyhedra, and there both describe the same points.
use Rattle.std.specs.Prelude.{◌≡◌, ◌↔◌, ℕ, ◌<◌, ℤ, pos, ◌+ℤ◌, ◌*ℤ◌, ◌≤ℤ◌, List, [], ◌∷◌, length, map, get_or, ⊤, Bool}
use Rattle.std.specs.{List.AllByRecursion, Prelude.true, Prelude.false}
use Rattle.lra_options.specs.{Domains.shows_generators, declared.options.Domain.Domain}
use Rattle.lra_row_text.specs.{Part.ReportGenerator, Part.Part, Rows.ReportRow}
use Rattle.lra_report.specs.Crates.lra_linear_spec.declared.GenKind.TheVariants.{Point, Ray, Line}
use Rattle.lra_report.specs.Crates.{lra_linear_spec.Descriptions.HoldsWith, lra_linear_spec.Kinds.is_equality}
use Rattle.lra_report.specs.Crates.{lra_linear_spec.Vectors.product, lra_linear_spec.declared.GenKind.GenKind}

-- a point whose coordinates are the numerators over the divisor; a store is such a point with the divisor 1
pub record RationalPoint : Type 0 where
  pub divisor : ℕ
  pub numerators : List ℤ

-- so many coordinates
pub record IsReportPoint (n : ℕ) (x : RationalPoint) : Type 0 where
  pub width : length x.numerators ≡ n
  pub divides : 0 < x.divisor

abbrev pub RowHoldsAt : ReportRow → RationalPoint → Type 0
RowHoldsAt r x = HoldsWith (is_equality r.kind) ((r.constant *ℤ pos x.divisor) +ℤ product r.coefficients x.numerators)

-- all rows hold
abbrev pub LiesInPart : List ReportRow → RationalPoint → Type 0
LiesInPart rows x = AllByRecursion (λ r. RowHoldsAt r x) rows

-- a line is taken with a factor of either sign
abbrev pub IsFactor : GenKind → ℤ → Type 0
IsFactor Point z = pos 0 ≤ℤ z
IsFactor Ray z = pos 0 ≤ℤ z
IsFactor Line z = ⊤

-- one factor for each generator
abbrev pub AreFactors : List ReportGenerator → List ℤ → Type 0
AreFactors [] [] = ⊤
AreFactors [] (z ∷ zs) = ⊥
AreFactors (g ∷ gs) [] = ⊥
AreFactors (g ∷ gs) (z ∷ zs) = IsFactor g.kind z × AreFactors gs zs

-- some positive multiple of the point's divisor and numerators is a sum of the generators with whole factors
pub record IsGenerated (gs : List ReportGenerator) (x : RationalPoint) : Type 0 where
  pub multiple : ℕ
  pub positive : 0 < multiple
  pub factors : List ℤ
  pub are_factors : AreFactors gs factors
  pub divisor : pos multiple *ℤ pos x.divisor ≡ product factors (map (λ (g : ReportGenerator). pos g.divisor) gs)
  pub numerators : (j : ℕ) → pos multiple *ℤ get_or x.numerators j (pos 0) ≡
      product factors (map (λ (g : ReportGenerator). get_or g.numbers j (pos 0)) gs)

-- rows and generators describe the same points of n coordinates
abbrev pub HasSamePoints : ℕ → Part → Type 0
HasSamePoints n part = (x : RationalPoint) → IsReportPoint n x →
    (LiesInPart part.rows x ↔ IsGenerated part.generators x)

abbrev pub PartHasPoint : ℕ → Part → Type 0
PartHasPoint n part = (x : RationalPoint) × IsReportPoint n x × LiesInPart part.rows x

-- points divide; rays and lines don't
abbrev pub DividesAs : GenKind → ℕ → Type 0
DividesAs Point d = 0 < d
DividesAs Ray d = d ≡ 0
DividesAs Line d = d ≡ 0

-- A part over n variables as the domain has it. Without generators over boxes and octagons the text, which writes those
-- that are there, agrees with the JSON, which goes by the domain.
abbrev pub TellsBoth : Bool → ℕ → Part → Type 0
TellsBoth true n part = AllByRecursion (λ (g : ReportGenerator). DividesAs g.kind g.divisor) part.generators ×
    HasSamePoints n part × PartHasPoint n part
TellsBoth false n part = part.generators ≡ []

abbrev pub ShowsPart : Domain → ℕ → Part → Type 0
ShowsPart domain n part = TellsBoth (shows_generators domain) n part
