-- The rows and generators of canonical lists are such as a text distinguishes.
use Rattle.std.proofs.Common.{◌≡◌, ℕ, zero, suc, ◌<◌, ℤ, pos, negsuc, nat_abs, ◌<ℤ◌, false, List, [], ◌∷◌, refl, ap, arith, inl, inr}
use Rattle.std.proofs.lemmas.Int.{ints}
use Rattle.std.specs.List.{AllByRecursion}
use Rattle.lra_report.specs.Crates.lra_linear_spec.LowestTerms.{IsPrimitive}
use Rattle.lra_report.specs.Crates.{lra_linear_spec.Echelon.HasPivot, lra_linear_spec.Range.InRange, lra_linear_spec.Vectors.entry, lra_systems.LinearSystems.FitsKind}
use Rattle.lra_report.specs.Crates.lra_linear_spec.declared.ConKind.TheVariants as con
use Rattle.lra_report.specs.Crates.lra_linear_spec.declared.GenKind.TheVariants as gen
use Rattle.lra_row_text.specs.{Shown.report_row, Shown.report_generator, Texts.is_negated}
use Rattle.lra_report.specs.Spelled.{IsSpelledRow, IsSpelledGenerator}

-- the first coefficient other than 0 is above 0
lead_up : (cs : List ℤ) (q : ℕ) → ((j : ℕ) → j < q → entry cs j ≡ pos 0) → pos 0 <ℤ entry cs q → is_negated cs ≡ false
lead_up [] q before here = absurd (omega (arith, ints, here))
lead_up (pos zero ∷ cs) zero before here = absurd (omega (arith, ints, here))
lead_up (pos zero ∷ cs) (suc q) before here = lead_up cs q (λ j h. before (suc j) (omega arith)) here
lead_up (pos (suc n) ∷ cs) q before here = refl
lead_up (negsuc n ∷ cs) zero before here = absurd (omega (arith, ints, here))
lead_up (negsuc n ∷ cs) (suc q) before here = let wrong : negsuc n ≡ pos 0 = before 0 (omega arith) in cc

all_flat : (cs : List ℤ) → ((j : ℕ) → entry cs j ≡ pos 0) → is_negated cs ≡ false
all_flat [] flat = refl
all_flat (pos zero ∷ cs) flat = all_flat cs (λ j. flat (suc j))
all_flat (pos (suc n) ∷ cs) flat = refl
all_flat (negsuc n ∷ cs) flat = let wrong : negsuc n ≡ pos 0 = flat 0 in cc

leads_up : (c : ℤ) (cs : List ℤ) (p : ℕ) → HasPivot (c ∷ cs) p → is_negated cs ≡ false
leads_up c cs zero h = all_flat cs (λ j. h.before (suc j) (omega arith, inr refl))
leads_up c cs (suc q) h = lead_up cs q (λ j k. h.before (suc j) (omega arith, inl (omega arith))) h.here

-- a row of an echelon form as an equality
pub spelled_equality : (r : List ℤ) (p : ℕ) → HasPivot r p → AllByRecursion InRange r → IsSpelledRow (report_row r con.Eq)
spelled_equality [] p h i = absurd (let above = h.here in omega (arith, ints, above))
spelled_equality (c ∷ cs) p h i = record { directed = leads_up c cs p h; in_range = record { constant_in = i.0; coefficients_in = i.1 } }

-- any row as an inequality
pub spelled_inequality : (r : List ℤ) → AllByRecursion InRange r → IsSpelledRow (report_row r con.Ge)
spelled_inequality [] i = record { directed = tt; in_range = record { constant_in = omega arith; coefficients_in = tt } }
spelled_inequality (c ∷ cs) i = record { directed = tt; in_range = record { constant_in = i.0; coefficients_in = i.1 } }

-- points are in lowest terms
pub spelled_point : (r : List ℤ) → FitsKind gen.Point r → IsPrimitive r → AllByRecursion InRange r → IsSpelledGenerator (report_generator r gen.Point)
spelled_point [] h p i = absurd (omega (arith, ints, h))
spelled_point (pos d ∷ zs) h p i = record { divides = omega (arith, ints, h); reduced = p; divisor_in = i.0; numbers_in = i.1 }
spelled_point (negsuc d ∷ zs) h p i = absurd (omega (arith, ints, h))

pub spelled_ray : (r : List ℤ) → FitsKind gen.Ray r → AllByRecursion InRange r → IsSpelledGenerator (report_generator r gen.Ray)
spelled_ray [] h i = record { divides = refl; reduced = tt; divisor_in = omega arith; numbers_in = tt }
spelled_ray (d ∷ zs) h i = record { divides = ap nat_abs h; reduced = tt; divisor_in = i.0; numbers_in = i.1 }

pub spelled_line : (r : List ℤ) → FitsKind gen.Line r → AllByRecursion InRange r → IsSpelledGenerator (report_generator r gen.Line)
spelled_line [] h i = record { divides = refl; reduced = tt; divisor_in = omega arith; numbers_in = tt }
spelled_line (d ∷ zs) h i = record { divides = ap nat_abs h; reduced = tt; divisor_in = i.0; numbers_in = i.1 }
