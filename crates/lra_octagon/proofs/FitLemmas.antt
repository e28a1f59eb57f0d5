-- What changes keep of the diagonal, and equal bounds.
use Rattle.std.proofs.Common.{◌≡◌, ℕ, inl, inr, ℤ, pos, Option, None, Some, refl, ap, ◌∙◌, cond}
use Rattle.std.proofs.lemmas.Bool.Decides.{eqb_tells}
use Rattle.std.specs.Prelude.{◌==◌}
use Rattle.lra_dbm.specs.Cells.{Cells, entries, outside, forgotten, IsMatrix}
use Rattle.lra_dbm.proofs.PointwiseLemmas.{within_refl, within_both}
use Rattle.lra_octagon.specs.Content.{IsOctagon, CellsFit, MatrixWithin}

same_self : (i : ℕ) (a b : Option ℤ) → cond (i == i) a b ≡ a
same_self i a b = elim (eqb_tells i i) as (λ _. cond (i == i) a b ≡ a) [ inl e ↦ rw e.0 refl | inr e ↦ absurd (e.1 refl) ]

pub whole_fits : (n : ℕ) (cells : Cells) → IsMatrix n cells → ((i j : ℕ) → entries n cells i j ≡ outside i j) → CellsFit n (Some cells)
whole_fits n cells is e = record { is = is; diagonal = λ i. e i i ∙ same_self i (Some (pos 0)) None }

pub forgotten_fits : (n x : ℕ) (old new : Cells) → IsOctagon n old → IsMatrix n new → ((i j : ℕ) → entries n new i j ≡ forgotten x (entries n old) i j) → IsOctagon n new
forgotten_fits n x old new fit is e = record { is = is; diagonal = λ i. e i i ∙ same_self i (entries n old i i) _ ∙ fit.diagonal i }

pub embedded_fits : (n m : ℕ) (old new : Cells) → IsOctagon n old → IsMatrix m new → ((i j : ℕ) → entries m new i j ≡ entries n old i j) → IsOctagon m new
embedded_fits n m old new fit is e = record { is = is; diagonal = λ i. e i i ∙ fit.diagonal i }

pub bounds_both : (a b : Option Cells) → MatrixWithin a b → MatrixWithin b a → a ≡ b
bounds_both None None p q = refl
bounds_both None (Some ds) p q = absurd q
bounds_both (Some cs) None p q = absurd p
bounds_both (Some cs) (Some ds) p q = ap Some (within_both cs ds p q)

pub bounds_self : (b : Option Cells) → MatrixWithin b b
bounds_self None = tt
bounds_self (Some cs) = within_refl cs

pub equal_bounds : (a b : Option Cells) → a ≡ b → MatrixWithin a b × MatrixWithin b a
equal_bounds a b e = rw e (bounds_self b, bounds_self b)
