-- A row that no other row covers.
use Rattle.std.proofs.Common.{◌≡◌, ℕ, Bool, true, false, List, length, Option, None, refl, sym, ◌∙◌, subst}
use Rattle.std.specs.Prelude.{◌&&◌, ◌↔◌, IsTrue}
use Rattle.lra_bits.specs.{Matrix.Matrix, Matrix.NoneWithin, Matrix.TellsWithin, TruthValues.value_at, TruthValues.both}
use Rattle.lra_bits.proofs.Pairs.{both_value}
use Rattle.lra_canonical.specs.Irredundant.{IsCovered}

never : false ≡ true → ⊥
never q = cc

itself : (values : List Bool) (k : ℕ) → value_at (both values values) k ≡ true → value_at values k ≡ true
itself values k t = same (value_at values k) (sym (both_value values values k refl) ∙ t)
  where
    same : (b : Bool) → (b && b) ≡ true → b ≡ true
    same true e = refl
    same false e = e

pub covered_by_none : (m : Matrix) (gone : List Bool) (place : ℕ) (r : Option ℕ) → r ≡ None → TellsWithin m place place r → IsTrue false ↔ IsCovered m.rows gone place
covered_by_none m gone place r e h =
    let none : NoneWithin m place place (length m.rows) = subst (TellsWithin m place place) e h in (
      (λ t. absurd (never t)),
      (λ c. absurd (none c.other c.inside c.by.0 c.by.0 (λ k t. c.by.2 k (itself _ k t)))),
    )
