-- Moves with drops keep each store to which they may lead.
use Rattle.std.proofs.Common.{ℕ, ℤ, List, sym, subst, inl, inr}
use Rattle.lra_domain.specs.{Abstraction.Abstraction, Laws.Laws, Moves.Moves, Moves.stay, Moves.make, Moves.first_then, Moves.join_of, Moves.MayLead, declared.Exactness.Exactness}
use Rattle.lra_analysis_spec.specs.Crates.lra_program.Step.{environment_at}
use Rattle.lra_analysis_spec.specs.{Moves.AreMade, MovesOf.moves_of, MovesOf.value_moves, Operations.lossy_operations}
use Rattle.lra_analysis_spec.proofs.{CondKeeping.value_leads, Covers.ChangesKeep, Covers.ValuesKeep, Covers.Has, Covers.covered_has, Keeping.op_leads}

module _ (V H : Type 0) (m : Abstraction V H) (laws : Laws m) where
  pub moves_keep : (p : Moves) (v : V) (e : Exactness) (w : V) → AreMade (lossy_operations m) p v e w → (s t : List ℤ) → Has m v s → MayLead p s t → Has m w t
  moves_keep stay v e w (same, exact) s t h led = subst (λ (x : V). Has m x t) (sym same) (subst (λ (xs : List ℤ). Has m v xs) (sym led) h)
  moves_keep (make step) v e w made s t h led = (made.0.formed, laws.kept_stores step v w h.0 made.0.formed made.0.keeps s t h.1 led)
  moves_keep (first_then a b) v e w (x, c, d, one, two, worst) s t h (u, led, later) = moves_keep b x d w two u t (moves_keep a v c x one s u h led) later
  moves_keep (join_of a b) v e w (x, y, c, d, i, one, two, joined, worst) s t h led = elim led [
    | inl l ↦ covered_has m laws x w joined.0.formed joined.0.left t (moves_keep a v c x one s t h l)
    | inr l ↦ covered_has m laws y w joined.0.formed joined.0.right t (moves_keep b v d y two s t h l)
  ]

  pub changes_keep : ChangesKeep m
  changes_keep op v e w made s t h ran =
      moves_keep (moves_of (m.dims v) op) v e w made s.store t.store h (subst (λ (n : ℕ). MayLead (moves_of n op) s.store t.store) (laws.sized v s.store h.0 h.1) (op_leads op s t ran))

  pub values_keep : ValuesKeep m
  values_keep base e z wanted v x w made s y left h got is =
      moves_keep (value_moves (m.dims v) base wanted e z) v x w made s.store s.store h
      (subst (λ (n : ℕ). MayLead (value_moves n base wanted e z) s.store s.store) (laws.sized v s.store h.0 h.1)
      (value_leads (environment_at base s) e z wanted s.draws left y got is))
