-- What is done on a segment leads where its moves lead: a value that goes to a label has that label's value, and one
-- that goes to none has none of them.
use Rattle.std.proofs.Common.{◌≡◌, ℕ, ℤ, List, [], ◌∷◌, length, Bool, true, false, Some, refl, sym, ap, subst, arith}
use Rattle.std.proofs.{lemmas.Bool.or_parts, lemmas.Int.ints}
use Rattle.std.specs.{List.list_any, Ordering.int_eq, Prelude.if◌then◌else◌}
use Rattle.lra_path_disjuncts.specs.Crates.{lra_analysis_spec.Linearization.linearized, lra_base.CaseLabels.is_same_case, lra_base.Operators.equal, lra_base.declared.case_labels.CaseLabel.CaseLabel}
use Rattle.lra_path_disjuncts.specs.Crates.{lra_base.declared.case_labels.CaseLabel.TheVariants.Case, lra_base.declared.case_labels.CaseLabel.TheVariants.Default, lra_domain.Moves.MayLead}
use Rattle.lra_program.specs.{Program.Expr, Step.State, Step.environment_at, Value.value_of, Value.compares}
use Rattle.lra_path_disjuncts.proofs.Crates.{lra_analysis_spec.CondKeeping.value_leads, lra_analysis_spec.Keeping.op_leads, lra_analysis_spec.Sound.unequal}
use Rattle.lra_path_segments.specs.Segments.{SegmentStep, does, goes, RunsStep}
use Rattle.lra_path_disjuncts.specs.StepMoves.{dims_after_step, label_moves, step_moves, unmatched_moves}
use Rattle.lra_path_disjuncts.proofs.OpLengths.{op_length}

itself : (z : ℤ) → compares equal z z ≡ true
itself z = grind (arith, ints)

pub step_length : (step : SegmentStep) (s t : State) → RunsStep step s t → length t.store ≡ dims_after_step step (length s.store)
step_length (does op) s t o = op_length op s t o
step_length (goes base e labels l) s t (z, got, same, is) = ap (λ (u : State). length u.store) same

module _ (base : ℕ) (e : Expr) (s : State) (z : ℤ) (left : List ℤ) (got : value_of e (environment_at base s) s.draws ≡ Some (z, left)) where
  -- if no label names the value
  unmatched_lead : (labels : List CaseLabel) → list_any (is_same_case (Case z)) labels ≡ false
      → MayLead (unmatched_moves (length s.store) (linearized (length s.store) base e) labels) s.store s.store
  unmatched_lead [] none = refl
  unmatched_lead (Case y ∷ labels) none =
      let (here, later) = or_parts (int_eq z y) (list_any (is_same_case (Case z)) labels) none in
      (s.store, value_leads (environment_at base s) e y false s.draws left z got (unequal z y here), unmatched_lead labels later)
  unmatched_lead (Default ∷ labels) none = unmatched_lead labels none

  label_leads : (labels : List CaseLabel) (b : Bool) → list_any (is_same_case (Case z)) labels ≡ b
      → MayLead (label_moves (length s.store) (linearized (length s.store) base e) labels (if b then Case z else Default)) s.store s.store
  label_leads labels true is = value_leads (environment_at base s) e z true s.draws left z got (itself z)
  label_leads labels false is = unmatched_lead labels is

pub step_leads : (step : SegmentStep) (s t : State) → RunsStep step s t → MayLead (step_moves (length s.store) step) s.store t.store
step_leads (does op) s t o = op_leads op s t o
step_leads (goes base e labels l) s t (z, got, same, is) =
    let led = label_leads base e s z t.draws got labels (list_any (is_same_case (Case z)) labels) refl in
    subst (λ store. MayLead (label_moves (length s.store) (linearized (length s.store) base e) labels l) s.store store) (sym (ap (λ (u : State). u.store) same))
    (subst (λ k. MayLead (label_moves (length s.store) (linearized (length s.store) base e) labels k) s.store s.store) (sym is) led)
