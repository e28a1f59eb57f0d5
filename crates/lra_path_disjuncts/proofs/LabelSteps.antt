-- The moves of a value that goes to none of a `switch`'s labels, from the last label back.
use Rattle.std.proofs.Common.{◌≡◌, ◌<◌, ℕ, ℤ, Bool, true, false, List, [], ◌∷◌, ◌++◌, length, sym, ap, ◌∙◌, subst, arith, append-nil, append_assoc}
use Rattle.std.specs.Prelude as outcome
use Rattle.std.specs.Prelude.{IfOk}
use Rattle.lra_path_disjuncts.specs.Crates.lra_analysis_spec.Linearization.{linearized, subtracted}
use Rattle.lra_path_disjuncts.specs.Crates.lra_analysis_spec.MovesOf.{comparison_as, comparison_moves, number_moves}
use Rattle.lra_path_disjuncts.specs.Crates.lra_base.declared.case_labels.CaseLabel.TheVariants.{Case, Default}
use Rattle.lra_path_disjuncts.specs.Crates.{lra_analysis_spec.Linear.constant_form, lra_analysis_spec.declared.linearization.Linearized.Linearized}
use Rattle.lra_path_disjuncts.specs.Crates.{lra_analysis_spec.declared.linearization.Linearized.TheVariants.Linear, lra_base.Operators.Comparison, lra_base.Operators.equal}
use Rattle.lra_path_disjuncts.specs.Crates.{lra_base.declared.case_labels.CaseLabel.CaseLabel, lra_domain.Moves.stay, lra_domain.Moves.first_then, lra_operations.declared.tree.Arm.Arm}
use Rattle.lra_path_disjuncts.specs.Crates.{lra_operations.declared.tree.Arm.TheVariants.Entry, lra_operations.declared.tree.Arm.TheVariants.Tree, lra_operations.declared.tree.Node.Node}
use Rattle.lra_program.specs.ProgramViews.{expr_view}
use Rattle.lra_path_disjuncts.specs.{PassedLabels.ArePassed, PassedLabels.PutsLabel, StepMoves.label_moves, StepMoves.step_moves, StepMoves.unmatched_moves, Tables.Grows, Tables.Has, Tables.moves_at}
use Rattle.lra_path_segments.specs.{Labels.label_at, Labels.labels_in, TreeSegmentViews.selection_view, declared.segments.Selection.Selection}
use Rattle.lra_path_disjuncts.specs.declared.tables.MovesEntry as declared
use Rattle.lra_path_segments.proofs.ArmSteps.{label_of_entry, label_of_tree, labels_last}
use Rattle.lra_path_disjuncts.proofs.{GuardSteps.then_has, TableSteps.within}

-- the comparison with a number
pub number_has : {E : Type 0} (r : outcome.Result ℕ E) (es : List declared.MovesEntry) (live : ℕ) (wanted : Bool) (s d : Linearized) (z : ℤ) (op : Comparison)
    → op ≡ comparison_as wanted equal → d ≡ subtracted s (Linear (constant_form live z)) → IfOk r (λ i. Has es i (comparison_moves live op d))
    → IfOk r (λ i. Has es i (number_moves live wanted s z))
number_has r es live wanted s d z op so is has =
    subst (λ (o : Comparison). IfOk r (λ i. Has es i (comparison_moves live o (subtracted s (Linear (constant_form live z)))))) so
    (subst (λ (x : Linearized). IfOk r (λ i. Has es i (comparison_moves live op x))) is has)

-- what is seen of the value goes to the label
module _ {E : Type 0} (r : outcome.Result ℕ E) (es : List declared.MovesEntry) (live : ℕ) (selection : Selection) (l : CaseLabel) (s : Linearized) where
  goes_to : (m : CaseLabel) → l ≡ m → s ≡ linearized live selection.base (expr_view selection.value.now)
      → IfOk r (λ i. Has es i (label_moves live s (labels_in selection.arms.now) m)) → IfOk r (λ i. Has es i (step_moves live (selection_view selection l)))
  goes_to m is same has =
      subst (λ (n : CaseLabel). IfOk r (λ i. Has es i (label_moves live (linearized live selection.base (expr_view selection.value.now))
      (labels_in selection.arms.now) n))) (sym is)
      (subst (λ (x : Linearized). IfOk r (λ i. Has es i (label_moves live x (labels_in selection.arms.now) m))) same has)

  pub case_selected : (z : ℤ) → l ≡ Case z → s ≡ linearized live selection.base (expr_view selection.value.now)
      → IfOk r (λ i. Has es i (number_moves live true s z)) → IfOk r (λ i. Has es i (step_moves live (selection_view selection l)))
  case_selected z is same has = goes_to (Case z) is same has

  pub default_selected : l ≡ Default → s ≡ linearized live selection.base (expr_view selection.value.now)
      → IfOk r (λ i. Has es i (unmatched_moves live s (labels_in selection.arms.now))) → IfOk r (λ i. Has es i (step_moves live (selection_view selection l)))
  default_selected is same has = goes_to Default is same has

module _ (live : ℕ) (s : Linearized) where
  -- the label's value is passed, and then the later ones are
  pub case_puts : {E : Type 0} (r : outcome.Result ℕ E) (es fs gs : List declared.MovesEntry) (l : CaseLabel) (z : ℤ) (one later : ℕ) → l ≡ Case z → Grows es fs
      → Has fs one (number_moves live false s z) → IfOk r (λ i. Has gs i (first_then (moves_at fs one) (moves_at fs later)))
      → IfOk r (λ i. (labels : List CaseLabel) → Has es later (unmatched_moves live s labels) → Has gs i (unmatched_moves live s (l ∷ labels)))
  case_puts (outcome.Ok i) es fs gs l z one later is grows has led = λ labels there.
      let done = then_has fs gs i one later (number_moves live false s z) (unmatched_moves live s labels) has
      (grows later (unmatched_moves live s labels) there) led in
      subst (λ k. Has gs i (unmatched_moves live s (k ∷ labels))) (sym is) done
  case_puts (outcome.Err e) es fs gs l z one later is grows has led = tt

  pub default_puts : (es : List declared.MovesEntry) (l : CaseLabel) (later : ℕ) → l ≡ Default → (labels : List CaseLabel)
      → Has es later (unmatched_moves live s labels) → Has es later (unmatched_moves live s (l ∷ labels))
  default_puts es l later is labels there = subst (λ k. Has es later (unmatched_moves live s (k ∷ labels))) (sym is) there

  pub entry_puts : {E : Type 0} (r : outcome.Result ℕ E) (es fs : List declared.MovesEntry) (a : Arm) (l : CaseLabel) (later : ℕ) → a ≡ Entry l
      → IfOk r (λ i. (labels : List CaseLabel) → Has es later (unmatched_moves live s labels) → Has fs i (unmatched_moves live s (l ∷ labels)))
      → IfOk r (λ i. PutsLabel es fs live s a later i)
  entry_puts (outcome.Ok i) es fs a l later is puts = λ labels there.
      subst (λ ls. Has fs i (unmatched_moves live s (ls ++ labels))) (sym (label_of_entry a l is)) (puts labels there)
  entry_puts (outcome.Err e) es fs a l later is puts = tt

  pub tree_puts : (es : List declared.MovesEntry) (a : Arm) (g : Node) (later : ℕ) → a ≡ Tree g → PutsLabel es es live s a later later
  tree_puts es a g later is labels there = subst (λ ls. Has es later (unmatched_moves live s (ls ++ labels))) (sym (label_of_tree a g is)) there

  module _ (arms : List Arm) where
    pub none_passed : (es : List declared.MovesEntry) (place : ℕ) → Has es place stay → ArePassed es live s arms arms place
    none_passed es place has = ([], sym (append-nil (labels_in arms)), has)

    pub passed_in : (es : List declared.MovesEntry) (left : List Arm) (place : ℕ) → ArePassed es live s arms left place → place < length es
    passed_in es left place (labels, is, has) = within es place (unmatched_moves live s labels) has

    pub one_passed : (es fs : List declared.MovesEntry) (left before : List Arm) (a : Arm) (later place : ℕ) → left ≡ before ++ a ∷ []
        → ArePassed es live s arms left later → PutsLabel es fs live s a later place → ArePassed fs live s arms before place
    one_passed es fs left before a later place same (labels, is, has) puts = (
      label_at a ++ labels,
      is ∙ ap (λ ls. ls ++ labels) (labels_last left before a same) ∙ append_assoc (labels_in before) (label_at a) labels,
      puts labels has,
    )

    pub all_passed : (es : List declared.MovesEntry) (left : List Arm) (place : ℕ) → length left ≡ 0 → ArePassed es live s arms left place
        → Has es place (unmatched_moves live s (labels_in arms))
    all_passed es [] place none (labels, is, has) = subst (λ ls. Has es place (unmatched_moves live s ls)) (sym is) has
    all_passed es (a ∷ left) place none so_far = absurd (omega (arith, none))
