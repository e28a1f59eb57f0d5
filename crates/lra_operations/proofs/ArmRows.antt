-- The arms that run after a label are those trees, one after the other.
use Rattle.std.proofs.Common.{◌≡◌, ℕ, Bool, true, false, ◌++◌, Option, inl, inr, refl, ap}
use Rattle.std.specs.Prelude.{cond}
use Rattle.lra_operations.specs.Crates.{lra_base.CaseLabels.is_same_case, lra_base.declared.case_labels.CaseLabel.CaseLabel, lra_base.declared.number_types.NumberType.NumberType}
use Rattle.lra_program.specs.{Step.State, Traces.Trace}
use Rattle.lra_operations.specs.CheckedOperations.{computing_ops, computing_ops_in_arms, fresh_after}
use Rattle.lra_operations.specs.{Traces.RunExtent, Traces.to_end, Traces.stopped, Traces.RunsUpTo, Traces.ArmsRunUpTo, Tree.Node, Tree.empty, Tree.seq, Tree.Arms, Tree.no_arms, Tree.entry, Tree.arm}

abbrev pub arms_row : Arms → Node
arms_row no_arms = empty
arms_row (entry l arms) = arms_row arms
arms_row (arm a arms) = seq a (arms_row arms)

-- after the label, where it stands
abbrev pub row_behind : CaseLabel → Arms → Node
row_behind l no_arms = empty
row_behind l (entry k arms) = cond (is_same_case l k) (arms_row arms) (row_behind l arms)
row_behind l (arm a arms) = row_behind l arms

module _ {A : Type 0} (name : ℕ → A) (may : State → State → Type 0) where
  abbrev Row : Node → Trace A → RunExtent → Trace A → Type 0
  Row = RunsUpTo name may

  pub row_of : (l : CaseLabel) (arms : Arms) (a : Trace A) (u : RunExtent) (b : Trace A) → ArmsRunUpTo name may l true arms a u b → Row (arms_row arms) a u b
  row_of l no_arms a to_end b x = x
  row_of l no_arms a (stopped z) b x = x
  row_of l (entry k arms) a u b x = row_of l arms a u b x
  row_of l (arm g arms) a to_end b (m, x, y) = (m, x, row_of l arms m to_end b y)
  row_of l (arm g arms) a (stopped z) b (inl x) = inl x
  row_of l (arm g arms) a (stopped z) b (inr (m, x, y)) = inr (m, x, row_of l arms m (stopped z) b y)

  pub of_row : (l : CaseLabel) (arms : Arms) (a : Trace A) (u : RunExtent) (b : Trace A) → Row (arms_row arms) a u b → ArmsRunUpTo name may l true arms a u b
  of_row l no_arms a to_end b x = x
  of_row l no_arms a (stopped z) b x = x
  of_row l (entry k arms) a u b x = of_row l arms a u b x
  of_row l (arm g arms) a to_end b (m, x, y) = (m, x, of_row l arms m to_end b y)
  of_row l (arm g arms) a (stopped z) b (inl x) = inl x
  of_row l (arm g arms) a (stopped z) b (inr (m, x, y)) = inr (m, x, of_row l arms m (stopped z) b y)

  -- at an entry, by whether it is the label's
  entered_row : (l : CaseLabel) (arms : Arms) (t : Bool) → ((a : Trace A) (u : RunExtent) (b : Trace A) → ArmsRunUpTo name may l false arms a u b
      → Row (row_behind l arms) a u b)
      → (a : Trace A) (u : RunExtent) (b : Trace A) → ArmsRunUpTo name may l t arms a u b → Row (cond t (arms_row arms) (row_behind l arms)) a u b
  entered_row l arms true each a u b x = row_of l arms a u b x
  entered_row l arms false each a u b x = each a u b x

  entered_of_row : (l : CaseLabel) (arms : Arms) (t : Bool) → ((a : Trace A) (u : RunExtent) (b : Trace A) → Row (row_behind l arms) a u b
      → ArmsRunUpTo name may l false arms a u b)
      → (a : Trace A) (u : RunExtent) (b : Trace A) → Row (cond t (arms_row arms) (row_behind l arms)) a u b → ArmsRunUpTo name may l t arms a u b
  entered_of_row l arms true each a u b x = of_row l arms a u b x
  entered_of_row l arms false each a u b x = each a u b x

  pub row_of_behind : (l : CaseLabel) (arms : Arms) (a : Trace A) (u : RunExtent) (b : Trace A) → ArmsRunUpTo name may l false arms a u b
      → Row (row_behind l arms) a u b
  row_of_behind l no_arms a to_end b x = x
  row_of_behind l no_arms a (stopped z) b x = x
  row_of_behind l (entry k arms) a u b x = entered_row l arms (is_same_case l k) (row_of_behind l arms) a u b x
  row_of_behind l (arm g arms) a u b x = row_of_behind l arms a u b x

  pub behind_of_row : (l : CaseLabel) (arms : Arms) (a : Trace A) (u : RunExtent) (b : Trace A) → Row (row_behind l arms) a u b
      → ArmsRunUpTo name may l false arms a u b
  behind_of_row l no_arms a to_end b x = x
  behind_of_row l no_arms a (stopped z) b x = x
  behind_of_row l (entry k arms) a u b x = entered_of_row l arms (is_same_case l k) (behind_of_row l arms) a u b x
  behind_of_row l (arm g arms) a u b x = behind_of_row l arms a u b x

-- and asks what they do
pub asked_in_row : (fresh : Option NumberType) (arms : Arms) → computing_ops fresh (arms_row arms) ≡ computing_ops_in_arms fresh arms
asked_in_row fresh no_arms = refl
asked_in_row fresh (entry l arms) = asked_in_row fresh arms
asked_in_row fresh (arm a arms) = ap (λ xs. computing_ops fresh a ++ xs) (asked_in_row (fresh_after fresh a) arms)
